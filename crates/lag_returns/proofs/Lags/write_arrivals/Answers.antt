use Rattle.std.proofs.Common.{◌≡◌, ◌∙◌, ap, arith, length, sym}
use Rattle.std.specs.Prelude.{slice_index}
use Rattle.std.proofs.lemmas.List.{length-map}
use Rattle.water_model.proofs.Lists.{no_numbers}
use Rattle.lag_returns.proofs.ValidRows.{valid_rows, arrivals_are_returns}
use Rattle.lag_returns.proofs.Lags.write_arrivals.Goals as goal

pub arrive-requires-clause-room : goal.arrive-requires-clause-room
arrive-requires-clause-room c = λ node l.
    let none : slice_index c.fill.new.self node ≡ 0 =
    ap (λ xs. slice_index xs node) (c.fill.ensures.after (λ y h. h))
    ∙ no_numbers (length c.args.returned.now) node in
    let rows : length c.args.self.now ≡ length c.args.basin.now.returns =
    sym (length-map c.args.self.now (λ w. w.row)) ∙ ap length c.requires.rows in
    omega (arith, none, rows, (valid_rows c.args.basin.now c.requires.basin).bounded)

pub returns-clause-each : goal.returns-clause-each
returns-clause-each c = λ deliveries stands. record {
  count = c.arrive.ensures.length ∙ (c.fill.ensures.len ∙ c.requires.returned);
  each = λ n l.
      let none : slice_index c.fill.new.self n ≡ 0 =
      ap (λ xs. slice_index xs n) (c.fill.ensures.after (λ y h. h)) ∙ no_numbers (length c.args.returned.now) n in
      omega (
        arith,
        none,
        arrivals_are_returns c.args.basin.now deliveries n,
        c.arrive.ensures.adds c.args.basin.now.returns deliveries stands n
            (omega (arith, c.fill.ensures.len, c.requires.returned)),
      );
}

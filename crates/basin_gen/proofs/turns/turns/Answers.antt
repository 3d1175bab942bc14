use Rattle.std.proofs.Common.{◌≡◌, sym, ap, ◌∙◌, arith, ◌*◌, ◌/◌, ◌%◌, ◌++◌, ◌∷◌, []}
use Rattle.std.specs.Prelude.{◌==◌, if◌then◌else◌}
use Rattle.basin_gen.specs.Draws.{later}
use Rattle.basin_gen.specs.Entries.{return_at}
use Rattle.basin_gen.specs.Generator.{diversions_of, instreams_of, returns_of}
use Rattle.basin_gen.proofs.DrawLaws.{later_none}
use Rattle.basin_gen.proofs.TurnLaws.{no_turns, turn_more, turn_draws}
use Rattle.basin_gen.proofs.turns.turns.Goals as goal

pub loop-k-init : goal.loop-k-init
loop-k-init c =
    let none = no_turns c.args.size c.args.draws.now.state in (
      record {
        diversions = c.new.ensures.items ∙ none.diversions;
        instreams = c.new-2.ensures.items ∙ none.instreams;
        returns = c.new-3.ensures.items ∙ none.returns;
      },
      sym (later_none c.args.draws.now.state),
    )

pub loop-k-preserved : goal.loop-k-preserved
loop-k-preserved c =
    let k = c.loop-k.k in
    let right = c.in_ok-add_right.ensures in
    let row = c.in_ok-add_return.ensures in (
      turn_more _ _ k _ _ _ _ _ _ _ c.loop-k.invariant.0 c.loop-k.invariant.1 right.diversions right.instreams
          (row.value
          ∙ ap (λ l.
          l ++ (if k % 4 == 0 then return_at c.args.size (3 * (k / 4)) c.add_right.new.draws.state ∷ [] else []))
          right.returns
          ∙ ap (λ x.
          c.loop-k.made.returns.items ++ (if k % 4 == 0 then return_at c.args.size (3 * (k / 4)) x ∷ [] else []))
          right.after),
      row.after
          ∙ ap (λ x. later x (if k % 4 == 0 then 3 else 0)) (right.after ∙ ap (λ x. later x 3) c.loop-k.invariant.1)
          ∙ turn_draws c.args.draws.now.state k,
    )

pub returns : goal.returns
unfolding diversions_of instreams_of returns_of
returns c =
    let done : c.loop-k.k ≡ c.args.size / 20 = omega arith in
    let made = rw done at c.loop-k.invariant in
    record { diversions = made.0.diversions; instreams = made.0.instreams; returns = made.0.returns; after = made.1 }

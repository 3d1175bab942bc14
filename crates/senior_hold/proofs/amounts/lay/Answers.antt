use Rattle.std.proofs.Common.{ℕ, List, sym, ap, ◌∙◌, arith, slice_index}
use Rattle.senior_hold.proofs.amounts.lay.Goals as goal

pub returns : goal.returns
returns c = c.lay_spills.ensures c.args.plan.now (sym c.as_slice-3.ensures)
    (c.lay_takes.ensures c.args.plan.now (sym c.as_slice-2.ensures) (record {
      on_links = λ e l. c.lay_flows.ensures e l ∙ ap (λ (xs : List ℕ). slice_index xs e) c.as_slice.ensures;
      on_takes = λ r l t. absurd (omega arith);
      on_outs = λ n l o. absurd (omega arith);
    }))

use Rattle.std.proofs.Common.{ℕ, ◌<◌, ◌∙◌, sym, refl, arith, length, slice_index}
use Rattle.water_model.specs.Plans.{carry_of}
use Rattle.water_model.specs.declared.types.Plan.{Plan}
use Rattle.senior_hold.specs.Arcs.{AreAmounts}
use Rattle.senior_hold.specs.MonthNetwork.{list_of}
use Rattle.senior_hold.specs.Spilled.{spilled}
use Rattle.senior_hold.proofs.Plans.{list_get}
use Rattle.senior_hold.proofs.amounts.write_bounds.Goals as goal

pub returns : goal.returns
returns c =
    let b = c.args.basin.now in
    let carry = λ (e : ℕ). carry_of b c.args.month e in
    let at = λ (e : ℕ) (l : e < length b.links). list_get (length b.links) carry e l in
    let most : Plan = record { flow = list_of (length b.links) carry; take = c.args.want.now; out = c.args.out.now } in
    let all : AreAmounts (spilled b) most (slice_index c.lay_spills.new.into) =
    c.lay_spills.ensures most refl (c.lay_takes.ensures most refl (record {
      on_links = λ e l. c.lay_carries.ensures e l ∙ sym (at e l);
      on_takes = λ r l t. absurd (omega arith);
      on_outs = λ n l o. absurd (omega arith);
    })) in
    record { on_links = λ e l. all.on_links e l ∙ at e l; on_takes = all.on_takes; on_outs = all.on_outs }

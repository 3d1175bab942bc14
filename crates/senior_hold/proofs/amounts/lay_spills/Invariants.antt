use Rattle.std.proofs.Common.{◌≡◌, length, slice_index}
use Rattle.water_model.specs.declared.types.Plan.{Plan}
use Rattle.senior_hold.specs.Arcs.{AreAmountsOf}
use Rattle.senior_hold.specs.Spilled.{spilled}
use Rattle.senior_hold.proofs.amounts.lay_spills.Given as goal

abbrev pub invariant-loop-node : goal.invariant-loop-node
invariant-loop-node l = (p : Plan) → p.out ≡ l.out →
    AreAmountsOf l.basin p (slice_index l.fn.into) (length l.basin.links) (length l.basin.rights) 0 →
    AreAmountsOf (spilled l.basin) p (slice_index l.into) (length l.basin.links) (length l.basin.rights) l.node

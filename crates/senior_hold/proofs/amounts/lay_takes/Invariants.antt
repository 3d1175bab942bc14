use Rattle.std.proofs.Common.{◌≡◌, length, slice_index}
use Rattle.water_model.specs.declared.types.Plan.{Plan}
use Rattle.senior_hold.proofs.amounts.lay_takes.Given as goal
use Rattle.senior_hold.specs.Arcs.{AreAmountsOf}

abbrev pub invariant-loop-right : goal.invariant-loop-right
invariant-loop-right l = (p : Plan) → p.take ≡ l.take →
    AreAmountsOf l.basin p (slice_index l.fn.into) (length l.basin.links) 0 0 →
    AreAmountsOf l.basin p (slice_index l.into) (length l.basin.links) l.right 0

use Rattle.std.proofs.Common.{refl}
use Rattle.plan_residual.proofs.scene.Scene.next.Goals as goal

pub returns : goal.returns
returns c =
    let below = rw (← c.self.view_is) at c.requires in
    rw (← c.self.view_is) (rw c.next_of.ensures (c.self.invariant.rows.nexts c.args.step _ below refl))

use Rattle.std.proofs.Common.{refl}
use Rattle.river_net.proofs.graph.Graph.next.Goals as goal

pub returns : goal.returns
returns c =
    let below = rw (← c.self.view_is) at c.requires in
    rw (← c.self.view_is) (rw c.next_of.ensures (c.self.invariant.chains.nexts c.args.link _ below refl))

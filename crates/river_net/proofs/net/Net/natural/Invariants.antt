use Rattle.std.proofs.Common.{List, slice_index}
use Rattle.water_model.specs.Network.{IsSoundNetwork}
use Rattle.water_model.specs.declared.types.Link.{Link}
use Rattle.water_model.specs.declared.types.Node.{Node}
use Rattle.river_net.specs.Net.{IsNet}
use Rattle.river_net.specs.Running.{IsRunning}
use Rattle.river_net.proofs.net.Net.natural.Given as goal

abbrev pub invariant-loop-node : goal.invariant-loop-node
invariant-loop-node l = (nodes : List Node) (links : List Link) → (net : IsNet nodes links l.fn.self) →
    IsSoundNetwork nodes links →
    IsRunning nodes links (λ v. slice_index l.supply v) net.run.position l.node-index (λ e. slice_index l.flow e)
    (λ v. slice_index l.out v)

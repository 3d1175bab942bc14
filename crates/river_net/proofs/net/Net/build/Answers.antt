use Rattle.std.proofs.Common.{◌≡◌, ℕ, ◌∙◌, ap, sym, length, List, slice_index}
use Rattle.std.specs.Prelude.{Option}
use Rattle.std.specs.List.{find, range_with_len}
use Rattle.water_model.specs.declared.types.Link.{Link}
use Rattle.water_model.specs.declared.types.Node.{Node}
use Rattle.river_net.specs.Firsts.{AreFirstRivers}
use Rattle.river_net.specs.NetFaults.{net_fault, first_without_river, keeps_water}
use Rattle.river_net.proofs.Builds.{without_river, on_cycle, order_runs, net_is}
use Rattle.river_net.proofs.NoFault.{faultless_sound}
use Rattle.river_net.proofs.Sorted.{off_cycle}
use Rattle.river_net.proofs.net.Net.build.Goals as goal

pub returns-in-Some-clause-refused : goal.returns-in-Some-clause-refused
unfolding net_fault
returns-in-Some-clause-refused c = rw (sym c.in-Some.ensures.first)

pub returns-in-Some-link_from_outlet-clause-refused : goal.returns-in-Some-link_from_outlet-clause-refused
unfolding net_fault
returns-in-Some-link_from_outlet-clause-refused c =
    rw (sym c.in_default.ensures.first, sym c.in-Some-link_from_outlet.ensures.first)

-- no node is without a river where none was found
rivers_lead : (nodes : List Node) (links : List Link) {rivers items : List (Option ℕ)} {o : Option ℕ} →
    AreFirstRivers (length nodes) links rivers → items ≡ rivers → o ≡ find (keeps_water nodes items) (range_with_len 0 (length nodes)) →
    first_without_river nodes links ≡ o
rivers_lead nodes links {rivers} firsts same search = without_river nodes links rivers firsts ∙ sym (rw same at search)

pub returns-in-Some-node_without_river-clause-refused : goal.returns-in-Some-node_without_river-clause-refused
unfolding net_fault
returns-in-Some-node_without_river-clause-refused c =
    rw (
      sym c.in_default.ensures.first,
      sym c.in_default-link_from_outlet.ensures.first,
      rivers_lead c.args.nodes.now c.args.links.now c.in_ok-rivers.ensures c.deref.ensures.value
          c.in-Some-node_without_river.ensures.first,
    )

pub node_on_cycle-requires-clause-waiting : goal.node_on_cycle-requires-clause-waiting
node_on_cycle-requires-clause-waiting c = λ v l free.
    off_cycle c.in_ok-order.ensures v l (ap (λ (xs : List ℕ). slice_index xs v) (sym c.deref-2.ensures.value) ∙ free)

pub returns-in-Some-2-clause-refused : goal.returns-in-Some-2-clause-refused
unfolding net_fault
returns-in-Some-2-clause-refused c =
    let nodes = c.args.nodes.now in let links = c.args.links.now in
    rw (
      sym c.in_default.ensures.first,
      sym c.in_default-link_from_outlet.ensures.first,
      rivers_lead nodes links c.in_ok-rivers.ensures c.deref.ensures.value
          c.in_default-node_without_river.ensures.first,
      on_cycle nodes links c.in_ok-graph.ensures c.in_ok-node.ensures c.in-Some-2.is,
    )

pub returns-clause-faultless : goal.returns-clause-faultless
unfolding net_fault
returns-clause-faultless c =
    let nodes = c.args.nodes.now in let links = c.args.links.now in
    rw (
      sym c.in_default.ensures.first,
      sym c.in_default-link_from_outlet.ensures.first,
      rivers_lead nodes links c.in_ok-rivers.ensures c.deref.ensures.value
          c.in_default-node_without_river.ensures.first,
      on_cycle nodes links c.in_ok-graph.ensures c.in_ok-node.ensures c.in_default-2.is,
    )

pub returns-clause-sound : goal.returns-clause-sound
returns-clause-sound c = faultless_sound c.args.nodes.now c.args.links.now (returns-clause-faultless c)

pub returns-clause-ok : goal.returns-clause-ok
returns-clause-ok c =
    let sound = returns-clause-sound c in
    net_is c.requires.ends sound
    (order_runs c.requires.ends sound c.in_ok-graph.ensures c.in_ok-order.ensures) c.in_ok-rivers.ensures
    c.in_ok-heads.ensures

use Rattle.std.proofs.Common.{arith, refl, rules, sym}
use Rattle.river_net.specs.Firsts.{left_by}
use Rattle.river_net.proofs.Entries.{ends_in}
use Rattle.river_net.proofs.graph.Graph.build.Goals as goal

pub invariant_of-result : goal.invariant_of-result
invariant_of-result c =
    let chains = c.in_ok-leaving.ensures (left_by c.args.links.now) (λ link node l is. search rules) in
    let bounded = c.requires.bounded_nodes in
    record {
      chains = rw (sym chains.one_first) at chains;
      within = rw chains.one_first record { ends = ends_in c.args.nodes.now c.args.links.now c.requires.ends };
      bounded_nodes = omega arith;
      bounded_links = c.requires.bounded_links;
    }

pub returns : goal.returns
returns c =
    let chains = c.in_ok-leaving.ensures (left_by c.args.links.now) (λ link node l is. search rules) in
    rw chains.one_first refl

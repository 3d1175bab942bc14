use Rattle.std.proofs.Common.{ℕ, List, ◌≡◌, ◌<◌, arith, length, get_or}
use Rattle.water_model.specs.declared.types.Link.{Link}
use Rattle.river_net.specs.Firsts.{IsWithin}
use Rattle.water_model.proofs.Lists.{entry_is}
use Rattle.river_net.proofs.Entering.{entering_start, entering_next, entering_small}
use Rattle.river_net.proofs.graph.count_entering.Goals as goal

pub loop-link-init : goal.loop-link-init
loop-link-init c =
    entering_start (c.in_ok-counts.ensures.items_if_clones_equal (λ y h. h))

-- the head of the link at hand is a node
to_node : {nodes : ℕ} {links : List Link} (k : ℕ) {x : Link} → IsWithin nodes links → k < length links →
    x ≡ get_or links k x → x.to < nodes
to_node {nodes} {links} k {x} within l read = let head = entry_is links k x (λ l. l.to) 0 l read in let ends =
    (within.ends k l).1 in omega arith

pub index_mut-requires : goal.index_mut-requires
index_mut-requires c =
    let to = to_node c.loop-link.link-index c.requires.within c.loop-link-test.true c.link-item.is in
    omega (arith, c.loop-link.invariant.count)

pub overflow_add-index_mut : goal.overflow_add-index_mut
overflow_add-index_mut c =
    let to = to_node c.loop-link.link-index c.requires.within c.loop-link-test.true c.link-item.is in
    let small = entering_small c.link-item.result.to to c.index_mut.ensures.value c.loop-link.invariant in
    omega (arith, c.requires.bounded_links)

pub loop-link-preserved : goal.loop-link-preserved
loop-link-preserved c =
    let to = to_node c.loop-link.link-index c.requires.within c.loop-link-test.true c.link-item.is in
    entering_next c.loop-link-test.true to c.link-item.is c.index_mut.ensures.value c.loop-link.invariant

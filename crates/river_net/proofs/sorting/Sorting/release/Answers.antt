use Rattle.std.proofs.Common.{◌∙◌}
use Rattle.std.proofs.lemmas.List.{get_or_default}
use Rattle.river_net.proofs.Releases.{release_start, release_next, next_waits}
use Rattle.river_net.proofs.sorting.Sorting.release.Goals as goal

pub loop-next-init : goal.loop-next-init
loop-next-init c =
    let node = c.index.ensures ∙ get_or_default c.args.self.now.order.items c.args.done c.index.result.now 0
    c.requires.within in
    release_start c.first-next.ensures.within c.requires.within (rw node at c.first-next.ensures.value)
    c.requires.sorting

pub settle-requires-clause-waits : goal.settle-requires-clause-waits
settle-requires-clause-waits c =
    rw c.head.ensures.value (next_waits c.first-next.ensures.within (rw c.in-Some.is at c.loop-next.invariant))

pub loop-next-preserved : goal.loop-next-preserved
loop-next-preserved c =
    release_next c.first-next.ensures.within (rw c.in-Some.is at c.loop-next.invariant) c.next-next.ensures
    (rw c.head.ensures.value at c.in_ok-settle.ensures.waits) (rw c.head.ensures.value at c.in_ok-settle.ensures.order)

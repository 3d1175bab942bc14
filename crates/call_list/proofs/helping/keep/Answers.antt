use Rattle.std.proofs.Common.{arith, refl}
use Rattle.water_model.proofs.SetEntries.{emptied}
use Rattle.call_list.proofs.Keeping.{begun, cleared_size, prefix_whole}
use Rattle.call_list.proofs.helping.keep.Goals as goal

pub begin-requires-clause-right : goal.begin-requires-clause-right
begin-requires-clause-right c = rw c.clear.ensures (omega (arith, cleared_size c.args.cuts.now, c.requires.right))

pub begin-requires-clause-free : goal.begin-requires-clause-free
begin-requires-clause-free c = rw c.clear.ensures (emptied c.args.cuts.now.sets c.args.right)

pub loop-node-init : goal.loop-node-init
loop-node-init c =
    rw (c.begin.ensures, c.clear.ensures)
    (begun c.args.cuts.now c.args.right c.args.set.now c.requires.right c.requires.nodes)

pub add-requires-clause-right : goal.add-requires-clause-right
add-requires-clause-right c = omega (arith, c.loop-node.invariant.holds.rights, c.requires.right)

pub add-requires-clause-node : goal.add-requires-clause-node
add-requires-clause-node c = omega (arith, c.loop-node.invariant.holds.nodes, c.requires.nodes)

pub add-requires-clause-held : goal.add-requires-clause-held
add-requires-clause-held c = rw c.loop-node.invariant.holds.is refl

pub returns : goal.returns
returns c =
    prefix_whole c.args.cuts.now c.loop-node.cuts c.args.right c.args.set.now c.loop-node.node (omega arith)
    c.loop-node.invariant

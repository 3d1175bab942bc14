use Rattle.std.proofs.Common.{◌≤◌, arith, ◌∙◌}
use Rattle.circulation.specs.Contents.{network}
use Rattle.circulation.specs.Residual.{start_of}
use Rattle.augment.proofs.Trees.{tree_room}
use Rattle.augment.proofs.Visits.{visited}
use Rattle.circulation.proofs.Overs.{start_within, end_within}
use Rattle.augment.proofs.searching.try_step.Goals as goal

pub visit-requires-clause-room : goal.visit-requires-clause-room
visit-requires-clause-room c = tree_room c.args.end c.requires.tree
    (omega (arith, c.requires.end, end_within c.args.circ.now c.args.step c.requires.kept c.requires.step))

pub returns-clause-visited : goal.returns-clause-visited
returns-clause-visited c =
    let end = end_within c.args.circ.now c.args.step c.requires.kept c.requires.step in
    let within : c.args.end ≤ c.args.circ.now.nodes = omega (arith, c.requires.end, end) in
    let start = start_within (network c.args.circ.now) c.args.step c.requires.kept.ends c.requires.step in
    visited c.requires.kept c.requires.tree within
    record {
      arc = c.requires.step;
      other = λ e. c.if-arc_of_step-arc.false (c.arc_of_step.ensures ∙ e);
      enters = c.requires.end;
      marked = c.requires.marked;
      before = (c.requires.tree.marked (start_of (network c.args.circ.now) c.args.step) start c.requires.marked).0;
      room = omega (arith, c.room.ensures, c.if-room-least.false);
    }
    (tree_room c.args.end c.requires.tree within) c.visit.ensures.seen c.visit.ensures.fresh

use Rattle.std.proofs.Common.{arith}
use Rattle.circulation.specs.Contents.{network, flow_of}
use Rattle.augment.specs.Raised.{open_arcs}
use Rattle.augment.proofs.Raises.{flow_over}
use Rattle.augment.proofs.Rises.{phase_next}
use Rattle.augment.proofs.raising.phase.Goals as goal

pub round-requires-clause-path_out : goal.round-requires-clause-path_out
round-requires-clause-path_out g c = rw c.loop-circ.invariant.rest c.requires.path_out

pub returns-then-not-round-clause-left : goal.returns-then-not-round-clause-left
returns-then-not-round-clause-left g c = λ _ h flow.
    let rest = c.loop-circ.invariant.rest in
    let stopped = c.round.ensures.stopped c.if-not-round.true in
    rw stopped.0 (rw rest at (c.round.ensures.rise c.if-not-round.true h (rw rest flow)))

pub returns-then-not-round-clause-cut : goal.returns-then-not-round-clause-cut
returns-then-not-round-clause-cut g c = λ _ one.
    let rest = c.loop-circ.invariant.rest in
    let stopped = c.round.ensures.stopped c.if-not-round.true in
    let cut = rw (stopped.0, rest) at (c.round.ensures.cut c.if-not-round.true one) in
    rw (stopped.0, rest) cut

pub loop-circ-preserved : goal.loop-circ-preserved
loop-circ-preserved g c =
    let inv = c.loop-circ.invariant in
    let less = c.loop-circ-test.true in
    let seen = c.flow.ensures.amount in
    let flow = flow_over c.args.circ.now inv.rest c.flow.ensures.kept in
    let reach = c.requires.rise (flow_of c.loop-circ.circ) flow inv.limit in
    let pushed = c.round.ensures.pushed c.if-not-round.false in
    let wide = c.round.ensures.wide c.if-not-round.false in
    let next = phase_next c.args.least (open_arcs (network c.args.circ.now)) c.args.pushes.now c.loop-circ.pushes
    c.round.new.pushes (flow_of c.args.circ.now c.args.arc) (flow_of c.loop-circ.circ c.args.arc)
    (flow_of c.round.new.circ c.args.arc) c.args.want c.requires.least inv.counted pushed.2
    (inv.each (omega (arith, less, seen))) reach (omega (arith, less, seen)) wide in
    record {
      rest = rw inv.rest at c.round.ensures.rest;
      limit = pushed.1;
      rises = omega (arith, inv.rises, pushed.0);
      counted = omega (arith, inv.counted, pushed.2);
      each = next.1;
      cost = next.0;
    }

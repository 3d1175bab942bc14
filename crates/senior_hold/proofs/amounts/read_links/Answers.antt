use Rattle.std.proofs.Common.{arith}
use Rattle.circulation.specs.Contents.{flow_of}
use Rattle.senior_hold.proofs.Numbers.{list_is}
use Rattle.senior_hold.proofs.amounts.read_links.Goals as goal

pub returns : goal.returns
returns c = list_is _ c.loop-link.link (flow_of c.args.circ.now) c.loop-link.into c.loop-link.auto.into
    (omega (arith, c.loop-link-test.false, c.loop-link.auto.into)) c.loop-link.invariant

use Rattle.std.proofs.Common.{arith}
use Rattle.water_edge.proofs.Pieces.{wrote_more, wrote_none}
use Rattle.std.proofs.KnownBytes.{Appends-kept}
use Rattle.water_edge.proofs.stream.write_prefix.Goals as goal

pub loop-written-preserved : goal.loop-written-preserved
loop-written-preserved g c = record {
  within = omega (arith, c.in-Ok.ensures.bound);
  prefix = wrote_more _ _ _ _ _ _ c.loop-written.invariant.prefix c.in-Ok.ensures.bytes;
}

pub returns-in-Ok-eq0-clause-prefix : goal.returns-in-Ok-eq0-clause-prefix
returns-in-Ok-eq0-clause-prefix g c =
    wrote_none _ _ _ _ _ _ c.in-Ok-eq0.field-0-test c.loop-written.invariant.prefix c.in-Ok-eq0.ensures.bytes

pub returns-in-Err-clause-prefix : goal.returns-in-Err-clause-prefix
returns-in-Err-clause-prefix g c = Appends-kept _ _ _ _ c.loop-written.invariant.prefix c.in-Err.ensures.bytes

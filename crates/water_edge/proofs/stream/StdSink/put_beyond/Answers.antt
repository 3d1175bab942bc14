use Rattle.std.proofs.Common.{rules, arith, refl, subst, take_all}
use Rattle.water_edge.specs.Edge.{Extends}
use Rattle.water_edge.specs.Stream.{writer_output}
use Rattle.water_edge.proofs.Outputs.{Extends-kept, Extends-nil, writer_first, writer_keeps, writer_stays}
use Rattle.water_edge.proofs.Outputs.{writer_writes}
use Rattle.water_edge.proofs.stream.StdSink.put_beyond.Goals as goal

pub returns-then-not-write_kept-clause-bytes : goal.returns-then-not-write_kept-clause-bytes
returns-then-not-write_kept-clause-bytes g c = (
  0,
  search rules,
  Extends-kept _ _ _ _ (Extends-nil _)
      (writer_stays _ _ _ _ c.write_kept.ensures.written refl refl),
)

pub returns-then-piece-lt-ROOM-clause-bytes : goal.returns-then-piece-lt-ROOM-clause-bytes
returns-then-piece-lt-ROOM-clause-bytes g c =
    writer_first _ _ _ _ c.write_kept.ensures.written (writer_keeps _ _ _ _ _ (search rules) (search rules))

pub returns-then-write_prefix-piece-clause-bytes : goal.returns-then-write_prefix-piece-clause-bytes
returns-then-write_prefix-piece-clause-bytes g c = (
  c.write_prefix.result,
  c.write_prefix.ensures.within,
  writer_first _ _ _ _ c.write_kept.ensures.written
      (writer_writes _ _ _ _ _ (search rules) (search rules) (search rules)),
)

pub returns-clause-bytes : goal.returns-clause-bytes
returns-clause-bytes g c =
    subst (Extends (writer_output c.args.self.now) _) (take_all c.write_prefix.result c.args.piece.now (omega arith))
    (writer_first _ _ _ _ c.write_kept.ensures.written
    (writer_writes _ _ _ _ _ (search rules) (search rules) (search rules)))

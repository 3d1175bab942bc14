use Rattle.std.proofs.Common.{List, subst, arith, Ok}
use Rattle.std.proofs.lemmas.Option.{slice_get-get_or}
use Rattle.water_edge.specs.declared.sink.SinkFailed.{SinkFailed}
use Rattle.injury.specs.Injuries.{injuries_of, PutsInjuries}
use Rattle.injury.specs.declared.pair.Pair.{Pair}
use Rattle.injury.proofs.Put.{none, more, fails, fits, whole}
use Rattle.injury.proofs.pairing.Pairing.put_injured.Goals as goal

pub loop-pair-init : goal.loop-pair-init
loop-pair-init g c =
    none c.args.basin.now c.args.first.now c.args.second.now c.common-pairs.result.now (g.K.Sink.output c.args.sink.now)
    (g.K.Sink.faults c.args.sink.now)

pub overflow_add-count : goal.overflow_add-count
overflow_add-count g c =
    omega (
      arith,
      c.common-pairs.ensures.bounded,
      fits _ _ _ _ _ _ (slice_get-get_or c.common-pairs.result.now c.loop-pair.pair-index _ c.loop-pair-test.true)
          _ _ _ _ _ _ c.loop-pair.invariant c.in_ok-count.ensures.text.0,
    )

pub loop-pair-preserved : goal.loop-pair-preserved
loop-pair-preserved g c =
    more _ _ _ _ _ _ (slice_get-get_or c.common-pairs.result.now c.loop-pair.pair-index _ c.loop-pair-test.true)
    _ _ _ _ _ _ _ _ c.loop-pair.invariant c.in_ok-count.ensures.text c.in_ok-count.ensures.cause.later

pub returns-in_err-count-clause-text : goal.returns-in_err-count-clause-text
returns-in_err-count-clause-text g c =
    subst (λ (pairs : List Pair). PutsInjuries c.args.basin.now (injuries_of pairs c.args.first.now c.args.second.now)
    (g.K.Sink.output c.args.sink.now) (g.K.Sink.output c.put_injury.new.sink) c.from_residual.result)
    c.common-pairs.ensures.pairs
    (fails _ _ _ _ _ _ (slice_get-get_or c.common-pairs.result.now c.loop-pair.pair-index _ c.loop-pair-test.true)
    _ _ _ _ _ _ _ c.loop-pair.invariant c.in_err-count.ensures.text c.from_residual.ensures.0)

pub returns-clause-text : goal.returns-clause-text
returns-clause-text g c =
    subst (λ (pairs : List Pair). PutsInjuries {E = SinkFailed} c.args.basin.now
    (injuries_of pairs c.args.first.now c.args.second.now)
    (g.K.Sink.output c.args.sink.now) (g.K.Sink.output c.loop-pair.sink) (Ok c.loop-pair.count))
    c.common-pairs.ensures.pairs
    (whole _ _ _ _ _ _ _ _ _ _ c.loop-pair.invariant c.loop-pair-test.false)

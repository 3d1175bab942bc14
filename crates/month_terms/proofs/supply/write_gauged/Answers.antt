use Rattle.std.proofs.Common.{◌+◌, ◌*◌, ◌∙◌, sym, ap, arith, length}
use Rattle.std.specs.Prelude.{slice_index}
use Rattle.std.proofs.lemmas.Option.{get_or_from_slice_get}
use Rattle.water_model.specs.Hydrology.{inflow_at}
use Rattle.water_model.specs.Valid.{is_gauged}
use Rattle.month_terms.proofs.Calendars.{gauge_is, key_more, none_passes, row_small}
use Rattle.month_terms.proofs.supply.write_gauged.Goals as goal

pub overflow_mul-start : goal.overflow_mul-start
overflow_mul-start c = rw c.len-count.ensures (omega (
  arith,
  (row_small c.args.basin.now c.args.series.now c.args.index c.requires.basin c.requires.series c.requires.index).0,
))

pub loop-gauge-init : goal.loop-gauge-init
loop-gauge-init c = λ n l none. c.requires.others n l
    (none_passes (λ k. is_gauged c.args.basin.now k) c.args.series.now.gauged (length c.args.basin.now.nodes) n
    c.requires.series.gauged l none)

pub overflow_add-start : goal.overflow_add-start
overflow_add-start c =
    let small = row_small c.args.basin.now c.args.series.now c.args.index c.requires.basin c.requires.series
    c.requires.index in
    rw c.len-count.ensures (omega (arith, small.0, small.1, c.loop-gauge-test.true, c.len-count.ensures))

pub bounds-returned-node : goal.bounds-returned-node
bounds-returned-node c =
    let gauge = gauge_is c.args.basin.now c.args.series.now c.args.index c.loop-gauge.gauge c.index.result.now
    c.requires.series c.requires.index c.index.ensures in
    omega (arith, gauge.within, c.requires.returned)

pub bounds-supply-node : goal.bounds-supply-node
bounds-supply-node c =
    let gauge = gauge_is c.args.basin.now c.args.series.now c.args.index c.loop-gauge.gauge c.index.result.now
    c.requires.series c.requires.index c.index.ensures in
    omega (arith, gauge.within, c.loop-gauge.auto.supply, c.requires.supply)

pub overflow_add-supply : goal.overflow_add-supply
overflow_add-supply c =
    let gauge = gauge_is c.args.basin.now c.args.series.now c.args.index c.loop-gauge.gauge c.index.result.now
    c.requires.series c.requires.index c.index.ensures in
    omega (
      arith,
      gauge.amount,
      get_or_from_slice_get c.args.series.now.amount
          (c.args.index * length c.args.series.now.gauged + c.loop-gauge.gauge)
          c.index-in-loop-gauge.result.now 0 (rw c.len-count.ensures at c.index-in-loop-gauge.ensures),
      c.requires.small c.index.result.now gauge.within,
    )

pub loop-gauge-preserved : goal.loop-gauge-preserved
loop-gauge-preserved c =
    let gauge = gauge_is c.args.basin.now c.args.series.now c.args.index c.loop-gauge.gauge c.index.result.now
    c.requires.series c.requires.index c.index.ensures in
    key_more c.args.series.now.gauged c.loop-gauge.supply c.loop-gauge.gauge c.index.result.now _
    (length c.args.basin.now.nodes)
    (λ n. inflow_at c.args.basin.now c.args.series.now n c.args.index + slice_index c.args.returned.now n)
    c.index.ensures (bounds-supply-node c)
    (ap (λ x. x + slice_index c.args.returned.now c.index.result.now)
    (sym (get_or_from_slice_get c.args.series.now.amount
    (c.args.index * length c.args.series.now.gauged + c.loop-gauge.gauge) c.index-in-loop-gauge.result.now 0
    (rw c.len-count.ensures at c.index-in-loop-gauge.ensures)) ∙ gauge.amount))
    c.loop-gauge.invariant

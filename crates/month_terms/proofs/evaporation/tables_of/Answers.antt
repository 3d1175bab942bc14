use Rattle.std.proofs.Common.{◌∙◌, ap, arith, length}
use Rattle.water_model.specs.declared.types.Reservoir.{Reservoir}
use Rattle.month_terms.proofs.Mapped.{mapped_more, mapped_whole, points_of_reservoir}
use Rattle.month_terms.proofs.evaporation.tables_of.Goals as goal

pub loop-reservoir-init : goal.loop-reservoir-init
loop-reservoir-init c = c.in_ok-tables.ensures.items

pub build-requires : goal.build-requires
build-requires c = omega (
  arith,
  ap length c.as_slice.ensures,
  points_of_reservoir c.args.basin.now c.as_slice-reservoir-items.result.now c.loop-reservoir.reservoir-index
      c.reservoir-item.result c.requires c.as_slice-reservoir-items.ensures c.loop-reservoir-test.true
      c.reservoir-item.is,
)

pub loop-reservoir-preserved : goal.loop-reservoir-preserved
loop-reservoir-preserved c =
    mapped_more (λ (v : Reservoir). v.area) c.as_slice-reservoir-items.result.now c.loop-reservoir.reservoir-index
    c.reservoir-item.result c.loop-reservoir.tables.items c.push.new.self.items c.in-Ok.table
    c.loop-reservoir-test.true c.reservoir-item.is c.loop-reservoir.invariant (c.in-Ok.ensures.ok ∙ c.as_slice.ensures)
    c.in_ok-push-in-Ok.ensures.items

pub returns : goal.returns
returns c = mapped_whole (λ (v : Reservoir). v.area) c.as_slice-reservoir-items.result.now
    c.args.basin.now.reservoirs c.loop-reservoir.reservoir-index c.loop-reservoir.tables.items
    c.loop-reservoir-test.false c.as_slice-reservoir-items.ensures c.loop-reservoir.invariant

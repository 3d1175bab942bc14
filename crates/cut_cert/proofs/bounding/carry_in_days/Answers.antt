use Rattle.std.proofs.Common.{arith, true, false}
use Rattle.water_model.specs.Valid.{IsValidCarry}
use Rattle.water_model.specs.declared.types.Carry.TheVariants.{Canal}
use Rattle.water_model.proofs.Carries.{days_carry}
use Rattle.cut_cert.proofs.Bounds.{canal_carries}
use Rattle.cut_cert.proofs.bounding.carry_in_days.Goals as goal

pub overflow_mul-result : goal.overflow_mul-result
overflow_mul-result c =
    let canal : IsValidCarry (Canal c.in-Canal.per_day c.in-Canal.shut) = rw c.in-Canal.is at c.requires.carry in
    rw c.requires.days (omega (arith, days_carry c.in-Canal.per_day c.args.month canal.0 c.requires.month))

pub returns-then-shut-month : goal.returns-then-shut-month
returns-then-shut-month c =
    rw c.in-Canal.is (canal_carries c.in-Canal.per_day c.in-Canal.shut c.args.month true c.if-shut-month.true)

pub returns-else-shut-month : goal.returns-else-shut-month
returns-else-shut-month c =
    rw (c.requires.days, c.in-Canal.is)
    (canal_carries c.in-Canal.per_day c.in-Canal.shut c.args.month false c.if-shut-month.false)

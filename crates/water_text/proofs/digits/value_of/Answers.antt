use Rattle.std.proofs.Common.{◌<◌, ◌^◌, length, arith, subst, sym}
use Rattle.water_text.proofs.Values.{digit_within, value_more, value_within, value_whole, next_within}
use Rattle.water_text.proofs.digits.value_of.Goals as goal

pub overflow_mul-value : goal.overflow_mul-value
overflow_mul-value c =
    omega (
      arith,
      next_within c.args.digits.now c.loop-digit.digit-index c.loop-digit.value c.requires.digits
          c.requires.short c.loop-digit-test.true c.loop-digit.invariant,
    )

pub overflow_sub-digit : goal.overflow_sub-digit
overflow_sub-digit c =
    (digit_within c.args.digits.now c.loop-digit.digit-index c.requires.digits c.loop-digit-test.true).0

pub overflow_add-value : goal.overflow_add-value
overflow_add-value c =
    omega (
      arith,
      next_within c.args.digits.now c.loop-digit.digit-index c.loop-digit.value c.requires.digits
          c.requires.short c.loop-digit-test.true c.loop-digit.invariant,
    )

pub loop-digit-preserved : goal.loop-digit-preserved
loop-digit-preserved c =
    omega (arith, value_more c.args.digits.now c.loop-digit.digit-index c.requires.digits c.loop-digit-test.true)

pub returns-clause-within : goal.returns-clause-within
returns-clause-within c =
    let value =
    value_whole c.args.digits.now c.loop-digit.digit-index c.loop-digit.value c.loop-digit-test.false
    c.loop-digit.invariant in
    let within = value_within c.args.digits.now (length c.args.digits.now) c.requires.digits (omega arith) in
    subst (λ n. n < 10 ^ length c.args.digits.now) (sym value) within

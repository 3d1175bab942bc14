use Rattle.std.proofs.Common.{ℕ, ◌≡◌, ◌+◌, ◌-◌, ◌*◌, ◌^◌, arith, ap, sym, ◌∙◌}
use Rattle.augment.proofs.Rises.{power_below, power_next}
use Rattle.augment.proofs.raising.first_phase.Goals as goal

pub overflow_add-count : goal.overflow_add-count
overflow_add-count c =
    let small = power_below (c.loop-least.count - 1) 64
    (omega (arith, c.loop-least.invariant.power, c.loop-least.invariant.within, c.ranges.missing.fits)) in
    omega (arith, small)

pub loop-least-preserved : goal.loop-least-preserved
loop-least-preserved c =
    let inv = c.loop-least.invariant in
    let split : c.loop-least.count + 1 - 1 ≡ c.loop-least.count - 1 + 1 = omega (arith, inv.some) in
    record {
      power = ap (λ (n : ℕ). n * 2) inv.power ∙ sym (power_next (c.loop-least.count - 1))
          ∙ ap (λ (n : ℕ). 2 ^ n) (sym split);
      some = omega arith;
      positive = omega (arith, inv.positive);
      within = omega (arith, c.loop-least-test.true);
      bounded = omega (arith, inv.bounded, inv.positive);
    }

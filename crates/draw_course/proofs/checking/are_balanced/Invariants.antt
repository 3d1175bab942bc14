use Rattle.std.proofs.Common.{◌≡◌, ◌<◌, ℕ, false, slice_index}
use Rattle.water_model.specs.Basin.{is_outlet}
use Rattle.draw_course.specs.Courses.{IsBalancedAt}
use Rattle.draw_course.proofs.checking.are_balanced.Given as goal

abbrev pub invariant-loop-node : goal.invariant-loop-node
invariant-loop-node l = record {
  outlets : (n : ℕ) → n < l.node → is_outlet l.basin n ≡ false → slice_index l.out n ≡ 0;
  balance : (n : ℕ) → n < l.node → IsBalancedAt l.basin l.supply l.taken l.flow l.out n;
}

use Rattle.std.proofs.Common.{◌≡◌, drop, length}
use Rattle.water_text.specs.Shapes.{has_shape}
use Rattle.water_text.proofs.shape.has_shape.Given as goal

abbrev pub invariant-loop-at : goal.invariant-loop-at
invariant-loop-at l = (length l.pattern ≡ length l.text) ×
    (has_shape l.pattern l.text ≡ has_shape (drop l.at l.pattern) (drop l.at l.text))

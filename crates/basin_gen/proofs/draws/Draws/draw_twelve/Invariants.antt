use Rattle.std.proofs.Common.{◌≡◌, take}
use Rattle.basin_gen.specs.Draws.{drawn, later, list_of}
use Rattle.basin_gen.proofs.draws.Draws.draw_twelve.Given as goal

abbrev pub invariant-loop-number : goal.invariant-loop-number
invariant-loop-number l =
    (take l.number-index l.number-items ≡ list_of l.number-index (λ m. drawn (later l.fn.self.state m) l.bound))
    × (l.self.state ≡ later l.fn.self.state l.number-index)

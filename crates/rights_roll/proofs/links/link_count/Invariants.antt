use Rattle.std.proofs.Common.{◌≡◌, ℕ, ◌<◌, Some}
use Rattle.rights_roll.specs.Rolls.{link_in}
use Rattle.rights_roll.proofs.links.link_count.Given as goal

abbrev pub invariant-loop-right : goal.invariant-loop-right
invariant-loop-right l = (right link : ℕ) → right < l.right-index → link_in l.rights right ≡ Some link → link < l.count

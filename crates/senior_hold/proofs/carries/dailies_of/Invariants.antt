use Rattle.std.proofs.Common.{◌≡◌, ℕ, ◌<◌, length}
use Rattle.std.specs.Prelude.{slice_get, Some}
use Rattle.senior_hold.specs.Carries.{dailies_in}
use Rattle.senior_hold.proofs.carries.dailies_of.Given as goal

abbrev pub invariant-loop-position : goal.invariant-loop-position
invariant-loop-position l = (length l.rows.items ≡ l.position) ×
    ((p : ℕ) → p < l.position → slice_get l.rows.items p ≡ Some (dailies_in l.basin p))

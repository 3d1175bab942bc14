use Rattle.std.proofs.Common.{ℕ, ◌≡◌, ◌<◌, length, slice_index}
use Rattle.water_model.specs.Plans.{delivery}
use Rattle.month_terms.proofs.Calendars.{NoPlaceFrom}
use Rattle.month_terms.proofs.want.write_deliveries.Given as goal

abbrev pub invariant-loop-place : goal.invariant-loop-place
invariant-loop-place l = (r : ℕ) → r < length l.basin.rights → NoPlaceFrom l.calendar.instream l.place r →
    slice_index l.delivered r ≡ delivery l.basin l.want l.plan r

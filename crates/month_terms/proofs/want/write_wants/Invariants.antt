use Rattle.std.proofs.Common.{ℕ, ◌≡◌, ◌<◌, length, slice_index}
use Rattle.water_model.specs.Hydrology.{want_of}
use Rattle.month_terms.proofs.Calendars.{NoneFrom}
use Rattle.month_terms.proofs.want.write_wants.Given as goal

abbrev pub invariant-loop-other : goal.invariant-loop-other
invariant-loop-other l = (r : ℕ) → r < length l.basin.rights → NoneFrom l.calendar.others l.other r →
    slice_index l.want r ≡ want_of l.basin l.series r l.index (slice_index l.used r)

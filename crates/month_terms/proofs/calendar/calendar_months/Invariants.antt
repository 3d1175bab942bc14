use Rattle.std.proofs.Common.{ℕ, ◌≡◌, length}
use Rattle.std.specs.Prelude.{slice_get, Some}
use Rattle.month_terms.specs.Calendars.{IsCalendarMonth}
use Rattle.month_terms.specs.declared.calendar.CalendarMonth.{CalendarMonth}
use Rattle.month_terms.proofs.calendar.calendar_months.Given as goal

abbrev pub invariant-loop-position : goal.invariant-loop-position
invariant-loop-position l = record {
  count : length l.months.items ≡ l.position;
  each : (p : ℕ) (m : CalendarMonth) → slice_get l.months.items p ≡ Some m → IsCalendarMonth l.basin p m;
}

use Rattle.std.proofs.Common.{ℕ, ◌≡◌, ◌<◌}
use Rattle.std.specs.Prelude.{slice_get, Some, None}
use Rattle.water_model.specs.Basin.{instream_link}
use Rattle.month_terms.specs.declared.calendar.InstreamPlace.{InstreamPlace}
use Rattle.month_terms.proofs.Calendars.{NoPlaceFrom}
use Rattle.month_terms.proofs.calendar.instream_of.Given as goal

abbrev pub invariant-loop-right : goal.invariant-loop-right
invariant-loop-right l = record {
  each : (k : ℕ) (place : InstreamPlace) → slice_get l.places.items k ≡ Some place →
      instream_link l.basin place.right ≡ Some place.link;
  whole : (r : ℕ) → r < l.right → NoPlaceFrom l.places.items 0 r → instream_link l.basin r ≡ None;
}

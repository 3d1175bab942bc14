-- What nodes and rights have in each calendar month, laid out once for all months of a run.
use Rattle.std.specs.Prelude.{◌≡◌, ◌≢◌, ℕ, ◌<◌, List, length, map, filter, slice_index, slice_get, Some, None}
use Rattle.std.specs.Prelude.{Bool, true, false, is_some, if◌then◌else◌}
use Rattle.water_model.specs.Basin.{instream_link, link_of_kind}
use Rattle.water_model.specs.Indices.{indices_of}
use Rattle.water_model.specs.Lookups.{of_entry}
use Rattle.water_model.specs.Valid.{is_series}
use Rattle.water_model.specs.declared.types.Basin.{Basin}
use Rattle.water_model.specs.declared.types.Inflow.{Inflow}
use Rattle.water_model.specs.declared.types.Inflow.TheVariants.{Monthly, Gauged}
use Rattle.water_model.specs.declared.types.Right.{Right}
use Rattle.water_model.specs.declared.types.Want.{Want}
use Rattle.water_model.specs.declared.types.Want.TheVariants as wants
use Rattle.month_terms.specs.declared.calendar.Calendar.{Calendar}
use Rattle.month_terms.specs.declared.calendar.CalendarMonth.{CalendarMonth}
use Rattle.month_terms.specs.declared.calendar.InstreamPlace.{InstreamPlace}

-- what flows in at a node in the calendar month at this index of a list of twelve, or 0 where the node is gauged
abbrev pub monthly_inflow : Inflow → ℕ → ℕ
monthly_inflow (Monthly amounts) p = slice_index amounts p
monthly_inflow Gauged p = 0

-- the number of a right in the calendar month at this index, or 0 where its wants stand in the series
abbrev pub monthly_want : Want → ℕ → ℕ
monthly_want (wants.Monthly amounts) p = slice_index amounts p
monthly_want wants.Series p = 0

-- what flows in at each node in a calendar month, and the number of each right
pub record IsCalendarMonth (b : Basin) (p : ℕ) (m : CalendarMonth) : Type 0 where
  pub inflows : m.inflows ≡ map (λ n. monthly_inflow n.inflow p) b.nodes
  pub wants : m.wants ≡ map (λ r. monthly_want r.want p) b.rights

-- the twelve calendar months
pub record AreCalendarMonths (b : Basin) (months : List CalendarMonth) : Type 0 where
  pub twelve : length months ≡ 12
  pub each : (p : ℕ) (m : CalendarMonth) → slice_get months p ≡ Some m → IsCalendarMonth b p m

-- the rights that don't simply want their number: those with a want in the series or with a volume, and instream rights
abbrev pub wants_otherwise : Right → Bool
wants_otherwise r =
    if is_series r.want then true else (if is_some r.volume then true else is_some (link_of_kind r.kind))

abbrev pub others_of : Basin → List ℕ
others_of b = filter (λ r. of_entry b.rights r wants_otherwise false) (indices_of b.rights)

-- instream rights with their links: no other rights, and no instream right is left out
pub record ListInstream (b : Basin) (places : List InstreamPlace) : Type 0 where
  pub each : (k : ℕ) (place : InstreamPlace) → slice_get places k ≡ Some place →
      instream_link b place.right ≡ Some place.link
  pub whole : (r : ℕ) → r < length b.rights →
      ((k : ℕ) (place : InstreamPlace) → slice_get places k ≡ Some place → place.right ≢ r) → instream_link b r ≡ None

pub record IsCalendar (b : Basin) (c : Calendar) : Type 0 where
  pub months : AreCalendarMonths b c.months
  pub others : c.others ≡ others_of b
  pub instream : ListInstream b c.instream

use Rattle.std.proofs.Common.{◌≡◌, false}
use Rattle.std.specs.Prelude.{filter}
use Rattle.water_model.specs.Indices.{numbers_from}
use Rattle.water_model.specs.Lookups.{of_entry}
use Rattle.month_terms.specs.Calendars.{wants_otherwise}
use Rattle.month_terms.proofs.calendar.others_of.Given as goal

abbrev pub invariant-loop-right : goal.invariant-loop-right
invariant-loop-right l =
    l.others.items ≡ filter (λ r. of_entry l.basin.rights r wants_otherwise false) (numbers_from 0 l.right)

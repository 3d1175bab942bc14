use Rattle.std.proofs.Common.{◌≡◌, map, take}
use Rattle.month_terms.specs.Calendars.{monthly_want}
use Rattle.month_terms.proofs.calendar.wants_in.Given as goal

abbrev pub invariant-loop-right : goal.invariant-loop-right
invariant-loop-right l =
    l.wants.items ≡ map (λ r. monthly_want r.want l.position) (take l.right-index l.right-items)

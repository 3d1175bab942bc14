-- What the order of rights goes by.
use Rattle.std.specs.Prelude.{ℕ, List, [], ◌∷◌}
use Rattle.std.specs.Ordering.{nat_cmp, ordering_then}
use Rattle.std.specs.declared.cmp.Ordering.{Ordering}
use Rattle.rights_roll.specs.declared.priority.Priority.{Priority}

-- the numbers of a priority: year, month, day and order
abbrev pub numbers_of : Priority → List ℕ
numbers_of p = p.year ∷ p.month ∷ p.day ∷ p.order ∷ []

-- priorities are compared by year, then by month, day and order
abbrev pub priority_cmp : Priority → Priority → Ordering
priority_cmp p q =
    ordering_then (nat_cmp p.year q.year)
    (ordering_then (nat_cmp p.month q.month) (ordering_then (nat_cmp p.day q.day) (nat_cmp p.order q.order)))

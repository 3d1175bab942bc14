-- What is found of a month: whose the next unit is, and for whom a right is curtailed by that.
use Rattle.std.specs.Prelude.{ℕ, ◌<◌, List, length, Option, Some, None, IfSome, if◌then◌else◌, nat_lt, slice_index}
use Rattle.std.specs.Prelude.{slice_index_or, ◌≡◌}
use Rattle.water_model.specs.Basin.{is_senior, taking_node}
use Rattle.water_model.specs.declared.types.Basin.{Basin}
use Rattle.water_model.specs.declared.types.MonthRecord.{MonthRecord}
use Rattle.next_unit.specs.Helped.{AreHelped}
use Rattle.next_unit.specs.Next.{AreNext}

-- for each node the right to which one more unit of water there would go, or none; and for each link the most senior
-- right that one more unit of carry on it would help, or none
pub record Found : Type 0 where
  pub next : List (Option ℕ)
  pub helped : List (Option ℕ)

-- exactly what one more unit would do in a month: for each node the right to which one more unit of water there would
-- go, and for each link the most senior right that one more unit of carry on it would help
pub record IsFoundIn (b : Basin) (m : MonthRecord) (found : Found) : Type 0 where
  pub next : AreNext b m found.next
  pub helped : AreHelped b m found.helped

-- there is a right or none for each node and for each link
pub record FitsFound (b : Basin) (found : Found) : Type 0 where
  pub nodes : length found.next ≡ length b.nodes
  pub links : length found.helped ≡ length b.links
  pub next : (n : ℕ) → IfSome (slice_index_or found.next n None) (λ right. right < length b.rights)
  pub helped : (e : ℕ) → IfSome (slice_index_or found.helped e None) (λ right. right < length b.rights)

-- a right, if it is senior to another
abbrev pub if_senior : Basin → ℕ → Option ℕ → Option ℕ
if_senior b right None = None
if_senior b right (Some caller) = if is_senior b caller right then Some caller else None

abbrev pub next_at : List (Option ℕ) → Option ℕ → Option ℕ
next_at next None = None
next_at next (Some node) = slice_index_or next node None

-- the right for which another is curtailed: a diversion or zone that wants water, for the right to which one more unit
-- at its node would go, if that is senior to it
unfoldable pub curtailed_for : Basin → MonthRecord → List (Option ℕ) → ℕ → Option ℕ
curtailed_for b m next right =
    if nat_lt 0 (slice_index m.want right) then if_senior b right (next_at next (taking_node b right)) else None

-- The first caller at each node.
use Rattle.std.specs.Prelude.{◌≡◌, ℕ, ◌<◌, ◌≤◌, ◌&&◌, Bool, false, List, length, find, slice_index, slice_index_or}
use Rattle.std.specs.Prelude.{nat_lt, is_none, Option, None}
use Rattle.std.specs.Option.{option_map_or}
use Rattle.bit_words.specs.Marks.{is_marked}
use Rattle.water_model.specs.History.{cut_of}
use Rattle.water_model.specs.Lookups.{has}
use Rattle.water_model.specs.Indices.{seniors_first}
use Rattle.water_model.specs.declared.types.Basin.{Basin}
use Rattle.water_model.specs.declared.types.MonthRecord.{MonthRecord}

-- whether a right was delivered less than its want
abbrev pub is_short : MonthRecord → ℕ → Bool
is_short m right = nat_lt (slice_index m.delivered right) (slice_index m.want right)

-- whether a right is short and has a set that holds the node
abbrev pub is_short_at : MonthRecord → ℕ → ℕ → Bool
is_short_at m caller node = is_short m caller && option_map_or (λ set. has set node) (cut_of m caller) false

-- the most senior right that is short and has a set that holds the node, or none
abbrev pub first_caller : Basin → MonthRecord → ℕ → Option ℕ
first_caller b m node = find (λ caller. is_short_at m caller node) (seniors_first b)

-- the caller that a list has for a node, if it has one
abbrev pub caller_at : List (Option ℕ) → ℕ → Option ℕ
caller_at callers node = slice_index_or callers node None

-- for each node its first caller. The list may be longer than the nodes
pub record AreCallers (b : Basin) (m : MonthRecord) (callers : List (Option ℕ)) : Type 0 where
  pub enough : length b.nodes ≤ length callers
  pub each : (n : ℕ) → n < length b.nodes → caller_at callers n ≡ first_caller b m n

-- the nodes without a caller are those that are marked as free
abbrev pub AreFree : ℕ → List (Option ℕ) → List ℕ → Type 0
AreFree nodes callers free = (n : ℕ) → n < nodes → is_marked free n ≡ is_none (caller_at callers n)

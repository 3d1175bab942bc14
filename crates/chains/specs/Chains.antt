-- Indices in chains by their keys.
use Rattle.std.specs.Prelude.{◌≡◌, ℕ, ◌+◌, ◌<◌, ◌≤◌, ◌==◌, Bool, true, false, length, slice_index_or, nat_lt}
use Rattle.std.specs.Prelude.{Option, Some, None}
use Rattle.chains.specs.declared.Chains.{Chains}

-- the first of the indices from, from + 1, .., below a count, that passes a test, or none
abbrev pub IsFirst : (ℕ → Bool) → ℕ → ℕ → Option ℕ → Type 0
IsFirst test from count None = (s : ℕ) → from ≤ s → s < count → test s ≡ false
IsFirst test from count (Some at) =
    (from ≤ at) × (at < count) × (test at ≡ true) × ((s : ℕ) → from ≤ s → s < at → test s ≡ false)

-- whether an index comes before that first one
abbrev pub is_before : Option ℕ → ℕ → Bool
is_before None index = true
is_before (Some first) index = nat_lt index first

-- whether an index has a key
abbrev pub is_key : Option ℕ → ℕ → Bool
is_key None key = false
is_key (Some own) key = own == key

abbrev pub has_key : (ℕ → Option ℕ) → ℕ → ℕ → Bool
has_key key_of key index = is_key (key_of index) key

-- for each key the first index below a count that has it, and for each index the next one with its key, if it has any
pub record AreChains (key_of : ℕ → Option ℕ) (count keys : ℕ) (chains : Chains) : Type 0 where
  pub one_first : length chains.first.items ≡ keys
  pub one_next : length chains.next.items ≡ count
  pub firsts : (key : ℕ) → IsFirst (has_key key_of key) 0 count (slice_index_or chains.first.items key None)
  pub nexts : (index key : ℕ) → index < count → key_of index ≡ Some key →
      IsFirst (has_key key_of key) (index + 1) count (slice_index_or chains.next.items index None)
  pub others : (index : ℕ) → index < count → key_of index ≡ None →
      slice_index_or chains.next.items index None ≡ None

-- What records say of use: what each right was delivered, and what had been used of its volume before.
use Rattle.std.specs.Prelude.{◌≡◌, ℕ, ◌<◌, ◌≤◌, ◌^◌, All, List, length, map, take, slice_index, slice_get, Some}
use Rattle.month_terms.specs.Terms.{HasUsed}
use Rattle.water_model.specs.declared.types.Basin.{Basin}
use Rattle.water_model.specs.declared.types.MonthRecord.{MonthRecord}

-- a record says what each right was delivered, at most 10^9
pub record HasDeliveries (b : Basin) (m : MonthRecord) : Type 0 where
  pub count : length m.delivered ≡ length b.rights
  pub small : All (λ n. n ≤ 10 ^ 9) m.delivered

-- a record says what each right with a volume used before it, by the deliveries of the records before, and what it was
-- delivered
pub record StatesUse (b : Basin) (before : List MonthRecord) (m : MonthRecord) : Type 0 where
  pub index : m.index ≡ length before
  pub within : m.index < b.months
  pub delivered : HasDeliveries b m
  pub used : HasUsed b (map (λ k. k.delivered) before) m.used
  pub little : (r : ℕ) → r < length b.rights → slice_index m.used r ≤ 10 ^ 15

-- each record of a list does
abbrev pub StateUse : Basin → List MonthRecord → Type 0
StateUse b records = (i : ℕ) (m : MonthRecord) → slice_get records i ≡ Some m → StatesUse b (take i records) m

-- A list of all rights, seniors first.
use Rattle.std.specs.Prelude.{◌≡◌, ℕ, ◌<◌, nat_lt, List, length, slice_index}
use Rattle.water_model.specs.Rights.{is_senior_in}
use Rattle.water_model.specs.declared.types.Right.{Right}

-- each right stands in the order once, at the index that `place` gives, and of two rights the one at the lower index is
-- senior
pub record IsSeniorityOrder (rights : List Right) (order : List ℕ) : Type 0 where
  pub count : length order ≡ length rights
  pub place : ℕ → ℕ
  pub below : (i : ℕ) → i < length rights → slice_index order i < length rights
  pub placed : (i : ℕ) → i < length rights → place (slice_index order i) ≡ i
  pub in_range : (r : ℕ) → r < length rights → place r < length rights
  pub each : (r : ℕ) → r < length rights → slice_index order (place r) ≡ r
  pub senior : (r s : ℕ) → r < length rights → s < length rights → is_senior_in rights r s ≡ nat_lt (place r) (place s)

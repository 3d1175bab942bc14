-- What a basin is in which nobody owns stored water.
use Rattle.std.specs.Prelude.{◌≡◌, ℕ, false, List, length, slice_index}
use Rattle.finite_sums.specs.Sums.{total_where}
use Rattle.water_model.specs.Accounts.{Ledger, closing_with, first_want, natural_at}
use Rattle.water_model.specs.Basin.{is_zone_of, takes_at}
use Rattle.water_model.specs.Draws.{got_by, taken_with}
use Rattle.water_model.specs.Hydrology.{used_of, want_of}
use Rattle.water_model.specs.Stores.{is_owned, sum_at_node, sum_in_reservoir, sum_in_zone}
use Rattle.water_model.specs.Valid.{IsWithoutStores}
use Rattle.water_model.specs.Volumes.{used_by_right}
use Rattle.water_model.specs.declared.types.Basin.{Basin}
use Rattle.water_model.specs.declared.types.Series.{Series}

-- nothing of stored water changes anything: no zone is owned, what stands by account is 0, the first step has the whole
-- supply and each right its own want, what is used of volumes are deliveries of the run alone, a diversion gets its
-- delivery, and at nodes and in reservoirs stays what is delivered there
pub record IsAsWithoutStores (b : Basin) : Type 0 where
  pub free : (right : ℕ) → is_owned b right ≡ false
  pub in_zone : (amount : ℕ → ℕ) (zone : ℕ) → sum_in_zone b amount zone ≡ 0
  pub in_reservoir : (amount : ℕ → ℕ) (reservoir : ℕ) → sum_in_reservoir b amount reservoir ≡ 0
  pub at_node : (amount : ℕ → ℕ) (node : ℕ) → sum_at_node b amount node ≡ 0
  pub supply : (supply carried : List ℕ) (node : ℕ) → natural_at b supply carried node ≡ slice_index supply node
  pub want : (series : Series) (i : ℕ) (number : ℕ → ℕ) (used carried : List ℕ) (right : ℕ) →
      first_want b series i number used carried right ≡ want_of b series right i (slice_index used right)
  pub used : (deliveries : List (List ℕ)) (right i : ℕ) →
      used_by_right b deliveries right i ≡ used_of b deliveries right i
  pub got : (delivered amounts : List ℕ) (right : ℕ) → got_by b delivered amounts right ≡ slice_index delivered right
  pub taken : (delivered amounts : List ℕ) (l : Ledger) (node : ℕ) →
      taken_with b delivered l (length b.draws) amounts node
      ≡ total_where (length b.rights) (λ r. takes_at b r node) (λ r. slice_index delivered r)
  pub closing : (delivered holds : List ℕ) (reservoir : ℕ) →
      closing_with b delivered holds reservoir
      ≡ total_where (length b.rights) (λ r. is_zone_of b r reservoir) (λ r. slice_index delivered r)

-- A basin of format 1 or 2 is as before.
abbrev pub WithoutStoresNothingChanges : Type 0
WithoutStoresNothingChanges = (b : Basin) → IsWithoutStores b → IsAsWithoutStores b

-- The lists of a generated basin, whatever was drawn.
use Rattle.std.proofs.Common.{ℕ, ◌+◌, ◌-◌, ◌*◌, ◌/◌, ◌<◌, sym, arith, inl, inr, subst, All}
use Rattle.std.proofs.lemmas.Bool.{cases_lt}
use Rattle.water_model.specs.declared.types.Basin.{Basin}
use Rattle.water_model.specs.declared.types.Link.{Link}
use Rattle.water_model.specs.declared.types.Right.{Right}
use Rattle.basin_gen.specs.Draws.{later}
use Rattle.basin_gen.specs.Entries.{node_at, river_at, canal_at, reservoir_at, diversion_at, instream_at, return_at}
use Rattle.basin_gen.specs.Entries.{zone_at}
use Rattle.basin_gen.specs.Generator.{generated, nodes_of, rivers_of, canals_of, reservoirs_of, diversions_of}
use Rattle.basin_gen.specs.Generator.{instreams_of, zones_of, returns_of, draws_of_nodes, draws_of_turns}
use Rattle.basin_gen.specs.Generator.{turn_of_diversion, count_of_canals, count_of_reservoirs, count_of_turns}
use Rattle.basin_gen.specs.Generator.{before_nodes, before_rivers, before_canals, before_reservoirs, before_rights}
use Rattle.basin_gen.specs.Generator.{before_zones}
use Rattle.basin_gen.proofs.Places.{IsListOf, join, joined, joined_left, joined_right, listed, all_of}

-- what was drawn where the generator was there
pub record States : Type 0 where
  pub nodes : ℕ → ℕ
  pub rivers : ℕ → ℕ
  pub canals : ℕ → ℕ
  pub reservoirs : ℕ → ℕ
  pub diversions : ℕ → ℕ
  pub instreams : ℕ → ℕ
  pub zones : ℕ → ℕ
  pub returns : ℕ → ℕ

abbrev pub diversion_count : ℕ → ℕ
diversion_count size = count_of_turns size - count_of_turns size / 4

abbrev pub instream_count : ℕ → ℕ
instream_count size = count_of_turns size / 4

abbrev pub zone_count : ℕ → ℕ
zone_count size = 2 * count_of_reservoirs size

abbrev pub return_count : ℕ → ℕ
return_count size = (count_of_turns size + 3) / 4

abbrev pub link_count : ℕ → ℕ
link_count size = size - 1 + count_of_canals size

abbrev pub right_count : ℕ → ℕ
right_count size = diversion_count size + (instream_count size + zone_count size)

abbrev pub link_made : ℕ → States → ℕ → Link
link_made size s = joined (size - 1) (λ i. river_at size i (s.rivers i)) (λ j. canal_at size (4 * j + 1) (s.canals j))

abbrev pub diversion_made : ℕ → States → ℕ → Right
diversion_made size s d = diversion_at size (turn_of_diversion d) (s.diversions d)

abbrev pub instream_made : ℕ → States → ℕ → Right
instream_made size s j = instream_at size (4 * j + 3) (s.instreams j)

abbrev pub zone_made : States → ℕ → Right
zone_made s z = zone_at z (s.zones z)

abbrev pub other_made : ℕ → States → ℕ → Right
other_made size s = joined (instream_count size) (instream_made size s) (zone_made s)

abbrev pub right_made : ℕ → States → ℕ → Right
right_made size s = joined (diversion_count size) (diversion_made size s) (other_made size s)

pub record IsMade (b : Basin) (size : ℕ) (s : States) : Type 0 where
  pub nodes : IsListOf b.nodes size (λ i. node_at size i (s.nodes i))
  pub links : IsListOf b.links (link_count size) (link_made size s)
  pub reservoirs : IsListOf b.reservoirs (count_of_reservoirs size) (λ j. reservoir_at (40 * j + 20) (s.reservoirs j))
  pub rights : IsListOf b.rights (right_count size) (right_made size s)
  pub returns : IsListOf b.returns (return_count size) (λ j. return_at size (3 * j) (s.returns j))

pub states_of : ℕ → ℕ → States
states_of number size =
    let rights = before_rights number size in record {
      nodes = λ i. later (before_nodes number) (draws_of_nodes i);
      rivers = λ i. later (before_rivers number size) i;
      canals = λ j. later (before_canals number size) (2 * j);
      reservoirs = λ j. later (before_reservoirs number size) (2 * j);
      diversions = λ d. later rights (draws_of_turns (turn_of_diversion d));
      instreams = λ j. later rights (draws_of_turns (4 * j + 3));
      zones = λ z. later (before_zones number size) z;
      returns = λ j. later rights (draws_of_turns (4 * j) + 3);
    }

pub generated_made : (number size : ℕ) → IsMade (generated number size) size (states_of number size)
unfolding generated nodes_of rivers_of canals_of reservoirs_of diversions_of instreams_of zones_of returns_of states_of
generated_made number size =
    let s = states_of number size in record {
      nodes = listed size (λ i. node_at size i (s.nodes i));
      links = join _ _ (size - 1) (count_of_canals size) _ _
          (listed (size - 1) (λ i. river_at size i (s.rivers i)))
          (listed (count_of_canals size) (λ j. canal_at size (4 * j + 1) (s.canals j)));
      reservoirs = listed (count_of_reservoirs size) (λ j. reservoir_at (40 * j + 20) (s.reservoirs j));
      rights = join _ _ (diversion_count size) (instream_count size + zone_count size) _ _
          (listed (diversion_count size) (diversion_made size s))
          (join _ _ (instream_count size) (zone_count size) _ _ (listed (instream_count size) (instream_made size s))
          (listed (zone_count size) (zone_made s)));
      returns = listed (return_count size) (λ j. return_at size (3 * j) (s.returns j));
    }

-- what holds of the entries of two lists holds of both together
pub joined_each : {X : Type 0} → (P : X → Type 0) (n m : ℕ) (f g : ℕ → X) → ((i : ℕ) → i < n → P (f i)) →
    ((j : ℕ) → j < m → P (g j)) →
    (i : ℕ) → i < n + m → P (joined n f g i)
joined_each P n m f g left right i l = elim (cases_lt i n) [
  | inl below ↦ subst P (sym (joined_left n f g i below)) (left i below)
  | inr above ↦ subst P (sym (joined_right n f g i above)) (right (i - n) (omega arith))
]

-- the same of pairs of entries
pub joined_pairs : {X : Type 0} → (Q : X → X → Type 0) (n m : ℕ) (f g : ℕ → X) →
    ((i j : ℕ) → i < j → j < n → Q (f i) (f j)) → ((i j : ℕ) → i < n → j < m → Q (f i) (g j)) →
    ((i j : ℕ) → i < j → j < m → Q (g i) (g j)) →
    (i j : ℕ) → i < j → j < n + m → Q (joined n f g i) (joined n f g j)
joined_pairs Q n m f g left across right i j before l = elim (cases_lt j n) [
  | inl below ↦ (let first : i < n = omega arith in
      subst (λ x. Q x (joined n f g j)) (sym (joined_left n f g i first))
      (subst (λ y. Q (f i) y) (sym (joined_left n f g j below)) (left i j before below)))
  | inr above ↦ subst (λ y. Q (joined n f g i) y) (sym (joined_right n f g j above)) (elim (cases_lt i n) [
    | inl below ↦ subst (λ x. Q x (g (j - n))) (sym (joined_left n f g i below)) (across i (j - n) below (omega arith))
    | inr both ↦
        subst (λ x. Q x (g (j - n))) (sym (joined_right n f g i both))
        (right (i - n) (j - n) (omega arith) (omega arith))
  ])
]

-- what holds of each diversion, instream right and zone holds of each right
pub each_right : (P : Right → Type 0) (size : ℕ) (s : States) →
    ((d : ℕ) → d < diversion_count size → P (diversion_made size s d)) →
    ((j : ℕ) → j < instream_count size → P (instream_made size s j)) →
    ((z : ℕ) → z < zone_count size → P (zone_made s z)) →
    (i : ℕ) → i < right_count size → P (right_made size s i)
each_right P size s diversions instreams zones =
    joined_each P (diversion_count size) (instream_count size + zone_count size) (diversion_made size s)
    (other_made size s) diversions
    (joined_each P (instream_count size) (zone_count size) (instream_made size s) (zone_made s) instreams zones)

pub all_rights : (P : Right → Type 0) (b : Basin) (size : ℕ) (s : States) → IsMade b size s →
    ((i : ℕ) → i < right_count size → P (right_made size s i)) → All P b.rights
all_rights P b size s made each = all_of P b.rights (right_count size) (right_made size s) made.rights each

-- and what holds of each river and canal, of each link
pub all_links : (P : Link → Type 0) (b : Basin) (size : ℕ) (s : States) → IsMade b size s →
    ((i : ℕ) → i < size - 1 → P (river_at size i (s.rivers i))) →
    ((j : ℕ) → j < count_of_canals size → P (canal_at size (4 * j + 1) (s.canals j))) → All P b.links
all_links P b size s made rivers canals =
    all_of P b.links (link_count size) (link_made size s) made.links
    (joined_each P (size - 1) (count_of_canals size) (λ i. river_at size i (s.rivers i))
    (λ j. canal_at size (4 * j + 1) (s.canals j)) rivers canals)

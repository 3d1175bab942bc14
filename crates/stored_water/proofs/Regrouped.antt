-- Sums over the rights at a node, of what stands by account or by draw.
use Rattle.std.proofs.Common.{◌≡◌, ℕ, zero, suc, ◌<◌, Bool, true, false, refl, sym, ap, ◌∙◌, arith, List, [], ◌∷◌}
use Rattle.std.proofs.Common.{length, inl, inr}
use Rattle.std.proofs.lemmas.Bool.{and_parts, cases_Bool, eq-eqb, eqb-true, or_cases}
use Rattle.std.proofs.lemmas.Bool.Decides.{nat_tests}
use Rattle.std.proofs.lemmas.Option.{slice_get_within}
use Rattle.std.specs.List.{list_any}
use Rattle.std.specs.Prelude.{◌==◌, ◌&&◌, not, if◌then◌else◌, slice_index, slice_get, Option, Some, None, unwrap_or}
use Rattle.std.specs.Prelude.{option_map}
use Rattle.finite_sums.specs.Sums.{total, total_where}
use Rattle.finite_sums.proofs.Totals.{total_same, total_zero}
use Rattle.water_model.specs.Basin.{taking_node, taking_node_of_kind, takes_at, is_at, instream_link, node_of_reservoir}
use Rattle.water_model.specs.Basin.{is_zone_of, is_zone_of_kind}
use Rattle.water_model.specs.Lookups.{of_entry}
use Rattle.water_model.specs.Valid.{is_diversion, is_diversion_kind}
use Rattle.water_model.specs.declared.types.Basin.{Basin}
use Rattle.water_model.specs.declared.types.Right.{Right}
use Rattle.water_model.specs.declared.types.RightKind.{RightKind}
use Rattle.water_model.specs.declared.types.RightKind.TheVariants.{Diversion, Instream, Zone}
use Rattle.water_model.proofs.Sets.{at_one, grouped}
use Rattle.duality.proofs.Duality.{taker_on_no_link}
use Rattle.water_model.specs.declared.types.Account.{Account}
use Rattle.water_model.specs.declared.types.Draw.{Draw}
use Rattle.water_model.specs.Stores.{is_owned, is_of_zone, storing_node, sum_in_zone, reservoir_of_right}
use Rattle.water_model.specs.Stores.{reservoir_of_kind, is_in_reservoir, sum_in_reservoir, drawing_node}
use Rattle.water_model.specs.Accounts.{drawn_by, draws_for}
use Rattle.stored_water.specs.AccountLaws.{AreOfZones}
use Rattle.stored_water.proofs.Accounting.{zone_is_owned}

-- an index whose entry passes a test is one of the list's
entry_below : {X Y : Type 0} (xs : List X) (k : ℕ) (f : X → Y) (d : Y) (p : Y → Bool) → p d ≡ false →
    p (of_entry xs k f d) ≡ true → k < length xs
entry_below {X} {Y} xs k f d p none = of_get (slice_get xs k) refl
  where
    of_get : (o : Option X) → slice_get xs k ≡ o → p (unwrap_or (option_map f o) d) ≡ true → k < length xs
    of_get None e h = cc
    of_get (Some x) e h = slice_get_within xs k x e

-- a right that takes at a node is one of the basin's, and is on no link
pub takes_below : (b : Basin) (r n : ℕ) → takes_at b r n ≡ true → r < length b.rights
takes_below b r n h = entry_below b.rights r (λ x. taking_node_of_kind b x.kind) None (λ o. is_at o n) refl h

-- so is a diversion
pub diversion_below : (b : Basin) (r : ℕ) → is_diversion b r ≡ true → r < length b.rights
diversion_below b r h = entry_below b.rights r (λ x. is_diversion_kind x.kind) false (λ t. t) refl h

pub takes_on_no_link : (b : Basin) (r n : ℕ) → takes_at b r n ≡ true → instream_link b r ≡ None
takes_on_no_link b r n h = taker_on_no_link b (λ o. is_at o n) r refl h

pub no_test : (n : ℕ) (y : ℕ → Bool) → total n (λ v. if y v then 0 else 0) ≡ 0
no_test n y = total_zero n (λ v. if y v then 0 else 0) (λ v l. same (y v))
  where
    same : (t : Bool) → ◌≡◌ {A = ℕ} (if t then 0 else 0) 0
    same true = refl
    same false = refl

-- what stands by account in some zones is what stands in those of them that are owned
by_owned : (b : Basin) (in_it : ℕ → Bool) (within : ℕ → Bool) (f : ℕ → ℕ) →
    ((r : ℕ) → in_it r ≡ true → r < length b.rights) →
    ((k : ℕ) → within k ≡ of_entry b.accounts k (λ a. in_it a.zone) false) →
    total_where (length b.rights) (λ r. in_it r && is_owned b r) (λ r. sum_in_zone b f r)
    ≡ total_where (length b.accounts) within f
by_owned b in_it within f below same =
    grouped (length b.rights) (length b.accounts) (λ r. in_it r && is_owned b r)
    (λ k r. is_of_zone b k r) within f
    (λ k x. one x (slice_get b.accounts k) (λ zone. zone_is_owned b k zone)
    ∙ ap (λ t. if t then x else 0) (sym (same k)))
  where
    tested : (t o : Bool) (x : ℕ) → o ≡ true → (if t && o then x else 0) ≡ (if t then x else 0)
    tested t o x h = grind (arith, nat_tests)

    one : (x : ℕ) (o : Option Account) →
        ((zone : ℕ) → unwrap_or (option_map (λ a. Some a.zone) o) None ≡ Some zone → is_owned b zone ≡ true) →
        total (length b.rights)
        (λ r. if in_it r && is_owned b r
        then (if is_at (unwrap_or (option_map (λ a. Some a.zone) o) None) r then x else 0) else 0)
        ≡ (if unwrap_or (option_map (λ a. in_it a.zone) o) false then x else 0)
    one x None owned = no_test (length b.rights) (λ r. in_it r && is_owned b r)
    one x (Some a) owned =
        at_one (length b.rights) (λ r. in_it r && is_owned b r) a.zone x
        (λ h. below a.zone (and_parts (in_it a.zone) (is_owned b a.zone) h).0)
        ∙ tested (in_it a.zone) (is_owned b a.zone) x (owned a.zone refl)

-- so at a node
pub by_zones : (b : Basin) (n : ℕ) (f : ℕ → ℕ) →
    total_where (length b.rights) (λ r. takes_at b r n && is_owned b r) (λ r. sum_in_zone b f r)
    ≡ total_where (length b.accounts) (λ k. is_at (storing_node b k) n) f
by_zones b n f =
    by_owned b (λ r. takes_at b r n) (λ k. is_at (storing_node b k) n) f
    (λ r h. takes_below b r n h) (λ k. of_get (slice_get b.accounts k))
  where
    of_get : (o : Option Account) → is_at (unwrap_or (option_map (λ a. taking_node b a.zone) o) None) n
        ≡ unwrap_or (option_map (λ a. takes_at b a.zone n) o) false
    of_get None = refl
    of_get (Some a) = refl

-- what draws that are taken at their diversions' nodes bring to a node is what they bring to the diversions there
pub by_diversions : (b : Basin) (count : ℕ) (amounts : List ℕ) (n : ℕ) →
    ((j : ℕ) (d : Draw) → slice_get b.draws j ≡ Some d →
    (is_owned b d.diversion ≡ false) × (taking_node b d.diversion ≡ Some d.node)) →
    total_where (length b.rights) (λ r. takes_at b r n && not (is_owned b r)) (λ r. drawn_by b count amounts r)
    ≡ total_where count (λ j. is_at (drawing_node b j) n) (λ j. slice_index amounts j)
by_diversions b count amounts n apart =
    grouped (length b.rights) count (λ r. takes_at b r n && not (is_owned b r))
    (λ j r. draws_for b j r) (λ j. is_at (drawing_node b j) n) (λ j. slice_index amounts j)
    (λ j x. one x (slice_get b.draws j) (apart j))
  where
    tested : (t o : Bool) (x : ℕ) → o ≡ false → (if t && not o then x else 0) ≡ (if t then x else 0)
    tested t o x h = grind (arith, nat_tests)

    one : (x : ℕ) (o : Option Draw) →
        ((d : Draw) → o ≡ Some d → (is_owned b d.diversion ≡ false) × (taking_node b d.diversion ≡ Some d.node)) →
        total (length b.rights)
        (λ r. if takes_at b r n && not (is_owned b r)
        then (if unwrap_or (option_map (λ d. d.diversion == r) o) false then x else 0) else 0)
        ≡ (if is_at (unwrap_or (option_map (λ d. Some d.node) o) None) n then x else 0)
    one x None apart = no_test (length b.rights) (λ r. takes_at b r n && not (is_owned b r))
    one x (Some d) apart =
        at_one (length b.rights) (λ r. takes_at b r n && not (is_owned b r)) d.diversion x
        (λ h. takes_below b d.diversion n
        (and_parts (takes_at b d.diversion n) (not (is_owned b d.diversion)) h).0)
        ∙ (tested (takes_at b d.diversion n) (is_owned b d.diversion) x (apart d refl).0
        ∙ ap (λ o. if is_at o n then x else 0) (apart d refl).1)

-- ---- the kinds of rights

-- a diversion is no zone
pub kinds_apart : (b : Basin) (r v : ℕ) → is_diversion b r ≡ true → reservoir_of_right b r ≡ Some v → ⊥
kinds_apart b r v = of_get (slice_get b.rights r)
  where
    of_kind : (k : RightKind) → is_diversion_kind k ≡ true → reservoir_of_kind k ≡ Some v → ⊥
    of_kind (Diversion node) d h = cc
    of_kind (Instream link) d h = cc
    of_kind (Zone reservoir level) d h = cc

    of_get : (o : Option Right) → unwrap_or (option_map (λ x. is_diversion_kind x.kind) o) false ≡ true →
        unwrap_or (option_map (λ x. reservoir_of_kind x.kind) o) None ≡ Some v → ⊥
    of_get None d h = cc
    of_get (Some x) d h = of_kind x.kind d h

pub zone_test : (b : Basin) (r v : ℕ) → is_zone_of b r v ≡ is_at (reservoir_of_right b r) v
zone_test b r v = of_get (slice_get b.rights r)
  where
    of_kind : (k : RightKind) → is_zone_of_kind k v ≡ is_at (reservoir_of_kind k) v
    of_kind (Diversion node) = refl
    of_kind (Instream link) = refl
    of_kind (Zone reservoir level) = refl

    of_get : (o : Option Right) → unwrap_or (option_map (λ x. is_zone_of_kind x.kind v) o) false
        ≡ is_at (unwrap_or (option_map (λ x. reservoir_of_kind x.kind) o) None) v
    of_get None = refl
    of_get (Some x) = of_kind x.kind

zone_below : (b : Basin) (r v : ℕ) → is_zone_of b r v ≡ true → r < length b.rights
zone_below b r v h = entry_below b.rights r (λ x. is_zone_of_kind x.kind v) false (λ t. t) refl h

-- a zone takes at the node of its reservoir
pub node_via : (b : Basin) (r v : ℕ) → reservoir_of_right b r ≡ Some v → taking_node b r ≡ node_of_reservoir b v
node_via b r v = of_get (slice_get b.rights r)
  where
    of_kind : (k : RightKind) → reservoir_of_kind k ≡ Some v → taking_node_of_kind b k ≡ node_of_reservoir b v
    of_kind (Diversion node) h = cc
    of_kind (Instream link) h = cc
    of_kind (Zone reservoir level) h = let same : reservoir ≡ v = cc in ap (node_of_reservoir b) same

    of_get : (o : Option Right) → unwrap_or (option_map (λ x. reservoir_of_kind x.kind) o) None ≡ Some v →
        unwrap_or (option_map (λ x. taking_node_of_kind b x.kind) o) None ≡ node_of_reservoir b v
    of_get None h = cc
    of_get (Some x) h = of_kind x.kind h

reservoir_below : (b : Basin) (v n : ℕ) → is_at (node_of_reservoir b v) n ≡ true → v < length b.reservoirs
reservoir_below b v n h = entry_below b.reservoirs v (λ x. Some x.node) None (λ o. is_at o n) refl h

-- a right in a reservoir is one of the basin's
pub zone_in_basin : (b : Basin) (r v : ℕ) → reservoir_of_right b r ≡ Some v → r < length b.rights
zone_in_basin b r v h =
    zone_below b r v (zone_test b r v ∙ (ap (λ o. is_at o v) h ∙ eq-eqb v v refl))

-- an owned zone has an account
pub owner_in : (accounts : List Account) (r : ℕ) → list_any (λ a. a.zone == r) accounts ≡ true →
    (k : ℕ) × (a : Account) × (slice_get accounts k ≡ Some a) × (a.zone ≡ r)
owner_in [] r h = cc
owner_in (a ∷ accounts) r h = elim (or_cases (a.zone == r) (list_any (λ x. x.zone == r) accounts) h) [
  | inl here ↦ (zero, a, refl, eqb-true a.zone r here)
  | inr rest ↦ (let found = owner_in accounts r rest in (suc found.0, found.1, found.2, found.3))
]

-- so no diversion is owned
pub diversion_not_owned : (b : Basin) (r : ℕ) → AreOfZones b →
    is_diversion b r ≡ true → is_owned b r ≡ false
diversion_not_owned b r zones diversion = elim (cases_Bool (is_owned b r)) [
  | inl owned ↦
      (let found = owner_in b.accounts r owned in
      let zone = zones found.0 found.1 found.2 in
      absurd (kinds_apart b r zone.0 diversion (sym (ap (reservoir_of_right b) found.3) ∙ zone.1)))
  | inr free ↦ free
]

-- ---- reservoirs

-- what stands by account in a reservoir is what stands in its owned zones
pub by_reservoir_zones : (b : Basin) (v : ℕ) (f : ℕ → ℕ) →
    total_where (length b.rights) (λ r. is_zone_of b r v && is_owned b r) (λ r. sum_in_zone b f r)
    ≡ sum_in_reservoir b f v
by_reservoir_zones b v f =
    by_owned b (λ r. is_zone_of b r v) (λ k. is_in_reservoir b k v) f
    (λ r h. zone_below b r v h) (λ k. of_get (slice_get b.accounts k))
  where
    of_get : (o : Option Account) → is_at (unwrap_or (option_map (λ a. reservoir_of_right b a.zone) o) None) v
        ≡ unwrap_or (option_map (λ a. is_zone_of b a.zone v) o) false
    of_get None = refl
    of_get (Some a) = sym (zone_test b a.zone v)

-- what stands by account at a node is what stands in the reservoirs there
pub by_reservoirs : (b : Basin) (n : ℕ) (f : ℕ → ℕ) → AreOfZones b →
    total_where (length b.reservoirs) (λ v. is_at (node_of_reservoir b v) n) (λ v. sum_in_reservoir b f v)
    ≡ total_where (length b.accounts) (λ k. is_at (storing_node b k) n) f
by_reservoirs b n f zones =
    grouped (length b.reservoirs) (length b.accounts) (λ v. is_at (node_of_reservoir b v) n)
    (λ k v. is_in_reservoir b k v) (λ k. is_at (storing_node b k) n) f
    (λ k x. one x (slice_get b.accounts k) (zones k))
  where
    one : (x : ℕ) (o : Option Account) →
        ((a : Account) → o ≡ Some a → (v : ℕ) × (reservoir_of_right b a.zone ≡ Some v)) →
        total (length b.reservoirs)
        (λ v. if is_at (node_of_reservoir b v) n
        then (if is_at (unwrap_or (option_map (λ a. reservoir_of_right b a.zone) o) None) v then x else 0) else 0)
        ≡ (if is_at (unwrap_or (option_map (λ a. taking_node b a.zone) o) None) n then x else 0)
    one x None has = no_test (length b.reservoirs) (λ v. is_at (node_of_reservoir b v) n)
    one x (Some a) has =
        let at = has a refl in
        total_same (length b.reservoirs)
        (λ v. if is_at (node_of_reservoir b v) n
        then (if is_at (reservoir_of_right b a.zone) v then x else 0) else 0)
        (λ v. if is_at (node_of_reservoir b v) n then (if at.0 == v then x else 0) else 0)
        (λ v l. ap (λ o. if is_at (node_of_reservoir b v) n then (if is_at o v then x else 0) else 0) at.1)
        ∙ (at_one (length b.reservoirs) (λ v. is_at (node_of_reservoir b v) n) at.0 x
        (λ h. reservoir_below b at.0 n h)
        ∙ ap (λ o. if is_at o n then x else 0) (sym (node_via b a.zone at.0 at.1)))

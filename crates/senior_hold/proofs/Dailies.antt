-- What a link carries, by what it carries in a day.
use Rattle.std.proofs.Common.{◌≡◌, ◌⊎◌, ℕ, ◌-◌, ◌*◌, ◌^◌, ◌<◌, ◌≤◌, Bool, true, false, refl, ap, arith, sym, ◌∙◌}
use Rattle.std.proofs.Common.{List, [], ◌∷◌, ◌++◌, length, slice_index, slice_set, ◌+◌, inl, inr, subst, map, take}
use Rattle.std.proofs.Common.{get_or}
use Rattle.std.specs.Prelude.{slice_get, if◌then◌else◌, Some, unwrap_or, option_map}
use Rattle.std.proofs.lemmas.Bool.Decides.{eqb_tells}
use Rattle.std.proofs.lemmas.List.{get_or-map, get_or-set_same, get_or-set_other, length-map, length-set, map_more}
use Rattle.std.proofs.lemmas.List.{take_all}
use Rattle.std.proofs.lemmas.Option.{get_or_from_slice_get}
use Rattle.water_text.specs.Months.{days_of}
use Rattle.water_text.specs.declared.month.Month.{Month}
use Rattle.water_model.specs.Plans.{carry_of, carry_of_kind}
use Rattle.water_model.specs.Valid.{IsValidBasin, IsValidCarry, IsValidLink}
use Rattle.water_model.specs.declared.types.Basin.{Basin}
use Rattle.water_model.specs.declared.types.Carry.{Carry}
use Rattle.water_model.specs.declared.types.Carry.TheVariants.{River, Canal}
use Rattle.water_model.specs.declared.types.Link.{Link}
use Rattle.water_model.proofs.Valid.{entry_holds}
use Rattle.senior_hold.specs.Carries.{AreDailies, carry_in, dailies_in, daily_of_kind}
use Rattle.senior_hold.specs.declared.carries.TheConstants.{OF_RIVER}
use Rattle.senior_hold.proofs.Lists.{pushed_count, pushed_gets}

-- the row of a link
pub daily_at : (b : Basin) (position e : ℕ) → IsValidBasin b → e < length b.links →
    (x : Link) × (slice_get b.links e ≡ Some x) × IsValidCarry x.carry
    × (slice_index (dailies_in b position) e ≡ daily_of_kind x.carry position)
daily_at b position e valid l =
    let entry = entry_holds (λ x. IsValidLink b x) b.links e valid.links l in (
      entry.0,
      entry.1,
      entry.2.carry,
      get_or-map (λ (x : Link). daily_of_kind x.carry position) b.links e entry.0 0 l
          ∙ ap (λ (x : Link). daily_of_kind x.carry position) (get_or_from_slice_get b.links e entry.0 entry.0 entry.1),
    )

-- no canal carries so much in a day
pub small_or_river : (c : Carry) (position : ℕ) → IsValidCarry c →
    (daily_of_kind c position ≡ OF_RIVER) ⊎ (daily_of_kind c position ≤ 10 ^ 9)
small_or_river River position h = inl refl
small_or_river (Canal per_day shut) position h = inr (by_shut (unwrap_or (slice_get shut position) false))
  where
    by_shut : (t : Bool) → (if t then 0 else per_day) ≤ 10 ^ 9
    by_shut true = omega arith
    by_shut false = h.0

-- an amount that a canal can carry in a day
canal_carries : (daily days : ℕ) → daily ≤ 10 ^ 9 → carry_in daily days ≡ daily * days
canal_carries daily days small = elim (eqb_tells daily OF_RIVER) [
  | inl h ↦ absurd (let same = h.1 in omega arith)
  | inr h ↦ ap (λ (t : Bool). if t then 10 ^ 15 else daily * days) h.0
]

-- what it carries in a month
pub kind_carries : (c : Carry) (month : Month) → IsValidCarry c →
    carry_in (daily_of_kind c (month.month - 1)) (days_of month) ≡ carry_of_kind c month
kind_carries River month h = refl
kind_carries (Canal per_day shut) month h = by_shut (unwrap_or (slice_get shut (month.month - 1)) false)
  where
    none : (n : ℕ) → 0 * n ≡ 0
    none n = grind arith

    by_shut : (t : Bool) →
        carry_in (if t then 0 else per_day) (days_of month) ≡ (if t then 0 else per_day * days_of month)
    by_shut true = canal_carries 0 (days_of month) (omega arith) ∙ none (days_of month)
    by_shut false = canal_carries per_day (days_of month) h.0

-- the carry of a link
pub link_carries : (b : Basin) (month : Month) (e : ℕ) → IsValidBasin b → e < length b.links →
    carry_in (slice_index (dailies_in b (month.month - 1)) e) (days_of month) ≡ carry_of b month e
link_carries b month e valid l =
    let at = daily_at b (month.month - 1) e valid l in
    ap (λ (n : ℕ). carry_in n (days_of month)) at.3
    ∙ kind_carries at.0.carry month at.2
    ∙ sym (ap (λ o. unwrap_or (option_map (λ x. carry_of_kind x.carry month) o) 0) at.1)

-- what a link carries in a day is small, or that of a river
pub link_small : (b : Basin) (position e : ℕ) → IsValidBasin b → e < length b.links →
    (slice_index (dailies_in b position) e ≡ OF_RIVER) ⊎ (slice_index (dailies_in b position) e ≤ 10 ^ 9)
link_small b position e valid l =
    let at = daily_at b position e valid l in
    subst (λ (n : ℕ). (n ≡ OF_RIVER) ⊎ (n ≤ 10 ^ 9)) (sym at.3) (small_or_river at.0.carry position at.2)

-- the carries of the first links were written
pub record IsLaying (b : Basin) (month : Month) (row into : List ℕ) (count : ℕ) : Type 0 where
  pub row_is : row ≡ dailies_in b (month.month - 1)
  pub room : length b.links ≤ length into
  pub each : (e : ℕ) → e < count → slice_index into e ≡ carry_of b month e

-- the row has an amount for each link
pub row_length : (b : Basin) (position : ℕ) (row : List ℕ) → row ≡ dailies_in b position → length row ≡ length b.links
row_length b position row is = ap length is ∙ length-map b.links (λ (x : Link). daily_of_kind x.carry position)

-- one link more
pub laying_next : (b : Basin) (month : Month) (row into : List ℕ) (n days amount : ℕ) → IsValidBasin b →
    IsLaying b month row into n → n < length row → days ≡ days_of month → amount ≡ carry_in (slice_index row n) days →
    IsLaying b month row (slice_set into n amount) (n + 1)
laying_next b month row into n days amount valid now l days_is is = record {
  row_is = now.row_is;
  room = let size = length-set into n amount in let room = now.room in omega arith;
  each = λ e k. elim (eqb_tells e n) [
    | inl s ↦ subst (λ (x : ℕ). slice_index (slice_set into n amount) x ≡ carry_of b month x) (sym s.1)
        (get_or-set_same into n amount 0 (omega (arith, now.room, within))
        ∙ is
        ∙ ap (λ (d : ℕ). carry_in (slice_index row n) d) days_is
        ∙ ap (λ (r : List ℕ). carry_in (slice_index r n) (days_of month)) now.row_is
        ∙ link_carries b month n valid within)
    | inr s ↦ get_or-set_other into n e amount 0 s.1 ∙ now.each e (omega (arith, k, s.1))
  ];
}
  where
    within : n < length b.links
    within = let size = row_length b (month.month - 1) row now.row_is in omega arith

-- the next amount is small, or that of a river
pub next_small : (b : Basin) (month : Month) (row into : List ℕ) (n : ℕ) → IsValidBasin b →
    IsLaying b month row into n → n < length row → (slice_index row n ≡ OF_RIVER) ⊎ (slice_index row n ≤ 10 ^ 9)
next_small b month row into n valid now l =
    subst (λ (r : List ℕ). (slice_index r n ≡ OF_RIVER) ⊎ (slice_index r n ≤ 10 ^ 9)) (sym now.row_is)
    (link_small b (month.month - 1) n valid
    (let size = row_length b (month.month - 1) row now.row_is in omega arith))

-- the carry of a link that a loop over the links comes to
pub carry_at : (b : Basin) (links : List Link) (i : ℕ) (x : Link) → IsValidBasin b → links ≡ b.links →
    i < length links → x ≡ get_or links i x → IsValidCarry x.carry
carry_at b links i x valid same l is =
    subst (λ (y : Link). IsValidCarry y.carry) (sym (is ∙ ap (λ (ls : List Link). get_or ls i x) same))
    (valid.links i x (subst (λ (ls : List Link). i < length ls) same l)).carry

-- the row of the links before, and the amount of the next link
pub row_more : (b : Basin) (links : List Link) (position i : ℕ) (x : Link) (row more : List ℕ) (amount : ℕ) →
    links ≡ b.links → i < length links → x ≡ get_or links i x →
    row ≡ map (λ l. daily_of_kind l.carry position) (take i b.links) → amount ≡ daily_of_kind x.carry position →
    more ≡ row ++ amount ∷ [] → more ≡ map (λ l. daily_of_kind l.carry position) (take (i + 1) b.links)
row_more b links position i x row more amount same l is row_is amount_is more_is =
    more_is
    ∙ ap (λ (r : List ℕ). r ++ amount ∷ []) row_is
    ∙ ap (λ (n : ℕ). map (λ (l : Link). daily_of_kind l.carry position) (take i b.links) ++ n ∷ [])
    (amount_is ∙ ap (λ (y : Link). daily_of_kind y.carry position)
    (is ∙ ap (λ (ls : List Link). get_or ls i x) same))
    ∙ sym (map_more (λ (l : Link). daily_of_kind l.carry position) b.links i x
    (subst (λ (ls : List Link). i < length ls) same l))

-- the row of all links
pub row_whole : (b : Basin) (links : List Link) (position i : ℕ) (row : List ℕ) → links ≡ b.links →
    length links ≤ i → row ≡ map (λ l. daily_of_kind l.carry position) (take i b.links) → row ≡ dailies_in b position
row_whole b links position i row same l row_is =
    row_is ∙ ap (λ (ls : List Link). map (λ (l : Link). daily_of_kind l.carry position) ls)
    (take_all i b.links (subst (λ (ls : List Link). length ls ≤ i) same l))

-- the rows of a further calendar month
pub rows_more : (b : Basin) (rows more : List (List ℕ)) (n : ℕ) (row : List ℕ) → more ≡ rows ++ row ∷ [] →
    (length rows ≡ n) × ((p : ℕ) → p < n → slice_get rows p ≡ Some (dailies_in b p)) → row ≡ dailies_in b n →
    (length more ≡ n + 1) × ((p : ℕ) → p < n + 1 → slice_get more p ≡ Some (dailies_in b p))
rows_more b rows more n row is now here =
    (pushed_count rows more row n is now.0, pushed_gets (dailies_in b) rows more n row is now.0 now.1 here)

-- the rows of all calendar months
pub rows_whole : (b : Basin) (rows : List (List ℕ)) (n : ℕ) → n ≤ 12 → 12 ≤ n →
    (length rows ≡ n) × ((p : ℕ) → p < n → slice_get rows p ≡ Some (dailies_in b p)) → AreDailies b rows
rows_whole b rows n low high now = record {
  count = omega (arith, now.0, low, high);
  row = λ p l. now.1 p (omega (arith, l, high));
}

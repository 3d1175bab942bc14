-- A generated roll of rights is sound.
use Rattle.std.proofs.Common.{◌≡◌, ◌≢◌, ℕ, ◌+◌, ◌-◌, ◌*◌, ◌/◌, ◌%◌, ◌^◌, ◌<◌, ◌≤◌, Bool, true, false, refl, sym, ap}
use Rattle.std.proofs.Common.{subst, ◌∙◌, arith, List, [], ◌∷◌, ◌++◌, length, take, inl, inr}
use Rattle.std.specs.Prelude.{Option, Some, None, slice_get, nat_lt, if◌then◌else◌, ◌==◌, ◌||◌, ◌&&◌, not, ◌⊎◌, nat_le}
use Rattle.std.specs.Prelude.{unwrap_or, option_map}
use Rattle.std.specs.Fmt.{decimal}
use Rattle.std.specs.List.{list_any}
use Rattle.std.proofs.lemmas.Bool.{cases_lt, cases_Bool, or_left, lt-ltb, le-ltb, eqb-true, eqb-false, ne_eqb, eq-eqb}
use Rattle.std.proofs.lemmas.Bool.{and_right, and_from}
use Rattle.std.proofs.lemmas.Bool.Decides.{nat_tests}
use Rattle.std.proofs.lemmas.Fmt.{decimal_injective}
use Rattle.std.proofs.lemmas.List.{same_from_push}
use Rattle.finite_sums.specs.Sums.{total}
use Rattle.finite_sums.proofs.Totals.{total_same}
use Rattle.water_text.specs.Days.{is_date}
use Rattle.water_text.specs.Months.{days_in}
use Rattle.water_text.proofs.DayNumbers.{days_in-days_in_month}
use Rattle.water_model.specs.Lookups.{of_entry}
use Rattle.water_model.specs.Rights.{priority, priority_in, is_lower, has_bad_date, is_zone_kind, is_senior_zone}
use Rattle.water_model.specs.Rights.{is_zone_fault, has_zone_fault, parts_in, IsSoundRoll}
use Rattle.water_model.specs.Valid.{rows_of}
use Rattle.water_model.specs.declared.types.Basin.{Basin}
use Rattle.water_model.specs.declared.types.ReturnRow.{ReturnRow}
use Rattle.water_model.specs.declared.types.Right.{Right}
use Rattle.water_model.specs.declared.types.RightKind.TheVariants.{Zone}
use Rattle.basin_gen.specs.Draws.{next, drawn}
use Rattle.basin_gen.specs.Entries.{return_at, lower_zone_at, upper_zone_at, zone_at}
use Rattle.basin_gen.proofs.DrawLaws.{drawn_below}
use Rattle.basin_gen.proofs.Places.{joined_left, joined_right, entry_is, own_names, none_before, some_entry, one_term}
use Rattle.basin_gen.proofs.Lists.{IsMade, States, joined_each, joined_pairs, diversion_count, instream_count}
use Rattle.basin_gen.proofs.Lists.{zone_count, return_count, diversion_made, instream_made, zone_made, other_made}
use Rattle.basin_gen.proofs.Lists.{right_made, each_right, right_count}

-- a zone is the lower or the upper one of its reservoir
pub zone_by : (P : Right → Type 0) (z x : ℕ) → (z % 2 ≡ 0 → P (lower_zone_at (z / 2) x)) →
    (z % 2 ≡ 1 → P (upper_zone_at (z / 2) x)) → P (zone_at z x)
unfolding zone_at
zone_by P z x lower upper = by (z % 2 == 0) refl
  where
    by : (t : Bool) → (z % 2 == 0) ≡ t → P (if t then lower_zone_at (z / 2) x else upper_zone_at (z / 2) x)
    by true h = lower (eqb-true (z % 2) 0 h)
    by false h = let odd = eqb-false (z % 2) 0 h in upper (omega arith)

-- what a zone has
pub record IsZone (z : ℕ) (r : Right) : Type 0 where
  pub kind : r.kind ≡ Zone (z / 2) (1 + z % 2)
  pub order : r.order ≡ 10000 + 10000 * (z % 2) + z / 2
  pub priority : priority r ≡ (1880 + 60 * (z % 2)) ∷ 1 ∷ 1 ∷ r.order ∷ []
  pub name : r.name ≡ 122 ∷ decimal (z / 2) ++ (97 + z % 2) ∷ []

pub is_zone : (z x : ℕ) → IsZone z (zone_at z x)
is_zone z x =
    zone_by (IsZone z) z x
    (λ h. record {
      kind = ap (λ n. Zone (z / 2) (1 + n)) (sym h);
      order = omega arith;
      priority = ap (λ n. (1880 + 60 * n) ∷ 1 ∷ 1 ∷ (10000 + z / 2) ∷ []) (sym h);
      name = ap (λ n. 122 ∷ decimal (z / 2) ++ (97 + n) ∷ []) (sym h);
    })
    (λ h. record {
      kind = ap (λ n. Zone (z / 2) (1 + n)) (sym h);
      order = omega arith;
      priority = ap (λ n. (1880 + 60 * n) ∷ 1 ∷ 1 ∷ (20000 + z / 2) ∷ []) (sym h);
      name = ap (λ n. 122 ∷ decimal (z / 2) ++ (97 + n) ∷ []) (sym h);
    })

-- the orders of two rights differ
abbrev OtherOrder : Right → Right → Type 0
OtherOrder r s = r.order ≡ s.order → ⊥

pub orders_apart : (size : ℕ) (s : States) → size ≤ 2000 → (i j : ℕ) → i < j →
    j < right_count size →
    OtherOrder (right_made size s i) (right_made size s j)
orders_apart size s bounded =
    joined_pairs OtherOrder (diversion_count size) (instream_count size + zone_count size) (diversion_made size s)
    (other_made size s)
    (λ i j before within e. let same : i + i / 3 ≡ j + j / 3 = e in omega arith)
    (λ i j first within. joined_each (OtherOrder (diversion_made size s i)) (instream_count size) (zone_count size)
    (instream_made size s) (zone_made s)
    (λ j l e. let same : i + i / 3 ≡ 4 * j + 3 = e in omega arith)
    (λ j l e. let z = is_zone j (s.zones j) in let order = z.order in let same : i + i / 3 ≡ (zone_made s j).order =
    e in omega arith)
    j within)
    (joined_pairs OtherOrder (instream_count size) (zone_count size) (instream_made size s) (zone_made s)
    (λ i j before within e. let same : 4 * i + 3 ≡ 4 * j + 3 = e in omega arith)
    (λ i j first within e. let z = is_zone j (s.zones j) in let order = z.order in
    let same : 4 * i + 3 ≡ (zone_made s j).order = e in omega arith)
    (λ i j before within e. let y = is_zone i (s.zones i) in let z = is_zone j (s.zones j) in
    let one = y.order in let other = z.order in let same : (zone_made s i).order ≡ (zone_made s j).order = e in
    omega arith))

-- how a right is named: by its order, or as a zone
abbrev IsNamed : Right → Type 0
IsNamed r = ((letter : ℕ) × (letter < 122) × (r.order < 2 ^ 64) × (r.name ≡ letter ∷ decimal r.order))
    ⊎ ((j : ℕ) × (odd : ℕ) × (j < 2 ^ 64) × (r.order ≡ 10000 + 10000 * odd + j) ×
    (r.name ≡ 122 ∷ decimal j ++ (97 + odd) ∷ []))

same_order : (r t : Right) → IsNamed r → IsNamed t → r.name ≡ t.name → r.order ≡ t.order
same_order r t r_named t_named e = elim r_named [
  | inl a ↦ elim t_named [
    | inl c ↦ (let names : a.0 ∷ decimal r.order ≡ c.0 ∷ decimal t.order = sym a.3 ∙ e ∙ c.3 in
        let tails : decimal r.order ≡ decimal t.order = cc in decimal_injective r.order t.order a.2 c.2 tails)
    | inr c ↦ (let names : a.0 ∷ decimal r.order ≡ 122 ∷ decimal c.0 ++ (97 + c.1) ∷ [] = sym a.3 ∙ e ∙ c.4 in
        let heads : a.0 ≡ 122 = cc in absurd (omega (arith, a.1)))
  ]
  | inr a ↦ elim t_named [
    | inl c ↦ (let names : 122 ∷ decimal a.0 ++ (97 + a.1) ∷ [] ≡ c.0 ∷ decimal t.order = sym a.4 ∙ e ∙ c.3 in
        let heads : 122 ≡ c.0 = cc in absurd (omega (arith, c.1)))
    | inr c ↦
        (let names : 122 ∷ decimal a.0 ++ (97 + a.1) ∷ [] ≡ 122 ∷ decimal c.0 ++ (97 + c.1) ∷ [] = sym a.4 ∙ e ∙ c.4 in
        let tails : decimal a.0 ++ (97 + a.1) ∷ [] ≡ decimal c.0 ++ (97 + c.1) ∷ [] = cc in
        let parts = same_from_push (decimal a.0) (decimal c.0) (97 + a.1) (97 + c.1) tails in
        let number : a.0 ≡ c.0 = decimal_injective a.0 c.0 a.2 c.2 parts.0 in
        omega (arith, a.3, c.3, parts.1))
  ]
]

right_named : (size : ℕ) (s : States) → size ≤ 2000 → (i : ℕ) → i < right_count size → IsNamed (right_made size s i)
right_named size s bounded =
    each_right IsNamed size s
    (λ i l. inl (100, omega arith, omega arith, refl))
    (λ i l. inl (115, omega arith, omega arith, refl))
    (λ i l. let z = is_zone i (s.zones i) in inr (i / 2, i % 2, omega arith, z.order, z.name))

pub rights_own : (b : Basin) (size : ℕ) (s : States) → size ≤ 2000 → IsMade b size s →
    (i j : ℕ) → i < j → j < length b.rights →
    of_entry b.rights i (λ r. r.name) [] ≢ of_entry b.rights j (λ r. r.name) []
rights_own b size s bounded made =
    own_names b.rights (right_count size) (right_made size s) made.rights (λ r. r.name) []
    (λ i j before within e. orders_apart size s bounded i j before within
    (same_order (right_made size s i) (right_made size s j) (right_named size s bounded i (omega arith))
    (right_named size s bounded j within) e))

-- no two rights have one priority
pub priorities_apart : (b : Basin) (size : ℕ) (s : States) → size ≤ 2000 → IsMade b size s →
    (i j : ℕ) → i < j → j < length b.rights → priority_in b.rights i ≢ priority_in b.rights j
priorities_apart b size s bounded made =
    own_names b.rights (right_count size) (right_made size s) made.rights priority []
    (λ i j before within e. orders_apart size s bounded i j before within
    (last (right_made size s i) (right_made size s j) e))
  where
    last : (r t : Right) → priority r ≡ priority t → r.order ≡ t.order
    last r t e = cc

-- 1 January is a day
new_year : (year : ℕ) → 1 ≤ year → year ≤ 2999 → is_date (record { year = year; month = 1; day = 1 }) ≡ true
unfolding is_date
new_year year from to =
    let january : days_in year 1 ≡ 31 = days_in-days_in_month year 1 (omega arith) (omega arith) in
    tests year (days_in year 1) from to january
  where
    tests : (y days : ℕ) → 1 ≤ y → y ≤ 2999 → days ≡ 31 →
        (nat_le 1 y && nat_le y 2999) && (nat_le 1 1 && nat_le 1 12) && (nat_le 1 1 && nat_le 1 days) ≡ true
    tests y days a c e = grind (arith, nat_tests)

abbrev HasDay : Right → Type 0
HasDay r = has_bad_date r ≡ false

drawn_year : (x : ℕ) → is_date (record { year = 1850 + drawn x 100; month = 1; day = 1 }) ≡ true
drawn_year x = let below = drawn_below x 100 (omega arith) in new_year (1850 + drawn x 100) (omega arith) (omega arith)

right_dated : (size : ℕ) (s : States) (i : ℕ) → i < right_count size → HasDay (right_made size s i)
right_dated size s =
    each_right HasDay size s
    (λ d l. ap not (drawn_year (next (s.diversions d))))
    (λ j l. ap not (drawn_year (next (s.instreams j))))
    (λ z l. zone_by HasDay z (s.zones z)
    (λ h. ap not (new_year 1880 (omega arith) (omega arith)))
    (λ h. ap not (new_year 1940 (omega arith) (omega arith))))

-- which right stands at an index
pub first_right : (size : ℕ) (s : States) (i : ℕ) → i < diversion_count size →
    right_made size s i ≡ diversion_made size s i
first_right size s i l = joined_left (diversion_count size) (diversion_made size s) (other_made size s) i l

next_right : (size : ℕ) (s : States) (i : ℕ) → diversion_count size ≤ i →
    i - diversion_count size < instream_count size →
    right_made size s i ≡ instream_made size s (i - diversion_count size)
next_right size s i l m =
    joined_right (diversion_count size) (diversion_made size s) (other_made size s) i l
    ∙ joined_left (instream_count size) (instream_made size s) (zone_made s) (i - diversion_count size) m

abbrev zone_number : ℕ → ℕ → ℕ
zone_number size i = i - diversion_count size - instream_count size

last_right : (size : ℕ) (s : States) (i : ℕ) → diversion_count size ≤ i →
    instream_count size ≤ i - diversion_count size →
    right_made size s i ≡ zone_made s (zone_number size i)
last_right size s i l m =
    joined_right (diversion_count size) (diversion_made size s) (other_made size s) i l
    ∙ joined_right (instream_count size) (instream_made size s) (zone_made s) (i - diversion_count size) m

-- no zone before a zone has its reservoir and level
other_zone : (y z : ℕ) → y < z → (y / 2 == z / 2 && 1 + y % 2 == 1 + z % 2) ≡ false
other_zone y z l = by (y / 2 == z / 2) (1 + y % 2 == 1 + z % 2) refl refl
  where
    by : (p q : Bool) → (y / 2 == z / 2) ≡ p → (1 + y % 2 == 1 + z % 2) ≡ q → p && q ≡ false
    by false q a c = refl
    by true false a c = refl
    by true true a c = let h = eqb-true (y / 2) (z / 2) a in let k = eqb-true (1 + y % 2) (1 + z % 2) c in
        absurd (omega arith)

-- of the rights before zone z none is a zone of its reservoir and level
no_such_zone : (size : ℕ) (s : States) (z k : ℕ) → k < diversion_count size + instream_count size + z →
    is_zone_kind (z / 2) (1 + z % 2) (right_made size s k).kind ≡ false
no_such_zone size s z k l = elim (cases_lt k (diversion_count size)) [
  | inl first ↦ ap (λ r. is_zone_kind (z / 2) (1 + z % 2) r.kind) (first_right size s k first)
  | inr after ↦ elim (cases_lt (k - diversion_count size) (instream_count size)) [
    | inl second ↦ ap (λ r. is_zone_kind (z / 2) (1 + z % 2) r.kind) (next_right size s k after second)
    | inr third ↦ (let y = zone_number size k in let is = is_zone y (s.zones y) in
        ap (λ r. is_zone_kind (z / 2) (1 + z % 2) r.kind) (last_right size s k after third)
        ∙ ap (is_zone_kind (z / 2) (1 + z % 2)) is.kind ∙ other_zone y z (omega arith))
  ]
]

-- the lower zone of a reservoir is senior to the upper one
lower_is_senior : (y z x w : ℕ) → z ≡ y + 1 → z % 2 ≡ 1 →
    is_senior_zone (z / 2) (1 + z % 2 - 1) (priority (zone_at z w)) (zone_at y x) ≡ true
lower_is_senior y z x w e odd =
    let lower = is_zone y x in
    let upper = is_zone z w in
    let is_it : is_zone_kind (z / 2) (1 + z % 2 - 1)
    (zone_at y x).kind ≡ (y / 2 == z / 2 && 1 + y % 2 == 1 + z % 2 - 1) =
    ap (is_zone_kind (z / 2) (1 + z % 2 - 1)) lower.kind in
    let senior : is_lower (priority (zone_at y x)) (priority (zone_at z w)) ≡ true =
    ap (λ (p : List ℕ). is_lower p (priority (zone_at z w))) lower.priority
    ∙ ap (λ (p : List ℕ). is_lower ((1880 + 60 * (y % 2)) ∷ 1 ∷ 1 ∷ (zone_at y x).order ∷ []) p) upper.priority
    ∙ or_left _ _ (lt-ltb (1880 + 60 * (y % 2)) (1880 + 60 * (z % 2)) (omega arith)) in
    and_from _ _
    (is_it ∙ and_from _ _ (eq-eqb (y / 2) (z / 2) (omega arith)) (eq-eqb (1 + y % 2) (1 + z % 2 - 1) (omega arith)))
    senior

-- whether a right would be a zone at fault at an index
abbrev fault_at : Basin → ℕ → Right → Bool
fault_at b i r = is_zone_fault b.rights (take i b.rights) (priority r) r.kind

zone_is_fine : (b : Basin) (size : ℕ) (s : States) → IsMade b size s → (i z : ℕ) →
    i ≡ diversion_count size + instream_count size + z → z < zone_count size → fault_at b i (zone_made s z) ≡ false
zone_is_fine b size s made i z e l =
    let is = is_zone z (s.zones z) in
    let none : list_any (λ r. is_zone_kind (z / 2) (1 + z % 2) r.kind) (take i b.rights) ≡ false =
    none_before (λ r. is_zone_kind (z / 2) (1 + z % 2) r.kind) b.rights (right_count size) (right_made size s) i
    (omega arith) made.rights (λ k m. no_such_zone size s z k (omega arith)) in
    ap (λ k. is_zone_fault b.rights (take i b.rights) (priority (zone_made s z)) k) is.kind
    ∙ by_level (z % 2) _ _ none refl (λ odd. below odd)
  where
    by_level : (odd : ℕ) (repeated has : Bool) → repeated ≡ false → z % 2 ≡ odd → (z % 2 ≡ 1 → has ≡ true) →
        repeated || (nat_lt 1 (1 + odd) && not has) ≡ false
    by_level odd repeated has none same lower = elim (cases_lt 0 odd) [
      | inl some ↦ rw (none, lower (omega arith)) (and_right (nat_lt 1 (1 + odd)) false refl)
      | inr even ↦ rw (none, le-ltb 1 (1 + odd) (omega arith)) refl
    ]

    below : z % 2 ≡ 1 → list_any (is_senior_zone (z / 2) (1 + z % 2 - 1) (priority (zone_made s z))) b.rights ≡ true
    below odd =
        let at : slice_get b.rights (i - 1) ≡ Some (right_made size s (i - 1)) = made.rights.at (i - 1) (omega arith) in
        let which : right_made size s (i - 1) ≡ zone_made s (zone_number size (i - 1)) =
        last_right size s (i - 1) (omega arith) (omega arith) in
        some_entry (is_senior_zone (z / 2) (1 + z % 2 - 1) (priority (zone_made s z))) b.rights (i - 1)
        (right_made size s (i - 1)) at
        (ap (is_senior_zone (z / 2) (1 + z % 2 - 1) (priority (zone_made s z))) which
        ∙ lower_is_senior (zone_number size (i - 1)) z (s.zones (zone_number size (i - 1))) (s.zones z) (omega arith)
        odd)

-- zones stand in order
no_zone_fault : (b : Basin) (size : ℕ) (s : States) → IsMade b size s → (i : ℕ) → i < right_count size →
    has_zone_fault b.rights i ≡ false
no_zone_fault b size s made i l =
    entry_is b.rights (right_count size) (right_made size s) made.rights (fault_at b i) false i l
    ∙ elim (cases_lt i (diversion_count size)) [
      | inl first ↦ ap (fault_at b i) (first_right size s i first)
      | inr after ↦ elim (cases_lt (i - diversion_count size) (instream_count size)) [
        | inl second ↦ ap (fault_at b i) (next_right size s i after second)
        | inr third ↦
            ap (fault_at b i) (last_right size s i after third)
            ∙ zone_is_fine b size s made i (zone_number size i) (omega arith) (omega arith)
      ]
    ]

-- of the return rows at most one is a right's
one_row : (b : Basin) (size : ℕ) (s : States) → IsMade b size s → (right most : ℕ) (amount : ReturnRow → ℕ) →
    ((k : ℕ) → amount (return_at size (3 * k) (s.returns k)) ≤ most) →
    total (length b.returns) (λ k. of_entry b.returns k (λ row. if row.right == right then amount row else 0) 0) ≤ most
one_row b size s made right most amount small =
    one_term (length b.returns) (λ k. of_entry b.returns k (λ row. if row.right == right then amount row else 0) 0) most
    (λ k l. subst (λ n. n ≤ most) (sym (term k l))
    (at_most (3 * k == right) (amount (return_at size (3 * k) (s.returns k))) (small k)))
    (λ i j before l. elim (cases_Bool (3 * i == right)) [
      | inl here ↦ (let same = eqb-true (3 * i) right here in
          inr (term j l ∙ rw (ne_eqb (3 * j) right (λ e. omega arith)) refl))
      | inr none ↦ inl (term i (omega arith) ∙ rw none refl)
    ])
  where
    term : (k : ℕ) → k < length b.returns →
        of_entry b.returns k (λ row. if row.right == right then amount row else 0)
        0 ≡ (if 3 * k == right then amount (return_at size (3 * k) (s.returns k)) else 0)
    term k l = let len = made.returns.count in
        entry_is b.returns (return_count size) (λ j. return_at size (3 * j) (s.returns j)) made.returns
        (λ row. if row.right == right then amount row else 0) 0 k (omega arith)

    at_most : (t : Bool) (x : ℕ) → x ≤ most → (if t then x else 0) ≤ most
    at_most true x h = h
    at_most false x h = omega arith

bounded_parts : (b : Basin) (size : ℕ) (s : States) → IsMade b size s → (right : ℕ) → parts_in b.returns right ≤ 10000
bounded_parts b size s made right =
    one_row b size s made right 10000 (λ row. row.part) (λ k. let below =
    drawn_below (next (s.returns k)) 8000 (omega arith) in omega arith)

pub bounded_rows : (b : Basin) (size : ℕ) (s : States) → IsMade b size s → (right : ℕ) → rows_of b right ≤ 8
bounded_rows b size s made right =
    let one = one_row b size s made right 1 (λ row. 1) (λ k. omega arith) in
    let same : rows_of b right ≡ total (length b.returns)
    (λ k. of_entry b.returns k (λ row. if row.right == right then 1 else 0) 0) =
    total_same (length b.returns) (λ k. if of_entry b.returns k (λ row. row.right == right) false then 1 else 0)
    (λ k. of_entry b.returns k (λ row. if row.right == right then 1 else 0) 0)
    (λ k l. by_entry (slice_get b.returns k)) in
    omega arith
  where
    by_entry : (o : Option ReturnRow) →
        ◌≡◌ {A = ℕ} (if unwrap_or (option_map (λ (row : ReturnRow). row.right == right) o) false then 1 else 0)
        (unwrap_or (option_map (λ (row : ReturnRow). if row.right == right then 1 else 0) o) 0)
    by_entry None = refl
    by_entry (Some row) = refl

pub roll_sound : (b : Basin) (size : ℕ) (s : States) → size ≤ 2000 → IsMade b size s → IsSoundRoll b.rights b.returns
roll_sound b size s bounded made =
    let len = made.rights.count in record {
      dates = λ r l.
          entry_is b.rights (right_count size) (right_made size s) made.rights has_bad_date false r (omega arith)
          ∙ right_dated size s r (omega arith);
      strict = priorities_apart b size s bounded made;
      zones = λ r l. no_zone_fault b size s made r (omega arith);
      parts = λ r l. bounded_parts b size s made r;
    }

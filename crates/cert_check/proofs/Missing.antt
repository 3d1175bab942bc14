-- Which rights a line passes over, by the order of seniority.
use Rattle.std.proofs.Math.Bool.{or-false}
use Rattle.std.proofs.Common.{◌≡◌, ℕ, zero, suc, ◌<◌, Bool, true, false, refl, sym, ap, ◌∙◌, arith, inl, inr, List, []}
use Rattle.std.proofs.Common.{◌∷◌, length, take, drop}
use Rattle.std.specs.Prelude.{None, ◌⊎◌, ◌||◌, is_none, slice_index}
use Rattle.std.specs.List.{list_any}
use Rattle.std.proofs.lemmas.Bool.{cases_Bool, and_parts}
use Rattle.water_model.specs.Basin.{is_senior}
use Rattle.water_model.specs.History.{cut_of}
use Rattle.water_model.specs.Indices.{seniors_first}
use Rattle.water_model.specs.Valid.{IsValidBasin}
use Rattle.result_lines.specs.declared.item.Item.{Item}
use Rattle.water_model.specs.declared.types.Basin.{Basin}
use Rattle.water_model.specs.declared.types.Series.{Series}
use Rattle.water_model.proofs.Order.{Has, IsOrdered, seniors_have, seniors_below, seniors_ordered}
use Rattle.water_model.proofs.Seniority.{senior_trans}
use Rattle.result_reader.specs.ReadSoFar.{ReadSoFar}
use Rattle.cut_cert.specs.Callers.{is_short}
use Rattle.cert_check.specs.Checking.{passes, cut_missing}
use Rattle.cert_check.specs.Keeping.{Keeps, lacks_call}
use Rattle.cert_check.specs.Walks.{ArePassed, IsMissed}
use Rattle.cert_check.specs.declared.state.CheckState.{CheckState}
use Rattle.cert_check.proofs.Calls.{clash, missing_fails, none_missing}
use Rattle.cert_check.proofs.Rows.{each_fails}
use Rattle.rights_roll.proofs.Seniors.{has-get_or}

-- an element stands before an index or from it on
by_index : (xs : List ℕ) (k y : ℕ) → Has xs y → Has (take k xs) y ⊎ Has (drop k xs) y
by_index xs zero y h = inr h
by_index [] (suc k) y h = absurd h
by_index (x ∷ xs) (suc k) y (inl e) = inl (inl e)
by_index (x ∷ xs) (suc k) y (inr h) = elim (by_index xs k y h) [ inl prefix ↦ inl (inr prefix) | inr after ↦ inr after ]

-- from an index on each right is the one there, or junior to it
after_index : (b : Basin) (xs : List ℕ) (k : ℕ) {y : ℕ} → IsOrdered b.rights xs → Has (drop k xs) y →
    (k < length xs) × ((y ≡ slice_index xs k) ⊎ (is_senior b (slice_index xs k) y ≡ true))
after_index b [] zero o m = absurd m
after_index b [] (suc k) o m = absurd m
after_index b (x ∷ xs) zero o (inl e) = (omega arith, inl e)
after_index b (x ∷ xs) zero {y} o (inr m) = (omega arith, inr (o.0 y m))
after_index b (x ∷ xs) (suc k) {y} o m = (let f = after_index b xs k o.1 m in (omega (arith, f.0), f.1))

-- a line passes over no right after one that it doesn't pass over
not_passed : (b : Basin) (item : Item) {x y : ℕ} → passes b item x ≡ false → (y ≡ x) ⊎ (is_senior b x y ≡ true) →
    passes b item y ≡ false
not_passed b item h e = grind (arith, senior_trans)

-- rights that lack their calls by what was read do so by the check state's record
pub lacks_read : {b : Basin} {series : Series} {a : CheckState} {t : ReadSoFar} → Keeps b series a t → (xs : List ℕ) →
    list_any (lacks_call a.month) xs ≡ list_any (lacks_call t.now) xs
lacks_read k xs = rw (k.month.shows.delivered, k.month.shows.want, k.month.shows.sets) refl

pub none_missed : {b : Basin} {series : Series} {a : CheckState} {t : ReadSoFar} {item : Item} {count : ℕ} →
    IsValidBasin b → Keeps b series a t → ArePassed b a.month item count → cut_missing b t item ≡ false
none_missed {b} {series} {a} {t} {item} {count} valid k p = missing_fails b t item
    (λ r l short free passed. missed r short free passed
    (by_index (seniors_first b) count r (seniors_have b.rights r l)))
  where
    lacks : (r : ℕ) → is_short t.now r ≡ true → cut_of t.now r ≡ None → lacks_call t.now r ≡ true
    lacks r short free = rw (short, free) refl

    missed : (r : ℕ) → is_short t.now r ≡ true → cut_of t.now r ≡ None → passes b item r ≡ true →
        Has (take count (seniors_first b)) r ⊎ Has (drop count (seniors_first b)) r → ⊥
    missed r short free passed (inl prefix) = clash (sym (lacks r short free)
        ∙ each_fails (lacks_call t.now) (take count (seniors_first b))
        (sym (lacks_read k (take count (seniors_first b))) ∙ p.settled) prefix)
    missed r short free passed (inr after) =
        let position = after_index b (seniors_first b) count (seniors_ordered b.rights valid.roll.strict) after in
        clash (sym passed ∙ not_passed b item (p.next position.0) position.1)

pub some_missed : {b : Basin} {series : Series} {a : CheckState} {t : ReadSoFar} {item : Item} → Keeps b series a t →
    IsMissed b a.month item → cut_missing b t item ≡ true
some_missed {b} {series} {a} {t} {item} k m = elim (cases_Bool (cut_missing b t item)) [
  | inl yes' ↦ yes'
  | inr no' ↦ absurd (never no')
]
  where
    r : ℕ
    r = slice_index (seniors_first b) m.position

    so_far : lacks_call t.now r ≡ true
    so_far = sym (one (lacks_call a.month) (lacks_call t.now) (lacks_read k (r ∷ []))) ∙ m.lacks
      where
        either : (x y : Bool) → x || false ≡ y || false → x ≡ y
        either x y e = sym (or-false x) ∙ (e ∙ or-false y)

        one : (p q : ℕ → Bool) → list_any p (r ∷ []) ≡ list_any q (r ∷ []) → p r ≡ q r
        one p q e = either (p r) (q r) e

    never : cut_missing b t item ≡ false → ⊥
    never none =
        let two = and_parts (is_short t.now r) (is_none (cut_of t.now r)) so_far in
        let set =
        none_missing b t item none (seniors_below b.rights r (has-get_or (seniors_first b) m.position m.within)) two.0
        m.passed in
        clash (sym two.1 ∙ ap is_none set.1)

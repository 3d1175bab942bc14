-- Writes of a plan's numbers at the indices of their arcs.
use Rattle.std.proofs.Common.{◌≡◌, ◌≢◌, ℕ, ◌+◌, ◌<◌, ◌≤◌, true, false, sym, ◌∙◌, ap, arith, List, length, inl, inr}
use Rattle.std.proofs.Common.{get_or, get_or-set_same, get_or-set_other}
use Rattle.std.proofs.lemmas.Bool.{cases_lt, cases_eq}
use Rattle.std.proofs.lemmas.Grind.{same_number_lists, get_or_default_zero}
use Rattle.std.specs.Prelude.{slice_index, slice_set, is_some, if◌then◌else◌}
use Rattle.finite_sums.specs.Sums.{count_where}
use Rattle.finite_sums.proofs.Totals.{count_less, total_where_more}
use Rattle.water_model.specs.Basin.{is_outlet}
use Rattle.water_model.specs.Valid.{IsValidBasin}
use Rattle.water_model.specs.declared.types.Basin.{Basin}
use Rattle.water_model.specs.declared.types.Plan.{Plan}
use Rattle.senior_hold.specs.MonthNetwork.{takes, take_arc, out_arc, right_arc, arc_by_link, taker_count, list_of}
use Rattle.senior_hold.specs.Arcs.{AreArcs, AreAmountsOf}
use Rattle.senior_hold.specs.declared.arcs.Arcs.{Arcs}
use Rattle.senior_hold.proofs.MonthArcs.{IsKind, on_link, at_node, right_kind, take_arc_below, take_arc_apart}
use Rattle.senior_hold.proofs.Plans.{list_get, list_len}

-- the arc of a right that takes
pub takes_arc : (b : Basin) (r : ℕ) → IsValidBasin b → r < length b.rights → takes b r ≡ true →
    right_arc b r ≡ take_arc b r
takes_arc b r valid l h = of_kind (right_kind b valid r l)
  where
    of_kind : IsKind b r → right_arc b r ≡ take_arc b r
    of_kind (on_link e k i t) = absurd (let s = sym (ap is_some t) ∙ h in cc (s))
    of_kind (at_node v k i t) = ap (arc_by_link b r) i

-- an arc that is read
pub right_arc_read : (b : Basin) (arcs : Arcs) (r got : ℕ) → AreArcs b arcs → r < length b.rights →
    got ≡ get_or arcs.rights.items r got → got ≡ right_arc b r
right_arc_read b arcs r got are l at = at
    ∙ get_or_default_zero arcs.rights.items r got (let n = are.right_count in omega arith) ∙ are.right r l

-- it is among the arcs
pub takes_arc_in : (b : Basin) (r arc : ℕ) → IsValidBasin b → r < length b.rights → takes b r ≡ true →
    arc ≡ right_arc b r → arc < length b.links + taker_count b
takes_arc_in b r arc valid l h is = omega (arith, is, takes_arc b r valid l h, take_arc_below b r l h)

pub numbers_take : (b : Basin) (p : Plan) (into into' : List ℕ) (r x arc : ℕ) → r < length b.rights → takes b r ≡ true →
    arc ≡ take_arc b r → arc < length into → into' ≡ slice_set into arc x → x ≡ slice_index p.take r →
    AreAmountsOf b p (λ a. slice_index into a) (length b.links) r 0 → AreAmountsOf b p (λ a. slice_index into' a)
    (length b.links) (r + 1) 0
numbers_take b p into into' r x arc l h is inside write value now = record {
  on_links = λ e k. there e (λ s. absurd (omega arith)) ∙ now.on_links e k;
  on_takes = λ s k t. elim (cases_eq s r) [
    | inl same ↦ ap (λ r. slice_index into' (take_arc b r)) same
        ∙ (ap (slice_index into') (sym is) ∙ (here ∙ (value ∙ ap (slice_index p.take) (sym same))))
    | inr ne ↦ there (take_arc b s) (λ e. ne (take_arc_apart b s r t h (e ∙ is)))
        ∙ now.on_takes s (let q : s < r = omega arith in q) t
  ];
  on_outs = λ n k o. absurd (omega arith);
}
  where
    here : slice_index into' arc ≡ x
    here = ap (λ (xs : List ℕ). slice_index xs arc) write ∙ get_or-set_same into arc x 0 inside

    there : (a : ℕ) → a ≢ arc → slice_index into' a ≡ slice_index into a
    there a ne = ap (λ (xs : List ℕ). slice_index xs a) write ∙ get_or-set_other into arc a x 0 ne

pub numbers_skip : (b : Basin) (p : Plan) (g : ℕ → ℕ) (r : ℕ) → takes b r ≡ false →
    AreAmountsOf b p g (length b.links) r 0 → AreAmountsOf b p g (length b.links) (r + 1) 0
numbers_skip b p g r h now = record {
  on_links = now.on_links;
  on_takes = λ s k t. elim (cases_eq s r) [
    | inl same ↦ absurd (let e = sym h ∙ (ap (takes b) (sym same) ∙ t) in cc (e))
    | inr ne ↦ now.on_takes s (let q : s < r = omega arith in q) t
  ];
  on_outs = λ n k o. absurd (omega arith);
}

pub numbers_out : (b : Basin) (p : Plan) (into into' : List ℕ) (n x arc : ℕ) → n < length b.nodes →
    is_outlet b n ≡ true → arc ≡ out_arc b n → arc < length into → into' ≡ slice_set into arc x →
    x ≡ slice_index p.out n → AreAmountsOf b p (λ a. slice_index into a) (length b.links) (length b.rights) n →
    AreAmountsOf b p (λ a. slice_index into' a) (length b.links) (length b.rights) (n + 1)
numbers_out b p into into' n x arc l h is inside write value now = record {
  on_links = λ e k. there e (λ s. absurd (omega arith)) ∙ now.on_links e k;
  on_takes = λ s k t. there (take_arc b s) (λ e. absurd (omega (arith, take_arc_below b s k t))) ∙ now.on_takes s k t;
  on_outs = λ m k o. elim (cases_lt m n) [
    | inl below ↦ there (out_arc b m) (λ e. absurd (omega (arith, count_less m n (λ n. is_outlet b n) below o)))
        ∙ now.on_outs m below o
    | inr above ↦ (let same : m ≡ n = omega arith in
        ap (λ n. slice_index into' (out_arc b n)) same
        ∙ (ap (slice_index into') (sym is) ∙ (here ∙ (value ∙ ap (slice_index p.out) (sym same)))))
  ];
}
  where
    here : slice_index into' arc ≡ x
    here = ap (λ (xs : List ℕ). slice_index xs arc) write ∙ get_or-set_same into arc x 0 inside

    there : (a : ℕ) → a ≢ arc → slice_index into' a ≡ slice_index into a
    there a ne = ap (λ (xs : List ℕ). slice_index xs a) write ∙ get_or-set_other into arc a x 0 ne

-- a list that is known index by index
pub list_is : (n k : ℕ) (f : ℕ → ℕ) (xs : List ℕ) → length xs ≡ n → n ≤ k → ((i : ℕ) → i < k → slice_index xs i ≡ f i) →
    xs ≡ list_of n f
list_is n k f xs size enough each =
    same_number_lists xs (list_of n f) (size ∙ sym (list_len n f)) (λ i l. each i (omega arith)
    ∙ sym (list_get n f i (omega arith)))

-- one number more is written
pub one_more_is : (xs : List ℕ) (n x : ℕ) (f : ℕ → ℕ) → n < length xs → x ≡ f n →
    ((r : ℕ) → r < n → slice_index xs r ≡ f r) → (r : ℕ) → r < n + 1 → slice_index (slice_set xs n x) r ≡ f r
one_more_is xs n x f inside is each r below = elim (cases_lt r n) [
  | inl before ↦ get_or-set_other xs n r x 0 (omega (arith, before)) ∙ each r before
  | inr from ↦ (let same : r ≡ n = omega arith in
      ap (λ k. slice_index (slice_set xs n x) k) same ∙ get_or-set_same xs n x 0 inside ∙ is ∙ sym (ap f same))
]

pub counted_more : (b : Basin) (r count more : ℕ) → more ≡ count + 1 → count ≡ count_where r (λ r. takes b r) →
    takes b r ≡ true → more ≡ count_where (r + 1) (λ r. takes b r)
counted_more b r count more is now h = let t : (if takes b r then 1 else 0) ≡ 0 + 1 = ap (λ t. if t then 1 else 0) h in
    omega (arith, total_where_more r (λ r. takes b r) (λ k. 1))

pub counted_same : (b : Basin) (r count more : ℕ) → more ≡ count → count ≡ count_where r (λ r. takes b r) →
    takes b r ≡ false → more ≡ count_where (r + 1) (λ r. takes b r)
counted_same b r count more is now h = let t : (if takes b r then 1 else 0) ≡ 0 + 0 = ap (λ t. if t then 1 else 0) h in
    omega (arith, total_where_more r (λ r. takes b r) (λ k. 1))

-- The first caller at a right's node is the right's, where it is senior to the right, and else the right has none.
use Rattle.std.proofs.Common.{◌≡◌, ℕ, ◌<◌, Bool, true, false, refl, sym, ap, ◌∙◌, inl, inr, List, []}
use Rattle.std.proofs.Common.{◌∷◌, length, get_or, subst}
use Rattle.std.specs.Prelude.{Option, Some, None, nat_lt, ◌&&◌, slice_index, find}
use Rattle.std.specs.Option.{option_map_or}
use Rattle.water_model.specs.Basin.{is_senior, taking_node}
use Rattle.water_model.specs.Cuts.{takes_within, node_within}
use Rattle.water_model.specs.History.{cut_of, calls, calling_right}
use Rattle.water_model.specs.Lookups.{has}
use Rattle.water_model.specs.Indices.{by_seniority, seniors_first}
use Rattle.water_model.specs.Rights.{AreStrict}
use Rattle.water_model.specs.declared.types.Basin.{Basin}
use Rattle.water_model.specs.declared.types.MonthRecord.{MonthRecord}
use Rattle.water_model.specs.declared.types.Right.{Right}
use Rattle.water_model.proofs.Order.{Has, seniors_below, seniors_ordered, find-passes, find-first, find-none}
use Rattle.water_model.proofs.Seniority.{senior_trans}
use Rattle.cut_cert.specs.Callers.{is_short, is_short_at, first_caller}
use Rattle.rights_roll.proofs.Seniors.{has-get_or}

-- the order has rights alone
pub order_in_range : (rights : List Right) (order : List ℕ) (i : ℕ) → order ≡ by_seniority rights → i < length order →
    get_or order i 0 < length rights
order_in_range rights order i is l =
    seniors_below rights (get_or order i 0)
    (subst (λ (xs : List ℕ). Has xs (get_or order i 0)) is (has-get_or order i l))

-- a right calls where it is short at the node and senior
tested : (b : Basin) (m : MonthRecord) (right node caller : ℕ) → nat_lt 0 (slice_index m.want right) ≡ true →
    taking_node b right ≡ Some node →
    calls b m right caller ≡ is_short_at m caller node && is_senior b caller right
unfolding calls
tested b m right node caller wanted at =
    rw (wanted, at)
    (turned (is_short m caller) (is_senior b caller right)
    (option_map_or (λ cut. has cut node) (cut_of m caller) false))
  where
    turned : (p q r : Bool) → p && q && true && r ≡ (p && r) && q
    turned true true true = refl
    turned true true false = refl
    turned true false true = refl
    turned true false false = refl
    turned false q r = refl

-- the first that passes one test is the first that passes both, if it does
first_of : (p s q : ℕ → Bool) → ((x : ℕ) → q x ≡ p x && s x) → (xs : List ℕ) (c : ℕ) → find p xs ≡ Some c → s c ≡ true →
    find q xs ≡ Some c
first_of p s q both [] c h e = let none : None ≡ Some c = h in cc
first_of p s q both (x ∷ xs) c h e = by_test (p x) refl (first_of p s q both xs c)
  where
    by_test : (t : Bool) → p x ≡ t → (find p xs ≡ Some c → s c ≡ true → find q xs ≡ Some c) → find q (x ∷ xs) ≡ Some c
    by_test true f further =
        let here : Some x ≡ Some c = rw f at h in
        let same : x ≡ c = cc in
        let passes : q x ≡ true = both x ∙ rw (f, ap s same ∙ e) refl in
        rw passes here
    by_test false f further =
        let fails : q x ≡ false = both x ∙ rw f refl in
        rw fails (further (rw f at h) e)

find-no : (p : ℕ → Bool) (xs : List ℕ) → ((x : ℕ) → Has xs x → p x ≡ false) → find p xs ≡ None
find-no p [] h = refl
find-no p (x ∷ xs) h = rw (h x (inl refl)) (find-no p xs (λ y k. h y (inr k)))

-- who is found is a right
pub first_below : (b : Basin) (m : MonthRecord) (node caller : ℕ) → first_caller b m node ≡ Some caller →
    caller < length b.rights
first_below b m node caller is =
    let found = find-passes (λ c. is_short_at m c node) (seniors_first b) caller is in
    seniors_below b.rights caller found.1

-- A right that wants water at a node.

pub first_calls : (b : Basin) (m : MonthRecord) (right node caller : ℕ) → nat_lt 0 (slice_index m.want right) ≡ true →
    taking_node b right ≡ Some node →
    first_caller b m node ≡ Some caller → is_senior b caller right ≡ true → calling_right b m right ≡ Some caller
unfolding calling_right
first_calls b m right node caller wanted at is senior =
    first_of (λ c. is_short_at m c node) (λ c. is_senior b c right) (λ c. calls b m right c)
    (λ c. tested b m right node c wanted at) (seniors_first b) caller is senior

pub nobody_short : (b : Basin) (m : MonthRecord) (right node : ℕ) → nat_lt 0 (slice_index m.want right) ≡ true →
    taking_node b right ≡ Some node →
    first_caller b m node ≡ None → calling_right b m right ≡ None
unfolding calling_right
nobody_short b m right node wanted at is = find-no (λ c. calls b m right c) (seniors_first b) (λ x k.
    let short : is_short_at m x node ≡ false = find-none (λ c. is_short_at m c node) (seniors_first b) x is k in
    tested b m right node x wanted at ∙ rw short refl)

-- where the first isn't senior to the right, none is
pub first_junior : (b : Basin) (m : MonthRecord) (right node caller : ℕ) → AreStrict b.rights →
    nat_lt 0 (slice_index m.want right) ≡ true →
    taking_node b right ≡ Some node → first_caller b m node ≡ Some caller → is_senior b caller right ≡ false →
    calling_right b m right ≡ None
unfolding calling_right
first_junior b m right node caller strict wanted at is junior =
    find-no (λ c. calls b m right c) (seniors_first b) (λ x k. tested b m right node x wanted at ∙ none x k)
  where
    clash : is_senior b caller right ≡ true → ⊥
    clash e = let no : false ≡ true = sym junior ∙ e in cc

    not_senior : (x : ℕ) → Has (seniors_first b) x → is_short_at m x node ≡ true → is_senior b x right ≡ true → ⊥
    not_senior x k short senior =
        elim (find-first b.rights (λ c. is_short_at m c node) (seniors_first b) caller x
        (seniors_ordered b.rights strict) is k short) [
          | inl same ↦ clash (ap (λ y. is_senior b y right) (sym same) ∙ senior)
          | inr before ↦ clash (senior_trans b.rights caller x right before senior)
        ]

    none : (x : ℕ) → Has (seniors_first b) x → is_short_at m x node && is_senior b x right ≡ false
    none x k = by_tests (is_short_at m x node) (is_senior b x right) refl refl
      where
        by_tests : (p s : Bool) → is_short_at m x node ≡ p → is_senior b x right ≡ s → p && s ≡ false
        by_tests true true short senior = absurd (not_senior x k short senior)
        by_tests true false short senior = refl
        by_tests false s short senior = refl

-- A right that wants nothing, and an instream right.

none_calls : (b : Basin) (m : MonthRecord) (right : ℕ) → ((caller : ℕ) → calls b m right caller ≡ false) →
    calling_right b m right ≡ None
unfolding calling_right
none_calls b m right h = find-no (λ c. calls b m right c) (seniors_first b) (λ x k. h x)

not_wanted : (b : Basin) (m : MonthRecord) (right caller : ℕ) → nat_lt 0 (slice_index m.want right) ≡ false →
    calls b m right caller ≡ false
unfolding calls
not_wanted b m right caller e =
    rw e (third (nat_lt (slice_index m.delivered caller) (slice_index m.want caller)) (is_senior b caller right)
    (option_map_or (λ cut. takes_within b cut right) (cut_of m caller) false))
  where
    third : (p q s : Bool) → p && q && false && s ≡ false
    third true true s = refl
    third true false s = refl
    third false q s = refl

not_taken : (b : Basin) (m : MonthRecord) (right caller : ℕ) → taking_node b right ≡ None →
    calls b m right caller ≡ false
unfolding calls
not_taken b m right caller e =
    rw (e, outside (cut_of m caller))
    (fourth (nat_lt (slice_index m.delivered caller) (slice_index m.want caller)) (is_senior b caller right)
    (nat_lt 0 (slice_index m.want right)))
  where
    outside : (set : Option (List Bool)) → option_map_or (λ cut. node_within None cut) set false ≡ false
    outside None = refl
    outside (Some cut) = refl

    fourth : (p q r : Bool) → p && q && r && false ≡ false
    fourth true true true = refl
    fourth true true false = refl
    fourth true false r = refl
    fourth false q r = refl

pub nothing_wanted : (b : Basin) (m : MonthRecord) (right : ℕ) → nat_lt 0 (slice_index m.want right) ≡ false →
    calling_right b m right ≡ None
nothing_wanted b m right e = none_calls b m right (λ caller. not_wanted b m right caller e)

pub nothing_taken : (b : Basin) (m : MonthRecord) (right : ℕ) → taking_node b right ≡ None →
    calling_right b m right ≡ None
nothing_taken b m right e = none_calls b m right (λ caller. not_taken b m right caller e)

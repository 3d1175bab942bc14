-- Nodes are given to their first callers, and lists of these along the order.
use Rattle.std.proofs.Common.{◌≡◌, ◌≢◌, ℕ, ◌+◌, ◌-◌, ◌/◌, ◌%◌, ◌^◌, ◌<◌, ◌≤◌, ◌==◌, Bool, true, false, ◌&&◌, not, refl}
use Rattle.std.proofs.Common.{sym, ap, ◌∙◌, arith, inl, inr, List, [], ◌∷◌, length, get_or, take, replicate, subst}
use Rattle.std.specs.Prelude.{Option, Some, None, find, is_none, slice_set, if◌then◌else◌}
use Rattle.std.specs.Option.{option_map_or, option_or}
use Rattle.std.specs.Int.{bit_at}
use Rattle.std.proofs.lemmas.Bool.{cases_lt, cases_eq}
use Rattle.std.proofs.lemmas.List.{get_or-replicate, get_or-set_same, get_or-set_other, take_more}
use Rattle.std.proofs.lemmas.List.Folds.{find-append}
use Rattle.std.proofs.lemmas.Nat.Bits.{bit_at_ones}
use Rattle.bit_words.specs.Marks.{is_marked, in_both, marks, IsNextInBoth}
use Rattle.bit_words.proofs.Marks.{get_or-marks}
use Rattle.water_model.specs.Lookups.{has}
use Rattle.cut_cert.specs.Callers.{caller_at, AreFree}

-- A right's set is gone over from its least node on.

-- the nodes below an index are given to the right where they are free and in its set, and the others are as they were
pub record IsClaimed (nodes right from : ℕ) (set : List ℕ) (before now : List (Option ℕ)) (free rest : List ℕ) : Type 0
  where
    pub given : (n : ℕ) → n < from → n < nodes →
        caller_at now n ≡ (if in_both free set n then Some right else caller_at before n)
    pub left : (n : ℕ) → n < from → n < nodes → is_marked rest n ≡ is_marked free n && not (is_marked set n)
    pub callers_stay : (n : ℕ) → from ≤ n → caller_at now n ≡ caller_at before n
    pub free_stay : (n : ℕ) → from ≤ n → is_marked rest n ≡ is_marked free n

pub claims_begin : (nodes right : ℕ) (set : List ℕ) (callers : List (Option ℕ)) (free : List ℕ) →
    IsClaimed nodes right 0 set callers callers free free
claims_begin nodes right set callers free = record {
  given = λ n below within. absurd (omega arith);
  left = λ n below within. absurd (omega arith);
  callers_stay = λ n above. refl;
  free_stay = λ n above. refl;
}

both_parts : (p q : Bool) → p && q ≡ true → (p ≡ true) × (q ≡ true)
both_parts true true h = (refl, refl)
both_parts true false h = cc
both_parts false q h = cc

not_both : (p q : Bool) → p && q ≡ false → p ≡ p && not q
not_both true true h = h
not_both true false h = refl
not_both false q h = refl

-- a node beyond, which the set and the free nodes don't both mark, is as it has to be
pub unclaimed : (nodes right from : ℕ) (set : List ℕ) (before now : List (Option ℕ)) (free left : List ℕ) →
    IsClaimed nodes right from set before now free left →
    (n : ℕ) → from ≤ n → in_both left set n ≡ false →
    (caller_at now n ≡ (if in_both free set n then Some right else caller_at before n)) ×
    (is_marked left n ≡ is_marked free n && not (is_marked set n))
unclaimed nodes right from set before now free left h n above apart =
    let none : in_both free set n ≡ false =
    ap (λ (p : Bool). p && is_marked set n) (sym (h.free_stay n above)) ∙ apart in
    let other : (if in_both free set n then Some right else caller_at before n) ≡ caller_at before n = rw none refl in
    (h.callers_stay n above ∙ sym other, h.free_stay n above ∙ not_both (is_marked free n) (is_marked set n) none)

pub claims_next : (nodes right from p : ℕ) (set : List ℕ) (before now : List (Option ℕ)) (free left after : List ℕ) →
    IsClaimed nodes right from set before now free left →
    IsNextInBoth left set from nodes p → p < length now → is_marked after p ≡ false →
    ((q : ℕ) → q ≢ p → is_marked after q ≡ is_marked left q) →
    IsClaimed nodes right (p + 1) set before (slice_set now p (Some right)) free after
claims_next nodes right from p set before now free left after h next inside off others = record {
  given = λ n below within. elim (cases_eq n p) [
    | inl same ↦
        subst (λ (k : ℕ). caller_at (slice_set now p (Some right))
        k ≡ (if in_both free set k then Some right else caller_at before k)) (sym same) here
    | inr apart ↦ get_or-set_other now p n (Some right) None apart ∙ elim (cases_lt n from) [
      | inl early ↦ h.given n early within
      | inr late ↦ (unclaimed nodes right from set before now free left h n late (next.least n late (omega arith))).0
    ]
  ];
  left = λ n below within. elim (cases_eq n p) [
    | inl same ↦ subst (λ (k : ℕ). is_marked after k ≡ is_marked free k && not (is_marked set k)) (sym same) gone
    | inr apart ↦ others n apart ∙ elim (cases_lt n from) [
      | inl early ↦ h.left n early within
      | inr late ↦ (unclaimed nodes right from set before now free left h n late (next.least n late (omega arith))).1
    ]
  ];
  callers_stay = λ n above. get_or-set_other now p n (Some right) None (λ same. omega (arith, same))
      ∙ h.callers_stay n (omega (arith, next.after));
  free_stay = λ n above. others n (λ same. omega (arith, same)) ∙ h.free_stay n (omega (arith, next.after));
}
  where
    marked : (is_marked left p ≡ true) × (is_marked set p ≡ true)
    marked = both_parts (is_marked left p) (is_marked set p) next.marked

    was_free : is_marked free p ≡ true
    was_free = sym (h.free_stay p next.after) ∙ marked.0

    here : caller_at (slice_set now p (Some right)) p ≡ (if in_both free set p then Some right else caller_at before p)
    here = rw (was_free, marked.1) (get_or-set_same now p (Some right) None inside)

    gone : is_marked after p ≡ is_marked free p && not (is_marked set p)
    gone = rw (was_free, marked.1) off

-- What a right's turn makes of the callers.

-- a set of marks holds what its words mark
pub set_holds : (nodes n : ℕ) (words : List ℕ) (set : Option (List Bool)) → Some (marks nodes words) ≡ set → n < nodes →
    option_map_or (λ cut. has cut n) set false ≡ is_marked words n
set_holds nodes n words set is below =
    ap (λ (s : Option (List Bool)). option_map_or (λ cut. has cut n) s false) (sym is)
    ∙ get_or-marks nodes words n false below

pub turn_gives : (short in_set : Bool) (right : ℕ) (before : Option ℕ) (free set : Bool) → free ≡ is_none before →
    short ≡ true → in_set ≡ set →
    (if free && set then Some right else before) ≡ option_or before (if short && in_set then Some right else None)
turn_gives true s right None f s2 h e k = rw (h, k) refl
turn_gives true s right (Some x) f s2 h e k = rw h refl
turn_gives false s right before f s2 h e k = cc

-- Along the order.

-- the first of one more
pub find_more : (p : ℕ → Bool) (order : List ℕ) (i : ℕ) → i < length order →
    option_or (find p (take i order)) (if p (get_or order i 0) then Some (get_or order i 0) else None) ≡ find p
    (take (i + 1) order)
find_more p order i l =
    sym (ap (find p) (take_more order i 0 l) ∙ find-append p (take i order) (get_or order i 0 ∷ []))

-- at first no node has a caller, and all are free
pub none_yet : (nodes : ℕ) → nodes ≤ 2000 → (n : ℕ) → n < nodes → caller_at (replicate 2000 None) n ≡ None
none_yet nodes bounded n l = get_or-replicate 2000 n None None (omega arith)

pub all_free : (nodes : ℕ) → nodes ≤ 2000 → AreFree nodes (replicate 2000 None) (replicate 32 (2 ^ 64 - 1))
all_free nodes bounded n l = one ∙ sym (ap is_none (none_yet nodes bounded n l))
  where
    word : get_or {A = ℕ} (replicate 32 (2 ^ 64 - 1)) (n / 64) 0 ≡ 2 ^ 64 - 1
    word = get_or-replicate 32 (n / 64) (2 ^ 64 - 1) 0 (omega arith)

    one : is_marked (replicate 32 (2 ^ 64 - 1)) n ≡ true
    one = ap (λ (w : ℕ). bit_at w (n % 64) == 1) word ∙ ap (λ (b : ℕ). b == 1) (bit_at_ones 64 (n % 64) (omega arith))

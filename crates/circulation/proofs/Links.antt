-- Turns are chained by their keys, from the last to the first.
use Rattle.std.proofs.Common.{ℕ, ◌≡◌, ◌+◌, ◌-◌, ◌*◌, ◌<◌, ◌≤◌, List, length, slice_index, slice_set, arith, ap, sym}
use Rattle.std.proofs.Common.{subst, inl, inr, ◌∙◌}
use Rattle.std.proofs.lemmas.Bool.{cases_eq, cases_lt}
use Rattle.std.proofs.lemmas.List.{get_or-set_same, get_or-set_other, length-append, length-map, length-set}
use Rattle.circulation.specs.Places.{tail_of, head_of}
use Rattle.circulation.specs.Chains.{IsNext, tails_of, heads_of, keys_of}

-- the turns from a on are chained
pub record IsLinked (keys first next : List ℕ) (a : ℕ) : Type 0 where
  pub starts : (v : ℕ) → v < length first → IsNext keys v a (slice_index first v)
  pub follows : (b : ℕ) → a ≤ b → b < length keys → IsNext keys (slice_index keys b) (b + 1) (slice_index next b)

-- none is chained yet
pub link_start : (keys first next : List ℕ) {a : ℕ} → a ≡ length keys →
    ((v : ℕ) → v < length first → slice_index first v ≡ length keys) → IsLinked keys first next a
link_start keys first next {a} all none = record {
  starts = λ v b. subst (λ (n : ℕ). IsNext keys v a n) (all ∙ sym (none v b)) record {
    within = omega (arith, all);
    after = omega arith;
    here = λ less. absurd (omega (arith, all, less));
    skipped = λ x c d. absurd (omega (arith, c, d));
  };
  follows = λ b c d. absurd (omega (arith, all));
}

-- one more turn is chained
pub link_next : {keys first next : List ℕ} {a k : ℕ} → 0 < a → a ≤ length keys → k ≡ slice_index keys (a - 1) →
    k < length first → length next ≡ length keys → IsLinked keys first next a →
    IsLinked keys (slice_set first k (a - 1)) (slice_set next (a - 1) (slice_index first k)) (a - 1)
link_next {keys} {first} {next} {a} {k} some within is inside sizes l =
    let old = l.starts k inside in
    record {
      starts = λ v b. elim (cases_eq v k) [
        | inl same ↦
            let here : slice_index (slice_set first k (a - 1)) v ≡ a - 1 =
            ap (slice_index (slice_set first k (a - 1))) same ∙ get_or-set_same first k (a - 1) 0 inside in
            subst (λ (n : ℕ). IsNext keys v (a - 1) n) (sym here) record {
              within = omega arith;
              after = omega arith;
              here = λ _. sym is ∙ sym same;
              skipped = λ x c d. absurd (omega (arith, c, d));
            }
        | inr ne ↦
            let before = l.starts v (omega (arith, length-set first k (a - 1))) in
            subst (λ (n : ℕ). IsNext keys v (a - 1) n) (sym (get_or-set_other first k v (a - 1) 0 ne)) record {
              within = before.within;
              after = omega (arith, before.after);
              here = before.here;
              skipped = λ x c d. elim (cases_lt x a) [
                | inl less ↦
                    let at : x ≡ a - 1 = omega arith in
                    λ e. ne (sym e ∙ ap (slice_index keys) at ∙ sym is)
                | inr more ↦ before.skipped x more d
              ];
            }
      ];
      follows = λ b c d. elim (cases_lt b a) [
        | inl less ↦
            let at : a - 1 ≡ b = omega arith in
            let here : slice_index first k ≡ slice_index (slice_set next (a - 1) (slice_index first k)) b =
            sym (get_or-set_same next (a - 1) (slice_index first k) 0 (omega arith))
            ∙ ap (slice_index (slice_set next (a - 1) (slice_index first k))) at in
            let key : k ≡ slice_index keys b = is ∙ ap (slice_index keys) at in
            let next_turn : a ≡ b + 1 = omega arith in
            subst (λ (n : ℕ). IsNext keys (slice_index keys b) (b + 1) n) here
            (subst (λ (v : ℕ). IsNext keys v (b + 1) (slice_index first k)) key
            (subst (λ (n : ℕ). IsNext keys k n (slice_index first k)) next_turn old))
        | inr more ↦
            let ne : b ≡ a - 1 → ⊥ = λ e. omega (arith, e) in
            subst (λ (n : ℕ). IsNext keys (slice_index keys b) (b + 1) n)
            (sym (get_or-set_other next (a - 1) b (slice_index first k) 0 ne)) (l.follows b more d)
      ];
    }

-- how many turns there are
pub turns_are : (pairs : List ℕ) → length (keys_of pairs) ≡ 2 * length pairs
turns_are pairs =
    omega (arith, length-append (heads_of pairs) (tails_of pairs), length-map pairs tail_of, length-map pairs head_of)

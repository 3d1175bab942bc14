-- What is written to the words of the nodes, and to the marks beside them.
use Rattle.std.proofs.Common.{ℕ, true, ◌≡◌, ◌≢◌, ◌==◌, ◌+◌, ◌-◌, ◌/◌, ◌%◌, ◌^◌, ◌<◌, ◌≤◌, List, length, replicate}
use Rattle.std.proofs.Common.{arith, ap, sym, inl, inr, ◌∙◌}
use Rattle.std.proofs.lemmas.Bool.{cases_eq}
use Rattle.std.specs.Int.{bit_at}
use Rattle.std.proofs.lemmas.List.{get_or-replicate, length-replicate}
use Rattle.std.proofs.lemmas.Nat.Bits.{bit_at_ones}
use Rattle.bit_words.specs.Marks.{words_for, is_marked}
use Rattle.residual_tree.specs.Tree.{label_of, relabel}
use Rattle.residual_tree.specs.UnlabeledMarks.{HasUnlabeledMarks}
use Rattle.residual_tree.proofs.Packed.{label_none, label_same, label_other, length_relabel}

-- where all bits are 1, all indices are marked
full : (m v : ℕ) → v / 64 < m → is_marked (replicate m (2 ^ 64 - 1)) v ≡ true
full m v b =
    let bit : v % 64 < 64 = omega arith in
    ap (λ (w : ℕ). bit_at w (v % 64) == 1) (get_or-replicate m (v / 64) (2 ^ 64 - 1) 0 b) ∙
    ap (λ (b : ℕ). b == 1) (bit_at_ones 64 (v % 64) bit)

-- all nodes are unlabeled
all_marked : {n : ℕ} (nodes : ℕ) → n ≡ nodes + 1 → HasUnlabeledMarks (replicate n 0)
    (replicate (words_for nodes) (2 ^ 64 - 1))
all_marked {n} nodes is =
    let long : length {A = ℕ} (replicate n 0) ≡ n = length-replicate n 0 in
    let short : length {A = ℕ} (replicate n 0) - 1 ≡ nodes = omega (arith, long, is) in
    record {
      outside = omega (arith, long, is);
      count = length-replicate (words_for nodes) (2 ^ 64 - 1) ∙ ap words_for (sym short);
      marks = λ v b.
          let zero : label_of (replicate n 0) v ≡ 0 = label_none n v in
          full (words_for nodes) v (omega (arith, b, long, is)) ∙ ap (λ (w : ℕ). w == 0) (sym zero);
    }

-- the words of all nodes are 0, and all bits are 1
pub marked_all : {labels unlabeled : List ℕ} {n m : ℕ} (nodes : ℕ) → n ≡ nodes + 1 → m ≡ words_for nodes →
    labels ≡ replicate n 0 → unlabeled ≡ replicate m (2 ^ 64 - 1) → HasUnlabeledMarks labels unlabeled
marked_all nodes is count none full =
    rw (none, full, count) (all_marked nodes is)

-- a basin node got a label, and its mark
pub marked_relabel : {labels unlabeled unlabeled' : List ℕ} (v x start : ℕ) → HasUnlabeledMarks labels unlabeled →
    v + 1 < length labels → x < 2 ^ 34 → length unlabeled' ≡ length unlabeled → is_marked unlabeled' v ≡ (x == 0) →
    ((u : ℕ) → u ≢ v → is_marked unlabeled' u ≡ is_marked unlabeled u) →
    HasUnlabeledMarks (relabel labels v x start) unlabeled'
marked_relabel {labels} {unlabeled' = unlabeled'} v x start m inner small count here others =
    let long = length_relabel labels v x start in
    record {
      outside = omega (arith, long, m.outside);
      count = count ∙ m.count ∙ ap (λ (n : ℕ). words_for (n - 1)) (sym long);
      marks = λ u b. elim (cases_eq u v) [
        | inl e ↦
            let own = label_same labels v x start (omega arith) small in
            ap (is_marked unlabeled') e ∙ here ∙ ap (λ (w : ℕ). w == 0) (sym own)
            ∙ ap (λ (w : ℕ). label_of (relabel labels v x start) w == 0) (sym e)
        | inr ne ↦ others u ne ∙ m.marks u (omega (arith, long, b))
            ∙ ap (λ (w : ℕ). w == 0) (sym (label_other labels v x start u ne))
      ];
    }

-- the outside got a label, and has no mark
pub marked_outside : {labels unlabeled : List ℕ} (v x start : ℕ) → HasUnlabeledMarks labels unlabeled →
    length labels ≤ v + 1 → HasUnlabeledMarks (relabel labels v x start) unlabeled
marked_outside {labels} v x start m outer =
    let long = length_relabel labels v x start in
    record {
      outside = omega (arith, long, m.outside);
      count = m.count ∙ ap (λ (n : ℕ). words_for (n - 1)) (sym long);
      marks = λ u b.
          let other = label_other labels v x start u (λ e. absurd (omega (arith, long, b, e, outer))) in
          m.marks u (omega (arith, long, b)) ∙ ap (λ (w : ℕ). w == 0) (sym other);
    }

-- The label and the predecessor in a node's word, after a word was written.
use Rattle.std.proofs.Common.{ℕ, ◌≡◌, ◌≢◌, ◌+◌, ◌*◌, ◌/◌, ◌%◌, ◌^◌, ◌<◌, List, length, replicate, slice_set, arith}
use Rattle.std.proofs.Common.{ap, inl, inr, ◌∙◌}
use Rattle.std.proofs.lemmas.Bool.{cases_lt}
use Rattle.std.proofs.lemmas.List.{get_or-set_other, get_or-set_same, get_or-replicate, get_or_past, length-set}
use Rattle.std.proofs.lemmas.List.{length-replicate}
use Rattle.circulation.specs.Contents.{Contents, arcs, IsCirculation}
use Rattle.circulation.specs.Residual.{arc_of}
use Rattle.residual_tree.specs.Tree.{label_of, predecessor_of, relabel}

-- the word as it is written
pub written_word : (labels : List ℕ) (v x start kept : ℕ) → kept ≡ start % 2 ^ 30 →
    slice_set labels v (x + kept * 2 ^ 34) ≡ relabel labels v x start
unfolding relabel
written_word labels v x start kept is = ap (λ (n : ℕ). slice_set labels v (x + n * 2 ^ 34)) is

-- one more than a step is a label
pub step_small : {c : Contents} (s : ℕ) → IsCirculation c → arc_of s < arcs c → s + 1 < 2 ^ 34
step_small s k b = omega (arith, k.shape.bounded_arcs, b)

pub length_relabel : (labels : List ℕ) (v x start : ℕ) → length (relabel labels v x start) ≡ length labels
unfolding relabel
length_relabel labels v x start = length-set labels v (x + start % 2 ^ 30 * 2 ^ 34)

pub label_same : (labels : List ℕ) (v x start : ℕ) → v < length labels → x < 2 ^ 34 →
    label_of (relabel labels v x start) v ≡ x
unfolding label_of relabel
label_same labels v x start long small =
    let word : ℕ = x + start % 2 ^ 30 * 2 ^ 34 in
    let rest : word % 2 ^ 34 ≡ x = omega arith in
    ap (λ (w : ℕ). w % 2 ^ 34) (get_or-set_same labels v word 0 long) ∙ rest

pub label_other : (labels : List ℕ) (v x start u : ℕ) → u ≢ v →
    label_of (relabel labels v x start) u ≡ label_of labels u
unfolding label_of relabel
label_other labels v x start u ne =
    ap (λ (w : ℕ). w % 2 ^ 34) (get_or-set_other labels v u (x + start % 2 ^ 30 * 2 ^ 34) 0 ne)

pub predecessor_same : (labels : List ℕ) (v x start : ℕ) → v < length labels → x < 2 ^ 34 →
    predecessor_of (relabel labels v x start) v ≡ start % 2 ^ 30
unfolding predecessor_of relabel
predecessor_same labels v x start long small =
    let word : ℕ = x + start % 2 ^ 30 * 2 ^ 34 in
    let rest : word / 2 ^ 34 ≡ start % 2 ^ 30 = omega arith in
    ap (λ (w : ℕ). w / 2 ^ 34) (get_or-set_same labels v word 0 long) ∙ rest

pub predecessor_other : (labels : List ℕ) (v x start u : ℕ) → u ≢ v →
    predecessor_of (relabel labels v x start) u ≡ predecessor_of labels u
unfolding predecessor_of relabel
predecessor_other labels v x start u ne =
    ap (λ (w : ℕ). w / 2 ^ 34) (get_or-set_other labels v u (x + start % 2 ^ 30 * 2 ^ 34) 0 ne)

-- where all words are 0, no node is labeled
pub label_none : (n v : ℕ) → label_of (replicate n 0) v ≡ 0
unfolding label_of
label_none n v = elim (cases_lt v n) [
  | inl below ↦ ap (λ (w : ℕ). w % 2 ^ 34) (get_or-replicate n v 0 0 below)
  | inr past ↦ ap (λ (w : ℕ). w % 2 ^ 34)
      (get_or_past (replicate n 0) v 0 (omega (arith, length-replicate {A = ℕ} n 0)))
]

-- The set of a right from marks.
use Rattle.std.proofs.Common.{◌≡◌, ℕ, ◌+◌, ◌<◌, ◌∙◌, Bool, arith, List, length}
use Rattle.std.proofs.lemmas.Bool.Decides.{nat_tests}
use Rattle.std.specs.Prelude.{◌==◌, ◌&&◌, nat_lt}
use Rattle.bit_words.specs.Marks.{is_marked, marks}
use Rattle.residual_tree.specs.Tree.{label_of}
use Rattle.senior_hold.specs.MonthNetwork.{list_of}
use Rattle.unreached_sets.proofs.Marks.{same_marks}

-- the marks of the nodes whose labels are 0 are the set of the unlabeled nodes
pub marks_are : (n : ℕ) (marked labels : List ℕ) → length labels ≡ n + 1 →
    ((v : ℕ) → v + 1 < length labels → is_marked marked v ≡ (label_of labels v == 0)) →
    marks n marked ≡ list_of n (λ v. nat_lt v n && (label_of labels v == 0))
marks_are n marked labels size each =
    same_marks n (is_marked marked) (λ v. nat_lt v n && (label_of labels v == 0))
    (λ v l. each v (omega (arith, size, l)) ∙ below v n (label_of labels v == 0) l)
  where
    below : (i n : ℕ) (t : Bool) → i < n → t ≡ nat_lt i n && t
    below i n t l = grind (arith, nat_tests)

-- The marks that are kept beside the words of the nodes.
use Rattle.std.specs.Prelude.{ℕ, ◌≡◌, ◌+◌, ◌-◌, ◌<◌, ◌==◌, List, length}
use Rattle.bit_words.specs.Marks.{words_for, is_marked}
use Rattle.residual_tree.specs.Tree.{label_of}
use Rattle.residual_tree.specs.declared.labels.Labels.TheInside.{Inside}

-- each node but the outside, the last, is marked where its label is 0
pub record HasUnlabeledMarks (labels unlabeled : List ℕ) : Type 0 where
  pub outside : 0 < length labels
  pub count : length unlabeled ≡ words_for (length labels - 1)
  pub marks : (v : ℕ) → v + 1 < length labels → is_marked unlabeled v ≡ (label_of labels v == 0)

-- the word of each node
abbrev pub node_words : Inside → List ℕ
node_words i = i.labels.now

abbrev pub IsMarked : Inside → Type 0
IsMarked i = HasUnlabeledMarks i.labels.now i.unlabeled.now

-- The laws.
use Rattle.std.proofs.Common.{ℕ, zero, suc, ◌≡◌, ◌-◌, ◌<◌, ◌≤◌, List, [], ◌∷◌, slice_index, refl, arith, ap, sym, subst}
use Rattle.std.proofs.Common.{inl, inr}
use Rattle.std.proofs.lemmas.Bool.{cases_lt}
use Rattle.circulation.specs.Network.{IsGreatestCut}
use Rattle.circulation.specs.Contents.{Contents, network, flow_of, IsCirculation, SameButScratch}
use Rattle.circulation.specs.Residual.{start_of}
use Rattle.circulation.proofs.Cuts.{cut_held}
use Rattle.circulation.proofs.Overs.{start_within}
use Rattle.residual_tree.specs.Tree.{label_of, IsLabeled, IsResidualTree}
use Rattle.residual_tree.specs.Laws.{IsWalkTo, LabeledIsReachable, UnlabeledIsGreatestCut, CutStaysWhenHeld}
use Rattle.residual_tree.proofs.UnlabeledCut.{unlabeled_cut}
use Rattle.residual_tree.proofs.Pushes.{residual_artificial, stopped_tree}

-- along the tree
walk_from : (n : ℕ) (c : Contents) (labels : List ℕ) → IsCirculation c → (t : IsResidualTree c labels) → (v : ℕ) →
    v ≤ c.nodes → IsLabeled labels v → t.rank v < n → (path : List ℕ) × IsWalkTo c v path
walk_from zero c labels k t v b m less = absurd (omega arith)
walk_from (suc n) c labels k t v b m less = elim (cases_lt v c.nodes) [
  | inl inner ↦
      let branch = t.branch v inner m in
      let s = label_of labels v - 1 in
      let before = walk_from n c labels k t (start_of (network c) s) (start_within (network c) s k.ends branch.arc)
      branch.marked (omega (arith, branch.before, less)) in
      (s ∷ before.0, (branch.arc, branch.enters, branch.room, before.1))
  | inr outer ↦ let e : v ≡ c.nodes = omega arith in ([], e)
]

-- along a walk
labeled_by : (c : Contents) (labels : List ℕ) → IsResidualTree c labels → (v : ℕ) (path : List ℕ) → IsWalkTo c v path →
    IsLabeled labels v
labeled_by c labels t v [] e = omega (arith, ap (label_of labels) e, t.root)
labeled_by c labels t v (s ∷ path) walk =
    subst (λ (u : ℕ). IsLabeled labels u) walk.1
    (t.closed s walk.0 walk.2 (labeled_by c labels t (start_of (network c) s) path walk.3))

pub labeled_is_reachable_lem : LabeledIsReachable
labeled_is_reachable_lem c labels v k t b = (
  λ m. walk_from (suc (t.rank v)) c labels k t v b m (omega arith),
  λ w. labeled_by c labels t v w.0 w.1,
)

-- what is labeled in a tree is labeled in another too, where all is the same but scratch words
pub same_labeled : (c d : Contents) (labels labels' : List ℕ) (v : ℕ) → IsCirculation c → SameButScratch c d →
    IsResidualTree c labels → IsResidualTree d labels' → v ≤ c.nodes → IsLabeled labels v → IsLabeled labels' v
same_labeled c d labels labels' v k same t t' b m =
    let back : c ≡ record d { scratch = c.scratch } =
    ap (λ (x : Contents). record x { scratch = c.scratch }) (sym same) in
    let own = stopped_tree c t' back refl in
    (labeled_is_reachable_lem c labels' v k own b).1 ((labeled_is_reachable_lem c labels v k t b).0 m)

pub unlabeled_is_greatest_cut_lem : UnlabeledIsGreatestCut
unlabeled_is_greatest_cut_lem c labels r k t b none head = unlabeled_cut k (residual_artificial r t)
    b none head

pub cut_stays_when_held_lem : CutStaysWhenHeld
cut_stays_when_held_lem old new r y raised greatest =
    cut_held (slice_index new.lower) raised.lowers
    (subst (λ (x : Contents). IsGreatestCut (network x) (flow_of new) r y) raised.rest greatest)

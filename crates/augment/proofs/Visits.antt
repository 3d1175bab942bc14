-- What a visit does to the tree.
use Rattle.std.proofs.Common.{ℕ, ◌≡◌, ◌+◌, ◌<◌, ◌≤◌, refl, arith, inl, inr}
use Rattle.std.proofs.lemmas.Bool.{cases_eq}
use Rattle.std.proofs.lemmas.List.{get_or-set_other, length-set}
use Rattle.std.proofs.lemmas.Grind.{get_or-set_at}
use Rattle.circulation.specs.Contents.{Contents, network, flow_of, IsCirculation}
use Rattle.augment.specs.Search.{node_at, step_at, with_node, IsBranch, HasTree, IsVisitedBy}
use Rattle.augment.specs.Raised.{position_of}
use Rattle.augment.proofs.Trees.{IsAdded, tree_next, grows_next, grows_none}

-- the words of a node that is visited for the first time
pub node_added : (c : Contents) (size node s : ℕ) → IsCirculation c → node ≤ c.nodes → size ≤ c.nodes →
    position_of c node ≡ 0 →
    IsAdded c.nodes (position_of c) (position_of (with_node c size node s)) (node_at c)
    (node_at (with_node c size node s)) (step_at c) (step_at (with_node c size node s)) size s node
node_added c size node s kept inside room none =
    let long = kept.shape.scratch in
    record {
      inside = inside;
      none = none;
      here = grind (arith, get_or-set_at, get_or-set_other, length-set);
      others = λ u b ne. grind (arith, get_or-set_at, get_or-set_other, length-set);
      at_node = grind (arith, get_or-set_at, get_or-set_other, length-set);
      nodes_before = λ k b. grind (arith, get_or-set_at, get_or-set_other, length-set);
      at_step = grind (arith, get_or-set_at, get_or-set_other, length-set);
      steps_before = λ k b. grind (arith, get_or-set_at, get_or-set_other, length-set);
    }

-- no visit adds nothing
pub not_visited : {c : Contents} {r least size : ℕ} → HasTree c r least size → IsVisitedBy c c r least size size
not_visited {c = c} {size = size} t = record { rest = refl; tree = t; grows = grows_none c.nodes (position_of c) size }

-- a visit, whether the node was reached before or not
pub visited : {c d : Contents} {r least size more s node : ℕ} → IsCirculation c → HasTree c r least size →
    node ≤ c.nodes → IsBranch (network c) (flow_of c) r least (position_of c) size s node →
    (position_of c node ≡ 0 → size ≤ c.nodes) → (0 < position_of c node → (more ≡ size) × (d ≡ c)) →
    (position_of c node ≡ 0 → (more ≡ size + 1) × (d ≡ with_node c size node s)) → IsVisitedBy c d r least size more
visited {c = c} {size = size} {s = s} {node = node} k t b branch room seen fresh =
    elim (cases_eq (position_of c node) 0) [
      | inl none ↦
          let f = fresh none in
          let added = node_added c size node s k b (room none) none in
          rw (f.1, f.0) record { rest = refl; tree = tree_next k.ends t added branch; grows = grows_next added }
      | inr ne ↦ let f = seen (omega arith) in rw (f.1, f.0) (not_visited t)
    ]

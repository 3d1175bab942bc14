-- In a sound network the nodes have numbers in which each link leads to a greater one.
use Rattle.std.proofs.Common.{◌≡◌, ℕ, zero, suc, ◌<◌, ◌≤◌, Bool, true, false, refl, sym, ◌∙◌, ap, subst, arith, List}
use Rattle.std.proofs.Common.{length}
use Rattle.std.proofs.lemmas.Bool.{false_from_ne_true, and_parts, and_from, eqb-true, eq-eqb, false≢true}
use Rattle.std.proofs.lemmas.Option.{slice_get_within}
use Rattle.std.specs.Prelude.{◌==◌, ◌&&◌, if◌then◌else◌}
use Rattle.std.specs.List.{list_any}
use Rattle.finite_sums.specs.Sums.{count_where}
use Rattle.finite_sums.proofs.Totals.{total_le, total_first, count_more}
use Rattle.water_model.specs.Network.{tail_in, head_in, IsForward, IsSoundNetwork}
use Rattle.water_model.specs.Valid.{IsValidBasin}
use Rattle.water_model.specs.declared.types.Basin.{Basin}
use Rattle.water_model.specs.declared.types.Link.{Link}
use Rattle.water_model.specs.declared.types.Node.{Node}
use Rattle.river_net.specs.Firsts.{IsWithin}
use Rattle.river_net.proofs.Chains.{Chain, chain_start, chain_more, chain_turns}
use Rattle.river_net.proofs.Walks.{any_index, index_any}
use Rattle.river_net.proofs.Entries.{tail_is, head_is}
use Rattle.water_model.proofs.Valid.{ends, entry_at}

-- whether this many links, one after the other, end at a node
has_chain : List Link → ℕ → ℕ → Bool
has_chain links zero node = true
has_chain links (suc k) node = list_any (λ l. l.to == node && has_chain links k l.from) links

-- the chain that the test says is there
chain_of : (links : List Link) (nodes : ℕ) → IsWithin nodes links → (k v : ℕ) → v < nodes → has_chain links k v ≡ true →
    Chain links nodes k v
unfolding has_chain
chain_of links nodes within zero v l h = chain_start links nodes v l
chain_of links nodes within (suc k) v l h =
    let at = any_index (λ l. l.to == v && has_chain links k l.from) links h in
    let parts = and_parts (at.1.to == v) (has_chain links k at.1.from) at.3 in
    let below = slice_get_within links at.0 at.1 at.2 in
    let head = head_is links at.0 at.1 at.2 ∙ eqb-true at.1.to v parts.0 in
    subst (Chain links nodes (suc k)) head (chain_more at.0 below (within.ends at.0 below).1
    (chain_of links nodes within k (tail_in links at.0) (within.ends at.0 below).0
    (ap (has_chain links k) (tail_is links at.0 at.1 at.2) ∙ parts.1)))

-- one more link after a chain
longer : (links : List Link) (k e : ℕ) → e < length links → has_chain links k (tail_in links e) ≡ true →
    has_chain links (suc k) (head_in links e) ≡ true
unfolding has_chain
longer links k e l h =
    let at = entry_at links e l in
    index_any (λ l. l.to == head_in links e && has_chain links k l.from) links e at.0 at.1
    (and_from (at.0.to == head_in links e) (has_chain links k at.0.from)
    (eq-eqb at.0.to (head_in links e) (sym (head_is links e at.0 at.1)))
    (ap (has_chain links k) (sym (tail_is links e at.0 at.1)) ∙ h))

-- a node by itself
no_links : (links : List Link) (v : ℕ) → has_chain links 0 v ≡ true
unfolding has_chain
no_links links v = refl

-- where no chain of all nodes ends at the head of a link, chains of more lengths end there than at its tail
rises : (links : List Link) (n e : ℕ) → e < length links → (has_chain links (suc n) (head_in links e) ≡ true → ⊥) →
    count_where (suc n) (λ k. has_chain links k (tail_in links e))
    < count_where (suc n) (λ k. has_chain links k (head_in links e))
rises links n e l short =
    omega (
      arith,
      count_more n (λ k. has_chain links k (tail_in links e)),
      total_first n (λ k. if has_chain links k (head_in links e) then 1 else 0),
      total_le n (λ k. if has_chain links k (tail_in links e) then 1 else 0)
          (λ k. if has_chain links (suc k) (head_in links e) then 1 else 0)
          (λ k m. at_most (has_chain links k (tail_in links e)) _ (longer links k e l)),
      ap {B = ℕ} (λ t. if t then 1 else 0) (no_links links (head_in links e)),
      ap {B = ℕ} (λ t. if t then 1 else 0)
          (false_from_ne_true (has_chain links n (tail_in links e)) (λ h. short (longer links n e l h))),
    )
  where
    at_most : (s t : Bool) → (s ≡ true → t ≡ true) → (if s then 1 else 0) ≤ (if t then 1 else 0)
    at_most true t h = rw (h refl) (omega arith)
    at_most false t h = omega arith

-- numbers of the nodes in which each link leads to a greater one
pub record HasNumbers (links : List Link) : Type 0 where
  pub rank : ℕ → ℕ
  pub forward : IsForward links rank

-- the nodes of a sound network have such numbers
pub forward_numbers : (nodes : List Node) (links : List Link) → IsWithin (length nodes) links →
    IsSoundNetwork nodes links → HasNumbers links
forward_numbers nodes links within sound = record {
  rank = λ v. count_where (length nodes) (λ k. has_chain links k v);
  forward = record { runs = λ e l. up (length nodes) e l refl };
}
  where
    short : (v : ℕ) → v < length nodes → has_chain links (length nodes) v ≡ true → ⊥
    short v l h =
        let turn = chain_turns (chain_of links (length nodes) within (length nodes) v l h) in
        false≢true (sym (sound.acyclic turn.0 turn.1) ∙ turn.2)

    up : (n e : ℕ) → e < length links → n ≡ length nodes → count_where n (λ k. has_chain links k (tail_in links e))
        < count_where n (λ k. has_chain links k (head_in links e))
    up zero e l same = let inside = (within.ends e l).0 in absurd (omega arith)
    up (suc n) e l same = rises links n e l (λ h. short (head_in links e) (within.ends e l).1
        (subst (λ m. has_chain links m (head_in links e) ≡ true) same h))

-- so have those of a valid basin
pub ranks : (b : Basin) → IsValidBasin b → HasNumbers b.links
ranks b valid = forward_numbers b.nodes b.links record { ends = ends b valid } valid.network

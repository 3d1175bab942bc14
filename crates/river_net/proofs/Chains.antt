-- Links one after another, backwards: as many of them as there are nodes pass some node twice.
use Rattle.std.proofs.Common.{◌≡◌, ℕ, zero, suc, ◌<◌, ◌≤◌, true, refl, sym, ◌∙◌, ap, arith, List, length, inl, inr}
use Rattle.std.proofs.lemmas.Bool.{cases_eq, cases_lt, eqb-true, ltb-false, ltb-true}
use Rattle.std.specs.Prelude.{◌==◌, nat_lt, if◌then◌else◌}
use Rattle.finite_sums.specs.Sums.{total, count_where}
use Rattle.finite_sums.proofs.Totals.{total_same, total_exchange, total_at, total_le, index_counted}
use Rattle.water_model.specs.Network.{walks, tail_in, head_in}
use Rattle.water_model.specs.declared.types.Link.{Link}
use Rattle.finite_sums.proofs.Counts.{total_ones, all_or_one, at_inside}
use Rattle.river_net.proofs.Walks.{walk_by, walk_within}

-- two indices at which a function has one value
pub record Repeats (f : ℕ → ℕ) (n : ℕ) : Type 0 where
  pub first : ℕ
  pub second : ℕ
  pub order : first < second
  pub within : second ≤ n
  pub same : f first ≡ f second

-- among n + 1 numbers below n two are the same
pub repeats : (n : ℕ) (f : ℕ → ℕ) → ((k : ℕ) → k ≤ n → f k < n) → Repeats f n
repeats n f below = elim (all_or_one n (λ v. nat_lt (count_where (suc n) (λ k. f k == v)) 2)) [
  | inl fewer ↦ absurd (too_few_counted fewer)
  | inr many ↦ twice many.0 (ltb-false (count_where (suc n) (λ k. f k == many.0)) 2 many.1.1)
]
  where
    -- each of the n + 1 numbers is counted at one value
    all : total n (λ v. count_where (suc n) (λ k. f k == v)) ≡ suc n
    all = total_exchange n (suc n) (λ v k. if f k == v then 1 else 0)
        ∙ (total_same (suc n) (λ k. total n (λ v. if f k == v then 1 else 0)) (λ k. 1)
        (λ k l. total_at n (f k) 1 ∙ at_inside (f k) n 1 (below k (omega arith))) ∙ total_ones (suc n))

    too_few_counted : ((v : ℕ) → v < n → nat_lt (count_where (suc n) (λ k. f k == v)) 2 ≡ true) → ⊥
    too_few_counted fewer = omega (
      arith,
      all,
      total_ones n,
      total_le n (λ v. count_where (suc n) (λ k. f k == v)) (λ v. 1) (λ v l. let lt =
          ltb-true (count_where (suc n) (λ k. f k == v)) 2 (fewer v l) in omega arith),
    )

    twice : (v : ℕ) → 2 ≤ count_where (suc n) (λ k. f k == v) → Repeats f n
    twice v two =
        let one = index_counted (suc n) 0 (λ k. f k == v) (omega arith) in
        let other = index_counted (suc n) 1 (λ k. f k == v) (omega arith) in
        let b = one.below in let c = other.below in
        elim (cases_lt one.place other.place) [
          | inl less ↦ record {
            first = one.place;
            second = other.place;
            order = less;
            within = omega arith;
            same = eqb-true (f one.place) v one.passes ∙ sym (eqb-true (f other.place) v other.passes);
          }
          | inr more ↦ elim (cases_eq one.place other.place) [
            | inl same ↦
                (let p = ap (λ m. count_where m (λ k. f k == v)) same in let q = one.number in let r = other.number in
                absurd (omega arith))
            | inr apart ↦ record {
              first = other.place;
              second = one.place;
              order = omega arith;
              within = omega arith;
              same = eqb-true (f other.place) v other.passes ∙ sym (eqb-true (f one.place) v one.passes);
            }
          ]
        ]

-- k links, each leading to where the one before it begins, the first to the node
pub record Chain (links : List Link) (nodes k node : ℕ) : Type 0 where
  pub at : ℕ → ℕ
  pub start : at 0 ≡ node
  pub inside : (i : ℕ) → i ≤ k → at i < nodes
  pub link : ℕ → ℕ
  pub in_range : (i : ℕ) → i < k → link i < length links
  pub head : (i : ℕ) → i < k → head_in links (link i) ≡ at i
  pub tail : (i : ℕ) → i < k → tail_in links (link i) ≡ at (suc i)

-- a node by itself
pub chain_start : (links : List Link) (nodes node : ℕ) → node < nodes → Chain links nodes 0 node
chain_start links nodes node l = record {
  at = λ i. node;
  start = refl;
  inside = λ i m. l;
  link = λ i. 0;
  in_range = λ i m. absurd (omega arith);
  head = λ i m. absurd (omega arith);
  tail = λ i m. absurd (omega arith);
}

-- a function with one more value before the others
before : (ℕ → ℕ) → ℕ → ℕ → ℕ
before f x zero = x
before f x (suc i) = f i

-- a link to a node, before the links to its tail
pub chain_more : {links : List Link} {nodes k : ℕ} (e : ℕ) → e < length links → head_in links e < nodes →
    Chain links nodes k (tail_in links e) → Chain links nodes (suc k) (head_in links e)
unfolding before
chain_more {links} {nodes} {k} e l m c = record {
  at = before c.at (head_in links e);
  start = refl;
  inside = inside;
  link = before c.link e;
  in_range = in_range;
  head = head;
  tail = tail;
}
  where
    inside : (i : ℕ) → i ≤ suc k → before c.at (head_in links e) i < nodes
    inside zero b = m
    inside (suc i) b = c.inside i (omega arith)

    in_range : (i : ℕ) → i < suc k → before c.link e i < length links
    in_range zero b = l
    in_range (suc i) b = c.in_range i (omega arith)

    head : (i : ℕ) → i < suc k → head_in links (before c.link e i) ≡ before c.at (head_in links e) i
    head zero b = refl
    head (suc i) b = c.head i (omega arith)

    tail : (i : ℕ) → i < suc k → tail_in links (before c.link e i) ≡ before c.at (head_in links e) (suc i)
    tail zero b = sym c.start
    tail (suc i) b = c.tail i (omega arith)

-- a walk leads from each node of a chain to each that stands before it
chain_walk : {links : List Link} {nodes k node : ℕ} → (c : Chain links nodes k node) → (i j : ℕ) → i < j → j ≤ k →
    walks links j (c.at j) (c.at i) ≡ true
chain_walk c i zero l m = absurd (omega arith)
chain_walk {links} c i (suc j) l m = walk_by links j (c.at (suc j)) (c.at i) record {
  link = c.link j;
  in_range = c.in_range j (omega arith);
  tail = c.tail j (omega arith);
  rest = elim (cases_eq i j) [
    | inl same ↦ inl (c.head j (omega arith) ∙ ap c.at (sym same))
    | inr other ↦
        inr (ap (λ v. walks links j v (c.at i)) (c.head j (omega arith)) ∙ chain_walk c i j (omega arith) (omega arith))
  ];
}

-- a chain of as many links as there are nodes has a node that reaches itself
pub chain_turns : {links : List Link} {nodes node : ℕ} → Chain links nodes nodes node → (v : ℕ) × (v < nodes) ×
    (walks links nodes v v ≡ true)
chain_turns {links} {nodes} c =
    let r = repeats nodes c.at c.inside in
    let o = r.order in let w = r.within in (
      c.at r.first,
      c.inside r.first (omega arith),
      ap (λ v. walks links nodes v (c.at r.first)) r.same
          ∙ walk_within links r.second nodes (c.at r.second) (c.at r.first) w (chain_walk c r.first r.second o w),
    )

-- Walks over links.
use Rattle.std.proofs.Common.{◌≡◌, ℕ, zero, suc, ◌<◌, ◌≤◌, Bool, true, refl, sym, ◌∙◌, ap, subst, arith, List, [], ◌∷◌}
use Rattle.std.proofs.Common.{length, inl, inr}
use Rattle.std.proofs.lemmas.Bool.{cases_lt, or_cases, or_left, or_right, and_parts, and_from, eqb-true, eq-eqb}
use Rattle.std.proofs.lemmas.Bool.{false≢true}
use Rattle.std.proofs.lemmas.Option.{slice_get_within}
use Rattle.std.specs.Prelude.{◌==◌, ◌&&◌, ◌||◌, ◌⊎◌, Some, slice_get}
use Rattle.std.specs.List.{list_any}
use Rattle.water_model.specs.Network.{walks, tail_in, head_in}
use Rattle.water_model.specs.declared.types.Link.{Link}
use Rattle.water_model.proofs.Valid.{entry_at}
use Rattle.river_net.proofs.Entries.{tail_is, head_is}

-- an entry that passes
pub any_index : {X : Type 0} (p : X → Bool) (xs : List X) → list_any p xs ≡ true → (k : ℕ) × (x : X) ×
    (slice_get xs k ≡ Some x) × (p x ≡ true)
any_index p [] h = absurd (false≢true h)
any_index p (x ∷ xs) h = elim (or_cases (p x) (list_any p xs) h) [
  | inl here ↦ (0, x, refl, here)
  | inr later ↦ (let q = any_index p xs later in (suc q.0, q.1, q.2, q.3))
]

-- and back
pub index_any : {X : Type 0} (p : X → Bool) (xs : List X) (k : ℕ) (x : X) → slice_get xs k ≡ Some x → p x ≡ true →
    list_any p xs ≡ true
index_any p [] k x at h = cc
index_any p (y ∷ xs) zero x at h = or_left (p y) (list_any p xs) (let same : y ≡ x = cc in ap p same ∙ h)
index_any p (y ∷ xs) (suc k) x at h = or_right (p y) (list_any p xs) (index_any p xs k x at h)

-- the first link of a walk of at most k more links
pub record BeginsWalk (links : List Link) (k from to : ℕ) : Type 0 where
  pub link : ℕ
  pub in_range : link < length links
  pub tail : tail_in links link ≡ from
  pub rest : (head_in links link ≡ to) ⊎ (walks links k (head_in links link) to ≡ true)

-- a walk has a first link
pub walk_begins : (links : List Link) (k from to : ℕ) → walks links (suc k) from to ≡ true → BeginsWalk links k from to
unfolding walks
walk_begins links k from to h =
    let at = any_index (λ l. l.from == from && (l.to == to || walks links k l.to to)) links h in
    let parts = and_parts (at.1.from == from) (at.1.to == to || walks links k at.1.to to) at.3 in
    let head = head_is links at.0 at.1 at.2 in record {
      link = at.0;
      in_range = slice_get_within links at.0 at.1 at.2;
      tail = tail_is links at.0 at.1 at.2 ∙ eqb-true at.1.from from parts.0;
      rest = elim (or_cases (at.1.to == to) (walks links k at.1.to to) parts.1) [
        | inl there ↦ inl (head ∙ eqb-true at.1.to to there)
        | inr further ↦ inr (ap (λ v. walks links k v to) head ∙ further)
      ];
    }

-- a link and what follows it are a walk
pub walk_by : (links : List Link) (k from to : ℕ) → BeginsWalk links k from to → walks links (suc k) from to ≡ true
unfolding walks
walk_by links k from to begin =
    let at = entry_at links begin.link begin.in_range in
    let head = head_is links begin.link at.0 at.1 in
    index_any (λ l. l.from == from && (l.to == to || walks links k l.to to)) links begin.link at.0 at.1
    (and_from (at.0.from == from) (at.0.to == to || walks links k at.0.to to)
    (eq-eqb at.0.from from (sym (tail_is links begin.link at.0 at.1) ∙ begin.tail)) (elim begin.rest [
      | inl there ↦ or_left (at.0.to == to) (walks links k at.0.to to) (eq-eqb at.0.to to (sym head ∙ there))
      | inr further ↦
          or_right (at.0.to == to) (walks links k at.0.to to) (ap (λ v. walks links k v to) (sym head) ∙ further)
    ]))

-- no link is no walk
no_walk : (links : List Link) (from to : ℕ) → walks links zero from to ≡ true → ⊥
unfolding walks
no_walk links from to h = false≢true h

-- one link is a walk
pub walk_one : (links : List Link) (k e : ℕ) → e < length links →
    walks links (suc k) (tail_in links e) (head_in links e) ≡ true
walk_one links k e l =
    walk_by links k (tail_in links e) (head_in links e) record { link = e; in_range = l; tail = refl; rest = inl refl }

-- a bound that is not less allows the walk too
walk_up : (links : List Link) (k from to : ℕ) → walks links k from to ≡ true → walks links (suc k) from to ≡ true
walk_up links zero from to h = absurd (no_walk links from to h)
walk_up links (suc k) from to h =
    let begin = walk_begins links k from to h in
    walk_by links (suc k) from to record {
      link = begin.link;
      in_range = begin.in_range;
      tail = begin.tail;
      rest = elim begin.rest [
        | inl there ↦ inl there
        | inr further ↦ inr (walk_up links k (head_in links begin.link) to further)
      ];
    }

-- a greater bound allows the walk too
pub walk_within : (links : List Link) (j k from to : ℕ) → j ≤ k → walks links j from to ≡ true →
    walks links k from to ≡ true
walk_within links j zero from to le h = let none : j ≡ 0 = omega arith in
    subst (λ i. walks links i from to ≡ true) none h
walk_within links j (suc k) from to le h = elim (cases_lt j (suc k)) [
  | inl below ↦ walk_up links k from to (walk_within links j k from to (omega arith) h)
  | inr above ↦ (let same : j ≡ suc k = omega arith in subst (λ i. walks links i from to ≡ true) same h)
]

-- a walk goes on over one more link
pub walk_on : (links : List Link) (k from e : ℕ) → e < length links → walks links k from (tail_in links e) ≡ true →
    walks links (suc k) from (head_in links e) ≡ true
walk_on links zero from e l h = absurd (no_walk links from (tail_in links e) h)
walk_on links (suc k) from e l h =
    let begin = walk_begins links k from (tail_in links e) h in
    walk_by links (suc k) from (head_in links e) record {
      link = begin.link;
      in_range = begin.in_range;
      tail = begin.tail;
      rest = inr (elim begin.rest [
        | inl there ↦ subst (λ v. walks links (suc k) v (head_in links e) ≡ true) (sym there) (walk_one links k e l)
        | inr further ↦ walk_on links k (head_in links begin.link) e l further
      ]);
    }

-- where links lead to greater numbers, at least of those below a bound, so do walks
pub walk_rises : (links : List Link) (rank : ℕ → ℕ) (bound k from to : ℕ) →
    ((e : ℕ) → e < length links → rank (head_in links e) < bound → rank (tail_in links e) < rank (head_in links e)) →
    rank to < bound → walks links k from to ≡ true → rank from < rank to
walk_rises links rank bound zero from to forward below h = absurd (no_walk links from to h)
walk_rises links rank bound (suc k) from to forward below h =
    let begin = walk_begins links k from to h in
    let tail = ap rank begin.tail in
    elim begin.rest [
      | inl there ↦
          (let head = ap rank there in let up = forward begin.link begin.in_range (omega arith) in omega arith)
      | inr further ↦ (let rest = walk_rises links rank bound k (head_in links begin.link) to forward below further in
          let up = forward begin.link begin.in_range (omega arith) in omega arith)
    ]

-- a walk does not leave a set that no link leaves
pub walk_stays : (links : List Link) (inside : ℕ → Bool) (start k from : ℕ) →
    ((e : ℕ) → e < length links → inside (tail_in links e) ≡ true → (inside (head_in links e) ≡ true) ×
    (head_in links e ≡ start → ⊥)) → inside from ≡ true → walks links k from start ≡ true → ⊥
walk_stays links inside start zero from closed here h = no_walk links from start h
walk_stays links inside start (suc k) from closed here h =
    let begin = walk_begins links k from start h in
    let next = closed begin.link begin.in_range (ap inside begin.tail ∙ here) in
    elim begin.rest [
      | inl there ↦ next.1 there
      | inr further ↦ walk_stays links inside start k (head_in links begin.link) closed next.0 further
    ]

-- Names, and the entries that they name.
use Rattle.std.proofs.Common.{◌≡◌, ◌≢◌, ℕ, suc, ◌+◌, ◌<◌, List, [], ◌∷◌, ◌++◌, length, Bool, true, false, Option, Some}
use Rattle.std.proofs.Common.{None, if◌then◌else◌, refl, sym, ap, ◌∙◌, inl, inr, arith, position, add-one, get_or}
use Rattle.std.specs.Prelude.{find, slice_get, IfSome, option_map, unwrap_or}
use Rattle.std.proofs.lemmas.Bool.{cases_Bool, cases_lt}
use Rattle.std.proofs.lemmas.List.Folds.{find-append, find_at}
use Rattle.std.proofs.lemmas.List.Sums.{position_or_len_is, fails_before_first}
use Rattle.std.proofs.lemmas.Slice.Eq.{bytes_eq-Decides}
use Rattle.std.proofs.lemmas.Option.{get_or_from_slice_get, slice_get-get_or}
use Rattle.std.specs.Borrow.{Bor}
use Rattle.std.specs.Str.{bytes_eq}
use Rattle.std.specs.Option.{option_or}
use Rattle.std.specs.List.{position_or_len}
use Rattle.indexmap.specs.IndexMap.{IndexMap}
use Rattle.first_index.specs.Indices.{first_from, index_at}
use Rattle.first_index.proofs.First.{first_is_position}
use Rattle.water_model.proofs.Valid.{entry_at}
use Rattle.water_model.proofs.Lists.{all_at, numbers_more, once}
use Rattle.water_model.proofs.Order.{find-passes, numbers_from-below, numbers_from-get, length-numbers_from}
use Rattle.water_model.specs.Basin.{node_name, reservoir_name}
use Rattle.water_model.specs.Indices.{numbers_from}
use Rattle.water_model.specs.Valid.{IsValidBasin, IsValidReservoir}
use Rattle.water_model.specs.declared.types.Basin.{Basin}
use Rattle.water_model.specs.declared.types.Reservoir.{Reservoir}
use Rattle.water_model.specs.declared.types.Right.{Right}
use Rattle.water_model.specs.Entries.{count_in, name_in}
use Rattle.water_model.specs.declared.space.Space.{Space}
use Rattle.basin_names.specs.Named.{named}
use Rattle.water_model.specs.declared.space.Space.TheVariants as space

-- Maps of names.

-- the first of some indices that passes a test, and of one index more
pub found-more : (p : ℕ → Bool) (i : ℕ) (before after : Option ℕ) → before ≡ find p (numbers_from 0 i) →
    after ≡ option_or before (if p i then Some i else None) → after ≡ find p (numbers_from 0 (i + 1))
found-more p i before after h k =
    k
    ∙ (ap (λ o. option_or o (if p i then Some i else None)) h
    ∙ (sym (find-append p (numbers_from 0 i) (i ∷ []))
    ∙ ap (find p)
    (sym (ap (numbers_from 0) (add-one i)
    ∙ (numbers_more 0 i ∙ ap (λ n. numbers_from 0 i ++ n ∷ []) (omega arith))))))

-- an empty map keeps no name
pub kept-none : {S : Type 0} (indices : IndexMap (Bor (List ℕ)) ℕ S) (q : List ℕ) → indices.entries ≡ [] →
    index_at indices q ≡ None
kept-none indices q e = rw e refl

-- What is found.

-- an entry that a name names has it
pub named_is : (b : Basin) (s : Space) (name : List ℕ) (at : ℕ) → named b s name ≡ Some at →
    (name_in s b at ≡ name) × (at < count_in s b)
named_is b s name at h =
    let f = find-passes (λ at. bytes_eq name (name_in s b at)) (numbers_from 0 (count_in s b)) at h in (
      sym ((bytes_eq-Decides name (name_in s b at)).0 f.0),
      omega (arith, (numbers_from-below 0 (count_in s b) at f.1).1),
    )

pub named_within : (b : Basin) (s : Space) (name : List ℕ) (o : Option ℕ) → o ≡ named b s name →
    IfSome o (λ at. at < count_in s b)
named_within b s name None e = tt
named_within b s name (Some at) e = (named_is b s name at (sym e)).1

-- the number at an index
number_at : (n k : ℕ) → k < n → get_or (numbers_from 0 n) k 0 ≡ k
number_at n k l = get_or_from_slice_get (numbers_from 0 n) k k 0 (numbers_from-get 0 n k k l (omega arith))

-- where none that passes a test is found, no index passes it
missed : (p : ℕ → Bool) (n at : ℕ) → find p (numbers_from 0 n) ≡ None → at < n → p at ≡ false
missed p n at h l = elim (cases_lt (position_or_len p (numbers_from 0 n)) n) [
  | inl there ↦
      (let found = slice_get-get_or (numbers_from 0 n) (position_or_len p (numbers_from 0 n)) 0
      (omega (arith, length-numbers_from 0 n)) in
      let none = sym h ∙ find_at p (numbers_from 0 n) ∙ found in cc)
  | inr past ↦ ap p (sym (number_at n at l)) ∙ fails_before_first p (numbers_from 0 n) at 0 (omega arith)
]

-- and where none is named, no entry has the name
pub named_none : (b : Basin) (s : Space) (name : List ℕ) → named b s name ≡ None → (at : ℕ) → at < count_in s b →
    name_in s b at ≢ name
named_none b s name h at l is =
    let fails : bytes_eq name (name_in s b at) ≡ false =
    missed (λ at. bytes_eq name (name_in s b at)) (count_in s b) at h l in
    let passes : bytes_eq name (name_in s b at) ≡ true = (bytes_eq-Decides name (name_in s b at)).1 (sym is) in
    let never : true ≡ false = sym passes ∙ fails in
    cc

-- Names of a valid basin.

-- no two reservoirs have one name, since each stands at a node of its own
reservoirs_differ : (b : Basin) → IsValidBasin b → (i j : ℕ) → i < j → j < length b.reservoirs →
    reservoir_name b i ≢ reservoir_name b j
reservoirs_differ b valid i j l h same =
    valid.names.reservoirs i j l h (rw (v.1, w.1) (ap (λ n. Some n) (one_node v.0.node w.0.node first second names)))
  where
    v : (x : Reservoir) × (slice_get b.reservoirs i ≡ Some x)
    v = entry_at b.reservoirs i (omega arith)

    w : (x : Reservoir) × (slice_get b.reservoirs j ≡ Some x)
    w = entry_at b.reservoirs j h

    first : v.0.node < length b.nodes
    first = (all_at (λ v. IsValidReservoir b v) b.reservoirs i v.0 valid.reservoirs v.1).node

    second : w.0.node < length b.nodes
    second = (all_at (λ v. IsValidReservoir b v) b.reservoirs j w.0 valid.reservoirs w.1).node

    names : node_name b v.0.node ≡ node_name b w.0.node
    names = rw (v.1, w.1) at same

    one_node : (m n : ℕ) → m < length b.nodes → n < length b.nodes → node_name b m ≡ node_name b n → m ≡ n
    one_node = once (node_name b) (length b.nodes) valid.names.nodes

names_differ : (b : Basin) → IsValidBasin b → (s : Space) (i j : ℕ) → i < j → j < count_in s b →
    name_in s b i ≢ name_in s b j
names_differ b valid space.Nodes i j l h = valid.names.nodes i j l h
names_differ b valid space.Links i j l h = valid.names.links i j l h
names_differ b valid space.Reservoirs i j l h = reservoirs_differ b valid i j l h
names_differ b valid space.Rights i j l h = valid.names.rights i j l h

-- the first of some indices that passes a test
found-at : (p : ℕ → Bool) (n at : ℕ) → p at ≡ true → at < n → ((k : ℕ) → k < at → p k ≡ false) →
    find p (numbers_from 0 n) ≡ Some at
found-at p n at here l before =
    find_at p (numbers_from 0 n)
    ∙ ap (slice_get (numbers_from 0 n))
    (position_or_len_is p (numbers_from 0 n) at 0 (omega (arith, length-numbers_from 0 n))
    (λ k m. ap p (number_at n k (omega arith)) ∙ before k m) (λ m. ap p (number_at n at l) ∙ here))
    ∙ numbers_from-get 0 n at at l (omega arith)

-- the name of an entry names it
pub named-at : (b : Basin) → IsValidBasin b → (s : Space) (at : ℕ) → at < count_in s b →
    named b s (name_in s b at) ≡ Some at
named-at b valid s at l =
    found-at (λ k. bytes_eq (name_in s b at) (name_in s b k)) (count_in s b) at
    ((bytes_eq-Decides (name_in s b at) (name_in s b at)).1 refl) l
    (λ k below. apart (name_in s b at) (name_in s b k) (λ e. names_differ b valid s k at below l (sym e)))
  where
    apart : (xs ys : List ℕ) → xs ≢ ys → bytes_eq xs ys ≡ false
    apart xs ys h =
        elim (cases_Bool (bytes_eq xs ys)) [
          | inl same ↦ absurd (h ((bytes_eq-Decides xs ys).0 same))
          | inr other ↦
              other
        ]

-- Entries in a list.

-- a test of indices is one of the entries there
by_indices : {X : Type 0} (p : X → Bool) (q : ℕ → Bool) (k : ℕ) (xs : List X) →
    ((i : ℕ) (x : X) → slice_get xs i ≡ Some x → q (k + i) ≡ p x) →
    find q (numbers_from k (length xs)) ≡ first_from p k xs
unfolding numbers_from
by_indices p q k [] same = refl
by_indices {X} p q k (x ∷ xs) same =
    rw (here, add-one) (ap (λ o. if p x then Some k else o) (by_indices p q (suc k) xs later))
  where
    here : q k ≡ p x
    here = ap q (omega arith) ∙ same 0 x refl

    later : (i : ℕ) (y : X) → slice_get xs i ≡ Some y → q (suc k + i) ≡ p y
    later i y at = ap q (omega arith) ∙ same (suc i) y at

-- the right of a name, found in the list of rights
pub rights-position : (b : Basin) (name : List ℕ) →
    named b space.Rights name ≡ position (λ r. bytes_eq name r.name) b.rights
rights-position b name =
    by_indices (λ r. bytes_eq name r.name) (λ at. bytes_eq name (name_in space.Rights b at)) 0 b.rights
    (λ i r at. ap (λ o. bytes_eq name (unwrap_or (option_map (λ (r : Right). r.name) o) []))
    (ap (λ k. slice_get b.rights k) (omega arith) ∙ at))
    ∙ first_is_position (λ r. bytes_eq name r.name) b.rights

-- The rows of a month's injuries, put one after another.
use Rattle.std.proofs.Common.{◌≡◌, ℕ, ◌+◌, ◌≤◌, refl, sym, ◌∙◌, ap, subst, arith, List, [], ◌∷◌, ◌++◌, length, map}
use Rattle.std.proofs.Common.{take, drop, length-append, length-take}
use Rattle.std.proofs.lemmas.List.{map-append, take_all, take_more, take-append-drop, length-map}
use Rattle.std.proofs.lemmas.List.Elements.{filter-append}
use Rattle.std.proofs.lemmas.List.Sums.{length-filter, count_by-le-length}
use Rattle.std.proofs.lemmas.Option.{get_or_from_slice_get, slice_get_within}
use Rattle.std.specs.Prelude.{slice_get, filter, flat_map, Some, Result, Ok, Err, IsErr}
use Rattle.std.proofs.lemmas.Grind.{flat_map-append}
use Rattle.water_edge.specs.Edge.{Extends, Output}
use Rattle.water_edge.proofs.Outputs.{Extends-nil, Extends-trans}
use Rattle.water_model.specs.declared.types.Basin.{Basin}
use Rattle.water_model.specs.declared.types.MonthRecord.{MonthRecord}
use Rattle.water_edge.proofs.Puts.{PutsPrefix, PutsPrefix-then, PutsPrefix-cut}
use Rattle.injury.specs.Injuries.{is_injured, injury_of, injuries_of, injured_row, PutsInjuries}
use Rattle.injury.specs.declared.pair.Pair.{Pair}
use Rattle.injury.specs.declared.injuries.Injury.{Injury}

-- the injuries of two runs of pairs
injuries-append : (ps qs : List Pair) (m n : MonthRecord) →
    injuries_of (ps ++ qs) m n ≡ injuries_of ps m n ++ injuries_of qs m n
injuries-append ps qs m n = ap (map (injury_of m n)) (filter-append (is_injured m n) ps qs)
    ∙ map-append (injury_of m n) (filter (is_injured m n) ps) (filter (is_injured m n) qs)

-- the rows of the first i pairs were put and counted, and the count of faults did not fall
pub record SoFar (b : Basin) (m n : MonthRecord) (pairs : List Pair) (i : ℕ) (old now : Output)
    (before after count : ℕ) : Type 0 where
  pub put : Extends old now (flat_map (injured_row b) (injuries_of (take i pairs) m n))
  pub later : before ≤ after
  pub number : count ≡ length (injuries_of (take i pairs) m n)

pub injuries-count : (ps : List Pair) (m n : MonthRecord) → length (injuries_of ps m n) ≤ length ps
injuries-count ps m n =
    omega (
      arith,
      length-map {B = Injury} (filter (is_injured m n) ps) (injury_of m n),
      length-filter (is_injured m n) ps,
      count_by-le-length (is_injured m n) ps,
    )

-- one more pair, and one that failed
module _ (b : Basin) (m n : MonthRecord) (pairs : List Pair) (i : ℕ) (p : Pair) (at : slice_get pairs i ≡ Some p) where
  one_more : injuries_of (take (i + 1) pairs) m n ≡ injuries_of (take i pairs) m n ++ injuries_of (p ∷ []) m n
  one_more =
      ap (λ ps. injuries_of ps m n) (take_more pairs i p (slice_get_within pairs i p at)
      ∙ ap (λ q. take i pairs ++ q ∷ []) (get_or_from_slice_get pairs i p p at))
      ∙ injuries-append (take i pairs) (p ∷ []) m n

  pub more : (old mid new : Output) (before between after count k : ℕ) →
      SoFar b m n pairs i old mid before between count →
      (k ≡ length (injuries_of (p ∷ []) m n)) × Extends mid new (flat_map (injured_row b) (injuries_of (p ∷ []) m n)) →
      between ≤ after →
      SoFar b m n pairs (i + 1) old new before after (count + k)
  more old mid new before between after count k s here later = record {
    put = rw (one_more, flat_map-append (injured_row b) (injuries_of (take i pairs) m n) (injuries_of (p ∷ []) m n))
        (Extends-trans old mid new (flat_map (injured_row b) (injuries_of (take i pairs) m n))
        (flat_map (injured_row b) (injuries_of (p ∷ []) m n)) s.put here.1);
    later = omega (arith, s.later);
    number = omega (
      arith,
      s.number,
      here.0,
      ap length one_more,
      length-append (injuries_of (take i pairs) m n) (injuries_of (p ∷ []) m n),
    );
  }

  pub fails : {E : Type 0} (old mid new : Output) (before between count : ℕ) (r : Result ℕ E) →
      SoFar b m n pairs i old mid before between count →
      PutsPrefix mid new (flat_map (injured_row b) (injuries_of (p ∷ []) m n)) → IsErr r →
      PutsInjuries b (injuries_of pairs m n) old new r
  fails old mid new before between count (Ok k) s prefix failed = cc
  fails old mid new before between count (Err e) s prefix failed =
      subst (λ (piece : List ℕ). PutsPrefix old new piece) (sym whole)
      (PutsPrefix-cut old new (flat_map (injured_row b) (injuries_of (take (i + 1) pairs) m n))
      (flat_map (injured_row b) (injuries_of (drop (i + 1) pairs) m n))
      (subst (λ (piece : List ℕ). PutsPrefix old new piece) (sym prefix_rows)
      (PutsPrefix-then old mid new (flat_map (injured_row b) (injuries_of (take i pairs) m n))
      (flat_map (injured_row b) (injuries_of (p ∷ []) m n)) s.put prefix)))
    where
      prefix_rows : flat_map (injured_row b) (injuries_of (take (i + 1) pairs) m n)
          ≡ flat_map (injured_row b) (injuries_of (take i pairs) m n) ++ flat_map (injured_row b)
          (injuries_of (p ∷ []) m n)
      prefix_rows = ap (flat_map (injured_row b)) one_more
          ∙ flat_map-append (injured_row b) (injuries_of (take i pairs) m n) (injuries_of (p ∷ []) m n)

      whole : flat_map (injured_row b) (injuries_of pairs m n)
          ≡ flat_map (injured_row b) (injuries_of (take (i + 1) pairs) m n) ++ flat_map (injured_row b)
          (injuries_of (drop (i + 1) pairs) m n)
      whole =
          ap (λ ps. flat_map (injured_row b) (injuries_of ps m n)) (sym (take-append-drop (i + 1) pairs))
          ∙ (ap (flat_map (injured_row b)) (injuries-append (take (i + 1) pairs) (drop (i + 1) pairs) m n)
          ∙ flat_map-append (injured_row b) (injuries_of (take (i + 1) pairs) m n)
          (injuries_of (drop (i + 1) pairs) m n))

  -- the number of rows is at most that of pairs
  pub fits : (old mid : Output) (before between count k : ℕ) →
      SoFar b m n pairs i old mid before between count →
      k ≡ length (injuries_of (p ∷ []) m n) → count + k ≤ length pairs
  fits old mid before between count k s e =
      omega (
        arith,
        slice_get_within pairs i p at,
        s.number,
        injuries-count (take i pairs) m n,
        injuries-count (p ∷ []) m n,
        length-take i pairs,
      )

-- nothing yet
pub none : (b : Basin) (m n : MonthRecord) (pairs : List Pair) (old : Output) (before : ℕ) →
    SoFar b m n pairs 0 old old before before 0
none b m n pairs old before = record { put = Extends-nil old; later = omega arith; number = refl }

-- all pairs
pub whole : (b : Basin) (m n : MonthRecord) (pairs : List Pair) (i : ℕ) (old now : Output)
    (before after count : ℕ) →
    SoFar b m n pairs i old now before after count → length pairs ≤ i →
    (count ≡ length (injuries_of pairs m n)) × Extends old now (flat_map (injured_row b) (injuries_of pairs m n))
whole b m n pairs i old now before after count s l = (
  s.number ∙ ap (λ ps. length (injuries_of ps m n)) (take_all i pairs l),
  subst (λ (ps : List Pair). Extends old now (flat_map (injured_row b) (injuries_of ps m n))) (take_all i pairs l)
      s.put,
)

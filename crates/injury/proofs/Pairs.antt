-- The pairs of common rights.
use Rattle.std.proofs.Common.{◌≡◌, ℕ, suc, ◌+◌, ◌<◌, ◌≤◌, Bool, false, refl, sym, ◌∙◌, ap, arith, List, [], ◌∷◌, ◌++◌}
use Rattle.std.proofs.Common.{length, map, inl, inr, take, get_or, All}
use Rattle.std.proofs.lemmas.List.{take_all, take_more}
use Rattle.std.proofs.lemmas.List.Elements.{filter_map-append, All-weaker, All-cons, All-nil, All-tail}
use Rattle.std.proofs.lemmas.Bool.{le-ltb}
use Rattle.std.specs.List.{cons_option}
use Rattle.std.specs.Prelude.{slice_index, slice_get, option_to_list, Option, Some, None, filter, filter_map}
use Rattle.water_model.specs.Basin.{right_name}
use Rattle.water_model.specs.Indices.{seniors_first}
use Rattle.water_model.specs.declared.space.Space.TheVariants.{Rights}
use Rattle.water_model.specs.declared.types.Basin.{Basin}
use Rattle.water_model.specs.declared.types.MonthRecord.{MonthRecord}
use Rattle.water_model.proofs.Order.{Has, seniors_below}
use Rattle.basin_names.specs.Named.{right_named}
use Rattle.basin_names.proofs.Names.{named_is}
use Rattle.injury.specs.Common.{HaveOneName, pair_of, common_rights}
use Rattle.injury.specs.Injuries.{is_injured, injury_of, injuries_of, injuries}
use Rattle.injury.specs.Laws.{JuniorLeavesNoInjury}
use Rattle.injury.specs.declared.pair.Pair.{Pair}
use Rattle.injury.proofs.Runs.{junior_injures_nobody}

module _ (first second : Basin) where
  abbrev pub IsPair : Pair → Type 0
  IsPair p = HaveOneName first second p.first p.second

  pairs_of : (xs : List ℕ) → ((r : ℕ) → Has xs r → r < length first.rights) →
      All IsPair (filter_map (pair_of first second) xs)
  pairs_of [] within = All-nil IsPair
  pairs_of (r ∷ xs) within =
      one (right_named second (right_name first r)) refl (pairs_of xs (λ s h. within s (inr h)))
    where
      one : (o : Option ℕ) → right_named second (right_name first r) ≡ o →
          All IsPair (filter_map (pair_of first second) xs) →
          All IsPair (filter_map (pair_of first second) (r ∷ xs))
      one None e rest = rw e rest
      one (Some s) e rest =
          let found = named_is second Rights (right_name first r) s e in
          rw e (All-cons IsPair (record { first = r; second = s }) (filter_map (pair_of first second) xs)
          (record { in_first = within r (inl refl); in_second = found.1; name = sym found.0 }) rest)

  -- each pair of common rights has one name
  pub common_have_one_name : All IsPair (common_rights first second)
  unfolding common_rights
  common_have_one_name = pairs_of (seniors_first first) (λ r h. seniors_below first.rights r h)

filter_none : {X : Type 0} (p : X → Bool) (xs : List X) → All (λ x. p x ≡ false) xs → filter p xs ≡ []
filter_none p [] h = refl
filter_none p (x ∷ xs) h = rw (h 0 x (omega arith)) (filter_none p xs (All-tail (λ y. p y ≡ false) x xs h))

-- a month in which each pair is delivered the same has no injury
no_injury_in : (first second : Basin) (m n : MonthRecord) →
    ((r s : ℕ) → HaveOneName first second r s → slice_index m.delivered r ≡ slice_index n.delivered s) →
    injuries_of (common_rights first second) m n ≡ []
no_injury_in first second m n same =
    ap (map (injury_of m n)) (filter_none (is_injured m n) (common_rights first second)
    (All-weaker (IsPair first second) (λ p. is_injured m n p ≡ false)
    (λ p one. le-ltb (slice_index n.delivered p.second) (slice_index m.delivered p.first)
    (let e = same p.first p.second one in omega arith))
    (common_rights first second) (common_have_one_name first second)))

no_injury : (first second : Basin) (records others : List MonthRecord) →
    ((i : ℕ) (m n : MonthRecord) → slice_get records i ≡ Some m → slice_get others i ≡ Some n →
    injuries_of (common_rights first second) m n ≡ []) →
    injuries first second records others ≡ []
unfolding injuries
no_injury first second [] others none = refl
no_injury first second (m ∷ ms) [] none = refl
no_injury first second (m ∷ ms) (n ∷ ns) none =
    rw (none 0 m n refl refl) (no_injury first second ms ns (λ i k l. none (suc i) k l))

pub junior_leaves_no_injury : JuniorLeavesNoInjury
junior_leaves_no_injury first second at x series other records others valid valid' more give f g =
    no_injury first second records others (λ i m n here there. no_injury_in first second m n
    (junior_injures_nobody first second at x series other records others valid valid' more give f g i m n here there))

-- the pairs of the rights so far, one right after another
pub pairs_more : (first second : Basin) (order : List ℕ) (i : ℕ) → i < length order →
    filter_map (pair_of first second) (take (i + 1) order)
    ≡ filter_map (pair_of first second) (take i order) ++ option_to_list (pair_of first second (get_or order i 0))
pairs_more first second order i l =
    ap (filter_map (pair_of first second)) (take_more order i 0 l)
    ∙ (filter_map-append (pair_of first second) (take i order) (get_or order i 0 ∷ [])
    ∙ ap (λ t. filter_map (pair_of first second) (take i order) ++ t) (one (pair_of first second (get_or order i 0))))
  where
    one : (o : Option Pair) → cons_option o [] ≡ option_to_list o
    one None = refl
    one (Some p) = refl

pub pairs_all : (first second : Basin) (order : List ℕ) (i : ℕ) → length order ≤ i → order ≡ seniors_first first →
    filter_map (pair_of first second) (take i order) ≡ common_rights first second
unfolding common_rights
pairs_all first second order i l same = ap (filter_map (pair_of first second)) (take_all i order l ∙ same)

-- there are no more pairs than rights
pub pairs_bounded : (first second : Basin) (order : List ℕ) →
    length (filter_map (pair_of first second) order) ≤ length order
pairs_bounded first second [] = omega arith
pairs_bounded first second (r ∷ order) = one (pair_of first second r) (pairs_bounded first second order)
  where
    one : (o : Option Pair) → length (filter_map (pair_of first second) order) ≤ length order →
        length (cons_option o (filter_map (pair_of first second) order)) ≤ length (r ∷ order)
    one None l = omega arith
    one (Some p) l = omega arith

pub common_bounded : (first second : Basin) → length (common_rights first second) ≤ length (seniors_first first)
unfolding common_rights
common_bounded first second = pairs_bounded first second (seniors_first first)

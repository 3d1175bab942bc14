-- The pairs of common rights are those of one name.
use Rattle.std.proofs.Common.{◌≡◌, ℕ, suc, refl, sym, ◌∙◌, ap, subst, arith, List, [], ◌∷◌, inl, inr}
use Rattle.std.proofs.lemmas.List.Elements.{All-contains}
use Rattle.std.specs.List.{cons_option}
use Rattle.std.specs.Prelude.{Option, Some, None, option_map, filter_map, Contains}
use Rattle.water_model.specs.Basin.{right_name}
use Rattle.water_model.specs.Indices.{seniors_first}
use Rattle.water_model.specs.Valid.{IsValidBasin}
use Rattle.water_model.specs.declared.space.Space.TheVariants.{Rights}
use Rattle.water_model.specs.declared.types.Basin.{Basin}
use Rattle.water_model.proofs.Order.{Has, seniors_have}
use Rattle.basin_names.specs.Named.{right_named}
use Rattle.basin_names.proofs.Names.{named-at}
use Rattle.injury.specs.Common.{HaveOneName, pair_of, common_rights}
use Rattle.injury.specs.Laws.{CommonRightsHaveOneName}
use Rattle.injury.specs.declared.pair.Pair.{Pair}
use Rattle.injury.proofs.Pairs.{IsPair, common_have_one_name}

module _ (first second : Basin) where
  -- by its name the right of the second basin is found
  the_right : (r s : ℕ) → IsValidBasin second → HaveOneName first second r s →
      right_named second (right_name first r) ≡ Some s
  the_right r s valid one = ap (right_named second) one.name ∙ named-at second valid Rights s one.in_second

  -- and the pair stands among those of the rights
  among : (xs : List ℕ) (r s : ℕ) → right_named second (right_name first r) ≡ Some s → Has xs r →
      Contains (filter_map (pair_of first second) xs) (record { first = r; second = s })
  among [] r s e h = absurd h
  among (x ∷ xs) r s e (inl here) =
      let p : Pair = record { first = r; second = s } in
      let pair : pair_of first second x ≡ Some p =
      ap (pair_of first second) (sym here) ∙ ap (λ o. option_map (λ s. record { first = r; second = s }) o) e in
      subst (λ (o : Option Pair). Contains (cons_option o (filter_map (pair_of first second) xs)) p) (sym pair)
      (0, omega arith, refl)
  among (x ∷ xs) r s e (inr further) = after (pair_of first second x) (among xs r s e further)
    where
      after : (o : Option Pair) → Contains (filter_map (pair_of first second) xs) (record { first = r; second = s }) →
          Contains (cons_option o (filter_map (pair_of first second) xs)) (record { first = r; second = s })
      after None c = c
      after (Some q) c = (suc c.0, (let l = c.1 in omega arith), c.2)

  among_common : (r s : ℕ) → IsValidBasin second → HaveOneName first second r s →
      Contains (common_rights first second) (record { first = r; second = s })
  unfolding common_rights
  among_common r s valid one =
      among (seniors_first first) r s (the_right r s valid one) (seniors_have first.rights r one.in_first)

pub common_rights_have_one_name : CommonRightsHaveOneName
common_rights_have_one_name first second r s valid = (
  (λ one. among_common first second r s valid one),
  λ c. All-contains (IsPair first second) (common_rights first second) (record { first = r; second = s })
      (common_have_one_name first second) c,
)

-- The rights and return rows of a generated basin are valid, and stand with their wants.
use Rattle.std.proofs.Common.{◌≡◌, ℕ, suc, ◌+◌, ◌-◌, ◌*◌, ◌/◌, ◌^◌, ◌<◌, ◌≤◌, false, refl, sym, ap, subst, ◌∙◌, arith}
use Rattle.std.proofs.Common.{List, [], ◌∷◌, ◌++◌, append-nil, true}
use Rattle.std.specs.Prelude.{None, All, replicate}
use Rattle.water_model.specs.Valid.{IsValidRight, IsValidReturn, AreRanked, rank_of_kind, is_diversion_kind}
use Rattle.water_model.specs.Valid.{HasValidSite, IsRightAlone, is_series, is_zone_with_rule}
use Rattle.water_model.specs.declared.types.Basin.{Basin}
use Rattle.water_model.specs.declared.types.Right.{Right}
use Rattle.water_model.specs.declared.types.RightKind.{RightKind}
use Rattle.basin_gen.specs.Draws.{next, later}
use Rattle.basin_gen.specs.Entries.{diversion_at, instream_at, return_at, zone_at, right_of}
use Rattle.basin_gen.specs.Generator.{generated, diversions_of, instreams_of, zones_of, before_rights, before_zones}
use Rattle.basin_gen.specs.Generator.{draws_of_turns, turn_of_diversion}
use Rattle.basin_gen.proofs.DrawLaws.{drawn_below}
use Rattle.basin_gen.proofs.NameLaws.{numbered_is_name, zone_is_name}
use Rattle.basin_gen.proofs.NetworkLaws.{same_for_months}
use Rattle.basin_gen.proofs.Places.{entry_is, all_of, listed}
use Rattle.basin_gen.proofs.Lists.{IsMade, States, diversion_count, zone_count, return_count, right_made, right_count}
use Rattle.basin_gen.proofs.Lists.{each_right, all_rights}
use Rattle.basin_gen.proofs.RightsLaws.{zone_by, is_zone, first_right}
use Rattle.water_text.specs.Names.{is_name}

-- rights of one kind before rights that may not stand before them
abbrev HasRank : ℕ → Right → Type 0
HasRank rank r = rank_of_kind r.kind ≡ rank

ranked_less : (least rank : ℕ) (rights : List Right) → least ≤ rank → AreRanked rank rights → AreRanked least rights
ranked_less least rank [] h ranked = tt
ranked_less least rank (r ∷ rights) h ranked = let low = ranked.0 in (omega arith, ranked.1)

ranked_prefix : (least rank : ℕ) (prefix rights : List Right) → least ≤ rank → All (HasRank rank) prefix →
    AreRanked rank rights → AreRanked least (prefix ++ rights)
ranked_prefix least rank [] rights h all ranked = ranked_less least rank rights h ranked
ranked_prefix least rank (r ∷ prefix) rights h all ranked =
    let here : rank_of_kind r.kind ≡ rank = all 0 r (omega arith) in (
      omega arith,
      subst (λ n. AreRanked n (prefix ++ rights)) (sym here)
          (ranked_prefix rank rank prefix rights (omega arith) (λ k d l. all (suc k) d (omega arith)) ranked),
    )

pub rights_ranked : (number size : ℕ) → AreRanked 0 (generated number size).rights
unfolding generated diversions_of instreams_of zones_of
rights_ranked number size =
    let x = before_rights number size in
    ranked_prefix 0 0 _ _ (omega arith)
    (all_of (HasRank 0) _ _ _
    (listed _ (λ d. diversion_at size (turn_of_diversion d) (later x (draws_of_turns (turn_of_diversion d)))))
    (λ i l. refl))
    (ranked_prefix 0 1 _ _ (omega arith)
    (all_of (HasRank 1) _ _ _ (listed _ (λ j. instream_at size (4 * j + 3) (later x (draws_of_turns (4 * j + 3)))))
    (λ i l. refl))
    (subst (AreRanked 1) (append-nil (zones_of size (before_zones number size)))
    (ranked_prefix 1 2 _ [] (omega arith) zones tt)))
  where
    zones : All (HasRank 2) (zones_of size (before_zones number size))
    zones = all_of (HasRank 2) _ _ _ (listed (zone_count size) (λ z. zone_at z (later (before_zones number size) z)))
        (λ z l. let is = is_zone z (later (before_zones number size) z) in ap rank_of_kind is.kind)

-- a right that is made is valid where its name, its order, its place and its want are
one_valid : (b : Basin) (name : List ℕ) (kind : RightKind) (year order want : ℕ) → is_name name ≡ true →
    order ≤ 1000000 → HasValidSite b kind → want ≤ 10 ^ 9 → IsValidRight b (right_of name kind year order want)
one_valid b name kind year order want named ordered site small = record {
  name = named;
  order = ordered;
  site = site;
  want = same_for_months (10 ^ 9) want small;
  volume = refl;
  season = record { twelve = refl; others = λ _. refl };
}

pub rights_valid : (b : Basin) (size : ℕ) (s : States) → 2 ≤ size → size ≤ 2000 → IsMade b size s →
    All (λ r. IsValidRight b r) b.rights
rights_valid b size s some bounded made =
    let nodes = made.nodes.count in
    let links = made.links.count in
    let reservoirs = made.reservoirs.count in
    all_rights (λ r. IsValidRight b r) b size s made
    (each_right (λ r. IsValidRight b r) size s
    (λ d l. let node = drawn_below (s.diversions d) size (omega arith) in
    let want = drawn_below (next (next (s.diversions d))) 300 (omega arith) in
    one_valid b _ _ _ _ _ (numbered_is_name 100 (d + d / 3) refl (omega arith)) (omega arith) (omega arith)
    (omega arith))
    (λ j l. let link = drawn_below (s.instreams j) (size - 1) (omega arith) in
    let want = drawn_below (next (next (s.instreams j))) 300 (omega arith) in
    one_valid b _ _ _ _ _ (numbered_is_name 115 (4 * j + 3) refl (omega arith)) (omega arith) (omega arith)
    (omega arith))
    (λ z l. zone_by (λ r. IsValidRight b r) z (s.zones z)
    (λ even. let want = drawn_below (s.zones z) 200 (omega arith) in
    one_valid b _ _ _ _ _ (zone_is_name 97 (z / 2) refl (omega arith)) (omega arith)
    (omega arith, omega arith, omega arith) (omega arith))
    (λ odd. let want = drawn_below (s.zones z) 400 (omega arith) in
    one_valid b _ _ _ _ _ (zone_is_name 98 (z / 2) refl (omega arith)) (omega arith)
    (omega arith, omega arith, omega arith) (omega arith))))

pub returns_valid : (b : Basin) (size : ℕ) (s : States) → 2 ≤ size → size ≤ 2000 → IsMade b size s →
    All (λ row. IsValidReturn b row) b.returns
returns_valid b size s some bounded made =
    let nodes = made.nodes.count in
    let rights = made.rights.count in
    all_of (λ row. IsValidReturn b row) b.returns (return_count size) (λ j. return_at size (3 * j) (s.returns j))
    made.returns
    (λ j l. let node = drawn_below (s.returns j) size (omega arith) in
    let part = drawn_below (next (s.returns j)) 8000 (omega arith) in
    let lag = drawn_below (next (next (s.returns j))) 12 (omega arith) in
    let own : 3 * j < diversion_count size = omega arith in record {
      right = omega arith;
      diversion =
          entry_is b.rights (right_count size) (right_made size s) made.rights
          (λ r. is_diversion_kind r.kind) false (3 * j) (omega arith)
          ∙ ap (λ r. is_diversion_kind r.kind) (first_right size s (3 * j) own);
      node = omega arith;
      part = (omega arith, omega arith);
      lag = (omega arith, omega arith);
      rest = omega arith;
    })

-- the wants stand with the rights
pub right_has_wants : (size : ℕ) (s : States) (i : ℕ) → i < right_count size →
    is_series (right_made size s i).want ≡ false
right_has_wants size s =
    each_right (λ r. is_series r.want ≡ false) size s (λ d l. refl) (λ j l. refl)
    (λ z l. zone_by (λ r. is_series r.want ≡ false) z (s.zones z) (λ h. refl) (λ h. refl))

-- no zone has what only an owned zone may have
pub right_has_no_rule : (size : ℕ) (s : States) (i : ℕ) → i < right_count size →
    is_zone_with_rule (right_made size s i) ≡ false
right_has_no_rule size s =
    each_right (λ r. is_zone_with_rule r ≡ false) size s (λ d l. refl) (λ j l. refl)
    (λ z l. zone_by (λ r. is_zone_with_rule r ≡ false) z (s.zones z) (λ h. refl) (λ h. refl))

-- nothing was used before the run, and each right is one of format 1
pub rights_alone : (b : Basin) (size : ℕ) (s : States) → IsMade b size s → All IsRightAlone b.rights
rights_alone b size s made =
    all_rights IsRightAlone b size s made
    (each_right IsRightAlone size s (λ d l. alone refl refl refl) (λ j l. alone refl refl refl)
    (λ z l. zone_by IsRightAlone z (s.zones z) (λ h. alone refl refl refl) (λ h. alone refl refl refl)))
  where
    alone : {r : Right} → r.used ≡ 0 → r.volume ≡ None → r.season ≡ replicate 12 true → IsRightAlone r
    alone used volume season = record { used = used; volume = λ _. volume; season = season }

-- and no row has a remainder
pub no_rests : (b : Basin) (size : ℕ) (s : States) → IsMade b size s → All (λ row. row.rest ≡ 0) b.returns
no_rests b size s made =
    all_of (λ row. row.rest ≡ 0) b.returns (return_count size) (λ j. return_at size (3 * j) (s.returns j)) made.returns
    (λ j l. refl)

-- no right has a volume
pub no_volumes : (b : Basin) (size : ℕ) (s : States) → IsMade b size s → All (λ r. r.volume ≡ None) b.rights
no_volumes b size s made =
    all_rights (λ r. r.volume ≡ None) b size s made
    (each_right (λ r. r.volume ≡ None) size s (λ d l. refl) (λ j l. refl)
    (λ z l. zone_by (λ r. r.volume ≡ None) z (s.zones z) (λ h. refl) (λ h. refl)))

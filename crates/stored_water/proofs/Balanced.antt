-- The balance of a month with draws.
use Rattle.std.proofs.Common.{◌≡◌, ℕ, ◌+◌, ◌-◌, ◌<◌, Bool, true, false, refl, sym, ◌∙◌, ap, arith, List, length}
use Rattle.std.proofs.lemmas.Bool.{lt-ltb}
use Rattle.std.proofs.lemmas.List.{length-replicate}
use Rattle.std.specs.Prelude.{Option, Some, None, slice_get, slice_index, unwrap_or, option_map, not, ◌&&◌, ◌==◌}
use Rattle.std.specs.Prelude.{if◌then◌else◌}
use Rattle.finite_sums.specs.Sums.{total, total_where}
use Rattle.finite_sums.proofs.Terms.{same_where}
use Rattle.finite_sums.proofs.Totals.{total_add, total_at, total_exchange, total_same, total_zero}
use Rattle.stored_water.proofs.CourseBalance.{course_balance}
use Rattle.stored_water.proofs.Regrouped.{diversion_below, diversion_not_owned, no_test}
use Rattle.stored_water.proofs.Sited.{account_site, valid_basins_are_sited, zone_site}
use Rattle.stored_water.specs.DrawLaws.{MonthsWithDrawsAreBalanced}
use Rattle.water_model.proofs.Sets.{at_one, grouped, has_all, total_where_add, total_where_all, total_where_none_pass}
use Rattle.water_model.proofs.Valid.{KindIs, all_nodes, ends, entry_holds, kind_is}
use Rattle.water_model.specs.Accounts.{drawn_by, drawn_from, draws_for, stock_of}
use Rattle.water_model.specs.Basin.{head_of, is_at, is_zone_of, node_of_reservoir, tail_of}
use Rattle.water_model.specs.Basin.{is_zone_of_kind, taking_node, taking_node_of_kind, takes_at}
use Rattle.water_model.specs.Courses.{IsCourseWithin}
use Rattle.water_model.specs.Cuts.{enters, leaves}
use Rattle.water_model.specs.Lookups.{has}
use Rattle.water_model.specs.Stores.{drawing_node, is_owned, reservoir_of, storing_node, sum_at_node, sum_in_reservoir}
use Rattle.water_model.specs.Stores.{reservoir_of_right}
use Rattle.water_model.specs.Valid.{HasValidSite, IsValidAccount, IsValidBasin, IsValidDraw, IsValidReservoir}
use Rattle.water_model.specs.Valid.{is_diversion, is_diversion_kind}
use Rattle.water_model.specs.declared.types.Account.{Account}
use Rattle.water_model.specs.declared.types.Basin.{Basin}
use Rattle.water_model.specs.declared.types.Draw.{Draw}
use Rattle.water_model.specs.declared.types.Reservoir.{Reservoir}
use Rattle.water_model.specs.declared.types.RightKind.{RightKind}
use Rattle.water_model.specs.declared.types.RightKind.TheVariants.{Diversion, Instream, Zone}

-- ---- what is at one of several places

masked_place : (n : ℕ) (o : Option ℕ) (t : Bool) (p x : ℕ) → p < n → o ≡ Some p →
    total n (λ v. if is_at o v && t then x else 0) ≡ (if t then x else 0)
masked_place n o t p x inside at =
    total_same n (λ v. if is_at o v && t then x else 0) (λ v. if p == v then (if t then x else 0) else 0)
    (λ v l. ap (λ q. if is_at q v && t then x else 0) at ∙ nest (p == v) t)
    ∙ (total_at n p (if t then x else 0) ∙ ap (λ s. if s then (if t then x else 0) else 0) (lt-ltb p n inside))
  where
    nest : (s t : Bool) → (if s && t then x else 0) ≡ (if s then (if t then x else 0) else 0)
    nest true t = refl
    nest false t = refl

masked_nowhere : (n : ℕ) (o : Option ℕ) (t : Bool) (x : ℕ) → o ≡ None →
    total n (λ v. if is_at o v && t then x else 0) ≡ 0
masked_nowhere n o t x at =
    total_zero n (λ v. if is_at o v && t then x else 0) (λ v l. ap (λ q. if is_at q v && t then x else 0) at)

-- what stands by entries that each have a place is as much by places
placed : (n m : ℕ) (at : ℕ → Option ℕ) (f : ℕ → ℕ) →
    ((k : ℕ) → k < m → (p : ℕ) × (p < n) × (at k ≡ Some p)) →
    total n (λ v. total_where m (λ k. is_at (at k) v) f) ≡ total m f
placed n m at f sited =
    total_exchange n m (λ v k. if is_at (at k) v then f k else 0)
    ∙ total_same m (λ k. total n (λ v. if is_at (at k) v then f k else 0)) f one
  where
    one : (k : ℕ) → k < m → total n (λ v. if is_at (at k) v then f k else 0) ≡ f k
    one k l =
        let site = sited k l in
        total_same n (λ v. if is_at (at k) v then f k else 0) (λ v. if site.0 == v then f k else 0)
        (λ v h. ap (λ o. if is_at o v then f k else 0) site.2)
        ∙ (total_at n site.0 (f k) ∙ ap (λ s. if s then f k else 0) (lt-ltb site.0 n site.1))

module _ (b : Basin) (valid : IsValidBasin b) where
  -- ---- links

  -- all that is supplied is taken or leaves
  course_total : (carry held : ℕ → ℕ) (supply taken flow out : List ℕ) →
      IsCourseWithin b carry held supply taken flow out →
      total (length b.nodes) (λ n. slice_index supply n)
      ≡ total (length b.nodes) (λ n. slice_index taken n) + total (length b.nodes) (λ n. slice_index out n)
  course_total carry held supply taken flow out course =
      omega (
        arith,
        course_balance b carry held supply taken flow out (all_nodes b) course (length-replicate (length b.nodes) true),
        within supply,
        within taken,
        within out,
        total_where_none_pass (length b.links) (λ e. enters b (all_nodes b) e) (λ e. slice_index flow e) none_enters,
        total_where_none_pass (length b.links) (λ e. leaves b (all_nodes b) e) (λ e. slice_index flow e) none_leaves,
      )
    where
      within : (xs : List ℕ) →
          total_where (length b.nodes) (λ n. has (all_nodes b) n) (λ n. slice_index xs n)
          ≡ total (length b.nodes) (λ n. slice_index xs n)
      within xs =
          total_where_all (length b.nodes) (λ n. has (all_nodes b) n) (λ n. slice_index xs n) (has_all (length b.nodes))

      none_enters : (e : ℕ) → e < length b.links → enters b (all_nodes b) e ≡ false
      none_enters e l = rw (
        has_all (length b.nodes) (head_of b e) (ends b valid e l).1,
        has_all (length b.nodes) (tail_of b e) (ends b valid e l).0,
      ) refl

      none_leaves : (e : ℕ) → e < length b.links → leaves b (all_nodes b) e ≡ false
      none_leaves e l = rw (
        has_all (length b.nodes) (tail_of b e) (ends b valid e l).0,
        has_all (length b.nodes) (head_of b e) (ends b valid e l).1,
      ) refl

  -- ---- rights

  -- what stands by right at the nodes is with diversions, or in the reservoirs of zones that no account is of
  right_goes : (r x : ℕ) → r < length b.rights →
      total (length b.nodes) (λ n. if takes_at b r n && not (is_owned b r) then x else 0)
      ≡ (if is_diversion b r then x else 0)
      + total (length b.reservoirs) (λ v. if is_zone_of b r v && not (is_owned b r) then x else 0)
  right_goes r x l = of_kind k.kind k.node k.diversion k.zone k.site
    where
      k : KindIs b r
      k = kind_is b valid r l

      zones : (o : Option ℕ) → ((v : ℕ) → is_zone_of b r v ≡ is_at o v) →
          total (length b.reservoirs) (λ v. if is_zone_of b r v && not (is_owned b r) then x else 0)
          ≡ total (length b.reservoirs) (λ v. if is_at o v && not (is_owned b r) then x else 0)
      zones o same = total_same _ _ _ (λ v h. ap (λ s. if s && not (is_owned b r) then x else 0) (same v))

      of_kind : (kind : RightKind) → taking_node b r ≡ taking_node_of_kind b kind →
          is_diversion b r ≡ is_diversion_kind kind → ((v : ℕ) → is_zone_of b r v ≡ is_zone_of_kind kind v) →
          HasValidSite b kind →
          total (length b.nodes) (λ n. if takes_at b r n && not (is_owned b r) then x else 0)
          ≡ (if is_diversion b r then x else 0)
          + total (length b.reservoirs) (λ v. if is_zone_of b r v && not (is_owned b r) then x else 0)
      of_kind (Diversion node) at d zone site =
          omega (
            arith,
            masked_place (length b.nodes) (taking_node b r) (not (is_owned b r)) node x site at,
            ap (λ t. if not t then x else 0)
                (diversion_not_owned b r (valid_basins_are_sited b valid).1 d),
            ap (λ t. if t then x else 0) d,
            zones None zone,
            masked_nowhere (length b.reservoirs) None (not (is_owned b r)) x refl,
          )
      of_kind (Instream link) at d zone site =
          omega (
            arith,
            masked_nowhere (length b.nodes) (taking_node b r) (not (is_owned b r)) x at,
            ap (λ t. if t then x else 0) d,
            zones None zone,
            masked_nowhere (length b.reservoirs) None (not (is_owned b r)) x refl,
          )
      of_kind (Zone reservoir level) at d zone site =
          let entry = entry_holds (λ w. IsValidReservoir b w) b.reservoirs reservoir valid.reservoirs site.0 in
          let node : ℕ = entry.0.node in
          let stands : node_of_reservoir b reservoir ≡ Some node =
          ap (λ o. unwrap_or (option_map (λ (w : Reservoir). Some w.node) o) None) entry.1 in
          omega (
            arith,
            masked_place (length b.nodes) (taking_node b r) (not (is_owned b r)) node x entry.2.node (at ∙ stands),
            ap (λ t. if t then x else 0) d,
            zones (Some reservoir) zone,
            masked_place (length b.reservoirs) (Some reservoir) (not (is_owned b r)) reservoir x site.0 refl,
          )

  rights_go : (f : ℕ → ℕ) →
      total (length b.nodes) (λ n. total_where (length b.rights) (λ r. takes_at b r n && not (is_owned b r)) f)
      ≡ total_where (length b.rights) (λ r. is_diversion b r) f
      + total (length b.reservoirs)
      (λ v. total_where (length b.rights) (λ r. is_zone_of b r v && not (is_owned b r)) f)
  rights_go f =
      omega (
        arith,
        total_exchange (length b.nodes) (length b.rights)
            (λ n r. if takes_at b r n && not (is_owned b r) then f r else 0),
        total_same (length b.rights)
            (λ r. total (length b.nodes) (λ n. if takes_at b r n && not (is_owned b r) then f r else 0))
            (λ r. (if is_diversion b r then f r else 0)
            + total (length b.reservoirs) (λ v. if is_zone_of b r v && not (is_owned b r) then f r else 0))
            (λ r l. right_goes r (f r) l),
        total_add (length b.rights) (λ r. if is_diversion b r then f r else 0)
            (λ r. total (length b.reservoirs) (λ v. if is_zone_of b r v && not (is_owned b r) then f r else 0)),
        total_exchange (length b.reservoirs) (length b.rights)
            (λ v r. if is_zone_of b r v && not (is_owned b r) then f r else 0),
      )

  -- ---- draws and accounts

  -- each draw is for one diversion
  diversions_draw : (amounts : List ℕ) →
      total_where (length b.rights) (λ r. is_diversion b r) (λ r. drawn_by b (length b.draws) amounts r)
      ≡ total (length b.draws) (λ j. slice_index amounts j)
  diversions_draw amounts =
      grouped (length b.rights) (length b.draws) (λ r. is_diversion b r) (λ j r. draws_for b j r) for_one
      (λ j. slice_index amounts j) (λ j x. one x (slice_get b.draws j))
      ∙ total_where_all (length b.draws) for_one (λ j. slice_index amounts j) sited
    where
      for_one : ℕ → Bool
      for_one j = unwrap_or (option_map (λ d. is_diversion b d.diversion) (slice_get b.draws j)) false

      sited : (j : ℕ) → j < length b.draws → for_one j ≡ true
      sited j l =
          let entry = entry_holds (λ d. IsValidDraw b d) b.draws j valid.stores.draws l in
          ap (λ o. unwrap_or (option_map (λ (d : Draw). is_diversion b d.diversion) o) false) entry.1
          ∙ entry.2.diversion

      one : (x : ℕ) (o : Option Draw) →
          total (length b.rights)
          (λ r. if is_diversion b r
          then (if unwrap_or (option_map (λ d. d.diversion == r) o) false then x else 0) else 0)
          ≡ (if unwrap_or (option_map (λ d. is_diversion b d.diversion) o) false then x else 0)
      one x None = no_test (length b.rights) (λ r. is_diversion b r)
      one x (Some d) =
          at_one (length b.rights) (λ r. is_diversion b r) d.diversion x (λ h. diversion_below b d.diversion h)

  -- each account is in one reservoir
  account_reservoir : (k : ℕ) → k < length b.accounts →
      (v : ℕ) × (v < length b.reservoirs) × (reservoir_of b k ≡ Some v)
  account_reservoir k l =
      let account = entry_holds (λ a. IsValidAccount b a) b.accounts k valid.stores.accounts l in
      let zone = zone_site b valid account.0.zone account.2.zone in (
        zone.0,
        zone.2,
        ap (λ o. unwrap_or (option_map (λ (a : Account). reservoir_of_right b a.zone) o) None) account.1 ∙ zone.1,
      )

pub months_with_draws_are_balanced : MonthsWithDrawsAreBalanced
months_with_draws_are_balanced b month opening evaporated number delivered amounts l supply taken flow out valid is
    takes course =
    omega (
      arith,
      course_total b valid _ _ supply taken flow out course,
      total_same (length b.nodes) (λ n. slice_index taken n) (λ n. delivered_at n + drawn_at n + held_at n) taken_is,
      total_add (length b.nodes) (λ n. delivered_at n + drawn_at n) held_at,
      total_add (length b.nodes) delivered_at drawn_at,
      rights_go b valid (slice_index delivered),
      placed (length b.nodes) (length b.draws) (drawing_node b) (slice_index amounts)
          (λ j h. (let s = (valid_basins_are_sited b valid).0.each j h in (s.to, s.to_node, s.is_to))),
      placed (length b.nodes) (length b.accounts) (storing_node b) (slice_index l.closing)
          (λ k h. account_site b valid k h),
      total_where_add (length b.rights) (λ r. is_diversion b r) (λ r. slice_index delivered r)
          (λ r. drawn_by b (length b.draws) amounts r),
      diversions_draw b valid amounts,
      total_add (length b.reservoirs)
          (λ v. total_where (length b.rights) (λ r. is_zone_of b r v && not (is_owned b r)) (slice_index delivered))
          (λ v. sum_in_reservoir b (slice_index l.closing) v),
      placed (length b.reservoirs) (length b.accounts) (reservoir_of b) (slice_index l.closing)
          (λ k h. account_reservoir b valid k h),
    )
  where
    delivered_at : ℕ → ℕ
    delivered_at n =
        total_where (length b.rights) (λ r. takes_at b r n && not (is_owned b r)) (λ r. slice_index delivered r)

    drawn_at : ℕ → ℕ
    drawn_at n = total_where (length b.draws) (λ j. is_at (drawing_node b j) n) (λ j. slice_index amounts j)

    held_at : ℕ → ℕ
    held_at n = sum_at_node b (slice_index l.closing) n

    taken_is : (n : ℕ) → n < length b.nodes → slice_index taken n ≡ delivered_at n + drawn_at n + held_at n
    taken_is n m =
        omega (
          arith,
          takes.each n m,
          same_where (length b.accounts) (λ k. is_at (storing_node b k) n)
              (λ k. stock_of l k - drawn_from b (length b.draws) amounts k) (slice_index l.closing)
              (λ k h at. sym (is.closing k h ∙ ap (λ x. stock_of l k - x) (is.drawn k h))),
        )

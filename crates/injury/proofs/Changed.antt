-- A change of some rights: what it leaves to the rights that are senior to it.
use Rattle.std.proofs.Common.{◌≡◌, ℕ, ◌<◌, Bool, true, false, refl, sym, ◌∙◌, ap, subst, arith, List, length, inl}
use Rattle.std.proofs.Common.{inr, take}
use Rattle.std.proofs.lemmas.Bool.{or_left, or_right}
use Rattle.std.specs.Prelude.{if◌then◌else◌, slice_index, slice_get, Option, Some, None, unwrap_or, option_map, IsTrue}
use Rattle.finite_sums.specs.Sums.{total_where}
use Rattle.finite_sums.proofs.Totals.{total_same}
use Rattle.water_model.specs.Basin.{instream_link, link_of_kind, is_senior, HasStrictPriority}
use Rattle.duality.specs.Alike.{IsUpTo, HasSameSeniors}
use Rattle.water_model.specs.History.{IsPartialHistory, Follows, is_zone_of, is_zone_of_kind}
use Rattle.water_model.specs.declared.types.Basin.{Basin}
use Rattle.water_model.specs.declared.types.Series.{Series}
use Rattle.water_model.specs.declared.types.MonthRecord.{MonthRecord}
use Rattle.water_model.specs.declared.types.Right.{Right}
use Rattle.water_model.specs.declared.types.RightKind.{RightKind}
use Rattle.water_model.specs.declared.types.RightKind.TheVariants.{Diversion, Instream, Zone}
use Rattle.duality.proofs.Alike.{IsSame, of_same, same_senior}
use Rattle.duality.proofs.Duality.{delivery_by_take}
use Rattle.water_model.proofs.Seniority.{not_senior_to_itself, senior_trans}
use Rattle.duality.proofs.Outcome.{same_lists}
use Rattle.injury.specs.Changed.{HasChanged, IsSeniorToChange, GiveUnchanged, LeaveSame, SparesCarryover}
use Rattle.injury.specs.Laws.{ChangeInjuresJuniorsAlone, ChangeInjuresNoSenior}
use Rattle.injury.proofs.Months.{with_rights, AreRetained, GiveAlike, months_alike}

-- a right that keeps water in a reservoir is on no link
pub zone_on_no_link : (b : Basin) (r v : ℕ) → is_zone_of b r v ≡ true → instream_link b r ≡ None
zone_on_no_link b r v = of_get (slice_get b.rights r)
  where
    of_kind : (k : RightKind) → is_zone_of_kind k v ≡ true → link_of_kind k ≡ None
    of_kind (Diversion node) h = refl
    of_kind (Instream link) h = cc
    of_kind (Zone reservoir level) h = refl

    of_get : (o : Option Right) → unwrap_or (option_map (λ y. is_zone_of_kind y.kind v) o) false ≡ true →
        unwrap_or (option_map (λ y. link_of_kind y.kind) o) None ≡ None
    of_get None h = cc
    of_get (Some y) h = of_kind y.kind h

-- a right that is not changed and is senior to the change stands alike in both basins, with its seniors
module _ (b : Basin) (rights : List Right) (changed : ℕ → Bool)
    (change : HasChanged b (with_rights b rights) changed) where
  same_right : (r : ℕ) → r < length b.rights → changed r ≡ false → IsSame b (with_rights b rights) r r
  same_right r l h = record { here = l; entry = change.others r l h }

  -- nobody that is senior to such a right is changed, in either basin
  clash : (c : Basin) (r s : ℕ) → is_senior c s r ≡ true → is_senior c r s ≡ true → ⊥
  clash c r s h i = let both = senior_trans c.rights r s r i h in cc (not_senior_to_itself c r)

  unchanged_by : (s : ℕ) → (changed s ≡ true → ⊥) → changed s ≡ false
  unchanged_by s h = by_test (changed s) refl
    where
      by_test : (t : Bool) → changed s ≡ t → t ≡ false
      by_test false e = refl
      by_test true e = absurd (h e)

  module _ (r : ℕ) (is : IsSeniorToChange b (with_rights b rights) changed r) where
    before_unchanged : (s : ℕ) → s < length b.rights → is_senior b s r ≡ true → changed s ≡ false
    before_unchanged s l h = unchanged_by s (λ e. clash b r s h (is.before s l e))

    after_unchanged : (s : ℕ) → s < length b.rights → is_senior (with_rights b rights) s r ≡ true → changed s ≡ false
    after_unchanged s l h = unchanged_by s (λ e. clash (with_rights b rights) r s h (is.after s l e))

    own : IsSame b (with_rights b rights) r r
    own = same_right r is.in_range is.unchanged

    pub stands_alike : HasSameSeniors b (with_rights b rights) (λ s. s) r
    stands_alike = record {
      in_range = is.in_range;
      same = λ s l up. change.others s l (up_to s l up);
      no_other = λ u l h. other u (let e = change.count in omega arith) h;
    }
      where
        up_to : (s : ℕ) → s < length b.rights → IsUpTo b s r → changed s ≡ false
        up_to s l (inl e) = ap changed e ∙ is.unchanged
        up_to s l (inr senior) = before_unchanged s l senior

        other : (u : ℕ) → u < length b.rights → is_senior (with_rights b rights) u r ≡ true →
            (s : ℕ) × (s < length b.rights) × IsTrue (is_senior b s r) × (s ≡ u)
        other u l h = (
          u,
          l,
          sym (same_senior b (with_rights b rights) u r u r (same_right u l (after_unchanged u l h)) own) ∙ h,
          refl,
        )

    pub senior_too : (s : ℕ) → s < length b.rights → is_senior b s r ≡ true →
        IsSeniorToChange b (with_rights b rights) changed s
    senior_too s l h = record {
      in_range = l;
      unchanged = before_unchanged s l h;
      before = λ c k e. senior_trans b.rights s r c h (is.before c k e);
      after = λ c k e. senior_trans rights s r c
          (same_senior b (with_rights b rights) s r s r (same_right s l (before_unchanged s l h)) own ∙ h)
          (is.after c k e);
    }

  pub are_retained : AreRetained b rights (λ s. s) (IsSeniorToChange b (with_rights b rights) changed)
  are_retained = record { alike = stands_alike; closed = λ s r l is h. senior_too r is s l h }

  pub give_alike : (series other : Series) → GiveUnchanged b changed series other →
      GiveAlike b (λ s. s) (IsSeniorToChange b (with_rights b rights) changed) series other
  give_alike series other give =
      record { amounts = give.amounts; wants = λ r i is listed l. give.wants r i is.unchanged listed l }

  -- where the change spares what is carried over, a month in which its seniors are delivered the same leaves the same
  pub leaves_same : (series other : Series) (before others : List MonthRecord) (m n : MonthRecord) →
      SparesCarryover b (with_rights b rights) changed →
      Follows b series before m → Follows (with_rights b rights) other others n →
      ((r : ℕ) → IsSeniorToChange b (with_rights b rights) changed r →
      slice_index m.delivered r ≡ slice_index n.delivered r) → LeaveSame b m n
  leaves_same series other before others m n spares f g same = record {
    closing = same_lists m.closing n.closing (length b.reservoirs) f.after.fits.closing g.after.fits.closing
        (λ v l. f.closing v l ∙ (closes v ∙ sym (g.closing v l)));
    returning = λ k row is. same row.right (spares.returns k row is);
  }
    where
      closes : (v : ℕ) →
          total_where (length b.rights) (λ r. is_zone_of b r v) (λ r. slice_index m.plan.take r)
          ≡ total_where (length rights) (λ r. is_zone_of (with_rights b rights) r v) (λ r. slice_index n.plan.take r)
      closes v =
          total_same (length b.rights) (λ r. if is_zone_of b r v then slice_index m.plan.take r else 0)
          (λ r. if is_zone_of (with_rights b rights) r v then slice_index n.plan.take r else 0)
          (λ r l. by_tests r l (is_zone_of b r v) (is_zone_of (with_rights b rights) r v) refl refl)
          ∙ ap (λ k. total_where k (λ r. is_zone_of (with_rights b rights) r v) (λ r. slice_index n.plan.take r))
          (sym change.count)
        where
          zone_same : (r : ℕ) → IsSeniorToChange b (with_rights b rights) changed r →
              is_zone_of (with_rights b rights) r v ≡ is_zone_of b r v
          zone_same r is =
              of_same b (with_rights b rights) (λ y. is_zone_of_kind y.kind v) false r r (own r is)

          taken : (r : ℕ) → r < length b.rights → is_zone_of b r v ≡ true →
              IsSeniorToChange b (with_rights b rights) changed r →
              slice_index m.plan.take r ≡ slice_index n.plan.take r
          taken r l zone is =
              sym (delivery_by_take b m.want m.plan r (zone_on_no_link b r v zone))
              ∙ (sym (f.after.delivered r l)
              ∙ (same r is
              ∙ (g.after.delivered r (let e = change.count in omega arith)
              ∙ delivery_by_take (with_rights b rights) n.want n.plan r
              (zone_on_no_link (with_rights b rights) r v (zone_same r is ∙ zone)))))

          by_tests : (r : ℕ) → r < length b.rights → (s t : Bool) → is_zone_of b r v ≡ s →
              is_zone_of (with_rights b rights) r v ≡ t →
              (if s then slice_index m.plan.take r else 0) ≡ (if t then slice_index n.plan.take r else 0)
          by_tests r l false false e h = refl
          by_tests r l true true e h = taken r l e
              (spares.zones r v l (or_left (is_zone_of b r v) (is_zone_of (with_rights b rights) r v) e))
          by_tests r l true false e h = absurd (let same = zone_same r
              (spares.zones r v l (or_left (is_zone_of b r v) (is_zone_of (with_rights b rights) r v) e)) in cc)
          by_tests r l false true e h = absurd (let same = zone_same r
              (spares.zones r v l (or_right (is_zone_of b r v) (is_zone_of (with_rights b rights) r v) h)) in cc)

pub change_injures_juniors_alone : ChangeInjuresJuniorsAlone
change_injures_juniors_alone first second changed series other records others valid valid' change give f g i m n here
    there leave r is =
    subst Holds (sym change.basin) same valid'.roll.strict change g leave is
  where
    Holds : Basin → Type 0
    Holds c = HasStrictPriority c → HasChanged first c changed → IsPartialHistory c other others →
        ((j : ℕ) (x y : MonthRecord) → j < i → slice_get records j ≡ Some x → slice_get others j ≡ Some y →
        LeaveSame first x y) → IsSeniorToChange first c changed r →
        slice_index m.delivered r ≡ slice_index n.delivered r

    same : Holds (with_rights first second.rights)
    same strict change g leave is =
        months_alike first second.rights (λ s. s)
        (IsSeniorToChange first (with_rights first second.rights) changed)
        (are_retained first second.rights changed change) valid.roll.strict strict series other
        (give_alike first second.rights changed change series other give) records others f g i m n here there
        (λ k x y below at at' same. leave k x y below at at') r is

pub change_injures_no_senior : ChangeInjuresNoSenior
change_injures_no_senior first second changed series other records others valid valid' change give spares f g i m n
    here there r is =
    subst Holds (sym change.basin) same valid'.roll.strict change g spares is
  where
    Holds : Basin → Type 0
    Holds c = HasStrictPriority c → HasChanged first c changed → IsPartialHistory c other others →
        SparesCarryover first c changed → IsSeniorToChange first c changed r →
        slice_index m.delivered r ≡ slice_index n.delivered r

    same : Holds (with_rights first second.rights)
    same strict change g spares is =
        months_alike first second.rights (λ s. s)
        (IsSeniorToChange first (with_rights first second.rights) changed)
        (are_retained first second.rights changed change) valid.roll.strict strict series other
        (give_alike first second.rights changed change series other give) records others f g i m n here there
        (λ k x y below at at' same. leaves_same first second.rights changed change series other (take k records)
        (take k others) x y spares (f.each k x at) (g.each k y at') same) r is

-- With one more right, and that a most junior one, the others are delivered the same.
use Rattle.std.proofs.Common.{◌≡◌, ℕ, ◌<◌, true, false, sym, ◌∙◌, ap, subst, arith, List, [], length, inl, inr, take}
use Rattle.std.proofs.lemmas.Bool.{cases_eq, cases_order}
use Rattle.std.specs.Prelude.{slice_index, IsTrue, insert}
use Rattle.finite_sums.specs.Sums.{total_where}
use Rattle.water_model.specs.Basin.{is_senior, right_name}
use Rattle.water_model.specs.History.{IsPartialHistory, Follows, is_zone_of, is_zone_of_kind}
use Rattle.water_model.specs.Valid.{IsValidBasin, IsValidReturn}
use Rattle.water_model.specs.declared.types.Basin.{Basin}
use Rattle.water_model.specs.declared.types.Series.{Series}
use Rattle.water_model.specs.declared.types.MonthRecord.{MonthRecord}
use Rattle.water_model.specs.declared.types.ReturnRow.{ReturnRow}
use Rattle.water_model.specs.declared.types.Right.{Right}
use Rattle.duality.proofs.Duality.{delivery_by_take}
use Rattle.water_model.proofs.Lists.{all_at}
use Rattle.duality.proofs.Outcome.{same_lists}
use Rattle.injury.specs.Changed.{LeaveSame}
use Rattle.injury.specs.Common.{HaveOneName}
use Rattle.injury.specs.Laws.{JuniorInjuresNobody}
use Rattle.injury.specs.OneMore.{with_right, moved, HasOneMore}
use Rattle.injury.proofs.Changed.{zone_on_no_link}
use Rattle.injury.proofs.Moves.{IsMoved, old_place, moved_below, moved_within, total_where_moved, entry_at_moved}
use Rattle.injury.proofs.Joined.{one_more_right, of_moved, moved_link, moved_senior, new_not_senior, diversion_before}
use Rattle.injury.proofs.Joined.{new_no_zone}
use Rattle.injury.proofs.Months.{AreRetained, months_alike}

module _ (b : Basin) (at : ℕ) (x : Right) (more : HasOneMore b (with_right b at x) at x) where
  -- each right of the first basin has the same seniors in the second
  are_retained : AreRetained b (insert b.rights at x) (moved at) (λ r. r < length b.rights)
  are_retained = record {
    alike = λ r l. record {
      in_range = l;
      same = λ s k up. entry_at_moved b.rights at x s more.position;
      no_other = no_other r l;
    };
    closed = λ s r l k h. l;
  }
    where
      no_other : (r : ℕ) → r < length b.rights → (u : ℕ) → u < length (with_right b at x).rights →
          is_senior (with_right b at x) u (moved at r) ≡ true →
          (s : ℕ) × (s < length b.rights) × IsTrue (is_senior b s r) × (moved at s ≡ u)
      no_other r l u k h = elim (cases_eq u at) [
        | inl new ↦ absurd (let senior : is_senior (with_right b at x) at (moved at r) ≡ true =
            ap (λ v. is_senior (with_right b at x) v (moved at r)) (sym new) ∙ h in
            cc (new_not_senior b at x more r l))
        | inr apart ↦ of_old (old_place at (length b.rights) u more.position
            (let e = one_more_right b at x more.position in omega arith) apart)
      ]
        where
          of_old : IsMoved at (length b.rights) u →
              (s : ℕ) × (s < length b.rights) × IsTrue (is_senior b s r) × (moved at s ≡ u)
          of_old old = (
            old.position,
            old.within,
            sym (moved_senior b at x old.position r more.position)
                ∙ (ap (λ v. is_senior (with_right b at x) v (moved at r)) (sym old.moves) ∙ h),
            sym old.moves,
          )

  -- a month in which they are delivered the same leaves the same
  leaves_same : (series other : Series) (before others : List MonthRecord) (m n : MonthRecord) → IsValidBasin b →
      Follows b series before m → Follows (with_right b at x) other others n →
      ((r : ℕ) → r < length b.rights → slice_index m.delivered r ≡ slice_index n.delivered (moved at r)) →
      LeaveSame b m n
  leaves_same series other before others m n valid f g same = record {
    closing = same_lists m.closing n.closing (length b.reservoirs) f.after.fits.closing g.after.fits.closing
        (λ v l. f.closing v l ∙ (sym (closes v) ∙ sym (g.closing v l)));
    returning = λ k row is. of_row row (all_at (λ y. IsValidReturn b y) b.returns k row valid.returns is);
  }
    where
      of_row : (row : ReturnRow) → IsValidReturn b row →
          slice_index m.delivered row.right ≡ slice_index n.delivered row.right
      of_row row ok = same row.right ok.right
          ∙ ap (slice_index n.delivered) (moved_below at row.right
          (diversion_before b at x more row.right ok.diversion))

      closes : (v : ℕ) →
          total_where (length (with_right b at x).rights) (λ s. is_zone_of (with_right b at x) s v)
          (λ s. slice_index n.plan.take s)
          ≡ total_where (length b.rights) (λ r. is_zone_of b r v) (λ r. slice_index m.plan.take r)
      closes v = total_where_moved (length (with_right b at x).rights) (length b.rights) at
          (λ r. is_zone_of b r v) (λ s. is_zone_of (with_right b at x) s v)
          (λ r. slice_index m.plan.take r) (λ s. slice_index n.plan.take s)
          (one_more_right b at x more.position) more.position
          (λ h. absurd (clash h))
          (λ r l. of_moved b at x (λ y. is_zone_of_kind y.kind v) false r more.position)
          takes
        where
          clash : is_zone_of (with_right b at x) at v ≡ true → ⊥
          clash h = cc (new_no_zone b at x more v)

          takes : (r : ℕ) → r < length b.rights → is_zone_of b r v ≡ true →
              slice_index n.plan.take (moved at r) ≡ slice_index m.plan.take r
          takes r l zone =
              sym (delivery_by_take (with_right b at x) n.want n.plan (moved at r)
              (moved_link b at x r more.position ∙ zone_on_no_link b r v zone))
              ∙ (sym (g.after.delivered (moved at r)
              (omega (arith, moved_within at r (length b.rights) l, one_more_right b at x more.position)))
              ∙ (sym (same r l)
              ∙ (f.after.delivered r l ∙ delivery_by_take b m.want m.plan r (zone_on_no_link b r v zone))))

  -- the index of the right that has a common name
  one_place : (r s : ℕ) → IsValidBasin (with_right b at x) → HaveOneName b (with_right b at x) r s → s ≡ moved at r
  one_place r s valid one = elim (cases_order s (moved at r)) [
    | inl same ↦ same
    | inr o ↦ elim o [
      | inl below ↦ absurd (valid.names.rights s (moved at r) below within (sym name))
      | inr above ↦ absurd (valid.names.rights (moved at r) s above one.in_second name)
    ]
  ]
    where
      within : moved at r < length (with_right b at x).rights
      within = omega (arith, moved_within at r (length b.rights) one.in_first, one_more_right b at x more.position)

      name : right_name (with_right b at x) (moved at r) ≡ right_name (with_right b at x) s
      name = of_moved b at x (λ y. y.name) [] r more.position ∙ one.name

pub junior_injures_nobody : JuniorInjuresNobody
junior_injures_nobody first second at x series other records others valid valid' more give f g i m n here there r s
    one =
    subst Same (sym more.basin) same valid' more g one
  where
    Same : Basin → Type 0
    Same c = IsValidBasin c → HasOneMore first c at x → IsPartialHistory c other others → HaveOneName first c r s →
        slice_index m.delivered r ≡ slice_index n.delivered s

    same : Same (with_right first at x)
    same valid' more g one =
        months_alike first (insert first.rights at x) (moved at) (λ r. r < length first.rights)
        (are_retained first at x more) valid.roll.strict valid'.roll.strict series other
        (record { amounts = give.amounts; wants = λ r i l listed k. give.wants r i listed k })
        records others f g i m n here there
        (λ k y z below at_y at_z alike. leaves_same first at x more series other (take k records) (take k others) y z
        valid (f.each k y at_y) (g.each k z at_z) alike) r one.in_first
        ∙ ap (slice_index n.delivered) (sym (one_place first at x more r s valid' one))

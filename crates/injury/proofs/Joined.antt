-- What a basin with one more right keeps of the first.
use Rattle.std.proofs.Common.{◌≡◌, ℕ, zero, suc, ◌<◌, ◌≤◌, Bool, true, false, refl, sym, ◌∙◌, ap, ap₂, arith, List, []}
use Rattle.std.proofs.Common.{◌∷◌, length, inl, inr}
use Rattle.std.proofs.lemmas.Bool.{cases_lt}
use Rattle.std.specs.Prelude.{slice_get, drop, None, unwrap_or, option_map, All}
use Rattle.water_model.specs.Lookups.{of_entry}
use Rattle.water_model.specs.Rights.{is_lower, priority}
use Rattle.water_model.specs.Basin.{instream_link, link_of_kind, is_senior, priority_of}
use Rattle.water_model.specs.History.{is_zone_of, is_zone_of_kind}
use Rattle.water_model.specs.Valid.{is_diversion, is_diversion_kind, rank_of_kind}
use Rattle.water_model.specs.declared.types.Basin.{Basin}
use Rattle.water_model.specs.declared.types.Right.{Right}
use Rattle.water_model.specs.declared.types.RightKind.{RightKind}
use Rattle.water_model.specs.declared.types.RightKind.TheVariants.{Diversion, Instream, Zone}
use Rattle.water_model.proofs.Valid.{entry_holds}
use Rattle.water_model.proofs.Seniority.{not_lower, lower_trans}
use Rattle.injury.specs.OneMore.{with_right, moved, HasOneMore}
use Rattle.injury.proofs.Moves.{entry_at_moved, entry_at_new, one_longer}

module _ (b : Basin) (at : ℕ) (x : Right) where
  pub one_more_right : at ≤ length b.rights → length (with_right b at x).rights ≡ suc (length b.rights)
  one_more_right l = one_longer b.rights at x l

  pub of_moved : {Y : Type 0} (f : Right → Y) (d : Y) (r : ℕ) → at ≤ length b.rights →
      of_entry (with_right b at x).rights (moved at r) f d ≡ of_entry b.rights r f d
  of_moved f d r l = ap (λ o. unwrap_or (option_map f o) d) (entry_at_moved b.rights at x r l)

  pub of_new : {Y : Type 0} (f : Right → Y) (d : Y) → at ≤ length b.rights →
      of_entry (with_right b at x).rights at f d ≡ f x
  of_new f d l = ap (λ o. unwrap_or (option_map f o) d) (entry_at_new b.rights at x l)

  -- what the rights of the first basin are on
  pub moved_link : (r : ℕ) → at ≤ length b.rights → instream_link (with_right b at x) (moved at r) ≡ instream_link b r
  moved_link r l = of_moved (λ y. link_of_kind y.kind) None r l

  pub moved_senior : (r s : ℕ) → at ≤ length b.rights →
      is_senior (with_right b at x) (moved at r) (moved at s) ≡ is_senior b r s
  moved_senior r s l = ap₂ is_lower (of_moved priority [] r l) (of_moved priority [] s l)

  -- the new right is junior to each
  module _ (more : HasOneMore b (with_right b at x) at x) where
    junior : (r : ℕ) → r < length b.rights → is_lower (priority_of b r) (priority x) ≡ true
    junior r l =
        let entry = entry_holds (λ y. is_lower (priority y) (priority x) ≡ true) b.rights r more.most_junior l in
        ap (λ o. is_lower (unwrap_or (option_map priority o) []) (priority x)) entry.1 ∙ entry.2

    pub new_not_senior : (r : ℕ) → r < length b.rights → is_senior (with_right b at x) at (moved at r) ≡ false
    new_not_senior r l = by_test (is_senior (with_right b at x) at (moved at r)) refl
      where
        lower : is_senior (with_right b at x) at (moved at r) ≡ is_lower (priority x) (priority_of b r)
        lower = ap₂ is_lower (of_new priority [] more.position) (of_moved priority [] r more.position)

        by_test : (t : Bool) → is_senior (with_right b at x) at (moved at r) ≡ t → t ≡ false
        by_test false e = refl
        by_test true e =
            let both = lower_trans (priority x) (priority_of b r) (priority x) (sym lower ∙ e) (junior r l) in
            cc (not_lower (priority x))

    -- a diversion of the first stands before the new right
    pub diversion_before : (r : ℕ) → is_diversion b r ≡ true → r < at
    diversion_before r h = elim (cases_lt r at) [ inl before ↦ before | inr after ↦ absurd (clash after) ]
      where
        no_rank_0 : (k : RightKind) → rank_of_kind x.kind < rank_of_kind k → is_diversion_kind k ≡ false
        no_rank_0 (Diversion node) l = absurd (omega arith)
        no_rank_0 (Instream link) l = refl
        no_rank_0 (Zone reservoir level) l = refl

        dropped : (xs : List Right) (n r : ℕ) → n ≤ r →
            All (λ y. rank_of_kind x.kind < rank_of_kind y.kind) (drop n xs) →
            unwrap_or (option_map (λ y. is_diversion_kind y.kind) (slice_get xs r)) false ≡ false
        dropped [] n r l all = refl
        dropped (y ∷ ys) zero zero l all = no_rank_0 y.kind (all 0 y (omega arith))
        dropped (y ∷ ys) zero (suc r) l all = dropped ys zero r (omega arith) (λ i d m. all (suc i) d (omega arith))
        dropped (y ∷ ys) (suc n) zero l all = absurd (omega arith)
        dropped (y ∷ ys) (suc n) (suc r) l all = dropped ys n r (omega arith) all

        clash : at ≤ r → ⊥
        clash after = cc (dropped b.rights at r after more.last_of_kind)

    pub new_no_zone : (v : ℕ) → is_zone_of (with_right b at x) at v ≡ false
    new_no_zone v = of_new (λ y. is_zone_of_kind y.kind v) false more.position ∙ of_kind x.kind more.no_zone
      where
        of_kind : (k : RightKind) → rank_of_kind k < 2 → is_zone_of_kind k v ≡ false
        of_kind (Diversion node) l = refl
        of_kind (Instream link) l = refl
        of_kind (Zone reservoir level) l = absurd (omega arith)

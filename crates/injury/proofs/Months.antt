-- Month by month: histories of a basin and of one with other rights, which deliver some rights the same.
use Rattle.std.proofs.Common.{◌≡◌, ℕ, zero, suc, ◌+◌, ◌-◌, ◌*◌, ◌/◌, ◌<◌, ◌≤◌, Bool, true, false, refl, sym, ◌∙◌, ap}
use Rattle.std.proofs.Common.{ap₂, subst, arith, List, [], ◌∷◌, length, map, take, length-take, inl, inr}
use Rattle.std.proofs.lemmas.Option.{slice_get_within}
use Rattle.std.specs.Prelude.{if◌then◌else◌, ◌==◌, slice_index, slice_get, Option, Some, None, unwrap_or, option_map}
use Rattle.finite_sums.proofs.Totals.{total_same}
use Rattle.water_model.specs.Lookups.{of_entry}
use Rattle.water_model.specs.Basin.{instream_link, link_of_kind, is_senior, HasStrictPriority}
use Rattle.duality.specs.Alike.{IsUpTo, HasSameSeniors, IsCertified}
use Rattle.water_model.specs.Hydrology.{run_month, in_year, inflow_at, inflow_of_kind}
use Rattle.water_model.specs.Hydrology.{delivered_in, delivered_before, returned_by, returned_at, table_at, number_in, number_of}
use Rattle.water_model.specs.Hydrology.{cap_by_link, target_of, water_year, used_in_year, used_by_volume, used_of}
use Rattle.water_model.specs.Hydrology.{want_by_volume, want_of}
use Rattle.water_model.specs.History.{IsPartialHistory, Follows, opening_after}
use Rattle.water_model.specs.Valid.{is_gauged, is_gauged_kind, is_in_series, is_series}
use Rattle.water_model.specs.declared.types.Basin.{Basin}
use Rattle.water_model.specs.declared.types.Inflow.{Inflow}
use Rattle.water_model.specs.declared.types.Inflow.TheVariants.{Monthly, Gauged}
use Rattle.water_model.specs.declared.types.Series.{Series}
use Rattle.water_model.specs.declared.types.MonthRecord.{MonthRecord}
use Rattle.water_model.specs.declared.types.Node.{Node}
use Rattle.water_model.specs.declared.types.ReturnRow.{ReturnRow}
use Rattle.water_model.specs.declared.types.Right.{Right}
use Rattle.water_model.specs.declared.types.Want.{Want}
use Rattle.water_model.specs.declared.types.Want.TheVariants as wanting
use Rattle.duality.proofs.Alike.{IsSame, of_same, same_there, juniors_change_nothing, record_is_certified}
use Rattle.duality.proofs.Balance.{opening_after_more}
use Rattle.water_model.proofs.Valid.{entry_at}
use Rattle.duality.proofs.Outcome.{BeginAlike, begin_alike}
use Rattle.water_model.proofs.Sets.{total_where_same}
use Rattle.injury.specs.Changed.{LeaveSame}

-- the basin with other rights
abbrev pub with_rights : Basin → List Right → Basin
with_rights b rights = record b { rights = rights }

-- what was delivered to a right in the months so far
pub delivered_more : (records others : List MonthRecord) (i : ℕ) (m n : MonthRecord) (r s : ℕ) →
    slice_get records i ≡ Some m → slice_get others i ≡ Some n → slice_index m.delivered r ≡ slice_index n.delivered s →
    ((j : ℕ) →
    delivered_in (map (λ k. k.delivered) (take i records)) r j ≡ delivered_in
    (map (λ k. k.delivered) (take i others)) s j) →
    (j : ℕ) →
    delivered_in (map (λ k. k.delivered) (take (suc i) records)) r j ≡ delivered_in
    (map (λ k. k.delivered) (take (suc i) others)) s j
delivered_more [] others i m n r s at at' same before j = absurd (cc)
delivered_more (x ∷ xs) [] i m n r s at at' same before j = absurd (cc)
delivered_more (x ∷ xs) (y ∷ ys) zero m n r s at at' same before zero =
    ap (λ o. unwrap_or (option_map (λ k. slice_index k.delivered r) o) 0) at
    ∙ (same ∙ sym (ap (λ o. unwrap_or (option_map (λ k. slice_index k.delivered s) o) 0) at'))
delivered_more (x ∷ xs) (y ∷ ys) zero m n r s at at' same before (suc j) = refl
delivered_more (x ∷ xs) (y ∷ ys) (suc i) m n r s at at' same before zero = before 0
delivered_more (x ∷ xs) (y ∷ ys) (suc i) m n r s at at' same before (suc j) =
    delivered_more xs ys i m n r s at at' same (λ k. before (suc k)) j

-- what a right wants that stands in both basins
module _ (b : Basin) (rights : List Right) (r u : ℕ) (same : IsSame b (with_rights b rights) r u)
    (series other : Series) (i : ℕ)
    (wants : is_in_series b r ≡ true →
    table_at series.wanted series.want i r ≡ table_at other.wanted other.want i u) where
  number_same : number_in b series i r ≡ number_in (with_rights b rights) other i u
  number_same =
      of_get (slice_get b.rights r) refl
      ∙ sym (of_same b (with_rights b rights) (λ y. number_of (with_rights b rights) other u i y.want) 0 r u same)
    where
      by_want : (want : Want) → (is_series want ≡ true → is_in_series b r ≡ true) →
          number_of b series r i want ≡ number_of (with_rights b rights) other u i want
      by_want wanting.Series h = wants (h refl)
      by_want (wanting.Monthly amounts) h = refl

      of_get : (o : Option Right) → slice_get b.rights r ≡ o →
          unwrap_or (option_map (λ y. number_of b series r i y.want) o) 0
          ≡ unwrap_or (option_map (λ y. number_of (with_rights b rights) other u i y.want) o) 0
      of_get None e = refl
      of_get (Some y) e = by_want y.want
          (λ h. ap (λ o. unwrap_or (option_map (λ y. is_series y.want) o) false) e ∙ h)

  target_same : target_of b series r i ≡ target_of (with_rights b rights) other u i
  target_same =
      by_link (instream_link b r) (number_in b series i r)
      ∙ ap₂ (λ o z. cap_by_link (with_rights b rights) (run_month b i) o z)
      (sym (of_same b (with_rights b rights) (λ y. link_of_kind y.kind) None r u same)) number_same
    where
      by_link : (o : Option ℕ) (z : ℕ) →
          cap_by_link b (run_month b i) o z ≡ cap_by_link (with_rights b rights) (run_month b i) o z
      by_link None z = refl
      by_link (Some link) z = refl

  pub want_same : (used : ℕ) → want_of b series r i used ≡ want_of (with_rights b rights) other u i used
  want_same used =
      ap₂ (λ o z. want_by_volume o z used) (sym (of_same b (with_rights b rights) (λ y. y.volume) None r u same))
      target_same

-- and what it used of a volume
pub used_same : (b : Basin) (rights : List Right) (r u : ℕ) → IsSame b (with_rights b rights) r u →
    (ds es : List (List ℕ)) → ((j : ℕ) → delivered_in ds r j ≡ delivered_in es u j) → (i : ℕ) →
    used_of b ds r i ≡ used_of (with_rights b rights) es u i
used_same b rights r u same ds es alike i =
    ap (λ z. of_entry b.rights r (λ y. used_by_volume y.volume z) 0)
    (total_where_same i (λ j. water_year b j == water_year b i) (λ j. delivered_in ds r j) (λ j. delivered_in es u j)
    (λ j k. alike j))
    ∙ sym (of_same b (with_rights b rights)
    (λ y. used_by_volume y.volume (used_in_year (with_rights b rights) es u i)) 0 r u same)

-- what flows in at a node
inflow_same : (b : Basin) (rights : List Right) (series other : Series) (k i : ℕ) →
    (is_gauged b k ≡ true →
    table_at series.gauged series.amount i k ≡ table_at other.gauged other.amount i k) →
    inflow_at b series k i ≡ inflow_at (with_rights b rights) other k i
inflow_same b rights series other k i amounts = of_get (slice_get b.nodes k) refl
  where
    of_kind : (f : Inflow) → (is_gauged_kind f ≡ true → is_gauged b k ≡ true) →
        inflow_of_kind b series k i f ≡ inflow_of_kind (with_rights b rights) other k i f
    of_kind (Monthly amounts) h = refl
    of_kind Gauged h = amounts (h refl)

    of_get : (o : Option Node) → slice_get b.nodes k ≡ o →
        unwrap_or (option_map (λ n. inflow_of_kind b series k i n.inflow) o) 0
        ≡ unwrap_or (option_map (λ n. inflow_of_kind (with_rights b rights) other k i n.inflow) o) 0
    of_get None e = refl
    of_get (Some n) e =
        of_kind n.inflow (λ h. ap (λ o. unwrap_or (option_map (λ y. is_gauged_kind y.inflow) o) false) e ∙ h)

-- what comes back to a node
returned_same : (b : Basin) (rights : List Right) (ds es : List (List ℕ)) →
    ((k : ℕ) (row : ReturnRow) → slice_get b.returns k ≡ Some row →
    (j : ℕ) → delivered_in ds row.right j ≡ delivered_in es row.right j) →
    (k i : ℕ) → returned_at b ds k i ≡ returned_at (with_rights b rights) es k i
returned_same b rights ds es alike k i = total_same (length b.returns)
    (λ j. of_entry b.returns j (λ row. if row.node == k then returned_by row ds i else 0) 0)
    (λ j. of_entry b.returns j (λ row. if row.node == k then returned_by row es i else 0) 0)
    (λ j l. of_row j (entry_at b.returns j l))
  where
    before_same : (right n : ℕ) → ((j : ℕ) → delivered_in ds right j ≡ delivered_in es right j) →
        delivered_before ds right n ≡ delivered_before es right n
    before_same right n same =
        total_same n (λ j. delivered_in ds right j) (λ j. delivered_in es right j) (λ j l. same j)

    by_row : (row : ReturnRow) → ((j : ℕ) → delivered_in ds row.right j ≡ delivered_in es row.right j) →
        returned_by row ds i ≡ returned_by row es i
    by_row row same = ap₂ (λ y z. row.part * y / 10000 - row.part * z / 10000)
        (before_same row.right (i + 1 - row.lag) same) (before_same row.right (i - row.lag) same)

    of_row : (j : ℕ) → (row : ReturnRow) × (slice_get b.returns j ≡ Some row) →
        of_entry b.returns j (λ row. if row.node == k then returned_by row ds i else 0) 0
        ≡ of_entry b.returns j (λ row. if row.node == k then returned_by row es i else 0) 0
    of_row j entry =
        ap (λ o. unwrap_or (option_map (λ row. if row.node == k then returned_by row ds i else 0) o) 0) entry.1
        ∙ (ap (λ z. if entry.0.node == k then z else 0) (by_row entry.0 (alike j entry.0 entry.1))
        ∙ sym (ap (λ o. unwrap_or (option_map (λ row. if row.node == k then returned_by row es i else 0) o) 0)
        entry.1))

-- some rights with the same seniors in both basins, and with each of them its seniors
pub record AreRetained (b : Basin) (rights : List Right) (at : ℕ → ℕ) (S : ℕ → Type 0) : Type 0 where
  pub alike : (r : ℕ) → S r → HasSameSeniors b (with_rights b rights) at r
  pub closed : (s r : ℕ) → s < length b.rights → S r → is_senior b s r ≡ true → S s

-- two series give each gauged node and each of them the same
pub record GiveAlike (b : Basin) (at : ℕ → ℕ) (S : ℕ → Type 0) (series other : Series) : Type 0 where
  pub amounts : (n i : ℕ) → is_gauged b n ≡ true → i < b.months →
      table_at series.gauged series.amount i n ≡ table_at other.gauged other.amount i n
  pub wants : (r i : ℕ) → S r → is_in_series b r ≡ true → i < b.months →
      table_at series.wanted series.want i r ≡ table_at other.wanted other.want i (at r)

-- what the months before leave
pub record AreAlike (b : Basin) (at : ℕ → ℕ) (S : ℕ → Type 0) (before others : List MonthRecord) : Type 0 where
  pub count : length before ≡ length others
  pub storage : opening_after b before ≡ opening_after b others
  pub returning : (k : ℕ) (row : ReturnRow) → slice_get b.returns k ≡ Some row → (j : ℕ) →
      delivered_in (map (λ k. k.delivered) before) row.right j
      ≡ delivered_in (map (λ k. k.delivered) others) row.right j
  pub deliveries : (r j : ℕ) → S r →
      delivered_in (map (λ k. k.delivered) before) r j ≡ delivered_in (map (λ k. k.delivered) others) (at r) j

module _ (b : Basin) (rights : List Right) (at : ℕ → ℕ) (S : ℕ → Type 0)
    (retained : AreRetained b rights at S) (strict : HasStrictPriority b)
    (strict' : HasStrictPriority (with_rights b rights)) (series other : Series)
    (give : GiveAlike b at S series other) where
  -- one month
  pub month_alike : (before others : List MonthRecord) (m n : MonthRecord) →
      length before < b.months → AreAlike b at S before others →
      Follows b series before m → Follows (with_rights b rights) other others n →
      (r : ℕ) → S r → slice_index m.delivered r ≡ slice_index n.delivered (at r)
  month_alike before others m n within same f g r is =
      juniors_change_nothing b (with_rights b rights) at r m.month m.supply m.want n.want m.delivered n.delivered
      m.plan n.plan strict strict' (record { nodes = refl; links = refl; reservoirs = refl }) (retained.alike r is)
      (record { each = λ s l up. wants s (up_to s l up) }) (record_is_certified b series before m f)
      (subst (λ t. IsCertified (with_rights b rights) t m.supply n.want n.delivered n.plan) (sym alike.month)
      (subst (λ s. IsCertified (with_rights b rights) n.month s n.want n.delivered n.plan) (sym alike.supply)
      (record_is_certified (with_rights b rights) other others n g)))
    where
      in_run : m.index < b.months
      in_run = let e = f.after.index in omega arith

      alike : BeginAlike m n
      alike = begin_alike b rights series other before others m n same.count same.storage
          (λ k. returned_same b rights (map (λ k. k.delivered) before) (map (λ k. k.delivered) others) same.returning k
          m.index)
          (λ k. inflow_same b rights series other k m.index (λ gauged. give.amounts k m.index gauged in_run)) f g

      up_to : (s : ℕ) → s < length b.rights → IsUpTo b s r → S s
      up_to s l (inl e) = subst S (sym e) is
      up_to s l (inr senior) = retained.closed s r l is senior

      wants : (s : ℕ) → S s → slice_index n.want (at s) ≡ slice_index m.want s
      wants s kept =
          g.after.want (at s) (same_there b (with_rights b rights) s (at s) entry)
          ∙ (ap₂ (λ i u. want_of (with_rights b rights) other (at s) i u) (sym alike.index) (sym used)
          ∙ (sym (want_same b rights s (at s) entry series other m.index
          (λ listed. give.wants s m.index kept listed in_run) (slice_index m.used s))
          ∙ sym (f.after.want s entry.here)))
        where
          entry : IsSame b (with_rights b rights) s (at s)
          entry = let x = retained.alike s kept in
              record { here = x.in_range; entry = x.same s x.in_range (inl refl) }

          used : slice_index m.used s ≡ slice_index n.used (at s)
          used = f.after.used s entry.here
              ∙ (used_same b rights s (at s) entry (map (λ k. k.delivered) before) (map (λ k. k.delivered) others)
              (λ j. same.deliveries s j kept) m.index
              ∙ (ap (λ i. used_of (with_rights b rights) (map (λ k. k.delivered) others) (at s) i) alike.index
              ∙ sym (g.after.used (at s) (same_there b (with_rights b rights) s (at s) entry))))

  -- by the months before, where each of them leaves the same
  module _ (records others : List MonthRecord) (f : IsPartialHistory b series records)
      (g : IsPartialHistory (with_rights b rights) other others) where
    pub before_alike : (i : ℕ) → i ≤ length records → i ≤ length others →
        ((k : ℕ) (m n : MonthRecord) → k < i → slice_get records k ≡ Some m → slice_get others k ≡ Some n →
        ((r : ℕ) → S r → slice_index m.delivered r ≡ slice_index n.delivered (at r)) → LeaveSame b m n) →
        AreAlike b at S (take i records) (take i others)
    before_alike zero l l' leave =
        record { count = refl; storage = refl; returning = λ k row is j. refl; deliveries = λ r j is. refl }
    before_alike (suc i) l l' leave =
        one_more (entry_at records i (omega arith)) (entry_at others i (omega arith))
        (before_alike i (omega arith) (omega arith) (λ k m n below. leave k m n (omega arith)))
      where
        one_more : (m : MonthRecord) × (slice_get records i ≡ Some m) → (n : MonthRecord) ×
            (slice_get others i ≡ Some n) → AreAlike b at S (take i records) (take i others) →
            AreAlike b at S (take (suc i) records) (take (suc i) others)
        one_more m n same = record {
          count = omega (arith, length-take (suc i) records, length-take (suc i) others);
          storage = opening_after_more b records i m.0 (omega arith) m.1
              ∙ (left.closing ∙ sym (opening_after_more b others i n.0 (omega arith) n.1));
          returning = λ k row is j. delivered_more records others i m.0 n.0 row.right row.right m.1 n.1
              (left.returning k row is) (same.returning k row is) j;
          deliveries = λ r j is. delivered_more records others i m.0 n.0 r (at r) m.1 n.1 (month r is)
              (λ j. same.deliveries r j is) j;
        }
          where
            month : (r : ℕ) → S r → slice_index m.0.delivered r ≡ slice_index n.0.delivered (at r)
            month = month_alike (take i records) (take i others) m.0 n.0
                (let w = f.within in omega (arith, length-take i records)) same (f.each i m.0 m.1) (g.each i n.0 n.1)

            left : LeaveSame b m.0 n.0
            left = leave i m.0 n.0 (omega arith) m.1 n.1 month

    pub months_alike : (i : ℕ) (m n : MonthRecord) → slice_get records i ≡ Some m → slice_get others i ≡ Some n →
        ((k : ℕ) (x y : MonthRecord) → k < i → slice_get records k ≡ Some x → slice_get others k ≡ Some y →
        ((r : ℕ) → S r → slice_index x.delivered r ≡ slice_index y.delivered (at r)) → LeaveSame b x y) →
        (r : ℕ) → S r → slice_index m.delivered r ≡ slice_index n.delivered (at r)
    months_alike i m n here there leave =
        let l = slice_get_within records i m here in
        let l' = slice_get_within others i n there in
        month_alike (take i records) (take i others) m n (let w = f.within in omega (arith, length-take i records))
        (before_alike i (omega arith) (omega arith) leave) (f.each i m here) (g.each i n there)

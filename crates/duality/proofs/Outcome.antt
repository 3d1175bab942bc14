-- Two histories have one outcome.
use Rattle.std.proofs.Common.{◌≡◌, ℕ, zero, suc, ◌<◌, ◌≤◌, refl, sym, ◌∙◌, ap, ap₂, arith, List, [], ◌∷◌}
use Rattle.std.proofs.Common.{◌++◌, length, map, take, length-take}
use Rattle.std.proofs.lemmas.Grind.{same_number_lists}
use Rattle.std.proofs.lemmas.Option.{slice_get_within}
use Rattle.std.specs.Prelude.{if◌then◌else◌, slice_index, slice_get, Some, None, unwrap_or}
use Rattle.water_model.specs.Basin.{taking_node, taking_node_of_kind, instream_link, link_of_kind}
use Rattle.water_model.specs.Plans.{IsPlan, IsGreatest, DeliversSame}
use Rattle.water_model.specs.Hydrology.{run_month, inflow_at, returned_at}
use Rattle.water_model.specs.History.{IsPartialHistory, Follows, is_zone_of, opening_after}
use Rattle.duality.specs.Laws.{HaveSameOutcome, HistoriesHaveOneOutcome}
use Rattle.water_model.specs.Valid.{IsValidBasin}
use Rattle.water_text.specs.declared.month.Month.{Month}
use Rattle.water_model.specs.declared.types.Basin.{Basin}
use Rattle.water_model.specs.declared.types.Series.{Series}
use Rattle.water_model.specs.declared.types.MonthRecord.{MonthRecord}
use Rattle.water_model.specs.declared.types.Plan.{Plan}
use Rattle.water_model.specs.declared.types.Right.{Right}
use Rattle.water_model.specs.declared.types.RightKind.{RightKind}
use Rattle.water_model.specs.declared.types.RightKind.TheVariants.{Diversion, Instream, Zone}
use Rattle.finite_sums.proofs.Totals.{total_same}
use Rattle.duality.proofs.Balance.{sum_of, plan_balance, opening_after_more}
use Rattle.water_model.proofs.Valid.{kind_is, KindIs, entry_at}
use Rattle.duality.proofs.Duality.{delivery_by_take}
use Rattle.duality.proofs.Greatest.{greatest_same, record_is_greatest}

-- two lists of numbers of one length that agree at each index
pub same_lists : (xs ys : List ℕ) (n : ℕ) → length xs ≡ n → length ys ≡ n →
    ((k : ℕ) → k < n → slice_index xs k ≡ slice_index ys k) → xs ≡ ys
same_lists xs ys n e f h = same_number_lists xs ys (e ∙ sym f) (λ k l. h k (omega arith))

-- what the records before a month leave for it
record SameBefore (b : Basin) (before others : List MonthRecord) : Type 0 where
  count : length before ≡ length others
  storage : opening_after b before ≡ opening_after b others
  deliveries : map (λ k. k.delivered) before ≡ map (λ k. k.delivered) others

-- the takes of two plans that deliver the same are the same
same_takes : (b : Basin) (month : Month) (supply want : List ℕ) (p q : Plan) → IsValidBasin b →
    IsPlan b month supply want p → IsPlan b month supply want q → DeliversSame b want p q →
    (r : ℕ) → r < length b.rights → slice_index p.take r ≡ slice_index q.take r
same_takes b month supply want p q valid plan other same r l = of_kind k.kind k.node k.link
  where
    k : KindIs b r
    k = kind_is b valid r l

    by_take : instream_link b r ≡ None → slice_index p.take r ≡ slice_index q.take r
    by_take on = sym (delivery_by_take b want p r on) ∙ (same r l ∙ delivery_by_take b want q r on)

    of_kind : (kind : RightKind) → taking_node b r ≡ taking_node_of_kind b kind →
        instream_link b r ≡ link_of_kind kind →
        slice_index p.take r ≡ slice_index q.take r
    of_kind (Diversion node) at on = by_take on
    of_kind (Instream link) at on = plan.instream r l at ∙ sym (other.instream r l at)
    of_kind (Zone reservoir level) at on = by_take on

-- what two months begin with, and what comes in
pub record BeginAlike (m n : MonthRecord) : Type 0 where
  pub index : m.index ≡ n.index
  pub month : m.month ≡ n.month
  pub opening : m.opening ≡ n.opening
  pub evaporated : m.evaporated ≡ n.evaporated
  pub returned : m.returned ≡ n.returned
  pub supply : m.supply ≡ n.supply

-- a month of a basin begins as one of the basin with other rights, after as many months that leave the same storage,
-- where the same comes back and flows in
pub begin_alike : (b : Basin) (rights : List Right) (series other : Series) (before others : List MonthRecord)
    (m n : MonthRecord) → length before ≡ length others → opening_after b before ≡ opening_after b others →
    ((k : ℕ) → returned_at b (map (λ k. k.delivered) before) k m.index
    ≡ returned_at (record b { rights = rights }) (map (λ k. k.delivered) others) k m.index) →
    ((k : ℕ) → inflow_at b series k m.index ≡ inflow_at (record b { rights = rights }) other k m.index) →
    Follows b series before m → Follows (record b { rights = rights }) other others n → BeginAlike m n
begin_alike b rights series other before others m n count storage returns inflows f g = record {
  index = index;
  month = f.after.month ∙ (ap (run_month b) index ∙ sym g.after.month);
  opening = opening;
  evaporated = evaporated;
  returned = returned;
  supply = same_lists m.supply n.supply (length b.nodes) f.after.fits.supply g.after.fits.supply
      (λ k l. f.after.supply k l ∙ rw (inflows k, opening, index, returned, evaporated) (sym (g.after.supply k l)));
}
  where
    index : m.index ≡ n.index
    index = f.after.index ∙ (count ∙ sym g.after.index)

    opening : m.opening ≡ n.opening
    opening = f.opening ∙ (storage ∙ sym g.opening)

    evaporated : m.evaporated ≡ n.evaporated
    evaporated = same_lists m.evaporated n.evaporated (length b.reservoirs) f.after.fits.evaporated
        g.after.fits.evaporated (λ v l. f.after.evaporated v l ∙ rw (opening, index) (sym (g.after.evaporated v l)))

    returned : m.returned ≡ n.returned
    returned = same_lists m.returned n.returned (length b.nodes) f.after.fits.returned g.after.fits.returned
        (λ k l. f.after.returned k l ∙ (returns k ∙ rw index (sym (g.after.returned k l))))

-- one month
same_month : (b : Basin) (series : Series) (before others : List MonthRecord) (m n : MonthRecord) → IsValidBasin b →
    SameBefore b before others → Follows b series before m → Follows b series others n → HaveSameOutcome m n
same_month b series before others m n valid same f g = record {
  index = alike.index;
  month = alike.month;
  opening = alike.opening;
  evaporated = alike.evaporated;
  returned = alike.returned;
  supply = alike.supply;
  used = used;
  want = want;
  delivered = same_lists m.delivered n.delivered (length b.rights) f.after.fits.delivered g.after.fits.delivered
      (λ r l. f.after.delivered r l ∙ (deliver r l ∙ rw want (sym (g.after.delivered r l))));
  closing = same_lists m.closing n.closing (length b.reservoirs) f.after.fits.closing g.after.fits.closing
      (λ v l. f.closing v l
      ∙ (total_same _ _ _ (λ r k. ap (λ x. if is_zone_of b r v then x else 0) (takes r k)) ∙ sym (g.closing v l)));
  outflow = omega (
    arith,
    plan_balance b m.month m.supply m.want m.plan valid f.after.plan,
    plan_balance b m.month m.supply m.want n.plan valid g_greatest.plan,
    total_same (length b.rights) (λ r. slice_index m.plan.take r) (λ r. slice_index n.plan.take r) takes,
    sum_of m.plan.out (length b.nodes) f.after.plan.out_len,
    sum_of n.plan.out (length b.nodes) g.after.plan.out_len,
  );
}
  where
    alike : BeginAlike m n
    alike = begin_alike b b.rights series series before others m n same.count same.storage
        (λ k. ap (λ ds. returned_at b ds k m.index) same.deliveries) (λ k. refl) f g

    used : m.used ≡ n.used
    used = same_lists m.used n.used (length b.rights) f.after.fits.used g.after.fits.used
        (λ r l. f.after.used r l ∙ rw (same.deliveries, alike.index) (sym (g.after.used r l)))

    want : m.want ≡ n.want
    want = same_lists m.want n.want (length b.rights) f.after.fits.want g.after.fits.want
        (λ r l. f.after.want r l ∙ rw (used, alike.index) (sym (g.after.want r l)))

    g_greatest : IsGreatest b m.month m.supply m.want n.plan
    g_greatest = rw (want, alike.supply, alike.month) (record_is_greatest b series others n g)

    deliver : DeliversSame b m.want m.plan n.plan
    deliver =
        greatest_same b m.month m.supply m.want m.plan n.plan valid.roll.strict (record_is_greatest b series before m f)
        g_greatest

    takes : (r : ℕ) → r < length b.rights → slice_index m.plan.take r ≡ slice_index n.plan.take r
    takes = same_takes b m.month m.supply m.want m.plan n.plan valid f.after.plan g_greatest.plan deliver

map_take_suc : {X Y : Type 0} (f : X → Y) (xs : List X) (i : ℕ) (x : X) → slice_get xs i ≡ Some x →
    map f (take (suc i) xs) ≡ map f (take i xs) ++ f x ∷ []
map_take_suc f [] i x e = absurd (cc)
map_take_suc f (y ∷ ys) zero x e = ap (λ o. f (unwrap_or o x) ∷ []) e
map_take_suc f (y ∷ ys) (suc i) x e = ap (λ t. f y ∷ t) (map_take_suc f ys i x e)

-- by the months before
same_before : (b : Basin) (series : Series) (records others : List MonthRecord) → IsValidBasin b →
    IsPartialHistory b series records → IsPartialHistory b series others → length records ≡ length others →
    (i : ℕ) → i ≤ length records → SameBefore b (take i records) (take i others)
same_before b series records others valid f g len zero l = record { count = refl; storage = refl; deliveries = refl }
same_before b series records others valid f g len (suc i) l =
    more (entry_at records i (omega arith)) (entry_at others i (omega arith))
    (same_before b series records others valid f g len i (omega arith))
  where
    more : (m : MonthRecord) × (slice_get records i ≡ Some m) → (n : MonthRecord) × (slice_get others i ≡ Some n) →
        SameBefore b (take i records) (take i others) → SameBefore b (take (suc i) records) (take (suc i) others)
    more m n same = record {
      count = omega (arith, length-take (suc i) records, length-take (suc i) others);
      storage = opening_after_more b records i m.0 (omega arith) m.1
          ∙ (month.closing ∙ sym (opening_after_more b others i n.0 (omega arith) n.1));
      deliveries = map_take_suc (λ k. k.delivered) records i m.0 m.1
          ∙ (ap₂ (λ ds d. ds ++ d ∷ []) same.deliveries month.delivered
          ∙ sym (map_take_suc (λ k. k.delivered) others i n.0 n.1));
    }
      where
        month : HaveSameOutcome m.0 n.0
        month = same_month b series (take i records) (take i others) m.0 n.0 valid same (f.each i m.0 m.1)
            (g.each i n.0 n.1)

pub one_outcome : HistoriesHaveOneOutcome
one_outcome b series records others valid f g len i m n at at' =
    let l = slice_get_within records i m at in
    same_month b series (take i records) (take i others) m n valid
    (same_before b series records others valid f g len i (omega arith)) (f.each i m at) (g.each i n at')

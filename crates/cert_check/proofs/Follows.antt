-- A month that follows others is good.
use Rattle.std.proofs.Common.{◌≡◌, ℕ, ◌+◌, ◌≤◌, Bool, true, false, refl, ap, arith, List, length, zero, suc, ◌<◌, sym}
use Rattle.std.proofs.Common.{◌∙◌, inl, inr, map, replicate}
use Rattle.std.specs.Prelude.{Option, None, slice_index, ◌⊎◌, is_some, filter, if◌then◌else◌}
use Rattle.std.proofs.lemmas.Bool.Decides.{nat_tests}
use Rattle.std.proofs.lemmas.Bool.{eq-eqb, eqb-true, le-ltb, ltb-false, ltb-true, lt-ltb}
use Rattle.water_model.specs.Basin.{taking_node, instream_link, taking_node_of_kind, link_of_kind}
use Rattle.water_model.specs.Cuts.{IsTight}
use Rattle.water_model.specs.History.{Follows, cut_of, opening_after}
use Rattle.water_model.specs.Plans.{carry_of, delivery_by_link, coming_to, going_from}
use Rattle.result_lines.specs.declared.quantity.Quantity.TheVariants as quantity
use Rattle.water_model.specs.declared.types.Basin.{Basin}
use Rattle.water_model.specs.declared.types.Series.{Series}
use Rattle.water_model.specs.declared.types.MonthRecord.{MonthRecord}
use Rattle.water_model.proofs.Order.{seniors_below, Has, filter-has, has-filter, length-numbers_from, seniors_have}
use Rattle.result_lines.proofs.Quantities.{has-with_line, with_line-has}
use Rattle.result_reader.specs.Records.{IsTextMonth}
use Rattle.result_reader.proofs.AllRead.{has_set, nothing_returns, nothing_used}
use Rattle.cert_check.specs.Checking.{is_tight, amount_wrong}
use Rattle.cert_check.proofs.Calls.{HasRightSets}
use Rattle.cert_check.proofs.Month.{IsGoodMonth}
use Rattle.std.proofs.lemmas.Grind.{same_number_lists}
use Rattle.std.proofs.lemmas.List.{length-replicate, length-map}
use Rattle.water_model.specs.Hydrology.{run_month, inflow_at, stored_at}
use Rattle.water_model.specs.Entries.{count_in, in_order}
use Rattle.water_model.specs.Indices.{numbers_from, indices_of, seniors_first}
use Rattle.result_lines.specs.Quantities.{amounts_of, entries_with_line, has_line, space_of}
use Rattle.water_model.specs.Valid.{IsValidBasin, HasValidSite}
use Rattle.result_lines.specs.declared.quantity.Quantity.{Quantity}
use Rattle.water_model.specs.declared.types.RightKind.{RightKind}
use Rattle.water_model.specs.declared.types.RightKind.TheVariants as kind
use Rattle.water_model.proofs.Valid.{entry_at, kind_is}
use Rattle.water_model.proofs.Entries.{in_order-has}
use Rattle.result_reader.proofs.MonthRead.{take_of}
use Rattle.result_reader.proofs.Telling.{set_all, length-set_all, set_all-has, set_all-other}
use Rattle.result_reader.proofs.WholeMonth.{IsAllRead}
use Rattle.result_reader.proofs.Sets.{length-put_sets}
use Rattle.water_model.proofs.Lists.{no_numbers}

-- Tight cuts, as a test and as a fact.

pub tight_is : {b : Basin} (m : MonthRecord) {r : ℕ} {cut : List Bool} → IsTight b m.month m.supply m.delivered r cut →
    is_tight b m r cut ≡ true
tight_is m h = grind (arith, nat_tests)

pub is_tight_is : {b : Basin} (m : MonthRecord) {r : ℕ} {cut : List Bool} → is_tight b m r cut ≡ true →
    IsTight b m.month m.supply m.delivered r cut
is_tight_is m h = grind (arith, nat_tests)

right_sets : {b : Basin} {series : Series} {before : List MonthRecord} {m : MonthRecord} → Follows b series before m →
    IsTextMonth b series before m → HasRightSets b m
right_sets {b} {series} {before} {m} f t = record {
  sized = λ r set e. (has_set b series before m t r set e).1;
  short = λ r l short. (let s = f.short r l (ltb-true (slice_index m.delivered r) (slice_index m.want r) short) in
      (s.0, s.1, tight_is m s.2));
  met = λ r l met. f.met r l (ltb-false (slice_index m.delivered r) (slice_index m.want r) met);
}

amount_right : (b : Basin) (m : MonthRecord) (r : ℕ) (link : Option ℕ) →
    slice_index m.plan.take r ≤ slice_index m.want r →
    slice_index m.delivered r ≡ delivery_by_link link (slice_index m.want r) m.plan r →
    amount_wrong link m.plan.flow (slice_index m.delivered r) (slice_index m.want r) ≡ false
amount_right b m r link most e = grind (arith, nat_tests)

pub follows_good : {b : Basin} {series : Series} {before : List MonthRecord} {m : MonthRecord} →
    Follows b series before m → IsTextMonth b series before m → IsGoodMonth b series before m
follows_good {b} {series} {before} {m} f t = record {
  opening = λ x h. ap (λ xs. slice_index xs x) f.opening;
  evaporated = λ x h. f.after.evaporated x (has-with_line b quantity.Evaporated x h).0;
  returned = λ x h. f.after.returned x (has-with_line b quantity.Returned x h).0;
  used = λ x h. f.after.used x (has-with_line b quantity.Used x h).0;
  flow = λ x h. le-ltb (carry_of b m.month x) (slice_index m.plan.flow x)
      (f.after.plan.carries x (has-with_line b quantity.Flow x h).0);
  deliver =
      λ x h. (let l = seniors_below b.rights x h in
      (f.after.want x l, amount_right b m x (instream_link b x) (f.after.plan.wants x l) (f.after.delivered x l)));
  balance = λ n l. eq-eqb (coming_to b m.supply m.plan n) (going_from b m.plan n) (f.after.plan.balance n l);
  sets = right_sets f t;
  closing = λ x h. f.closing x (has-with_line b quantity.Closing x h).0;
}

-- A good month follows those before it.

-- Lists that were read.

read_len : (xs : List ℕ) (a : ℕ → ℕ) {n : ℕ} {ys : List ℕ} → set_all xs a (replicate n 0) ≡ ys → length ys ≡ n
read_len xs a {n} is = sym (ap length is) ∙ (length-set_all xs a (replicate n 0) ∙ length-replicate n 0)

not_listed : (xs : List ℕ) (a : ℕ → ℕ) (n : ℕ) {ys : List ℕ} (k : ℕ) → set_all xs a (replicate n 0) ≡ ys →
    (Has xs k → ⊥) → slice_index ys k ≡ 0
not_listed xs a n k is none =
    sym (ap (λ zs. slice_index zs k) is) ∙ (set_all-other xs a (replicate n 0) k none ∙ no_numbers n k)

read_at : (xs : List ℕ) (a : ℕ → ℕ) {n : ℕ} {ys : List ℕ} {k : ℕ} → set_all xs a (replicate n 0) ≡ ys → k < n →
    Has xs k → slice_index ys k ≡ a k
read_at xs a {n} {ys} {k} is l has = sym (ap (λ zs. slice_index zs k) is)
    ∙ set_all-has xs a (replicate n 0) k (omega (arith, length-replicate {A = ℕ} n 0)) has

pub map_at : (f : ℕ → ℕ) (from n k : ℕ) → k < n → slice_index (map f (numbers_from from n)) k ≡ f (from + k)
unfolding numbers_from
map_at f from zero k l = absurd (omega arith)
map_at f from (suc n) zero l = let e : from ≡ from + 0 = omega arith in ap f e
map_at f from (suc n) (suc k) l = let e : suc from + k ≡ from + suc k = omega arith in
    map_at f (suc from) n k (omega arith) ∙ ap f e

-- a number at an index that passes a test, or that was read to be 0
by_filter : (p : ℕ → Bool) (xs : List ℕ) {k x y : ℕ} → Has xs k → (Has (filter p xs) k → x ≡ y) →
    ((Has (filter p xs) k → ⊥) → x ≡ 0) → (p k ≡ false → y ≡ 0) → x ≡ y
by_filter p xs has so_far none zero_there = grind (arith, has-filter, filter-has)

-- A right takes at a node, or is on a link.

TakesOrStays : Option ℕ → Option ℕ → Type 0
TakesOrStays taking link = ((is_some taking ≡ true) × (link ≡ None)) ⊎ ((taking ≡ None) × (is_some link ≡ true))

takes_or_stays : {b : Basin} {r : ℕ} → IsValidBasin b → r < length b.rights →
    TakesOrStays (taking_node b r) (instream_link b r)
unfolding TakesOrStays
takes_or_stays {b} {r} valid l = (let k = kind_is b valid r l in rw (k.node, k.link) (by_kind k.kind k.site))
  where
    by_kind : (k : RightKind) → HasValidSite b k →
        ((is_some (taking_node_of_kind b k) ≡ true) × (link_of_kind k ≡ None)) ⊎
        ((taking_node_of_kind b k ≡ None) × (is_some (link_of_kind k) ≡ true))
    by_kind (kind.Diversion at) h = inl (refl, refl)
    by_kind (kind.Instream link) h = inr (refl, refl)
    by_kind (kind.Zone reservoir level) h =
        (let entry = entry_at b.reservoirs reservoir h.0 in inl (rw (entry.1) refl, refl))

-- what a month takes and delivers, by what was read

record IsServed (b : Basin) (m : MonthRecord) (r : ℕ) : Type 0 where
  most : slice_index m.plan.take r ≤ slice_index m.want r
  instream : taking_node b r ≡ None → slice_index m.plan.take r ≡ 0
  delivered : slice_index m.delivered r ≡ delivery_by_link (instream_link b r) (slice_index m.want r) m.plan r

served : {b : Basin} {m : MonthRecord} {r : ℕ} (taking link : Option ℕ) → taking_node b r ≡ taking →
    instream_link b r ≡ link → TakesOrStays taking link →
    slice_index m.plan.take r ≡ (if is_some taking then slice_index m.delivered r else 0) →
    amount_wrong link m.plan.flow (slice_index m.delivered r) (slice_index m.want r) ≡ false → IsServed b m r
unfolding TakesOrStays
served taking link t l s take right = grind (arith, nat_tests)

pub good_follows : {b : Basin} {series : Series} {before : List MonthRecord} {m : MonthRecord} → IsValidBasin b →
    IsAllRead b series m → IsGoodMonth b series before m → m.index ≡ length before → m.month ≡ run_month b m.index →
    length (opening_after b before) ≡ length b.reservoirs → Follows b series before m
good_follows {b} {series} {before} {m} valid a g index month opens = record {
  after = record {
    fits = record {
      opening = opening_len;
      evaporated = listed_len quantity.Evaporated;
      closing = listed_len quantity.Closing;
      returned = listed_len quantity.Returned;
      supply = sym (ap length a.supply)
          ∙ (length-map (indices_of b.nodes) supply_of ∙ length-numbers_from 0 (length b.nodes));
      used = listed_len quantity.Used;
      want = read_len (seniors_first b) _ a.want;
      delivered = read_len (seniors_first b) _ a.delivered;
      cuts = sym (ap length a.sets)
          ∙ (length-put_sets (seniors_first b) (λ r. cut_of m r) (replicate (length b.rights) None)
          ∙ length-replicate (length b.rights) None);
      cut_nodes = a.nodes;
    };
    index = index;
    month = month;
    evaporated = λ v l. g.evaporated v (with_line-has b quantity.Evaporated v l refl);
    returned = λ n l. by_filter (λ k. has_line b quantity.Returned k) (in_order (space_of quantity.Returned) b)
        (in_order-has (space_of quantity.Returned) b n l) (g.returned n) (unlisted quantity.Returned n)
        (nothing_returns b (map (λ k. k.delivered) before) n m.index);
    supply = λ n l. sym (ap (λ xs. slice_index xs n) a.supply)
        ∙ (map_at supply_of 0 (length b.nodes) n l ∙ ap supply_of (zero_more n));
    used = λ r l. by_filter (λ k. has_line b quantity.Used k) (in_order (space_of quantity.Used) b)
        (in_order-has (space_of quantity.Used) b r l) (g.used r) (unlisted quantity.Used r)
        (nothing_used b (map (λ k. k.delivered) before) r m.index);
    want = λ r l. (g.deliver r (seniors_have b.rights r l)).0;
    plan = record {
      flow_len = listed_len quantity.Flow;
      take_len = read_len (seniors_first b) _ a.take;
      out_len = listed_len quantity.Outflow;
      carries = λ e l. ltb-false (carry_of b m.month e) (slice_index m.plan.flow e)
          (g.flow e (with_line-has b quantity.Flow e l refl));
      wants = λ r l. (right r l).most;
      instream = λ r l e. (right r l).instream e;
      outlets = λ n l e. unlisted quantity.Outflow n
          (λ h. (let both : false ≡ true = sym e ∙ (has-with_line b quantity.Outflow n h).1 in cc));
      balance = λ n l. eqb-true (coming_to b m.supply m.plan n) (going_from b m.plan n) (g.balance n l);
    };
    delivered = λ r l. (right r l).delivered;
  };
  opening = same_number_lists m.opening (opening_after b before) (opening_len
      ∙ sym opens) (λ k l. g.opening k (with_line-has b quantity.Opening k (omega (arith, opening_len)) refl));
  short = λ r l short. (let s = g.sets.short r l (lt-ltb (slice_index m.delivered r) (slice_index m.want r) short) in
      (s.0, s.1, is_tight_is m s.2));
  met = λ r l met. g.sets.met r l (le-ltb (slice_index m.delivered r) (slice_index m.want r) met);
  closing = λ v l. g.closing v (with_line-has b quantity.Closing v l refl);
}
  where
    supply_of : ℕ → ℕ
    supply_of n = inflow_at b series n m.index + slice_index m.returned n + stored_at b m.opening m.evaporated n

    zero_more : (n : ℕ) → 0 + n ≡ n
    zero_more n = omega arith

    listed_len : (q : Quantity) → length (amounts_of q m) ≡ count_in (space_of q) b
    listed_len q = read_len (entries_with_line b q) _ (a.listed q)

    opening_len : length m.opening ≡ length b.reservoirs
    opening_len = listed_len quantity.Opening

    unlisted : (q : Quantity) (k : ℕ) → (Has (entries_with_line b q) k → ⊥) → slice_index (amounts_of q m) k ≡ 0
    unlisted q k h = not_listed (entries_with_line b q) _ (count_in (space_of q) b) k (a.listed q) h

    right : (r : ℕ) → r < length b.rights → IsServed b m r
    right r l = served (taking_node b r) (instream_link b r) refl refl (takes_or_stays valid l)
        (read_at (seniors_first b) (take_of b (λ k. slice_index m.delivered k)) a.take l (seniors_have b.rights r l))
        (g.deliver r (seniors_have b.rights r l)).1

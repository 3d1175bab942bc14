-- In a plan no link carries more than the whole supply, so rivers have room; and so has the link of a short instream
-- right that wants no more than the link carries.
use Rattle.std.proofs.Common.{◌≡◌, ℕ, ◌<◌, ◌≤◌, ◌^◌, min, Bool, true, false, refl, sym, ◌∙◌, ap, arith, List, length}
use Rattle.std.proofs.Common.{map}
use Rattle.std.proofs.lemmas.Bool.{and_from, and_parts, both_ways, lt-ltb, leb-true, le-leb, not-true}
use Rattle.std.proofs.lemmas.Bool.{false_from_ne_true, not_from_false}
use Rattle.std.proofs.lemmas.List.FromFn.{length-map-range_with_len, get_or-map-range_with_len}
use Rattle.std.specs.List.{range_with_len}
use Rattle.std.specs.Prelude.{nat_le, if◌then◌else◌, slice_index}
use Rattle.finite_sums.specs.Sums.{total}
use Rattle.finite_sums.proofs.Totals.{total_le, term_le_total_where}
use Rattle.water_model.specs.Lookups.{has}
use Rattle.water_model.specs.Basin.{head_of, tail_of}
use Rattle.water_model.specs.Plans.{carry_of, delivery_by_link}
use Rattle.water_model.specs.Cuts.{enters, leaves}
use Rattle.water_model.specs.declared.types.Basin.{Basin}
use Rattle.water_model.specs.declared.types.MonthRecord.{MonthRecord}
use Rattle.water_model.proofs.Carries.{river_carry}
use Rattle.water_model.proofs.Valid.{ends}
use Rattle.water_model.proofs.Sets.{total_where_none_pass}
use Rattle.duality.proofs.CutBalance.{cut_balance}
use Rattle.plan_residual.specs.Residual.{HasPlan}
use Rattle.next_unit.specs.Laws.{SmallSupplyLeavesRoom}
use Rattle.next_unit.proofs.Leads.{HasNumbers, RiversCanRise, numbers_of}

-- the nodes that are not after a node
up_to : (n : ℕ) → (ℕ → ℕ) → ℕ → List Bool
up_to n number at = map (λ v. nat_le (number v) at) (range_with_len 0 n)

length-up_to : (n : ℕ) (number : ℕ → ℕ) (at : ℕ) → length (up_to n number at) ≡ n
unfolding up_to
length-up_to n number at = length-map-range_with_len (λ v. nat_le (number v) at) 0 n

has_up_to : (n : ℕ) (number : ℕ → ℕ) (at v : ℕ) → v < n → has (up_to n number at) v ≡ nat_le (number v) at
unfolding up_to
has_up_to n number at v l = get_or-map-range_with_len (λ v. nat_le (number v) at) 0 n v v false l (omega arith)

-- no link carries more than the whole supply, as what comes to the nodes up to its tail is supply alone
flow_by_numbers : (b : Basin) (m : MonthRecord) (e : ℕ) (numbers : HasNumbers b) (set : List Bool) → HasPlan b m →
    e < length b.links → length set ≡ length b.nodes →
    ((v : ℕ) → v < length b.nodes → has set v ≡ nat_le (numbers.number v) (numbers.number (tail_of b e))) →
    slice_index m.plan.flow e ≤ total (length b.nodes) (λ n. slice_index m.supply n)
flow_by_numbers b m e numbers set given l len is =
    omega (
      arith,
      cut_balance b (λ e. carry_of b m.month e) m.supply m.want m.plan set given.plan len,
      total_where_none_pass (length b.links) (λ k. enters b set k) (λ k. slice_index m.plan.flow k) none_enters,
      term_le_total_where (length b.links) (λ k. leaves b set k) (λ k. slice_index m.plan.flow k) e l here,
      total_le (length b.nodes) (λ n. if has set n then slice_index m.supply n else 0) (λ n. slice_index m.supply n)
          (λ n k. at_most (has set n) (slice_index m.supply n)),
    )
  where
    at_most : (t : Bool) (x : ℕ) → (if t then x else 0) ≤ x
    at_most true x = omega arith
    at_most false x = omega arith

    none_enters : (k : ℕ) → k < length b.links → enters b set k ≡ false
    none_enters k c = false_from_ne_true _ (λ h.
        let parts = and_parts _ _ h in
        let inside = ends b given.valid k c in
        let head_low = leb-true _ _ (sym (is (head_of b k) inside.1) ∙ parts.0) in
        let tail_low : nat_le (numbers.number (tail_of b k)) (numbers.number (tail_of b e)) ≡ true =
        le-leb _ _ (omega (arith, head_low, numbers.runs.runs k c)) in
        both_ways _ (not-true _ parts.1) (is (tail_of b k) inside.0 ∙ tail_low))

    here : leaves b set e ≡ true
    here =
        let inside = ends b given.valid e l in
        and_from _ _ (is (tail_of b e) inside.0 ∙ le-leb _ _ (omega arith))
        (not_from_false _ (false_from_ne_true _ (λ h.
        let low = leb-true _ _ (sym (is (head_of b e) inside.1) ∙ h) in
        absurd (omega (arith, low, numbers.runs.runs e l)))))

flow_le_supply : (b : Basin) (m : MonthRecord) (e : ℕ) → HasPlan b m → e < length b.links →
    slice_index m.plan.flow e ≤ total (length b.nodes) (λ n. slice_index m.supply n)
flow_le_supply b m e given l =
    let numbers = numbers_of b given.valid in
    flow_by_numbers b m e numbers (up_to (length b.nodes) numbers.number (numbers.number (tail_of b e))) given l
    (length-up_to (length b.nodes) numbers.number (numbers.number (tail_of b e)))
    (λ v k. has_up_to (length b.nodes) numbers.number (numbers.number (tail_of b e)) v k)

pub rivers_can_rise : (b : Basin) (m : MonthRecord) → HasPlan b m →
    total (length b.nodes) (λ n. slice_index m.supply n) < 10 ^ 15 → RiversCanRise b m
rivers_can_rise b m given small e k river = lt-ltb _ _
    (omega (arith, flow_le_supply b m e given k, small, river_carry b m.month e river))

pub small_supply_leaves_room : SmallSupplyLeavesRoom
small_supply_leaves_room b m r given l short small fits = record {
  rivers = rivers_can_rise b m given small;
  own = λ e is. lt-ltb _ _
      (by_min (slice_index m.want r) (slice_index m.plan.flow e) (slice_index m.delivered r) (carry_of b m.month e)
      short (given.delivered.each r l ∙ ap (λ o. delivery_by_link o (slice_index m.want r) m.plan r) is) (fits e is));
}
  where
    by_min : (w f d c : ℕ) → d < w → d ≡ min w f → w ≤ c → f < c
    by_min w f d c s h i = omega arith

-- The balance of a month and of a run.
use Rattle.std.proofs.Common.{◌≡◌, ℕ, zero, suc, ◌+◌, ◌-◌, ◌<◌, ◌≤◌, true, false, refl, sym, ◌∙◌, ap, arith}
use Rattle.std.proofs.Common.{List, [], ◌∷◌, length, map, sum, take, add-one, subst, length-take}
use Rattle.std.proofs.lemmas.List.{length-replicate, take_all}
use Rattle.std.proofs.lemmas.Option.{get_or_from_slice_get}
use Rattle.std.proofs.lemmas.Bool.{lt-ltb}
use Rattle.std.proofs.lemmas.List.Sums.{sum_by_more}
use Rattle.std.specs.Prelude.{if◌then◌else◌, ◌==◌, nat_lt, slice_index, slice_get, sum_by, Option, Some}
use Rattle.std.specs.Prelude.{None, unwrap_or, option_map}
use Rattle.finite_sums.specs.Sums.{total}
use Rattle.water_model.specs.Lookups.{has}
use Rattle.water_model.specs.Basin.{head_of, tail_of, is_at, taking_node, taking_node_of_kind, node_of_reservoir}
use Rattle.water_model.specs.Basin.{instream_link, link_of_kind}
use Rattle.water_model.specs.Plans.{IsPlan, carry_of}
use Rattle.water_model.specs.Cuts.{enters, leaves, takes_within, node_within}
use Rattle.water_model.specs.Hydrology.{inflow_at, stored_at, evaporation, in_year}
use Rattle.water_model.specs.History.{IsPartialHistory, Follows, is_zone_of, is_zone_of_kind, opening_after}
use Rattle.water_model.specs.Valid.{IsValidBasin, HasValidSite, is_diversion, is_diversion_kind}
use Rattle.duality.specs.Balance.{HistoriesAreBalanced, IsBalanced, total_inflow, diverted}
use Rattle.water_text.specs.declared.month.Month.{Month}
use Rattle.water_model.specs.declared.types.Basin.{Basin}
use Rattle.water_model.specs.declared.types.Series.{Series}
use Rattle.water_model.specs.declared.types.MonthRecord.{MonthRecord}
use Rattle.water_model.specs.declared.types.Plan.{Plan}
use Rattle.water_model.specs.declared.types.Reservoir.{Reservoir}
use Rattle.water_model.specs.declared.types.RightKind.{RightKind}
use Rattle.water_model.specs.declared.types.RightKind.TheVariants.{Diversion, Instream, Zone}
use Rattle.finite_sums.proofs.Totals.{total_same, total_add, total_exchange, total_at}
use Rattle.water_model.proofs.Sets.{grouped, at_some_index, sum_total, has_all, total_where_all, total_where_none_pass}
use Rattle.duality.proofs.CutBalance.{cut_balance}
use Rattle.duality.proofs.Duality.{delivery_by_take}
use Rattle.water_model.proofs.Valid.{all_nodes, ends, at_reservoir, KindIs, kind_is, entry_at}

-- all that is supplied is taken or flows out
pub plan_balance : (b : Basin) (month : Month) (supply want : List ℕ) (p : Plan) → IsValidBasin b →
    IsPlan b month supply want p →
    total (length b.nodes) (λ n. slice_index supply n)
    ≡ total (length b.rights) (λ r. slice_index p.take r) + total (length b.nodes) (λ n. slice_index p.out n)
plan_balance b month supply want p valid plan =
    let nodes : ℕ = length b.nodes in
    omega (
      arith,
      cut_balance b (carry_of b month) supply want p (all_nodes b) plan (length-replicate nodes true),
      total_where_all nodes (λ n. has (all_nodes b) n) (λ n. slice_index supply n) (has_all nodes),
      total_where_all nodes (λ n. has (all_nodes b) n) (λ n. slice_index p.out n) (has_all nodes),
      total_where_none_pass (length b.links) (λ e. enters b (all_nodes b) e) (λ e. slice_index p.flow e) none_enters,
      total_where_none_pass (length b.links) (λ e. leaves b (all_nodes b) e) (λ e. slice_index p.flow e) none_leaves,
      total_same _ _ _ take_within,
    )
  where
    none_enters : (e : ℕ) → e < length b.links → enters b (all_nodes b) e ≡ false
    none_enters e l = rw (
      has_all (length b.nodes) (head_of b e) (ends b valid e l).1,
      has_all (length b.nodes) (tail_of b e) (ends b valid e l).0,
    ) refl

    none_leaves : (e : ℕ) → e < length b.links → leaves b (all_nodes b) e ≡ false
    none_leaves e l = rw (
      has_all (length b.nodes) (tail_of b e) (ends b valid e l).0,
      has_all (length b.nodes) (head_of b e) (ends b valid e l).1,
    ) refl

    take_within : (r : ℕ) → r < length b.rights →
        (if takes_within b (all_nodes b) r then slice_index p.take r else 0) ≡ slice_index p.take r
    take_within r l = of_kind k.kind k.node k.site
      where
        k : KindIs b r
        k = kind_is b valid r l

        of_kind : (kind : RightKind) → taking_node b r ≡ taking_node_of_kind b kind → HasValidSite b kind →
            (if takes_within b (all_nodes b) r then slice_index p.take r else 0) ≡ slice_index p.take r
        of_kind (Diversion node) e h = rw (e, has_all (length b.nodes) node h) refl
        of_kind (Instream link) e h = rw e (sym (plan.instream r l e))
        of_kind (Zone reservoir level) e h = rw (e, at_reservoir b valid reservoir h.0) refl

-- what a right takes is a diversion's delivery or goes into the closing of a zone's reservoir
take_goes : (b : Basin) (series : Series) (before : List MonthRecord) (m : MonthRecord) → IsValidBasin b →
    Follows b series before m →
    (r : ℕ) → r < length b.rights →
    slice_index m.plan.take r
    ≡ (if is_diversion b r then slice_index m.delivered r else 0)
    + total (length b.reservoirs) (λ v. if is_zone_of b r v then slice_index m.plan.take r else 0)
take_goes b series before m valid follows r l = of_kind k.kind k.link k.diversion k.zone k.node k.site
  where
    k : KindIs b r
    k = kind_is b valid r l

    no_zones : ((v : ℕ) → is_zone_of b r v ≡ false) →
        total (length b.reservoirs) (λ v. if is_zone_of b r v then slice_index m.plan.take r else 0) ≡ 0
    no_zones h = total_where_none_pass _ _ _ (λ v l. h v)

    of_kind : (kind : RightKind) → instream_link b r ≡ link_of_kind kind → is_diversion b r ≡ is_diversion_kind kind →
        ((v : ℕ) → is_zone_of b r v ≡ is_zone_of_kind kind v) → taking_node b r ≡ taking_node_of_kind b kind →
        HasValidSite b kind →
        slice_index m.plan.take r ≡ (if is_diversion b r then slice_index m.delivered r else 0)
        + total (length b.reservoirs) (λ v. if is_zone_of b r v then slice_index m.plan.take r else 0)
    of_kind (Diversion node) on d z at h =
        let none = no_zones z in
        let taken : slice_index m.delivered r ≡ slice_index m.plan.take r =
        follows.after.delivered r l ∙ delivery_by_take b m.want m.plan r on in
        rw d (omega arith)
    of_kind (Instream link) on d z at h =
        let none = no_zones z in
        let zero = follows.after.plan.instream r l at in
        rw d (omega arith)
    of_kind (Zone reservoir level) on d z at h =
        let all = total_same (length b.reservoirs) (λ v. if is_zone_of b r v then slice_index m.plan.take r else 0)
        (λ v. if reservoir == v then slice_index m.plan.take r else 0)
        (λ v l. ap (λ t. if t then slice_index m.plan.take r else 0) (z v)) in
        let one = total_at (length b.reservoirs) reservoir (slice_index m.plan.take r) in
        let inside : nat_lt reservoir (length b.reservoirs) ≡ true = lt-ltb reservoir (length b.reservoirs) h.0 in
        rw d (omega (arith, rw inside at one))

-- a list's sum, by its length
pub sum_of : (xs : List ℕ) (n : ℕ) → length xs ≡ n → sum xs ≡ total n (λ k. slice_index xs k)
sum_of xs n e = sum_total xs ∙ ap (λ k. total k (λ i. slice_index xs i)) e

-- the balance of a month
pub month_balance : (b : Basin) (series : Series) (before : List MonthRecord) (m : MonthRecord) → IsValidBasin b →
    Follows b series before m →
    sum m.opening + total_inflow b series m.index + sum m.returned
    ≡ sum m.closing + sum m.evaporated + diverted b m + sum m.plan.out
month_balance b series before m valid follows =
    omega (
      arith,
      plan_balance b m.month m.supply m.want m.plan valid follows.after.plan,
      total_same _ _ _ follows.after.supply,
      total_add nodes (λ n. inflow_at b series n m.index + slice_index m.returned n)
          (λ n. stored_at b m.opening m.evaporated n),
      total_add nodes (λ n. inflow_at b series n m.index) (λ n. slice_index m.returned n),
      stored,
      kept,
      total_same _ _ _ (take_goes b series before m valid follows),
      total_add rights diverted_part (λ r. total reservoirs (λ v. zone_part r v)),
      total_exchange rights reservoirs zone_part,
      total_same _ _ _ follows.closing,
      sum_of m.opening reservoirs follows.after.fits.opening,
      sum_of m.evaporated reservoirs follows.after.fits.evaporated,
      sum_of m.closing reservoirs follows.after.fits.closing,
      sum_of m.returned nodes follows.after.fits.returned,
      sum_of m.plan.out nodes follows.after.plan.out_len,
    )
  where
    nodes : ℕ
    nodes = length b.nodes

    rights : ℕ
    rights = length b.rights

    reservoirs : ℕ
    reservoirs = length b.reservoirs

    diverted_part : ℕ → ℕ
    diverted_part r = if is_diversion b r then slice_index m.delivered r else 0

    zone_part : ℕ → ℕ → ℕ
    zone_part r v = if is_zone_of b r v then slice_index m.plan.take r else 0

    -- what stands at nodes is what the reservoirs hold
    stored : total nodes (λ n. stored_at b m.opening m.evaporated n) ≡ total reservoirs
        (λ v. slice_index m.opening v - slice_index m.evaporated v)
    stored =
        sym (total_where_all nodes (λ n. has (all_nodes b) n) (λ n. stored_at b m.opening m.evaporated n)
        (has_all nodes))
        ∙ (grouped nodes reservoirs (λ n. has (all_nodes b) n) (λ v n. is_at (node_of_reservoir b v) n)
        (λ v. node_within (node_of_reservoir b v) (all_nodes b))
        (λ v. slice_index m.opening v - slice_index m.evaporated v)
        (λ v x. at_some_index nodes (all_nodes b) (length-replicate nodes true) (node_of_reservoir b v) x)
        ∙ total_where_all reservoirs (λ v. node_within (node_of_reservoir b v) (all_nodes b))
        (λ v. slice_index m.opening v - slice_index m.evaporated v) (at_reservoir b valid))

    -- no more evaporates than was stored
    kept : total reservoirs (λ v. slice_index m.opening v - slice_index m.evaporated v) + total reservoirs
        (λ v. slice_index m.evaporated v)
        ≡ total reservoirs (λ v. slice_index m.opening v)
    kept = sym
        (total_add reservoirs (λ v. slice_index m.opening v - slice_index m.evaporated v)
        (λ v. slice_index m.evaporated v))
        ∙ total_same reservoirs (λ v. slice_index m.opening v - slice_index m.evaporated v + slice_index m.evaporated v)
        (λ v. slice_index m.opening v) one
      where
        at_most : (v : ℕ) (o : Option Reservoir) →
            unwrap_or
            (option_map (λ r. evaporation r.area (slice_index m.opening v) (slice_index r.rate (in_year b m.index))) o)
            0 ≤ slice_index m.opening v
        at_most v None = omega arith
        at_most v (Some r) = omega arith

        one : (v : ℕ) → v < reservoirs →
            slice_index m.opening v - slice_index m.evaporated v + slice_index m.evaporated v ≡ slice_index m.opening v
        one v l = omega (arith, follows.after.evaporated v l, at_most v (slice_get b.reservoirs v))

pub slice_get-take : {X : Type 0} (xs : List X) (k : ℕ) → slice_get (take (suc k) xs) k ≡ slice_get xs k
slice_get-take [] k = refl
slice_get-take (x ∷ xs) zero = refl
slice_get-take (x ∷ xs) (suc k) = slice_get-take xs k

-- the storage after the records up to one is the closing of that one
pub opening_after_more : (b : Basin) (records : List MonthRecord) (i : ℕ) (m : MonthRecord) → i < length records →
    slice_get records i ≡ Some m → opening_after b (take (suc i) records) ≡ m.closing
opening_after_more b records i m l e =
    let last : length (take (suc i) records) - 1 ≡ i = omega (arith, length-take (suc i) records) in
    let at : slice_get (take (suc i) records) (length (take (suc i) records) - 1) ≡ Some m =
    ap (slice_get (take (suc i) records)) last ∙ (slice_get-take records i ∙ e) in
    ap (λ o. unwrap_or (option_map (λ m. m.closing) o) (map (λ v. v.opening) b.reservoirs)) at

balanced_up_to : (b : Basin) (series : Series) (records : List MonthRecord) → IsValidBasin b →
    IsPartialHistory b series records →
    (i : ℕ) → i ≤ length records → IsBalanced b series (take i records)
balanced_up_to b series records valid partial zero l = omega arith
balanced_up_to b series records valid partial (suc i) l =
    more (entry_at records i (omega arith)) (balanced_up_to b series records valid partial i (omega arith))
  where
    step : (f : MonthRecord → ℕ) (m : MonthRecord) → slice_get records i ≡ Some m →
        sum_by f (take (suc i) records) ≡ sum_by f (take i records) + f m
    step f m e =
        ap (λ k. sum_by f (take k records)) (sym (add-one i))
        ∙ (sum_by_more f records i m (omega arith)
        ∙ ap (λ x. sum_by f (take i records) + f x) (get_or_from_slice_get records i m m e))

    more : (m : MonthRecord) × (slice_get records i ≡ Some m) → IsBalanced b series (take i records) →
        IsBalanced b series (take (suc i) records)
    more found before =
        let m : MonthRecord = found.0 in
        let follows = partial.each i m found.1 in
        let month = month_balance b series (take i records) m valid follows in
        let closes : sum (opening_after b (take (suc i) records)) ≡ sum m.closing =
        ap (λ xs. sum xs) (opening_after_more b records i m (omega arith) found.1) in
        omega (
          arith,
          before,
          month,
          ap (λ (xs : List ℕ). sum xs) follows.opening,
          closes,
          step (λ m. total_inflow b series m.index) m found.1,
          step (λ m. sum m.returned) m found.1,
          step (λ m. sum m.evaporated) m found.1,
          step (λ m. diverted b m) m found.1,
          step (λ m. sum m.plan.out) m found.1,
        )

pub balanced : HistoriesAreBalanced
balanced b series records valid partial =
    let whole = balanced_up_to b series records valid partial (length records) (omega arith) in
    subst (λ xs. IsBalanced b series xs) (take_all (length records) records (omega arith)) whole

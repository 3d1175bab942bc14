-- The record of a solved month follows the records before it.
use Rattle.std.proofs.Common.{◌≡◌, ℕ, ◌+◌, ◌^◌, ◌<◌, ◌≤◌, Bool, refl, sym, ◌∙◌, ap, arith, List}
use Rattle.std.proofs.Common.{length, map, inl, inr}
use Rattle.std.specs.Prelude.{slice_index, Option, Some, None, All}
use Rattle.finite_sums.proofs.Totals.{total_same, term_le_total}
use Rattle.water_model.specs.Cuts.{IsReach}
use Rattle.water_model.specs.CutSets.{CutSets, set_of, without_sets}
use Rattle.water_model.specs.History.{IsPartialHistory, Follows, opening_after}
use Rattle.water_model.specs.Hydrology.{inflow_at, returned_at, stored_at, used_of}
use Rattle.water_model.specs.Valid.{IsValidBasin, IsSeriesOf}
use Rattle.water_model.specs.declared.types.Basin.{Basin}
use Rattle.water_model.specs.declared.types.Series.{Series}
use Rattle.water_model.specs.declared.types.MonthRecord.{MonthRecord}
use Rattle.water_model.specs.declared.types.Plan.{Plan}
use Rattle.month_terms.specs.Terms.{FitsRecord, HasUsed, IsSettled, IsConcluded}
use Rattle.water_model.proofs.Wants.{want_most, want_carried}
use Rattle.month_terms.proofs.Amounts.{supply_small, follows_small}
use Rattle.senior_hold.specs.Solved.{IsGiven, IsSolved, AreSupplies, AreWants, FitsCuts}
use Rattle.senior_hold.specs.Solved as sweep
use Rattle.month_fold.specs.Runs.{RunView, WentThrough, IsNext}
use Rattle.std.proofs.lemmas.List.{get_or_default, length-map}
use Rattle.lag_returns.specs.Lags.{HasReturned}
use Rattle.water_model.proofs.SetEntries.{emptied}

-- a record in which the next month begins, after these records
pub record IsBegun (b : Basin) (series : Series) (records : List MonthRecord) (m : MonthRecord) : Type 0 where
  pub partial : IsPartialHistory b series records
  pub stored : m.closing ≡ opening_after b records
  pub returned : HasReturned b (map (λ k. k.delivered) records) m.returned
  pub used : HasUsed b (map (λ k. k.delivered) records) m.used

-- what is supplied to a node, by the records before
supplied_to : (b : Basin) (series : Series) (records : List MonthRecord) (m : MonthRecord) (i : ℕ)
    (evaporated : List ℕ) (n : ℕ) → IsBegun b series records m → i ≡ length records → n < length b.nodes →
    inflow_at b series n i + slice_index m.returned n + stored_at b m.closing evaporated n ≡ inflow_at b series n i +
    returned_at b (map (λ k. k.delivered) records) n i + stored_at b (opening_after b records) evaporated n
supplied_to b series records m i evaporated n begun at l =
    let back : slice_index m.returned n ≡ returned_at b (map (λ k. k.delivered) records) n i =
    begun.returned.each n l
    ∙ ap (returned_at b (map (λ k. k.delivered) records) n) (length-map records (λ k. k.delivered) ∙ sym at) in
    rw (begun.stored, back) refl

-- what is supplied to a node is within the whole supply of the month
pub node_small : (b : Basin) (series : Series) (records : List MonthRecord) (m : MonthRecord) (i : ℕ)
    (evaporated : List ℕ) (n : ℕ) → IsValidBasin b →
    IsSeriesOf b series → IsBegun b series records m → i ≡ length records → n < length b.nodes →
    inflow_at b series n i + slice_index m.returned n + stored_at b m.closing evaporated n < 2 ^ 64
node_small b series records m i evaporated n valid fits begun at l =
    let whole = supply_small b series records evaporated i valid fits begun.partial in
    let one = term_le_total (length b.nodes)
    (λ v. inflow_at b series v i + returned_at b (map (λ k. k.delivered) records) v i + stored_at b
    (opening_after b records) evaporated v) n l in
    omega (arith, whole, one, supplied_to b series records m i evaporated n begun at l)

-- the whole supply that is settled is less than a river can carry
pub supplies_given : (b : Basin) (series : Series) (records : List MonthRecord) (m settled : MonthRecord) (i : ℕ) →
    IsValidBasin b →
    IsSeriesOf b series → IsBegun b series records m → i ≡ length records → IsSettled b series i m settled →
    AreSupplies b settled.supply
supplies_given b series records m settled i valid fits begun at is = record {
  count = is.supply.count;
  small = omega (
    arith,
    supply_small b series records settled.evaporated i valid fits begun.partial,
    total_same (length b.nodes) (λ n. slice_index settled.supply n)
        (λ n. inflow_at b series n i + returned_at b (map (λ k. k.delivered) records) n i + stored_at b
        (opening_after b records) settled.evaporated n)
        (λ n l. rw is.opening at (is.supply.each n l)
        ∙ supplied_to b series records m i settled.evaporated n begun at l),
  );
}

-- a record that was settled, got a plan and cuts, and was concluded
pub record IsMade (b : Basin) (series : Series) (i : ℕ) (begun settled : MonthRecord) (plan : Plan) (cuts : CutSets)
    (made : MonthRecord) : Type 0
  where
    pub fits : FitsRecord b begun
    pub is_settled : IsSettled b series i begun settled
    pub solved : IsSolved b settled.month settled.supply settled.want plan cuts
    pub fits_cuts : FitsCuts b cuts
    pub is_concluded : IsConcluded b (record settled { plan = plan; cuts = cuts }) made

-- what became of each field
made_of : {b : Basin} {series : Series} {i : ℕ} {begun settled made : MonthRecord} {plan : Plan} {cuts : CutSets} →
    IsMade b series i begun settled plan cuts made → made ≡ record begun {
      index = i;
      month = settled.month;
      opening = settled.opening;
      evaporated = settled.evaporated;
      supply = settled.supply;
      want = settled.want;
      plan = plan;
      cuts = cuts;
      delivered = made.delivered;
      closing = made.closing;
    }
made_of is = rw (is.is_settled.rest, is.is_settled.index_is) at is.is_concluded.rest

pub made_follows : (b : Basin) (series : Series) (records : List MonthRecord) (i : ℕ)
    (begun settled : MonthRecord) (plan : Plan) (cuts : CutSets) (made : MonthRecord) → IsValidBasin b →
    IsSeriesOf b series → IsBegun b series records begun → i ≡ length records →
    IsMade b series i begun settled plan cuts made → IsNext b series records made
made_follows b series records i begun settled plan cuts made valid fits starts at is =
    let before = length-map records (λ (k : MonthRecord). k.delivered) ∙ sym at in
    rw (made_of is) record {
      follows = record {
        after = record {
          fits = assumption (ap length is.is_settled.opening ∙ is.fits.fits.closing);
          index = at;
          month = is.is_settled.month;
          evaporated = is.is_settled.evaporated.each;
          returned = λ n l. starts.returned.each n l
              ∙ ap (returned_at b (map (λ k. k.delivered) records) n) before;
          supply = is.is_settled.supply.each;
          used = λ r l. starts.used.each r l ∙ ap (used_of b (map (λ k. k.delivered) records) r) before;
          want = is.is_settled.want.each;
          plan = is.solved.greatest.plan;
          delivered = is.is_concluded.delivered;
        };
        opening = is.is_settled.opening ∙ starts.stored;
        short = λ r l h. (let found = reach r l h in (found.0, found.1, found.2.is_tight));
        met = met;
        closing = is.is_concluded.closing;
      };
      reaches = record { short = reach; met = met };
    }
  where
    settled_right : (r : ℕ) → r < length b.rights →
        sweep.IsMetOrReached b settled.month settled.supply settled.want made.delivered cuts r
    settled_right = is.solved.settled made.delivered (record { each = is.is_concluded.delivered })

    reach : (r : ℕ) → r < length b.rights → slice_index made.delivered r < slice_index settled.want r →
        (cut : List Bool) × (set_of cuts r ≡ Some cut) ×
        IsReach b settled.month settled.supply made.delivered r cut
    reach r l h = elim (settled_right r l) [
      | inl has ↦ absurd (omega (arith, has.0, h))
      | inr short ↦ (short.1.0, short.1.1.0, short.1.1.1)
    ]

    met : (r : ℕ) → r < length b.rights → slice_index settled.want r ≤ slice_index made.delivered r →
        set_of cuts r ≡ None
    met r l h = elim (settled_right r l) [ inl has ↦ has.1 | inr short ↦ absurd (omega (arith, short.0, h)) ]

-- the wants that are settled are small, and of no instream right more than its link carries
pub wants_given : (b : Basin) (series : Series) (i : ℕ) (m settled : MonthRecord) → IsValidBasin b →
    IsSeriesOf b series →
    IsSettled b series i m settled → AreWants b settled.month settled.want
wants_given b series i m settled valid fits is = record {
  count = is.want.count;
  small = λ r l. rw (is.want.each r l) (want_most b series r i (slice_index m.used r) valid fits l);
  instream = λ r e l on. rw (is.want.each r l, is.month) (want_carried b series r i (slice_index m.used r) e on);
}

pub settled_given : (b : Basin) (series : Series) (records : List MonthRecord) (i : ℕ) (m settled : MonthRecord)
    (cuts : CutSets) → IsValidBasin b →
    IsSeriesOf b series → IsBegun b series records m → i ≡ length records → FitsRecord b m →
    IsSettled b series i m settled →
    cuts ≡ without_sets settled.cuts → IsGiven b settled.month settled.supply settled.want settled.plan cuts
settled_given b series records i m settled cuts valid fits begun at shape is none = record {
  supplies = supplies_given b series records m settled i valid fits begun at is;
  wants = wants_given b series i m settled valid fits is;
  fits_plan = record {
    flow = ap (λ k. length k.plan.flow) is.rest ∙ shape.flow;
    take = ap (λ k. length k.plan.take) is.rest ∙ shape.take;
    out = ap (λ k. length k.plan.out) is.rest ∙ shape.out;
  };
  fits_cuts = record {
    nodes = ap (λ c. c.nodes) none ∙ (ap (λ k. k.cuts.nodes) is.rest ∙ shape.fits.cut_nodes);
    rights = ap (λ c. length c.sets) none
        ∙ (length-map settled.cuts.sets (λ _. nothing) ∙ (ap (λ k. length k.cuts.sets) is.rest ∙ shape.fits.cuts));
  };
  no_sets = λ r l. ap (λ c. set_of c r) none ∙ emptied settled.cuts.sets r;
}
  where
    nothing : Option (List Bool)
    nothing = None

-- what is planned takes little
pub planned_small : (b : Basin) (series : Series) (i : ℕ) (m settled : MonthRecord) (plan : Plan) (cuts : CutSets) →
    IsValidBasin b → IsSeriesOf b series →
    IsSettled b series i m settled → IsSolved b settled.month settled.supply settled.want plan cuts →
    (r : ℕ) → r < length b.rights → slice_index plan.take r ≤ 10 ^ 9
planned_small b series i m settled plan cuts valid fits is solved r l =
    omega (arith, solved.greatest.plan.wants r l, (wants_given b series i m settled valid fits is).small r l)

-- and delivers little
pub deliveries_small : (b : Basin) (series : Series) (before : List MonthRecord) (m : MonthRecord) → IsValidBasin b →
    IsSeriesOf b series →
    Follows b series before m → All (λ n. n ≤ 10 ^ 9) m.delivered
deliveries_small b series before m valid fits follows =
    λ k d l. rw (get_or_default m.delivered k d 0 l)
    ((follows_small b series before m valid fits follows).delivered k)

pub next_small : (b : Basin) (series : Series) (records : List MonthRecord) (m : MonthRecord) → IsValidBasin b →
    IsSeriesOf b series →
    IsNext b series records m → All (λ n. n ≤ 10 ^ 9) m.delivered
next_small b series records m valid fits next = deliveries_small b series records m valid fits next.follows

-- the record in which a run's next month begins, with what comes back
pub run_begun : (run : RunView) (records : List MonthRecord) (m : MonthRecord) → WentThrough run records →
    m ≡ record run.last { returned = m.returned; used = m.used } →
    HasReturned run.basin (map (λ k. k.delivered) records) m.returned →
    m.used ≡ run.used → IsBegun run.basin run.series records m
run_begun run records m went is returned used =
    let spent : HasUsed run.basin (map (λ k. k.delivered) records) m.used = rw used went.used in
    assumption (went.partial, ap (λ k. k.closing) is ∙ went.stored)

pub begun_fits : (b : Basin) (m begun : MonthRecord) → FitsRecord b m →
    begun ≡ record m { returned = begun.returned; used = begun.used } →
    length begun.returned ≡ length m.returned → length begun.used ≡ length m.used → FitsRecord b begun
begun_fits b m begun fits is count uses = rw is (assumption (count ∙ fits.fits.returned, uses ∙ fits.fits.used))

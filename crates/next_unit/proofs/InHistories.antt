-- Where one more unit helps in a month of a history.
use Rattle.std.proofs.Common.{◌≡◌, ℕ, ◌+◌, ◌<◌, ◌≤◌, ◌^◌, min, sym, ap, subst, arith, List, length, map, inl, inr, ◌∙◌}
use Rattle.std.proofs.lemmas.Bool.{cases_eq}
use Rattle.std.proofs.Common.{take, length-take}
use Rattle.std.proofs.lemmas.Option.{slice_get_within}
use Rattle.std.specs.Prelude.{slice_index, slice_get, Some, None, Option, ◌⊎◌, ◌↔◌, ◌≢◌}
use Rattle.finite_sums.specs.Sums.{total}
use Rattle.finite_sums.proofs.Totals.{total_same}
use Rattle.water_text.specs.Months.{IsMonth}
use Rattle.water_model.specs.Basin.{instream_link}
use Rattle.water_model.specs.Plans.{IsGreatest, carry_of, delivery}
use Rattle.water_model.specs.History.{IsPartialHistory, IsNextMonth, Follows, opening_after}
use Rattle.water_model.specs.Hydrology.{inflow_at, returned_at, stored_at, want_by_volume, volume_of, target_of}
use Rattle.water_model.specs.Hydrology.{cap_by_link, run_month, number_in}
use Rattle.water_model.specs.Lookups.{of_entry}
use Rattle.water_model.specs.Valid.{IsValidBasin, IsSeriesOf}
use Rattle.water_text.specs.declared.month.Month.{Month}
use Rattle.water_model.specs.declared.types.Basin.{Basin}
use Rattle.water_model.specs.declared.types.Series.{Series}
use Rattle.water_model.specs.declared.types.MonthRecord.{MonthRecord}
use Rattle.water_model.specs.declared.types.Plan.{Plan}
use Rattle.water_model.proofs.Histories.{IsMonth-run_month}
use Rattle.duality.proofs.Greatest.{record_is_greatest}
use Rattle.water_model.proofs.Lists.{prefix_partial}
use Rattle.water_model.proofs.Seniority.{senior_total}
use Rattle.month_terms.proofs.Amounts.{supply_small}
use Rattle.plan_residual.specs.Residual.{HasPlan}
use Rattle.next_unit.specs.Core.{one_more}
use Rattle.plan_residual.specs.FirstCores.{IsFirstCoreOrNone}
use Rattle.next_unit.specs.Helped.{HasRoomForAll}
use Rattle.next_unit.specs.Next.{IsNextAt, IsFreeAt, IsNextOrFree, GivesOneMore, IsFirstChanged}
use Rattle.next_unit.specs.Laws.{HistoriesShowWhereSupplyHelps, HistoriesShowWhereCarryHelps}
use Rattle.next_unit.specs.Laws.{NextUnitGoesToOne, NextUnitGoesToNobody, CurtailedGetNothing}
use Rattle.next_unit.specs.Laws.{FirstChangedIsNext, NextUnitShowsInHistories, CurtailedAreCalled}
use Rattle.next_unit.specs.Laws.{NextIsFirstCore, FreeIsInNoCore, NextUnitIsDecided, ShortTakersAreCurtailedOrNext}
use Rattle.next_unit.proofs.Exact.{supply_helps_exactly_in_core, carry_helps_exactly_into_core}
use Rattle.next_unit.proofs.Room.{small_supply_leaves_room, rivers_can_rise}
use Rattle.next_unit.proofs.Changed.{sent_down}
use Rattle.next_unit.proofs.Next.{HaveTightCuts, goes_to_one, goes_to_nobody, got_nothing, called, caller_holds}
use Rattle.next_unit.proofs.Next.{caller_short, shown_by_core, first_core_is_decided, short_takers_have_first_cores}

-- an instream right wants no more than its link carries
want_carried : (b : Basin) (series : Series) (before : List MonthRecord) (m : MonthRecord) (r e : ℕ) →
    IsNextMonth b series before m → r < length b.rights → instream_link b r ≡ Some e →
    slice_index m.want r ≤ carry_of b m.month e
want_carried b series before m r e after l is =
    subst (λ (month : Month). slice_index m.want r ≤ carry_of b month e) (sym after.month)
    (omega (
      arith,
      after.want r l,
      by_volume (volume_of b r) (target_of b series r m.index) (slice_index m.used r),
      by_link (number_in b series m.index r),
    ))
  where
    by_volume : (o : Option ℕ) (target used : ℕ) → want_by_volume o target used ≤ target
    by_volume None target used = omega arith
    by_volume (Some volume) target used = omega arith

    by_link : (x : ℕ) → cap_by_link b (run_month b m.index) (instream_link b r) x ≤ carry_of b (run_month b m.index) e
    by_link x = subst (λ (o : Option ℕ). cap_by_link b (run_month b m.index) o x ≤ carry_of b (run_month b m.index) e)
        (sym is) (capped x (carry_of b (run_month b m.index) e))
      where
        capped : (x c : ℕ) → min x c ≤ c
        capped x c = omega arith

-- a month of a history
module _ (b : Basin) (series : Series) (records : List MonthRecord) (i : ℕ) (m : MonthRecord) where
  -- what a month of a history is
  pub record IsMonthOf : Type 0 where
    pub follows : Follows b series (take i records) m
    pub partial : IsPartialHistory b series (take i records)
    pub index : m.index < b.months

  pub month_of : IsPartialHistory b series records → slice_get records i ≡ Some m → IsMonthOf
  month_of partial at =
      let follows = partial.each i m at in
      let below = slice_get_within records i m at in
      record {
        follows = follows;
        partial = prefix_partial b series records i partial;
        index = omega (arith, follows.after.index, length-take i records, below, partial.within);
      }

  -- it has a plan
  pub has_plan : IsValidBasin b → IsMonthOf → HasPlan b m
  has_plan valid month = record {
    valid = valid;
    month = subst IsMonth (sym month.follows.after.month) (IsMonth-run_month b m.index valid.run month.index);
    fits = month.follows.after.fits;
    plan = month.follows.after.plan;
    delivered = record { each = month.follows.after.delivered };
  }

  -- the whole supply is less than a river carries
  small_supply : IsValidBasin b → IsSeriesOf b series → IsMonthOf →
      total (length b.nodes) (λ n. slice_index m.supply n) < 10 ^ 15
  small_supply valid fits month =
      omega (
        arith,
        total_same (length b.nodes) (λ n. slice_index m.supply n)
            (λ n. inflow_at b series n m.index + returned_at b (map (λ k. k.delivered) (take i records)) n m.index
            + stored_at b (opening_after b (take i records)) m.evaporated n) same,
        supply_small b series (take i records) m.evaporated m.index valid fits month.partial,
      )
    where
      same : (n : ℕ) → n < length b.nodes → slice_index m.supply n
          ≡ inflow_at b series n m.index + returned_at b (map (λ k. k.delivered) (take i records)) n m.index
          + stored_at b (opening_after b (take i records)) m.evaporated n
      same n k = omega (
        arith,
        month.follows.after.supply n k,
        month.follows.after.returned n k,
        ap (λ (o : List ℕ). stored_at b o m.evaporated n) month.follows.opening,
      )

  -- and there is room down
  pub has_room : IsValidBasin b → IsSeriesOf b series → IsMonthOf → HasRoomForAll b m
  has_room valid fits month = record {
    each = λ r l short. small_supply_leaves_room b m r (has_plan valid month) l short (small_supply valid fits month)
        (λ e is. want_carried b series (take i records) m r e month.follows.after l is);
  }

  -- each short right has a tight cut
  have_cuts : IsMonthOf → HaveTightCuts b m
  have_cuts month r l short = let cut = month.follows.short r l short in (cut.0, cut.2)

-- so a short right, which has a tight cut, is helped exactly there
pub histories_show_where_supply_helps : HistoriesShowWhereSupplyHelps
histories_show_where_supply_helps b series records i m r core node valid fits partial at l short is_core =
    let month = month_of b series records i m partial at in
    let cut = month.follows.short r l short in
    supply_helps_exactly_in_core b m r core cut.0 node (has_plan b series records i m valid month) l short cut.2
    ((has_room b series records i m valid fits month).each r l short) is_core

pub histories_show_where_carry_helps : HistoriesShowWhereCarryHelps
histories_show_where_carry_helps b series records i m r core reach link valid fits partial at l short is_core is_reach
    below =
    let month = month_of b series records i m partial at in
    carry_helps_exactly_into_core b m r core reach link (has_plan b series records i m valid month) l short is_reach
    ((has_room b series records i m valid fits month).each r l short) is_core below

-- the right to which a unit would go, or that it is free, is what the cores show
shown_in_month : (b : Basin) (series : Series) (records : List MonthRecord) (i : ℕ) (m : MonthRecord) (node : ℕ)
    (o : Option ℕ) → IsValidBasin b → IsSeriesOf b series → IsPartialHistory b series records →
    slice_get records i ≡ Some m → IsNextOrFree b m node o ↔ IsFirstCoreOrNone b m node o
shown_in_month b series records i m node o valid fits partial at =
    let month = month_of b series records i m partial at in
    shown_by_core b m node (has_plan b series records i m valid month) (have_cuts b series records i m month)
    (has_room b series records i m valid fits month) o

pub next_is_first_core : NextIsFirstCore
next_is_first_core b series records i m node right = shown_in_month b series records i m node (Some right)

pub free_is_in_no_core : FreeIsInNoCore
free_is_in_no_core b series records i m node = shown_in_month b series records i m node None

pub next_unit_is_decided : NextUnitIsDecided
next_unit_is_decided b series records i m node valid fits partial at =
    elim (first_core_is_decided b m node
    (has_plan b series records i m valid (month_of b series records i m partial at))) [
      | inl none ↦ inl ((free_is_in_no_core b series records i m node valid fits partial at).1 none)
      | inr first ↦
          inr (first.0, (next_is_first_core b series records i m node first.0 valid fits partial at).1 first.1)
    ]

pub short_takers_are_curtailed_or_next : ShortTakersAreCurtailedOrNext
short_takers_are_curtailed_or_next b series records i m right node valid fits partial at l short takes =
    elim (short_takers_have_first_cores b m right node
    (has_plan b series records i m valid (month_of b series records i m partial at)) l short takes) [
      | inl senior ↦ inl (
        senior.0,
        record {
          in_range = l;
          wants = omega (arith, short);
          node = node;
          at = takes;
          senior = senior.1;
          next = (next_is_first_core b series records i m node senior.0 valid fits partial at).1 senior.2;
        },
      )
      | inr own ↦ inr ((next_is_first_core b series records i m node right valid fits partial at).1 own)
    ]

pub next_unit_goes_to_one : NextUnitGoesToOne
next_unit_goes_to_one b series records i m node right q valid partial at next gq =
    let month = month_of b series records i m partial at in
    goes_to_one b m node right q (has_plan b series records i m valid month) (have_cuts b series records i m month)
    next gq

pub next_unit_goes_to_nobody : NextUnitGoesToNobody
next_unit_goes_to_nobody b series records i m node q valid fits partial at l free gq =
    let month = month_of b series records i m partial at in
    let given = has_plan b series records i m valid month in
    goes_to_nobody b m node q given (have_cuts b series records i m month) l
    (sent_down b m node given (rivers_can_rise b m given (small_supply b series records i m valid fits month)) l)
    free gq

pub curtailed_get_nothing : CurtailedGetNothing
curtailed_get_nothing b series records i m right caller valid partial at curtailed =
    let month = month_of b series records i m partial at in
    got_nothing b m right caller (has_plan b series records i m valid month) (have_cuts b series records i m month)
    curtailed

pub first_changed_is_next : FirstChangedIsNext
first_changed_is_next b series records i m node right q valid fits partial at l gq = (to, from)
  where
    gives : (r : ℕ) → IsNextAt b m node r → GivesOneMore b m q r
    gives r next = next_unit_goes_to_one b series records i m node r q valid partial at next gq

    more_than : (x d : ℕ) → x ≡ d + 1 → x ≡ d → ⊥
    more_than x d e h = omega (arith, e, h)

    to : IsNextAt b m node right → IsFirstChanged b m q right
    to next = record {
      in_range = next.in_range;
      changed = more_than (delivery b m.want q right) (slice_index m.delivered right) (gives right next).more;
      seniors = (gives right next).seniors;
    }

    from : IsFirstChanged b m q right → IsNextAt b m node right
    from first = by_next (next_unit_is_decided b series records i m node valid fits partial at)
      where
        by_order : (r : ℕ) → IsNextAt b m node r → (r ≡ right) ⊎ (r ≢ right) → IsNextAt b m node right
        by_order r next (inl same) = subst (λ k. IsNextAt b m node k) same next
        by_order r next (inr differ) =
            elim (senior_total b.rights valid.roll.strict r right next.in_range first.in_range differ) [
              | inl senior ↦ absurd (more_than (delivery b m.want q r) (slice_index m.delivered r) (gives r next).more
                  (first.seniors r next.in_range senior))
              | inr junior ↦ absurd (first.changed ((gives r next).seniors right first.in_range junior))
            ]

        by_next : IsFreeAt b m node ⊎ ((r : ℕ) × IsNextAt b m node r) → IsNextAt b m node right
        by_next (inl free) =
            let same = next_unit_goes_to_nobody b series records i m node q valid fits partial at l free gq in
            absurd (first.changed (sym (same.each right first.in_range)))
        by_next (inr next) = by_order next.0 next.1 (cases_eq next.0 right)

-- a month's plan is greatest among those of another record of that month
greatest_there : (b : Basin) (month month' : Month) (supply supply' want want' : List ℕ) (q : Plan) → month' ≡ month →
    supply' ≡ supply → want' ≡ want → IsGreatest b month' supply' want' q → IsGreatest b month supply want q
greatest_there b month month' supply supply' want want' q one two three gq =
    subst (λ x. IsGreatest b x supply want q) one
    (subst (λ x. IsGreatest b month' x want q) two (subst (λ x. IsGreatest b month' supply' x q) three gq))

pub next_unit_shows_in_histories : NextUnitShowsInHistories
next_unit_shows_in_histories b series other records others i m n node right valid partial partial' at at' supply want
    next =
    (there right next.in_range ∙ gives.more, λ s l senior. there s l ∙ gives.seniors s l senior)
  where
    here : Follows b series (take i records) m
    here = partial.each i m at

    follows : Follows b other (take i others) n
    follows = partial'.each i n at'

    index : n.index ≡ m.index
    index = omega (
      arith,
      here.after.index,
      follows.after.index,
      length-take i records,
      length-take i others,
      slice_get_within records i m at,
      slice_get_within others i n at',
    )

    month : n.month ≡ m.month
    month = follows.after.month ∙ (ap (run_month b) index ∙ sym here.after.month)

    there : (s : ℕ) → s < length b.rights → slice_index n.delivered s ≡ delivery b m.want n.plan s
    there s l = follows.after.delivered s l ∙ ap (λ w. delivery b w n.plan s) want

    gives : GivesOneMore b m n.plan right
    gives = next_unit_goes_to_one b series records i m node right n.plan valid partial at next
        (greatest_there b m.month n.month (one_more m.supply node) n.supply m.want n.want n.plan month supply want
        (record_is_greatest b other (take i others) n follows))

pub curtailed_are_called : CurtailedAreCalled
curtailed_are_called b series records i m right caller valid partial at curtailed =
    let short = caller_short b m right caller curtailed in
    let cut = (partial.each i m at).short caller curtailed.next.in_range short in
    called b m right caller cut.0 short curtailed.senior curtailed.wants cut.1
    (caller_holds b m right caller cut.0 curtailed cut.2)

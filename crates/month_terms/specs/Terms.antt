-- What is settled of a month before its plan is found.
use Rattle.std.specs.Prelude.{◌≡◌, ℕ, ◌+◌, ◌<◌, List, length, slice_index}
use Rattle.water_text.specs.Months.{IsMonth}
use Rattle.water_model.specs.Lookups.{of_entry}
use Rattle.water_model.specs.Hydrology.{run_month, in_year, inflow_at, evaporation, stored_at, used_of, want_of}
use Rattle.water_model.specs.History.{FitsBasin, is_zone_of}
use Rattle.water_model.specs.Plans.{delivery}
use Rattle.finite_sums.specs.Sums.{total_where}
use Rattle.water_model.specs.declared.types.Basin.{Basin}
use Rattle.water_model.specs.declared.types.Series.{Series}
use Rattle.water_model.specs.declared.types.MonthRecord.{MonthRecord}

-- what evaporates from each reservoir in the month with this index, of what it holds when the month opens
pub record HasEvaporated (b : Basin) (index : ℕ) (opening evaporated : List ℕ) : Type 0 where
  pub count : length evaporated ≡ length b.reservoirs
  pub each : (v : ℕ) → v < length b.reservoirs → slice_index evaporated v
      ≡ of_entry b.reservoirs v (λ r. evaporation r.area (slice_index opening v) (slice_index r.rate (in_year b index)))
      0

-- the supply of each node: what flows in, what comes back, and what its reservoir holds after evaporation
pub record HasSupply (b : Basin) (series : Series) (index : ℕ) (opening evaporated returned supply : List ℕ) : Type 0
  where
    pub count : length supply ≡ length b.nodes
    pub each : (n : ℕ) → n < length b.nodes → slice_index supply n
        ≡ inflow_at b series n index + slice_index returned n + stored_at b opening evaporated n

-- what each right with a volume used in the water year of a month, by the deliveries of the months before
pub record HasUsed (b : Basin) (deliveries : List (List ℕ)) (used : List ℕ) : Type 0 where
  pub count : length used ≡ length b.rights
  pub each : (r : ℕ) → r < length b.rights → slice_index used r ≡ used_of b deliveries r (length deliveries)

-- the want of each right, by what it used
pub record HasWants (b : Basin) (series : Series) (index : ℕ) (used want : List ℕ) : Type 0 where
  pub count : length want ≡ length b.rights
  pub each : (r : ℕ) → r < length b.rights → slice_index want r ≡ want_of b series r index (slice_index used r)

-- a record's lists have a number for each reservoir, node, link or right
pub record FitsRecord (b : Basin) (m : MonthRecord) : Type 0 where
  pub fits : FitsBasin b m
  pub flow : length m.plan.flow ≡ length b.links
  pub take : length m.plan.take ≡ length b.rights
  pub out : length m.plan.out ≡ length b.nodes

-- a record's opening, evaporation, supply and wants are settled, by the closing of the month before, by what comes back
-- and by what was used. All else stays
pub record IsSettled (b : Basin) (series : Series) (index : ℕ) (old new : MonthRecord) : Type 0 where
  pub index_is : new.index ≡ index
  pub month : new.month ≡ run_month b index
  pub calendar : IsMonth new.month
  pub opening : new.opening ≡ old.closing
  pub evaporated : HasEvaporated b index new.opening new.evaporated
  pub supply : HasSupply b series index new.opening new.evaporated old.returned new.supply
  pub want : HasWants b series index old.used new.want
  pub rest : new ≡ record old {
    index = new.index;
    month = new.month;
    opening = new.opening;
    evaporated =
        new.evaporated;
    supply = new.supply;
    want = new.want;
  }

-- a record has what its plan delivers and what its reservoirs close with. All else stays
pub record IsConcluded (b : Basin) (old new : MonthRecord) : Type 0 where
  pub delivered_count : length new.delivered ≡ length b.rights
  pub delivered : (r : ℕ) → r < length b.rights → slice_index new.delivered r ≡ delivery b old.want old.plan r
  pub closing_count : length new.closing ≡ length b.reservoirs
  pub closing : (v : ℕ) → v < length b.reservoirs → slice_index new.closing v
      ≡ total_where (length b.rights) (λ r. is_zone_of b r v) (λ r. slice_index old.plan.take r)
  pub rest : new ≡ record old { delivered = new.delivered; closing = new.closing }

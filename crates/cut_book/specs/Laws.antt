-- What the lines of an account book add up to.
use Rattle.std.specs.Prelude.{◌≡◌, ℕ, pos, ◌-ℤ◌, Bool, List, slice_index, sum_by}
use Rattle.water_model.specs.Cuts.{cut_bound, IsTight}
use Rattle.water_model.specs.declared.types.Basin.{Basin}
use Rattle.water_model.specs.declared.types.MonthRecord.{MonthRecord}
use Rattle.cut_book.specs.Book.{terms}
use Rattle.cut_book.specs.Entries.{brought, kept, balance_of}

-- the lines add up to the bound of the set
abbrev pub LinesMakeBound : Type 0
LinesMakeBound = (b : Basin) (m : MonthRecord) (right : ℕ) (set : List Bool) →
    pos (sum_by brought (terms b m right set)) -ℤ pos (sum_by kept (terms b m right set)) ≡ cut_bound b m.month m.supply
    m.delivered right set

-- and so those of a tight cut to what the right was delivered
abbrev pub TightBooksSumToDelivery : Type 0
TightBooksSumToDelivery = (b : Basin) (m : MonthRecord) (right : ℕ) (set : List Bool) →
    IsTight b m.month m.supply m.delivered right set →
    balance_of (terms b m right set) ≡ slice_index m.delivered right

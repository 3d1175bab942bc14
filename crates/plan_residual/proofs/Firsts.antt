-- The most senior right whose set is not its reach.
use Rattle.std.proofs.Common.{◌≡◌, ℕ, ◌<◌, Bool, refl, sym, ap, subst, List, [], length}
use Rattle.std.specs.Prelude.{Option, Some, None, IsSome, unwrap_or}
use Rattle.cut_cert.specs.Sets.{cut_at, HasCut}
use Rattle.water_model.specs.CutSets.{set_of}
use Rattle.water_model.specs.Cuts.{IsTight}
use Rattle.water_model.specs.History.{FitsBasin, IsShort}
use Rattle.water_model.specs.declared.types.Basin.{Basin}
use Rattle.water_model.specs.declared.types.MonthRecord.{MonthRecord}
use Rattle.plan_residual.specs.Reaches.{HaveTightSets}

-- the set of a short right, and that it is tight
pub set_held : (b : Basin) (m : MonthRecord) (r : ℕ) → FitsBasin b m → HaveTightSets b m → r < length b.rights →
    IsShort m r → HasCut b m.cuts r
set_held b m r fits sets l short =
    let s = sets.each r l short in
    record {
      in_range = l;
      rights = fits.cuts;
      nodes = fits.cut_nodes;
      held = some (set_of m.cuts r) s.0 s.1;
    }
  where
    some : (o : Option (List Bool)) (cut : List Bool) → o ≡ Some cut → IsSome o
    some None cut h = cc
    some (Some x) cut h = refl

pub set_tight : (b : Basin) (m : MonthRecord) (r : ℕ) → HaveTightSets b m → r < length b.rights → IsShort m r →
    IsTight b m.month m.supply m.delivered r (cut_at m.cuts r)
set_tight b m r sets l short =
    let s = sets.each r l short in
    subst (λ (set : List Bool). IsTight b m.month m.supply m.delivered r set)
    (sym (ap (λ o. unwrap_or o []) s.1)) s.2

use Rattle.std.proofs.Common.{◌≡◌, ◌∙◌, List, sym, ap, get_or}
use Rattle.std.specs.Prelude.{slice_index, unwrap_or, option_map}
use Rattle.std.proofs.lemmas.List.{get_or-map}
use Rattle.std.proofs.lemmas.Option.{get_or_from_slice_get}
use Rattle.water_model.specs.Hydrology.{evaporation}
use Rattle.water_model.specs.declared.types.AreaPoint.{AreaPoint}
use Rattle.water_model.specs.declared.types.Reservoir.{Reservoir}
use Rattle.month_terms.proofs.evaporation.evaporation_of.Goals as goal

pub returns : goal.returns
returns c =
    let vs = c.args.basin.now.reservoirs in
    let v = c.args.reservoir in
    let entry = c.index.result.now in
    let rate = slice_index entry.rate c.args.in_year in
    let table : c.index-tables-reservoir.result ≡ entry.area =
    c.index-tables-reservoir.is
    ∙ (ap (λ (ts : List (List AreaPoint)). get_or ts v c.index-tables-reservoir.result) c.requires.tables
    ∙ (get_or-map (λ (r : Reservoir). r.area) vs v entry c.index-tables-reservoir.result c.requires.reservoir
    ∙ ap (λ (r : Reservoir). r.area) (get_or_from_slice_get vs v entry entry c.index.ensures))) in
    c.evaporation.ensures
    ∙ (ap (λ (points : List AreaPoint). evaporation points c.args.storage rate) table
    ∙ sym (ap (λ o. unwrap_or (option_map (λ (r : Reservoir).
    evaporation r.area c.args.storage (slice_index r.rate c.args.in_year)) o) 0) c.index.ensures))

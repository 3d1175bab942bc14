use Rattle.std.proofs.Common.{◌++◌, ◌∷◌, [], ◌+◌, drop, refl, ap, ◌∙◌, List}
use Rattle.std.specs.Prelude.{unwrap_or}
use Rattle.toml.specs.Data.{as_array, no_items}
use Rattle.toml.specs.View.{view, items_view}
use Rattle.toml.specs.declared.value.Value.{Value}
use Rattle.water_model.specs.declared.types.AreaPoint.{AreaPoint}
use Rattle.basin_file.specs.Spelled.{point_in, points_in}
use Rattle.basin_file.proofs.Loops.{pushed}
use Rattle.basin_file.proofs.build.points_in.Goals as goal

pub loop-value-preserved : goal.loop-value-preserved
loop-value-preserved c =
    let made = c.loop-value.points.items in
    let items = c.args.items.now in
    let i = c.loop-value.value-index in
    let value = c.value-item.result in
    let rest = λ (vs : List Value). points_in (items_view vs) in
    ap (λ (points : List AreaPoint). points ++ rest (drop (i + 1) items))
    (c.in_ok-push.ensures.items ∙ ap (λ (p : AreaPoint). made ++ p ∷ []) c.point_of.ensures)
    ∙ pushed rest made items i value value (point_in (unwrap_or (as_array (view value)) no_items)) (rest items)
    c.loop-value-test.true c.value-item.is refl c.loop-value.invariant

pub loop-value-init : goal.loop-value-init
loop-value-init c = rw c.new-points.ensures.items refl

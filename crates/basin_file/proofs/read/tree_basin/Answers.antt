use Rattle.std.proofs.Common.{◌≡◌, None, Ok, Err, rules}
use Rattle.std.specs.Prelude.{Result, IfOk, OnOk}
use Rattle.toml.specs.Data.{Members}
use Rattle.toml.specs.View.{table_view}
use Rattle.water_model.specs.declared.types.Basin.{Basin}
use Rattle.basin_tree.specs.Order.{tree_fault}
use Rattle.basin_file.specs.Sound.{IsSoundBasin}
use Rattle.basin_file.specs.Spelled.{basin_of}
use Rattle.basin_file.specs.declared.refused.BasinRefused.{BasinRefused}
use Rattle.basin_file.proofs.Faultless.{sound_at}
use Rattle.basin_file.proofs.read.tree_basin.Goals as goal

sound_of : (r : Result Basin BasinRefused) (tree : Members) → IfOk r (λ b. b ≡ basin_of tree) →
    OnOk r (tree_fault tree ≡ None) → IfOk r IsSoundBasin
sound_of (Ok b) tree is none = sound_at tree b is none
sound_of (Err e) tree is none = search rules

pub returns-in-Ok : goal.returns-in-Ok
returns-in-Ok c =
    let basin = rw c.in-Ok.ensures at c.unchecked_basin-spelled.ensures.basin in
    let faultless = rw c.in-Ok.ensures at c.unchecked_basin-spelled.ensures.faultless in
    record {
      basin = basin;
      sound = sound_of c.unchecked_basin-spelled.result (table_view c.args.tree.now) basin faultless;
      plain = c.unchecked_basin-spelled.ensures.plain;
      faultless = faultless;
      refused = rw c.in-Ok.ensures at c.unchecked_basin-spelled.ensures.refused;
    }

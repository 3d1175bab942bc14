use Rattle.basin_cli.specs.Explained.{Explains}
use Rattle.water_edge.proofs.Outputs.{Extends-kept}
use Rattle.basin_cli.proofs.Explained.{explained_leaves}
use Rattle.basin_cli.proofs.Flushed.{prefixes}
use Rattle.basin_cli.proofs.explaining.answer.Goals as goal

pub returns-in-Err-flush-clause-leaves : goal.returns-in-Err-flush-clause-leaves
returns-in-Err-flush-clause-leaves g c =
    prefixes (Explains c.args.account c.args.basin.now c.args.month.now c.args.right) (λ text. text)
    _ _ _ c.in-Ok.ensures.text c.in-Err-flush.ensures.bytes

pub returns-in-Ok-flush-clause-leaves : goal.returns-in-Ok-flush-clause-leaves
returns-in-Ok-flush-clause-leaves g c =
    (let t = c.in-Ok.ensures.text in (
      t.0,
      t.1,
      explained_leaves c.args.month.now c.args.right c.ending_for.result t.0 _ _ c.ending_for.ensures.ends
          (Extends-kept _ _ _ t.0 t.2 c.in-Ok-flush.ensures.bytes),
    ))

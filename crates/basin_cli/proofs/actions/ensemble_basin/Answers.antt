use Rattle.index_seq.specs.Text.{ensemble_text}
use Rattle.index_seq.specs.Traces.{AreTraces}
use Rattle.basin_cli.proofs.Flushed.{kept, prefixes}
use Rattle.basin_cli.proofs.actions.ensemble_basin.Goals as goal

pub returns-in-Err-clause-leaves : goal.returns-in-Err-clause-leaves
returns-in-Err-clause-leaves g c = λ _.
    prefixes (AreTraces c.args.basin.now c.args.series.now) (ensemble_text c.args.basin.now) _ _ _ c.in-Ok.ensures.text
    c.in-Err.ensures.bytes

pub returns-in-Ok-flush-clause-leaves : goal.returns-in-Ok-flush-clause-leaves
returns-in-Ok-flush-clause-leaves g c = λ _.
    kept (AreTraces c.args.basin.now c.args.series.now) (ensemble_text c.args.basin.now) _ _ _ c.in-Ok.ensures.text
    c.in-Ok-flush.ensures.bytes

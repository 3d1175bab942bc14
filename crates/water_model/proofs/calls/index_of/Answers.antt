use Rattle.std.specs.Prelude.{Ok, Err}
use Rattle.water_model.proofs.Gauges.{searched_index}
use Rattle.water_model.proofs.calls.index_of.Goals as goal

pub returns-in-Ok : goal.returns-in-Ok
returns-in-Ok c = searched_index c.args.numbers.now c.args.number (Ok c.in-Ok.position) c.requires
    c.in-Ok.ensures.position

pub returns-in-Err : goal.returns-in-Err
returns-in-Err c =
    searched_index c.args.numbers.now c.args.number (Err c.in-Err.field-0) c.requires c.in-Err.ensures.position

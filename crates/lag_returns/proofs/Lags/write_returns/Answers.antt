use Rattle.std.proofs.Common.{◌∙◌, ap, sym, subst, length}
use Rattle.water_model.proofs.Lists.{whole_rows}
use Rattle.lag_returns.specs.Lags.{HasReturned}
use Rattle.lag_returns.proofs.Lags.write_returns.Goals as goal

pub returns-clause-each : goal.returns-clause-each
returns-clause-each c = λ deliveries stands.
    subst (HasReturned c.args.basin.now deliveries)
    (sym (whole_rows c.args.returned.now c.write_arrivals.new.returned
    (c.write_arrivals.ensures.length ∙ ap length c.as_mut_slice.ensures.value)))
    (c.write_arrivals.ensures.each deliveries stands)

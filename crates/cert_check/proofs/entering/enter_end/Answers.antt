use Rattle.std.proofs.Common.{subst, List, ℕ, [], ◌∷◌, ◌++◌}
use Rattle.lag_returns.specs.Lags as lag
use Rattle.cert_check.proofs.entering.enter_end.Goals as goal

pub returns-clause-lags : goal.returns-clause-lags
returns-clause-lags c = λ deliveries stands.
    subst (λ (delivered : List ℕ). lag.LagsStandFor c.month_done.new.self c.args.basin.now.returns
    (deliveries ++ delivered ∷ [])) c.as_slice.ensures
    (c.month_done.ensures.stands c.args.basin.now.returns deliveries stands)

pub returns-clause-comes : goal.returns-clause-comes
returns-clause-comes c = λ deliveries stands.
    c.write_returns.ensures.each (deliveries ++ c.args.state.now.month.delivered ∷ [])
    (returns-clause-lags c deliveries stands)

pub use_month-requires-clause-basin : goal.use_month-requires-clause-basin
use_month-requires-clause-basin c = c.requires.basin

pub write_returns-requires-clause-basin : goal.write_returns-requires-clause-basin
write_returns-requires-clause-basin c = c.requires.basin

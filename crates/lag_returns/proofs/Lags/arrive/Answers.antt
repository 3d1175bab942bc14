use Rattle.std.proofs.Common.{◌∙◌, ◌+◌, ap}
use Rattle.std.specs.Prelude.{slice_index}
use Rattle.lag_returns.specs.ReturnFlows.{brought}
use Rattle.lag_returns.proofs.Indices.{arrivals}
use Rattle.lag_returns.proofs.Lags.arrive.Goals as goal

pub returns-clause-adds : goal.returns-clause-adds
returns-clause-adds c rows deliveries stands node l =
    c.arrive_each.ensures.adds node l
    ∙ ap (λ lags. slice_index c.args.into.now node + brought lags node) (c.deref.ensures.value ∙ c.self.view_is)
    ∙ ap (λ a. slice_index c.args.into.now node + a) (arrivals node stands)

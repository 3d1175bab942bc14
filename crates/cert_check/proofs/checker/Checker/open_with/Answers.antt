use Rattle.std.proofs.Common.{[]}
use Rattle.cert_check.proofs.checker.Checker.open_with.Goals as goal

pub progress_of-requires-clause-roll : goal.progress_of-requires-clause-roll
progress_of-requires-clause-roll c = rw (← c.in_ok-context.ensures.basin) c.in_ok-context.ensures.context.roll

pub returns-clause-none : goal.returns-clause-none
returns-clause-none c =
    rw c.in_ok-context.ensures.basin (c.in_ok-progress.ensures.none c.in_ok-context.context.series.now)

pub invariant_of-result : goal.invariant_of-result
invariant_of-result c = record {
  context = c.in_ok-context.ensures.context;
  lines = record {
    lines = [];
    stands = rw c.in_ok-context.ensures.basin (c.in_ok-progress.ensures.none c.in_ok-context.context.series.now);
  };
}

pub context_of-requires-clause-basin : goal.context_of-requires-clause-basin
context_of-requires-clause-basin c = c.requires.basin

pub context_of-requires-clause-series : goal.context_of-requires-clause-series
context_of-requires-clause-series c = c.requires.series

pub progress_of-requires-clause-basin : goal.progress_of-requires-clause-basin
progress_of-requires-clause-basin c = c.requires.basin

pub progress_of-requires-clause-audit : goal.progress_of-requires-clause-audit
progress_of-requires-clause-audit c = c.requires.audit

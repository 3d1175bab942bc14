use Rattle.std.proofs.Common.{◌≡◌, take}
use Rattle.std.specs.Prelude.{sum_by}
use Rattle.reports.proofs.totals.totals_of.Given as goal

abbrev pub invariant-loop-figures : goal.invariant-loop-figures
invariant-loop-figures l = record {
  short_months : l.short_months ≡ sum_by (λ f. f.short_months) (take l.figures-index l.figures-items);
  wanted : l.wanted ≡ sum_by (λ f. f.wanted) (take l.figures-index l.figures-items);
  delivered : l.delivered ≡ sum_by (λ f. f.delivered) (take l.figures-index l.figures-items);
}

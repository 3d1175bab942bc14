use Rattle.std.proofs.Common.{List, ℕ, subst}
use Rattle.water_edge.specs.Edge.{Puts}
use Rattle.reports.proofs.ReportTexts.{summary_is}
use Rattle.reports.proofs.texts.put_summary.Goals as goal

pub returns-clause-text : goal.returns-clause-text
returns-clause-text g c =
    λ series records is.
    subst (λ (text : List ℕ). Puts (g.K.Sink.output c.args.sink.now) (g.K.Sink.output c.put_lines.new.sink)
    c.put_lines.result text)
    (summary_is c.args.number c.args.size c.args.basin.now series records c.args.trial.now c.totals_of-totals.result is
    c.totals_of-totals.ensures.short_months c.totals_of-totals.ensures.wanted c.totals_of-totals.ensures.delivered)
    c.put_lines.ensures.text

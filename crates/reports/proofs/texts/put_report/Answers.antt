use Rattle.std.proofs.Common.{List, ℕ, subst}
use Rattle.water_edge.specs.Edge.{Puts}
use Rattle.reports.proofs.ReportTexts.{report_is}
use Rattle.reports.proofs.texts.put_report.Goals as goal

pub returns-clause-text : goal.returns-clause-text
returns-clause-text g c =
    λ series records is.
    subst (λ (text : List ℕ). Puts (g.K.Sink.output c.args.sink.now) (g.K.Sink.output c.put_listing.new.sink)
    c.put_listing.result text) (report_is c.args.basin.now series records c.args.tally.now is)
    c.put_listing.ensures.text

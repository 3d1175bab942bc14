use Rattle.reports.proofs.Alike.{one_report}
use Rattle.reports.proofs.laws.runs_have_one_report.Goals as goal

pub returns : goal.returns
returns c = one_report

use Rattle.plan_residual.proofs.Slack.{tight_means_no_slack}
use Rattle.plan_residual.proofs.laws.tight_means_no_slack.Goals as goal

pub returns : goal.returns
returns c = tight_means_no_slack

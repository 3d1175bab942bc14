use Rattle.rights_roll.proofs.Seniors.{by_seniority_order}
use Rattle.rights_roll.proofs.laws.seniors_come_first.Goals as goal

pub returns : goal.returns
returns c = by_seniority_order

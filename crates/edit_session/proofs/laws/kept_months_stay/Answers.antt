use Rattle.edit_session.proofs.Changes.{kept_stays}
use Rattle.edit_session.proofs.laws.kept_months_stay.Goals as goal

pub returns : goal.returns
returns c = kept_stays

use Rattle.edit_session.proofs.Changes.{edited_fits}
use Rattle.edit_session.proofs.laws.edited_series_fit.Goals as goal

pub returns : goal.returns
returns c = edited_fits

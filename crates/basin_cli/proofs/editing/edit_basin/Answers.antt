use Rattle.std.proofs.Common.{inl, refl}
use Rattle.basin_cli.proofs.Unread.{unread}
use Rattle.basin_cli.proofs.editing.edit_basin.Goals as goal

pub returns-in-Err-clause-shown : goal.returns-in-Err-clause-shown
returns-in-Err-clause-shown g c = unread _ c.in-Err.ending (λ _. inl refl)

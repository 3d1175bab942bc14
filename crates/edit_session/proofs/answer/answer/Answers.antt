use Rattle.std.proofs.Common.{[], rules}
use Rattle.edit_session.proofs.Playing.{none_put}
use Rattle.edit_session.proofs.answer.answer.Goals as goal

-- a change shows nothing
pub returns-in-Inflow-clause-answers : goal.returns-in-Inflow-clause-answers
returns-in-Inflow-clause-answers g c = ([], search rules, none_put g.K.Sink c.args.session.now.basin c.args.out.now)

pub returns-in-Want-clause-answers : goal.returns-in-Want-clause-answers
returns-in-Want-clause-answers g c = ([], search rules, none_put g.K.Sink c.args.session.now.basin c.args.out.now)

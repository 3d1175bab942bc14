use Rattle.basin_cli.proofs.checking.finish.Goals as goal

pub returns-in-Audit : goal.returns-in-Audit
returns-in-Audit c = λ text stands. rw c.in-Audit.is (c.finish_audit.ensures text stands)

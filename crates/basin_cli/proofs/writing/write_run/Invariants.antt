use Rattle.basin_cli.proofs.writing.write_run.Given as goal

abbrev pub ghost-write_months : goal.ghost-write_months
ghost-write_months g a = g.start

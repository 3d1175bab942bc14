use Rattle.basin_cli.proofs.actions.put_months.Given as goal

abbrev pub ghost-write_run : goal.ghost-write_run
ghost-write_run g a = g.K.Sink.output a.out.now

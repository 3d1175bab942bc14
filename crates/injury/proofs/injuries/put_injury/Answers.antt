use Rattle.injury.proofs.injuries.put_injury.Goals as goal

pub put_row-requires-clause-basin : goal.put_row-requires-clause-basin
put_row-requires-clause-basin g c = c.requires.basin

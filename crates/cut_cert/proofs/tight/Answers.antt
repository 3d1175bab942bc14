use Rattle.cut_cert.proofs.tight.Goals as goal

pub bound-requires-clause-basin : goal.bound-requires-clause-basin
bound-requires-clause-basin c = c.requires.basin

pub bound-requires-clause-roll : goal.bound-requires-clause-roll
bound-requires-clause-roll c = c.requires.roll

pub separates-requires-clause-basin : goal.separates-requires-clause-basin
separates-requires-clause-basin c = c.requires.basin

use Rattle.cut_cert.proofs.bounding.kept_out.Goals as goal

pub kept_on-requires-clause-roll : goal.kept_on-requires-clause-roll
kept_on-requires-clause-roll c = c.requires.roll

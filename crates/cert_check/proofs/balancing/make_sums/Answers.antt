use Rattle.cert_check.proofs.balancing.make_sums.Goals as goal

pub sum_into-requires-clause-basin : goal.sum_into-requires-clause-basin
sum_into-requires-clause-basin c = c.requires.basin

pub sum_out_of-requires-clause-basin : goal.sum_out_of-requires-clause-basin
sum_out_of-requires-clause-basin c = c.requires.basin

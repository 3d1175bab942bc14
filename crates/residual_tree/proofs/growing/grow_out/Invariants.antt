use Rattle.residual_tree.specs.Repair.{no_step}
use Rattle.residual_tree.proofs.growing.grow_out.Given as goal

abbrev pub ghost-spread : goal.ghost-spread
ghost-spread a = no_step a.circ.now

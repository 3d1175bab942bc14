use Rattle.std.proofs.Common.{◌-◌, slice_index}
use Rattle.residual_tree.specs.Tree.{label_of}
use Rattle.residual_tree.proofs.growing.label_over.Given as goal

abbrev pub ghost-spread : goal.ghost-spread
ghost-spread a = label_of a.labels.now (slice_index a.queue.now 0) - 1

use Rattle.std.proofs.Common.{refl}
use Rattle.cert_check.proofs.SetEntries.{keeps_node}
use Rattle.cert_check.proofs.entering.enter_node.Goals as goal

pub returns : goal.returns
returns c = λ t k m. keeps_node c.args.node (m.uncalled refl) c.enter_member.ensures.none c.enter_member.ensures.some k

use Rattle.std.proofs.Common.{◌∙◌, ap, arith, length}
use Rattle.circulation.specs.Contents.{flow_of}
use Rattle.draw_course.specs.Draws.{MonthDraws}
use Rattle.draw_course.proofs.Flows.{read_course}
use Rattle.draw_course.proofs.course.Course.write.Goals as goal

pub returns : goal.returns
returns c =
    read_course c.read_from.new.into c.read_from-2.new.into c.self.view_is c.self.invariant.net c.self.invariant.kept
    (λ e l. c.read_from.ensures e (let s = c.requires.flow in let n = ap (λ (m : MonthDraws). length m.basin.links)
    c.self.view_is in omega arith)
    ∙ ap (flow_of c.self.inside.circ) (omega arith))
    (λ n l. c.read_from-2.ensures n (let s = c.requires.out in let n = ap (λ (m : MonthDraws). length m.basin.nodes)
    c.self.view_is in omega arith)
    ∙ ap (flow_of c.self.inside.circ) (omega (arith, c.len-links.ensures, c.len-nodes.ensures)))

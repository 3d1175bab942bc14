use Rattle.std.proofs.Common.{rules}
use Rattle.water_model.specs.Basin.{taking_node}
use Rattle.cut_cert.specs.Rows.{ends_at, held_at}
use Rattle.cut_cert.proofs.rows.NodeRows.of.Goals as goal

pub returns : goal.returns
returns c =
    let b = c.args.basin.now in
    let enter = c.in_ok-enter.ensures (ends_at b) (λ link node l is. search rules) in
    let held = c.in_ok-held.ensures (held_at b c.args.roll.now) (λ link node l is. search rules) in
    let takers = c.in_ok-takers.ensures (taking_node b) (λ right node l is. search rules) in
    record {
      enter = rw (c.len-nodes.ensures, c.len-links.ensures) at enter;
      held = rw (c.len-nodes.ensures, c.len-links.ensures) at held;
      takers = rw (c.len-nodes.ensures, c.len-rights.ensures) at takers;
      tails = c.in_ok-tails.ensures;
      priorities = c.in_ok-priorities.ensures;
    }

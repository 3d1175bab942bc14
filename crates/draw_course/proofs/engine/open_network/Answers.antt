use Rattle.std.proofs.Common.{◌∙◌, ap, refl}
use Rattle.circulation.specs.declared.Circulation.{Circulation}
use Rattle.circulation.specs.Contents.{empty_contents}
use Rattle.circulation.specs.Places.{tails, heads}
use Rattle.circulation.proofs.Holding.{holds_arcs}
use Rattle.draw_course.proofs.Laid.{laid_ends, laid_fits}
use Rattle.draw_course.proofs.engine.open_network.Goals as goal

pub open-requires-clause-ends : goal.open-requires-clause-ends
open-requires-clause-ends c =
    laid_fits c.args.basin.now c.args.draws.now c.args.ends.now c.len.result c.requires.basin c.requires.draws
    c.len.ensures c.requires.ends

pub returns : goal.returns
returns c =
    let held = c.in-Ok.ensures.held in
    let is = c.in-Ok.ensures.numbers in
    record {
      contents = empty_contents c.len.result (tails c.args.ends.now) (heads c.args.ends.now) held.0;
      held = holds_arcs _ c.in-Ok.network
          (empty_contents c.len.result (tails c.args.ends.now) (heads c.args.ends.now) held.0) held.1;
      ends = laid_ends c.args.basin.now c.args.draws.now c.args.ends.now
          (empty_contents c.len.result (tails c.args.ends.now) (heads c.args.ends.now) held.0) c.requires.ends
          c.len.ensures refl refl;
      nodes = ap (λ (x : Circulation). x.nodes) is ∙ c.len.ensures;
      arcs = ap (λ (x : Circulation). x.arcs) is ∙ c.requires.ends.size;
    }

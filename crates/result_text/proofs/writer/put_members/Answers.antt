use Rattle.std.proofs.Common.{arith, sym, subst, List}
use Rattle.std.specs.List.{flat_map}
use Rattle.water_edge.specs.Edge.{Extends}
use Rattle.water_model.specs.Indices.{numbers_from}
use Rattle.result_lines.specs.Spelling.{whole_line}
use Rattle.result_lines.specs.declared.item.Item.{Item}
use Rattle.water_model.proofs.Order.{numbers_from-get}
use Rattle.result_text.specs.Members.{member_at}
use Rattle.result_text.proofs.Members.{line_of_next, SoFar-at, SoFar-rest}
use Rattle.water_edge.proofs.Puts.{SoFar-none, SoFar-next, SoFar-fails, PutsPrefix}
use Rattle.result_text.proofs.writer.put_members.Goals as goal

pub loop-turn-init : goal.loop-turn-init
loop-turn-init g c = record {
  turns = omega arith;
  within = omega arith;
  put = SoFar-none (whole_line c.args.basin.now) (member_at c.args.words.now) (numbers_from 0 c.args.nodes)
      (g.K.Sink.output c.args.sink.now) (g.K.Sink.faults c.args.sink.now);
}

pub loop-turn-preserved : goal.loop-turn-preserved
loop-turn-preserved g c =
    let next = c.in-Some.ensures.some in
    record {
      turns = omega (arith, c.loop-turn.invariant.turns, next.after);
      within = omega (arith, next.below);
      put = SoFar-next c.in-Some.node
          (SoFar-at c.args.basin.now c.args.words.now c.args.nodes c.loop-turn.from c.in-Some.node
          c.loop-turn.invariant.put next)
          (numbers_from-get 0 c.args.nodes c.in-Some.node c.in-Some.node (omega (arith, next.below)) (omega arith))
          (subst (λ (items : List Item). Extends (g.K.Sink.output c.loop-turn.sink)
          (g.K.Sink.output c.put_line.new.sink)
          (flat_map (whole_line c.args.basin.now) items))
          (sym (line_of_next c.args.words.now c.loop-turn.from c.args.nodes c.in-Some.node next))
          c.in_ok-put_line-in-Some.ensures.text)
          c.in_ok-put_line-in-Some.ensures.cause.later;
    }

pub returns-in_err-put_line-in-Some-clause-text : goal.returns-in_err-put_line-in-Some-clause-text
returns-in_err-put_line-in-Some-clause-text g c =
    let next = c.in-Some.ensures.some in
    SoFar-fails c.in-Some.node (g.K.Sink.output c.put_line.new.sink) c.from_residual.result
    (SoFar-at c.args.basin.now c.args.words.now c.args.nodes c.loop-turn.from c.in-Some.node
    c.loop-turn.invariant.put next)
    (numbers_from-get 0 c.args.nodes c.in-Some.node c.in-Some.node (omega (arith, next.below)) (omega arith))
    (subst (λ (items : List Item). PutsPrefix (g.K.Sink.output c.loop-turn.sink) (g.K.Sink.output c.put_line.new.sink)
    (flat_map (whole_line c.args.basin.now) items))
    (sym (line_of_next c.args.words.now c.loop-turn.from c.args.nodes c.in-Some.node next))
    c.in_err-put_line-in-Some.ensures.text)
    c.from_residual.ensures.0

pub returns-in-None-clause-text : goal.returns-in-None-clause-text
returns-in-None-clause-text g c =
    SoFar-rest c.args.basin.now c.args.words.now c.args.nodes c.loop-turn.from c.loop-turn.invariant.put
    c.loop-turn.invariant.within c.in-None.ensures.none

pub returns-clause-text : goal.returns-clause-text
returns-clause-text g c =
    SoFar-rest c.args.basin.now c.args.words.now c.args.nodes c.loop-turn.from c.loop-turn.invariant.put
    c.loop-turn.invariant.within
    (λ n above below. absurd (omega (arith, above, below, c.loop-turn.invariant.turns, c.loop-turn-test.false)))

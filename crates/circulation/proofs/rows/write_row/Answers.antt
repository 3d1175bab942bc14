use Rattle.std.proofs.Common.{ℕ, ◌-◌, ◌+◌, ◌*◌, ◌<◌, length, slice_index, refl, arith, subst, ◌∙◌}
use Rattle.std.proofs.lemmas.List.{length-map}
use Rattle.circulation.specs.Places.{tail_of, head_of}
use Rattle.circulation.specs.Chains.{IsNext, keys_of}
use Rattle.circulation.proofs.Links.{turns_are}
use Rattle.circulation.proofs.RowLists.{next_step, next_start, next_is_new, next_has_room, part_start, part_next}
use Rattle.circulation.proofs.RowLists.{part_end, apart_weak, apart_more, apart_stays, same_stays, small_stays}
use Rattle.circulation.proofs.rows.write_row.Goals as goal

pub loop-turn-init : goal.loop-turn-init
loop-turn-init c =
    let chains = c.requires.chains.1 in
    record {
      written = (
        0,
        (part_start _ _ _ _ _ _, chains.starts c.args.node (omega (arith, chains.firsts, c.requires.node))),
      );
      before = c.requires.apart;
      apart = apart_weak c.requires.apart;
      same = record { same_steps = λ p b. refl; same_ends = λ p b. refl };
      small = c.requires.small;
      inside = omega (arith, c.requires.inside, c.requires.steps);
    }

pub bounds-step-place : goal.bounds-step-place
bounds-step-place c =
    let inv = c.loop-turn.invariant in
    let step = next_step c.args.pairs.now c.step_in_turn-here.result
    inv.written.1.1 c.loop-turn-test.true c.step_in_turn-here.ensures.arc c.step_in_turn-here.ensures.turn in
    let room = next_has_room inv.written.1.0 inv.before inv.apart step in
    omega (arith, room, length-map c.args.pairs.now tail_of, c.requires.steps, c.loop-turn.auto.step)

pub bounds-ends-place : goal.bounds-ends-place
bounds-ends-place c =
    let inv = c.loop-turn.invariant in
    let step = next_step c.args.pairs.now c.step_in_turn-here.result
    inv.written.1.1 c.loop-turn-test.true c.step_in_turn-here.ensures.arc c.step_in_turn-here.ensures.turn in
    let room = next_has_room inv.written.1.0 inv.before inv.apart step in
    omega (arith, room, length-map c.args.pairs.now tail_of, c.requires.steps, c.requires.ends, c.loop-turn.auto.ends)

pub loop-turn-preserved : goal.loop-turn-preserved
loop-turn-preserved c =
    let inv = c.loop-turn.invariant in
    let part = inv.written.1 in
    let chains = c.requires.chains.1 in
    let count = length-map c.args.pairs.now tail_of in
    let step = next_step c.args.pairs.now c.step_in_turn-here.result
    part.1 c.loop-turn-test.true c.step_in_turn-here.ensures.arc c.step_in_turn-here.ensures.turn in
    let room = next_has_room part.0 inv.before inv.apart step in
    let inside : c.loop-turn.place < length c.loop-turn.step = omega
    (arith, room, count, c.requires.steps, c.loop-turn.auto.step) in
    let sizes = c.requires.ends in
    let order = part.0.order in
    let here = next_start step in
    let follows = subst (λ (v : ℕ). IsNext (keys_of c.args.pairs.now) v (c.loop-turn.turn + 1)
    (slice_index c.args.next.now c.loop-turn.turn)) (part.1.here step.short)
    (chains.follows c.loop-turn.turn step.short) in
    record {
      written = (
        c.loop-turn.turn + 1,
        (
          part_next part.0 step c.end.ensures.end inside
              (omega (arith, sizes, c.loop-turn.auto.step, c.loop-turn.auto.ends)),
          follows,
        ),
      );
      before = apart_stays _ _ inv.before order;
      apart = apart_more _ inv.apart inside step.arc (omega (arith, here)) (next_is_new part.0 inv.before step);
      same = same_stays _ _ _ inv.same order;
      small = small_stays _ _ _ (omega (arith, inside, sizes, c.loop-turn.auto.step, c.loop-turn.auto.ends))
          c.end.ensures.small inv.small;
      inside = omega (arith, room, count);
    }

pub loop-turn-smaller : goal.loop-turn-smaller
loop-turn-smaller c =
    let chains = c.requires.chains.1 in
    let next = chains.follows c.loop-turn.turn (omega (arith, turns_are c.args.pairs.now, c.loop-turn-test.true)) in
    let less : 2 * length c.args.pairs.now - slice_index c.args.next.now c.loop-turn.turn
    < 2 * length c.args.pairs.now - c.loop-turn.turn =
    omega (arith, next.after, c.loop-turn-test.true) in
    less

pub returns-clause-row : goal.returns-clause-row
returns-clause-row c =
    let part = c.loop-turn.invariant.written.1 in
    let count = length-map c.args.pairs.now tail_of in
    part_end (length-map c.args.pairs.now head_of ∙ (omega (arith, count))) (omega (arith, count)) part.0 part.1
    c.loop-turn-test.false

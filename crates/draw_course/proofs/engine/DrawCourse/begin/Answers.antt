use Rattle.std.proofs.Common.{◌≡◌, ◌+◌, ◌∙◌, ℕ, List, ap, sym, subst, arith, length, replicate, inr}
use Rattle.std.specs.Prelude.{slice_index}
use Rattle.std.proofs.lemmas.List.{get_or-replicate}
use Rattle.circulation.specs.Contents.{Contents, flow_of}
use Rattle.draw_course.specs.Draws.{MonthDraws}
use Rattle.draw_course.specs.Engine.{first_draws}
use Rattle.draw_course.specs.EngineState.{basin_draws}
use Rattle.draw_course.specs.MonthNetwork.{Stands}
use Rattle.draw_course.specs.Raising.{IsHeldFrom}
use Rattle.draw_course.specs.Draws.{BasinDraws}
use Rattle.draw_course.proofs.Begins.{IsFirst, AreBegun, begins_last, lent_is, held_fits, taken_fits, stands_begun}
use Rattle.draw_course.proofs.Begins.{first_of, first_none, fixed_lent}
use Rattle.draw_course.proofs.engine.DrawCourse.begin.Goals as goal

pub lend_month-circ-requires-clause-start : goal.lend_month-circ-requires-clause-start
lend_month-circ-requires-clause-start c =
    let i = c.self.inside in
    let m : MonthDraws = first_draws (basin_draws i) c.args.month c.args.supply.now c.args.taken.now c.args.held.now in
    let flow = λ (e : ℕ). slice_index c.args.flow.now e in
    let out = λ (n : ℕ). slice_index c.args.out.now n in
    let first : IsFirst m flow out =
    first_of c.self.view_is c.self.invariant.valid c.self.invariant.draws c.requires.month c.requires.fits
    c.requires.course in
    let are : AreBegun m flow out c.write_bounds.new.upper c.write_amounts.new.start = record {
      uppers = omega (
        arith,
        c.write_bounds.auto.upper,
        c.split_at_mut-upper.ensures.front_len,
        c.arc_count-arcs.ensures,
      );
      starts = omega (
        arith,
        c.write_amounts.auto.start,
        c.split_at_mut-start.ensures.front_len,
        c.arc_count-arcs.ensures,
      );
      most = c.write_bounds.ensures;
      amount = c.write_amounts.ensures;
      none = first_none (basin_draws i);
    } in (
      c.self.invariant.net.contents,
      (
        fixed_lent c.self.invariant.net c.words.ensures.words c.split_at.ensures.front c.fixed.ensures,
        begins_last first are c.self.invariant.net.ends c.self.invariant.net.arcs,
      ),
    )

pub hold_from-requires-clause-fits : goal.hold_from-requires-clause-fits
hold_from-requires-clause-fits c = λ k l.
    let i = c.self.inside in
    let m : MonthDraws = first_draws (basin_draws i) c.args.month c.args.supply.now c.args.taken.now c.args.held.now in
    let flow = λ (e : ℕ). slice_index c.args.flow.now e in
    let out = λ (n : ℕ). slice_index c.args.out.now n in
    let first : IsFirst m flow out =
    first_of c.self.view_is c.self.invariant.valid c.self.invariant.draws c.requires.month c.requires.fits
    c.requires.course in
    let are : AreBegun m flow out c.write_bounds.new.upper c.write_amounts.new.start = record {
      uppers = omega (
        arith,
        c.write_bounds.auto.upper,
        c.split_at_mut-upper.ensures.front_len,
        c.arc_count-arcs.ensures,
      );
      starts = omega (
        arith,
        c.write_amounts.auto.start,
        c.split_at_mut-start.ensures.front_len,
        c.arc_count-arcs.ensures,
      );
      most = c.write_bounds.ensures;
      amount = c.write_amounts.ensures;
      none = first_none (basin_draws i);
    } in
    let lent = lent_is c.self.invariant.net.contents c.args.supply.now c.write_bounds.new.upper
    c.write_amounts.new.start (are.starts ∙ sym c.self.invariant.net.arcs)
    (c.lend_month-circ.ensures c.self.invariant.net.contents
    (fixed_lent c.self.invariant.net c.words.ensures.words c.split_at.ensures.front c.fixed.ensures)) in
    let same : 0 + k ≡ k = omega arith in
    omega (
      arith,
      ap (λ (x : Contents). flow_of x (0 + k)) lent,
      ap (slice_index c.write_amounts.new.start) same,
      held_fits m flow out c.write_bounds.new.upper c.write_amounts.new.start first are k
          (let s = first.fits.held in omega arith),
    )

pub hold_from-requires-2-clause-fits : goal.hold_from-requires-2-clause-fits
hold_from-requires-2-clause-fits c = λ k l.
    let i = c.self.inside in
    let m : MonthDraws = first_draws (basin_draws i) c.args.month c.args.supply.now c.args.taken.now c.args.held.now in
    let flow = λ (e : ℕ). slice_index c.args.flow.now e in
    let out = λ (n : ℕ). slice_index c.args.out.now n in
    let first : IsFirst m flow out =
    first_of c.self.view_is c.self.invariant.valid c.self.invariant.draws c.requires.month c.requires.fits
    c.requires.course in
    let are : AreBegun m flow out c.write_bounds.new.upper c.write_amounts.new.start = record {
      uppers = omega (
        arith,
        c.write_bounds.auto.upper,
        c.split_at_mut-upper.ensures.front_len,
        c.arc_count-arcs.ensures,
      );
      starts = omega (
        arith,
        c.write_amounts.auto.start,
        c.split_at_mut-start.ensures.front_len,
        c.arc_count-arcs.ensures,
      );
      most = c.write_bounds.ensures;
      amount = c.write_amounts.ensures;
      none = first_none (basin_draws i);
    } in
    let lent = lent_is c.self.invariant.net.contents c.args.supply.now c.write_bounds.new.upper
    c.write_amounts.new.start (are.starts ∙ sym c.self.invariant.net.arcs)
    (c.lend_month-circ.ensures c.self.invariant.net.contents
    (fixed_lent c.self.invariant.net c.words.ensures.words c.split_at.ensures.front c.fixed.ensures)) in
    let same : c.len-2.result + k ≡ length i.basin.now.links + k = omega (arith, c.len-2.ensures) in
    omega (
      arith,
      ap (λ (x : Contents). flow_of x (c.len-2.result + k)) c.hold_from.ensures.rest,
      ap (λ (x : Contents). flow_of x (c.len-2.result + k)) lent,
      ap (slice_index c.write_amounts.new.start) same,
      taken_fits m flow out c.write_bounds.new.upper c.write_amounts.new.start are k
          (let s = first.fits.taken in omega arith),
    )

pub hold_from-requires-2-clause-free : goal.hold_from-requires-2-clause-free
hold_from-requires-2-clause-free c = λ k l.
    let i = c.self.inside in
    let h = c.self.invariant.net in
    let is = c.lend_month-circ.ensures h.contents
    (fixed_lent h c.words.ensures.words c.split_at.ensures.front c.fixed.ensures) in
    let far = c.hold_from.ensures.held.others (c.len-2.result + k)
    (inr (let s = c.requires.fits.held in let b = ap (λ (d : BasinDraws). length d.basin.links) c.self.view_is in
    omega (arith, c.len-2.ensures))) in
    let none = get_or-replicate {A = ℕ} (length h.contents.from) (c.len-2.result + k) 0 0
    (let n = h.ends.arcs in let s = c.requires.fits.taken in
    let b = ap (λ (d : BasinDraws). length d.basin.nodes) c.self.view_is in omega (arith, c.len-2.ensures)) in
    far ∙ ap (λ (x : Contents). slice_index x.lower (c.len-2.result + k)) is ∙ none

pub invariant_of-result : goal.invariant_of-result
invariant_of-result c =
    let i = c.self.inside in
    let m : MonthDraws = first_draws (basin_draws i) c.args.month c.args.supply.now c.args.taken.now c.args.held.now in
    let flow = λ (e : ℕ). slice_index c.args.flow.now e in
    let out = λ (n : ℕ). slice_index c.args.out.now n in
    let first : IsFirst m flow out =
    first_of c.self.view_is c.self.invariant.valid c.self.invariant.draws c.requires.month c.requires.fits
    c.requires.course in
    let are : AreBegun m flow out c.write_bounds.new.upper c.write_amounts.new.start = record {
      uppers = omega (
        arith,
        c.write_bounds.auto.upper,
        c.split_at_mut-upper.ensures.front_len,
        c.arc_count-arcs.ensures,
      );
      starts = omega (
        arith,
        c.write_amounts.auto.start,
        c.split_at_mut-start.ensures.front_len,
        c.arc_count-arcs.ensures,
      );
      most = c.write_bounds.ensures;
      amount = c.write_amounts.ensures;
      none = first_none (basin_draws i);
    } in
    let lent = lent_is c.self.invariant.net.contents c.args.supply.now c.write_bounds.new.upper
    c.write_amounts.new.start (are.starts ∙ sym c.self.invariant.net.arcs)
    (c.lend_month-circ.ensures c.self.invariant.net.contents
    (fixed_lent c.self.invariant.net c.words.ensures.words c.split_at.ensures.front c.fixed.ensures)) in
    let drawn : c.fill.new.self ≡ replicate (length i.draws) 0 = c.fill.ensures.after (λ y h. h)
    ∙ ap (λ (n : ℕ). replicate {A = ℕ} n 0)
    (omega (arith, c.split_at_mut-drawn.ensures.front_len, c.len.ensures)) in
    subst (λ (xs : List ℕ). Stands (record m { drawn = xs }) c.hold_from-2.new.circ) (sym drawn)
    (stands_begun m flow out c.self.invariant.net.contents c.lend_month-circ.result c.hold_from.new.circ
    c.hold_from-2.new.circ c.write_bounds.new.upper c.write_amounts.new.start first are c.self.invariant.net.ends lent
    c.hold_from.ensures.rest c.hold_from-2.ensures.rest c.hold_from.ensures.held
    (subst (λ (n : ℕ). IsHeldFrom c.hold_from.new.circ.lower c.hold_from-2.new.circ.lower n c.args.taken.now
    (length c.args.taken.now)) c.len-2.ensures c.hold_from-2.ensures.held) c.hold_from-2.ensures.kept)

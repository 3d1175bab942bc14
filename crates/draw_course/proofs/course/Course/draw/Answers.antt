use Rattle.std.proofs.Common.{◌<◌, ◌∙◌, ap, sym, subst, length}
use Rattle.std.specs.Prelude.{slice_index}
use Rattle.draw_course.specs.Draws.{MonthDraws}
use Rattle.draw_course.specs.Courses.{IsGreatestDraw}
use Rattle.draw_course.proofs.Turns.{turn_own, turn_raised, draw_path, draw_inside, draw_shut}
use Rattle.draw_course.proofs.course.Course.draw.Goals as goal

pub returns-then-is_at_reservoir-clause-greatest : goal.returns-then-is_at_reservoir-clause-greatest
returns-then-is_at_reservoir-clause-greatest g c =
    subst (λ (m : MonthDraws). IsGreatestDraw m c.args.draw c.args.cap c.args.cap) c.self.view_is
    (turn_own c.args.cap c.args.stops.now c.self.invariant
    (subst (λ (m : MonthDraws). c.args.draw < length m.draws) (sym c.self.view_is) c.requires.draw)
    (sym c.is_at_reservoir.ensures ∙ c.if-is_at_reservoir.true) c.requires.cap).greatest

pub raise_draw-amount-requires-clause-path_out : goal.raise_draw-amount-requires-clause-path_out
raise_draw-amount-requires-clause-path_out g c =
    draw_path c.args.cap c.self.invariant
    (subst (λ (m : MonthDraws). c.args.draw < length m.draws) (sym c.self.view_is) c.requires.draw)
    (sym c.is_at_reservoir.ensures ∙ c.if-is_at_reservoir.false) c.requires.cap c.draw_arc-arc.ensures

pub returns-clause-greatest : goal.returns-clause-greatest
returns-clause-greatest g c =
    subst (λ (m : MonthDraws). IsGreatestDraw m c.args.draw c.args.cap c.raise_draw-amount.result) c.self.view_is
    (turn_raised c.self.invariant
    (subst (λ (m : MonthDraws). c.args.draw < length m.draws) (sym c.self.view_is) c.requires.draw)
    (sym c.is_at_reservoir.ensures ∙ c.if-is_at_reservoir.false)
    (ap (λ (m : MonthDraws). slice_index m.drawn c.args.draw) c.self.view_is ∙ c.requires.turn) c.requires.cap
    c.draw_arc-arc.ensures c.raise_draw-amount.ensures.kept c.raise_draw-amount.ensures.raised).greatest

pub returns-clause-outcome : goal.returns-clause-outcome
returns-clause-outcome g c =
    (turn_raised c.self.invariant
    (subst (λ (m : MonthDraws). c.args.draw < length m.draws) (sym c.self.view_is) c.requires.draw)
    (sym c.is_at_reservoir.ensures ∙ c.if-is_at_reservoir.false)
    (ap (λ (m : MonthDraws). slice_index m.drawn c.args.draw) c.self.view_is ∙ c.requires.turn) c.requires.cap
    c.draw_arc-arc.ensures c.raise_draw-amount.ensures.kept c.raise_draw-amount.ensures.raised).outcome

pub invariant_of-self : goal.invariant_of-self
invariant_of-self g c =
    (turn_own c.args.cap c.args.stops.now c.self.invariant
    (subst (λ (m : MonthDraws). c.args.draw < length m.draws) (sym c.self.view_is) c.requires.draw)
    (sym c.is_at_reservoir.ensures ∙ c.if-is_at_reservoir.true) c.requires.cap).stands

pub invariant_of-self-2 : goal.invariant_of-self-2
invariant_of-self-2 g c =
    (turn_raised c.self.invariant
    (subst (λ (m : MonthDraws). c.args.draw < length m.draws) (sym c.self.view_is) c.requires.draw)
    (sym c.is_at_reservoir.ensures ∙ c.if-is_at_reservoir.false)
    (ap (λ (m : MonthDraws). slice_index m.drawn c.args.draw) c.self.view_is ∙ c.requires.turn) c.requires.cap
    c.draw_arc-arc.ensures c.raise_draw-amount.ensures.kept c.raise_draw-amount.ensures.raised).stands

pub raise_draw-amount-requires-clause-arc : goal.raise_draw-amount-requires-clause-arc
raise_draw-amount-requires-clause-arc g c =
    draw_inside c.self.invariant
    (subst (λ (m : MonthDraws). c.args.draw < length m.draws) (sym c.self.view_is) c.requires.draw)
    c.draw_arc-arc.ensures

pub raise_draw-amount-requires-clause-shut : goal.raise_draw-amount-requires-clause-shut
raise_draw-amount-requires-clause-shut g c =
    draw_shut c.self.invariant
    (subst (λ (m : MonthDraws). c.args.draw < length m.draws) (sym c.self.view_is) c.requires.draw)
    (ap (λ (m : MonthDraws). slice_index m.drawn c.args.draw) c.self.view_is ∙ c.requires.turn)
    c.draw_arc-arc.ensures

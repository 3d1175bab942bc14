use Rattle.std.proofs.Common.{◌≡◌, ◌≤◌, ◌+◌, ◌*◌, ◌∙◌, ℕ, refl, length, sym, subst, arith}
use Rattle.water_model.specs.declared.types.Basin.{Basin}
use Rattle.senior_hold.specs.MonthNetwork.{arc_count}
use Rattle.water_model.specs.Plans.{IsPlan}
use Rattle.senior_hold.specs.Solved.{FitsPlan, FitsCuts, IsGiven, IsSolved}
use Rattle.senior_hold.specs.declared.sweep.Method.{Method}
use Rattle.senior_hold.proofs.Spilled.{given_again}
use Rattle.senior_hold.proofs.solver.Solver.solve_month.Goals as goal

tree_searches : Method.Tree ≡ Method.Searches → ⊥
tree_searches h = cc (h)

-- the pushes of both ways together
both : (rights arcs before between after : ℕ) → between ≤ before + 30 * rights →
    after ≤ between + rights * (30 * (2 * arcs + 1)) → after ≤ before + rights * (30 * (2 * arcs + 2))
both rights arcs before between after h i = grind arith

pub sweep-requires-clause-given : goal.sweep-requires-clause-given
sweep-requires-clause-given g c =
    subst (λ (b : Basin). IsGiven b c.args.month c.args.supply.now c.args.want.now c.sweep-swept.new.plan
    c.clear.new.self) (sym c.sweep-swept.ensures.same)
    (given_again c.args.self.now c.args.month c.args.supply.now c.args.want.now c.args.plan.now c.sweep-swept.new.plan
    c.args.cuts.now c.sweep-swept.new.cuts c.clear.new.self c.requires.given c.sweep-swept.ensures.fits
    c.sweep-swept.ensures.cuts c.clear.ensures)

pub returns-then-eq-clause-pushes : goal.returns-then-eq-clause-pushes
returns-then-eq-clause-pushes g c =
    both (length c.args.self.now.rights) (arc_count c.args.self.now) c.args.pushes.now c.sweep-swept.new.pushes
    c.sweep.new.pushes (c.sweep-swept.ensures.pushes refl)
    (subst (λ (b : Basin). c.sweep.new.pushes
    ≤ c.sweep-swept.new.pushes + length b.rights * (30 * (2 * arc_count b + 1))) c.sweep-swept.ensures.same
    (c.sweep.ensures.search_pushes refl))

pub sweep-swept-requires-clause-month : goal.sweep-swept-requires-clause-month
sweep-swept-requires-clause-month g c = c.requires.month

pub sweep-swept-requires-clause-given : goal.sweep-swept-requires-clause-given
sweep-swept-requires-clause-given g c = c.requires.given

pub sweep-swept-requires-clause-plan : goal.sweep-swept-requires-clause-plan
sweep-swept-requires-clause-plan g c = λ h. absurd (tree_searches h)

pub sweep-swept-requires-clause-some : goal.sweep-swept-requires-clause-some
sweep-swept-requires-clause-some g c = λ h. absurd (tree_searches h)

pub sweep-requires-clause-month : goal.sweep-requires-clause-month
sweep-requires-clause-month g c = c.requires.month

pub sweep-requires-clause-plan : goal.sweep-requires-clause-plan
sweep-requires-clause-plan g c = λ _. subst (λ (b : Basin). IsPlan b c.args.month c.args.supply.now c.args.want.now
    c.sweep-swept.new.plan) (sym c.sweep-swept.ensures.same) c.sweep-swept.ensures.plan

pub returns-then-eq-clause-same : goal.returns-then-eq-clause-same
returns-then-eq-clause-same g c = c.sweep.ensures.same ∙ c.sweep-swept.ensures.same

pub returns-then-eq-clause-plan : goal.returns-then-eq-clause-plan
returns-then-eq-clause-plan g c = subst (λ (b : Basin). FitsPlan b c.sweep.new.plan) c.sweep-swept.ensures.same
    c.sweep.ensures.fits

pub returns-then-eq-clause-cuts : goal.returns-then-eq-clause-cuts
returns-then-eq-clause-cuts g c = subst (λ (b : Basin). FitsCuts b c.sweep.new.cuts) c.sweep-swept.ensures.same
    c.sweep.ensures.cuts

pub returns-then-eq-clause-solved : goal.returns-then-eq-clause-solved
returns-then-eq-clause-solved g c = subst (λ (b : Basin). IsSolved b c.args.month c.args.supply.now c.args.want.now
    c.sweep.new.plan c.sweep.new.cuts) c.sweep-swept.ensures.same
    (c.sweep.ensures.solved (c.sweep.ensures.searched refl))

pub returns-else-eq-clause-same : goal.returns-else-eq-clause-same
returns-else-eq-clause-same g c = c.sweep-swept.ensures.same

pub returns-else-eq-clause-plan : goal.returns-else-eq-clause-plan
returns-else-eq-clause-plan g c = c.sweep-swept.ensures.fits

pub returns-else-eq-clause-cuts : goal.returns-else-eq-clause-cuts
returns-else-eq-clause-cuts g c = c.sweep-swept.ensures.cuts

use Rattle.std.proofs.Common.{[], ◌∷◌, ◌++◌, arith, sym, refl}
use Rattle.month_fold.proofs.run.Run.step.Goals as goal

pub overflow_add-self : goal.overflow_add-self
overflow_add-self g c =
    let left = rw (sym c.self.view_is) at c.requires.left in
    omega (arith, left, c.self.invariant.went.valid.run.months.1)

pub invariant_of-self : goal.invariant_of-self
invariant_of-self g c = record {
  records = c.self.invariant.records ++ c.step.new.self.last ∷ [];
  went = c.step.ensures.went c.self.invariant.records c.self.invariant.went;
}

pub step-requires-clause-left : goal.step-requires-clause-left
step-requires-clause-left g c = rw (sym c.self.view_is) at c.requires.left

pub step-requires-clause-months : goal.step-requires-clause-months
step-requires-clause-months g c = record { records = c.self.invariant.records; went = c.self.invariant.went }

pub returns-clause-basin : goal.returns-clause-basin
returns-clause-basin g c = rw (sym c.self.view_is) c.step.ensures.basin

pub returns-clause-series : goal.returns-clause-series
returns-clause-series g c = rw (sym c.self.view_is) refl

pub returns-clause-went : goal.returns-clause-went
returns-clause-went g c = λ records was. c.step.ensures.went records (rw (sym c.self.view_is) at was)

pub returns-clause-reaches : goal.returns-clause-reaches
returns-clause-reaches g c = rw (sym c.self.view_is) c.step.ensures.reaches

pub returns-clause-month : goal.returns-clause-month
returns-clause-month g c = λ records was. c.step.ensures.month records (rw (sym c.self.view_is) at was)

pub returns-clause-counted : goal.returns-clause-counted
returns-clause-counted g c = c.step.ensures.counted

pub returns-clause-work : goal.returns-clause-work
returns-clause-work g c = rw (sym c.self.view_is) c.step.ensures.work

use Rattle.std.proofs.Common.{ℕ, ◌≡◌, ◌+◌, ◌*◌, ◌<◌, ◌≤◌, ◌^◌, ◌∙◌, false, length, slice_index, arith, refl, sym, subst}
use denote.Enum.Bare.{sameb}
use Rattle.water_model.specs.declared.types.Basin.{Basin}
use Rattle.water_model.specs.Plans.{IsPlan}
use Rattle.water_model.specs.Valid.{IsValidBasin}
use Rattle.senior_hold.specs.MonthNetwork.{arc_count}
use Rattle.senior_hold.specs.Solved.{AreSupplies, AreWants, FitsPlan, FitsCuts, IsGiven, IsSolved}
use Rattle.senior_hold.specs.declared.sweep.Sweep.{Sweep}
use Rattle.senior_hold.specs.contracts.sweep.Sweep.{the_type}
use Rattle.senior_hold.proofs.Preferred.{flows_small, solved_too}
use Rattle.senior_hold.proofs.solver.Solver.sweep.Goals as goal

solved : (s : Sweep) → sameb the_type s Sweep.GaveUp ≡ false → s ≡ Sweep.Solved
solved Sweep.Solved h = refl
solved Sweep.GaveUp h = cc

pub prefer_rivers-requires-clause-small : goal.prefer_rivers-requires-clause-small
prefer_rivers-requires-clause-small g c =
    subst (λ (b : Basin). (e : ℕ) → e < length b.links → slice_index c.sweep-swept.new.plan.flow e ≤ 10 ^ 15)
    (sym c.self.invariant.rounds)
    (flows_small c.self.inside.basin.now c.args.month c.args.supply.now c.args.want.now c.sweep-swept.new.plan
    c.self.invariant.valid c.requires.month c.sweep-swept.ensures.swept.plan)

pub returns-clause-plan : goal.returns-clause-plan
returns-clause-plan g c =
    let found = c.sweep-swept.ensures.swept.solved (solved c.sweep-swept.result (sym c.eq.ensures ∙ c.if-eq.false)) in
    (subst (λ (b : Basin). IsSolved b c.args.month c.args.supply.now c.args.want.now c.prefer_rivers.new.plan
    c.sweep-swept.new.cuts) c.self.view_is (solved_too c.self.invariant.rounds
    (omega (arith, c.if-len-eq0.false, c.len.ensures)) found
    (c.prefer_rivers.ensures.greatest c.args.month c.args.supply.now)
    (c.prefer_rivers.ensures.deliveries c.args.month c.args.supply.now))).greatest.plan

pub returns-clause-solved : goal.returns-clause-solved
returns-clause-solved g c = λ is.
    subst (λ (b : Basin). IsSolved b c.args.month c.args.supply.now c.args.want.now c.prefer_rivers.new.plan
    c.sweep-swept.new.cuts) c.self.view_is (solved_too c.self.invariant.rounds
    (omega (arith, c.if-len-eq0.false, c.len.ensures))
    (c.sweep-swept.ensures.swept.solved is)
    (c.prefer_rivers.ensures.greatest c.args.month c.args.supply.now)
    (c.prefer_rivers.ensures.deliveries c.args.month c.args.supply.now))

pub sweep-swept-requires-clause-givens : goal.sweep-swept-requires-clause-givens
sweep-swept-requires-clause-givens g c = record {
  valid = c.self.invariant.valid;
  layout = c.self.invariant.is_layout;
  month = c.requires.month;
  supplies = subst (λ (b : Basin). AreSupplies b c.args.supply.now) (sym c.self.view_is) c.requires.given.supplies;
  wants = subst (λ (b : Basin). AreWants b c.args.month c.args.want.now) (sym c.self.view_is) c.requires.given.wants;
  some = λ h. subst (λ (b : Basin). 0 < length b.rights) (sym c.self.view_is) (c.requires.some h);
}

pub sweep-swept-requires-clause-room : goal.sweep-swept-requires-clause-room
sweep-swept-requires-clause-room g c = c.self.invariant.fits_room

pub sweep-swept-requires-clause-places : goal.sweep-swept-requires-clause-places
sweep-swept-requires-clause-places g c = c.self.invariant.places

pub sweep-swept-requires-clause-begin : goal.sweep-swept-requires-clause-begin
sweep-swept-requires-clause-begin g c = record {
  given = subst (λ (b : Basin). IsGiven b c.args.month c.args.supply.now c.args.want.now c.args.plan.now
      c.args.cuts.now) (sym c.self.view_is) c.requires.given;
  plan = λ h. subst (λ (b : Basin). IsPlan b c.args.month c.args.supply.now c.args.want.now c.args.plan.now)
      (sym c.self.view_is) (c.requires.plan h);
}

pub invariant_of-self : goal.invariant_of-self
invariant_of-self g c = record {
  valid = c.self.invariant.valid;
  is_layout = c.self.invariant.is_layout;
  fits_room = c.sweep-swept.ensures.room;
  places = c.sweep-swept.ensures.places;
  rounds = c.self.invariant.rounds;
}

pub returns-then-eq-clause-same : goal.returns-then-eq-clause-same
returns-then-eq-clause-same g c = c.self.view_is

pub returns-then-eq-clause-fits : goal.returns-then-eq-clause-fits
returns-then-eq-clause-fits g c = subst (λ (b : Basin). FitsPlan b c.sweep-swept.new.plan) c.self.view_is
    c.sweep-swept.ensures.swept.fits

pub returns-then-eq-clause-cuts : goal.returns-then-eq-clause-cuts
returns-then-eq-clause-cuts g c = subst (λ (b : Basin). FitsCuts b c.sweep-swept.new.cuts) c.self.view_is
    c.sweep-swept.ensures.swept.cuts

pub returns-then-eq-clause-plan : goal.returns-then-eq-clause-plan
returns-then-eq-clause-plan g c = subst (λ (b : Basin). IsPlan b c.args.month c.args.supply.now c.args.want.now
    c.sweep-swept.new.plan) c.self.view_is c.sweep-swept.ensures.swept.plan

pub returns-then-eq-clause-solved : goal.returns-then-eq-clause-solved
returns-then-eq-clause-solved g c = λ is.
    subst (λ (b : Basin). IsSolved b c.args.month c.args.supply.now c.args.want.now c.sweep-swept.new.plan
    c.sweep-swept.new.cuts) c.self.view_is (c.sweep-swept.ensures.swept.solved is)

pub returns-then-eq-clause-pushes : goal.returns-then-eq-clause-pushes
returns-then-eq-clause-pushes g c = λ is. subst (λ (b : Basin). c.sweep-swept.new.pushes
    ≤ c.args.pushes.now + 30 * length b.rights) c.self.view_is (c.sweep-swept.ensures.swept.pushes is)

pub returns-then-eq-clause-gave_up : goal.returns-then-eq-clause-gave_up
returns-then-eq-clause-gave_up g c = λ is. subst (λ (b : Basin). c.args.pushes.now + 29 * length b.rights
    < c.sweep-swept.new.pushes) c.self.view_is (c.sweep-swept.ensures.swept.gave_up is)

pub returns-then-eq-clause-searched : goal.returns-then-eq-clause-searched
returns-then-eq-clause-searched g c = c.sweep-swept.ensures.swept.searched

pub returns-then-eq-clause-search_pushes : goal.returns-then-eq-clause-search_pushes
returns-then-eq-clause-search_pushes g c = λ is. subst (λ (b : Basin). c.sweep-swept.new.pushes
    ≤ c.args.pushes.now + length b.rights * (30 * (2 * arc_count b + 1))) c.self.view_is
    (c.sweep-swept.ensures.swept.search_pushes is)

pub prefer_rivers-requires-clause-valid : goal.prefer_rivers-requires-clause-valid
prefer_rivers-requires-clause-valid g c = subst IsValidBasin (sym c.self.invariant.rounds) c.self.invariant.valid

pub invariant_of-self-2 : goal.invariant_of-self-2
invariant_of-self-2 g c = record {
  valid = c.self.invariant.valid;
  is_layout = c.self.invariant.is_layout;
  fits_room = c.sweep-swept.ensures.room;
  places = c.sweep-swept.ensures.places;
  rounds = c.prefer_rivers.ensures.same ∙ c.self.invariant.rounds;
}

pub returns-clause-same : goal.returns-clause-same
returns-clause-same g c = c.self.view_is

pub returns-clause-cuts : goal.returns-clause-cuts
returns-clause-cuts g c = subst (λ (b : Basin). FitsCuts b c.sweep-swept.new.cuts) c.self.view_is
    c.sweep-swept.ensures.swept.cuts

pub returns-clause-pushes : goal.returns-clause-pushes
returns-clause-pushes g c = λ is. subst (λ (b : Basin). c.sweep-swept.new.pushes
    ≤ c.args.pushes.now + 30 * length b.rights) c.self.view_is (c.sweep-swept.ensures.swept.pushes is)

pub returns-clause-gave_up : goal.returns-clause-gave_up
returns-clause-gave_up g c = λ is. subst (λ (b : Basin). c.args.pushes.now + 29 * length b.rights
    < c.sweep-swept.new.pushes) c.self.view_is (c.sweep-swept.ensures.swept.gave_up is)

pub returns-clause-searched : goal.returns-clause-searched
returns-clause-searched g c = c.sweep-swept.ensures.swept.searched

pub returns-clause-search_pushes : goal.returns-clause-search_pushes
returns-clause-search_pushes g c = λ is. subst (λ (b : Basin). c.sweep-swept.new.pushes
    ≤ c.args.pushes.now + length b.rights * (30 * (2 * arc_count b + 1))) c.self.view_is
    (c.sweep-swept.ensures.swept.search_pushes is)

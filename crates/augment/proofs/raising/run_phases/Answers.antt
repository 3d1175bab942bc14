use Rattle.std.proofs.Common.{ℕ, inl, inr, ◌≡◌, ◌+◌, ◌-◌, ◌*◌, ◌^◌, ◌≤◌, arith, refl, subst, ap, ◌∙◌}
use Rattle.std.proofs.lemmas.Bool.{cases_lt}
use Rattle.circulation.specs.Contents.{Contents, network, flow_of}
use Rattle.augment.specs.Raised.{open_arcs}
use Rattle.augment.proofs.Rises.{power_below, power_half, phases_cost, thirty, open_some, first_rise}
use Rattle.augment.proofs.raising.run_phases.Goals as goal

pub phase-requires-clause-path_out : goal.phase-requires-clause-path_out
phase-requires-clause-path_out g c = rw c.loop-left.invariant.rest c.requires.path_out

pub phase-requires-clause-rise : goal.phase-requires-clause-rise
phase-requires-clause-rise g c = λ h flow most.
    let inv = c.loop-left.invariant in
    let own = rw inv.rest at flow in
    rw inv.rest (elim (cases_lt (flow_of c.loop-left.circ c.args.arc) c.args.want) [
      | inl less ↦ inv.reach less (omega (arith, c.loop-left-test.true)) h own most
      | inr full ↦ omega (arith, most, full)
    ])

pub loop-left-init : goal.loop-left-init
loop-left-init g c =
    let p = c.first_phase-first.ensures in
    let some = open_some (network c.args.circ.now) c.args.arc c.requires.arc
    (omega (arith, c.requires.want, c.requires.some, c.requires.missing)) in
    record {
      rest = refl;
      kept = c.requires.kept;
      limit = omega (arith, c.requires.missing);
      within = omega arith;
      power = λ more. p.power;
      reach = λ less more h flow most.
          let rise = first_rise (open_arcs (network c.args.circ.now)) c.args.missing
          (2 * c.first_phase-first.result.0 - 1) some
          (omega (arith, p.next)) in
          omega (arith, rise, most, c.requires.missing);
      cut = λ less none. absurd (omega (arith, p.some, none));
      cost = omega arith;
    }

pub loop-left-preserved : goal.loop-left-preserved
loop-left-preserved g c =
    let inv = c.loop-left.invariant in
    let some = c.loop-left-test.true in
    let power = inv.power (omega (arith, some)) in
    let ended = c.phase.ensures in
    let count = ap (λ (x : Contents). open_arcs (network x)) inv.rest in
    let before : c.loop-left.left ≡ c.loop-left.left - 1 + 1 = omega (arith, some) in
    let cost = subst (λ (n : ℕ). c.loop-left.pushes ≤ c.args.pushes.now + (c.first_phase-first.result.1 - n) *
    (2 * open_arcs (network c.args.circ.now) + 1)) before inv.cost in
    record {
      rest = rw inv.rest at ended.rest;
      kept = ended.kept;
      limit = ended.limit;
      within = omega (arith, inv.within);
      power = λ more. (power_half (c.loop-left.left - 1) c.loop-left.least more power).0;
      reach = λ less more h flow most.
          let half = (power_half (c.loop-left.left - 1) c.loop-left.least more power).1 in
          let same = ap (λ (n : ℕ). open_arcs (network c.args.circ.now) * (n - 1)) half in
          let left = rw inv.rest at (ended.left less h (rw inv.rest flow)) in
          omega (arith, left, same);
      cut = λ less last.
          let one : c.loop-left.least ≡ 1 = power ∙ ap (λ (n : ℕ). 2 ^ n) last in
          rw inv.rest at (ended.cut less one);
      cost = phases_cost c.first_phase-first.result.1 (c.loop-left.left - 1)
          (open_arcs (network c.args.circ.now)) c.args.pushes.now c.loop-left.pushes c.phase.new.pushes
          (omega (arith, inv.within, some)) cost (omega (arith, ended.cost, count));
    }

pub returns-clause-cost : goal.returns-clause-cost
returns-clause-cost g c = λ small.
    let inv = c.loop-left.invariant in
    let p = c.first_phase-first.ensures in
    let below = power_below (c.first_phase-first.result.1 - 1) 30 (omega (arith, p.power, p.within, small)) in
    let last = thirty c.first_phase-first.result.1 (open_arcs (network c.args.circ.now)) (omega (arith, below)) in
    let end : c.first_phase-first.result.1 - c.loop-left.left ≡ c.first_phase-first.result.1 = omega
    (arith, c.loop-left-test.false) in
    let cost = subst (λ (n : ℕ). c.loop-left.pushes
    ≤ c.args.pushes.now + n * (2 * open_arcs (network c.args.circ.now) + 1)) end inv.cost in
    omega (arith, cost, last)

use Rattle.std.proofs.Common.{◌≡◌, ◌+◌, ◌-◌, arith, sym, ap, ◌∙◌}
use Rattle.std.specs.Prelude.{Err}
use Rattle.std.proofs.lemmas.Result.{err_from_is_err_and}
use Rattle.result_reader.proofs.Sayings.{item_is_said}
use Rattle.result_reader.proofs.StandingLaws.{IsTaken, line_blocked, line_refused, line_taken}
use Rattle.result_reader.proofs.reader.ResultReader.line.Goals.{In-Some}
use Rattle.result_reader.proofs.reader.ResultReader.line.Goals as goal

pub returns-in_err-item-clause-answer : goal.returns-in_err-item-clause-answer
returns-in_err-item-clause-answer c =
    let p = err_from_is_err_and c.from_residual.result c.from_residual.ensures.1 in
    λ items stands. p.1 ∙ (ap Err p.2 ∙ line_refused c.args.self.now.basin c.args.text.now
    (sym c.item.ensures ∙ c.in_err-item.was) items)

pub next_progress-requires-clause-item : goal.next_progress-requires-clause-item
next_progress-requires-clause-item c =
    let said = item_is_said c.args.self.now.basin c.args.text.now c.in_ok-item.item
    (sym c.item.ensures ∙ c.in_ok-item.was) in
    rw (← c.self.view_is) at said.of_text.of_basin

taken : (c : In-Some) → IsTaken c.self.inside.names.basin.now c.self.inside.dues.items c.in-Some.progress
    c.self.inside.left c.args.self.now c.args.text.now c.in_ok-item.item
taken c = line_taken c.in-Some.progress c.args.text.now c.self.view_is (sym c.item.ensures ∙ c.in_ok-item.was)
    c.self.invariant (rw c.deref.ensures.value at c.in-Some.ensures)

pub overflow_sub-self : goal.overflow_sub-self
overflow_sub-self c = omega (arith, (taken (goal.at.overflow_sub-self c).In-Some).fewer)

pub invariant_of-self : goal.invariant_of-self
invariant_of-self c =
    let now = taken (goal.at.invariant_of-self c).In-Some in
    record {
      valid = c.self.invariant.valid;
      dues_are = c.self.invariant.dues_are;
      progress = rw c.go_on.ensures now.progress;
      left_is = rw c.go_on.ensures (omega (arith, now.fewer));
    }

pub returns-in-Some-clause-answer : goal.returns-in-Some-clause-answer
returns-in-Some-clause-answer c = (taken (goal.at.returns-in-Some-clause-answer c).In-Some).answer

pub returns-in-Some-clause-accepted : goal.returns-in-Some-clause-accepted
returns-in-Some-clause-accepted c = rw c.go_on.ensures (taken (goal.at.returns-in-Some-clause-accepted c).In-Some).after

pub returns-in-Some-clause-spelled : goal.returns-in-Some-clause-spelled
returns-in-Some-clause-spelled c = (taken (goal.at.returns-in-Some-clause-spelled c).In-Some).spelled

pub returns-in-Some-clause-left : goal.returns-in-Some-clause-left
returns-in-Some-clause-left c =
    let fewer = (taken (goal.at.returns-in-Some-clause-left c).In-Some).fewer in
    let back : c.self.inside.left - 1 + 1 ≡ c.self.inside.left = omega arith in
    back ∙ ap (λ r. r.left) c.self.view_is

pub returns-in-None-clause-answer : goal.returns-in-None-clause-answer
returns-in-None-clause-answer c = line_blocked c.self.inside.dues.items
    c.self.inside.progress c.args.text.now c.self.view_is (sym c.item.ensures ∙ c.in_ok-item.was)
    (rw c.deref.ensures.value at c.in-None.ensures)

use Rattle.std.proofs.Common.{◌≡◌, ◌+◌, ◌-◌, arith, ap, subst, ◌∙◌}
use Rattle.std.specs.Prelude.{Ok}
use Rattle.result_lines.specs.declared.item.Item.TheVariants as line
use Rattle.result_reader.specs.Reading.{item_of}
use Rattle.result_reader.specs.Standing.{ReaderView}
use Rattle.result_reader.proofs.Sayings.{item_is_said}
use Rattle.result_reader.proofs.StandingLaws.{IsTaken, line_taken}
use Rattle.result_reader.proofs.reader.ResultReader.likely_member.Goals.{In-Some-next_member}
use Rattle.result_reader.proofs.reader.ResultReader.likely_member.Goals as goal

pub next_member-requires-clause-node : goal.next_member-requires-clause-node
next_member-requires-clause-node c =
    let said =
    item_is_said c.self.inside.names.basin.now c.in-Some.text.now (line.Member c.likely_member-node.result)
    c.in-Some.ensures.says in
    said.of_text.of_basin

taken : (c : In-Some-next_member) → IsTaken c.self.inside.names.basin.now c.self.inside.dues.items
    c.in-Some-next_member.next c.self.inside.left c.args.self.now c.in-Some.text.now
    (line.Member c.likely_member-node.result)
taken c = line_taken c.in-Some-next_member.next c.in-Some.text.now c.self.view_is
    (subst (λ (r : ReaderView). item_of r.basin c.in-Some.text.now ≡ Ok (line.Member c.likely_member-node.result))
    c.self.view_is c.in-Some.ensures.says)
    c.self.invariant (rw c.deref-2.ensures.value at c.in-Some-next_member.ensures)

pub overflow_sub-self : goal.overflow_sub-self
overflow_sub-self c = omega (arith, (taken (goal.at.overflow_sub-self c).In-Some-next_member).fewer)

pub invariant_of-self : goal.invariant_of-self
invariant_of-self c =
    let now = taken (goal.at.invariant_of-self c).In-Some-next_member in
    record {
      valid = c.self.invariant.valid;
      dues_are = c.self.invariant.dues_are;
      progress = rw c.go_on.ensures now.progress;
      left_is = rw c.go_on.ensures (omega (arith, now.fewer));
    }

pub returns-in-Some-next_member-clause-answer : goal.returns-in-Some-next_member-clause-answer
returns-in-Some-next_member-clause-answer c =
    (taken (goal.at.returns-in-Some-next_member-clause-answer c).In-Some-next_member).answer

pub returns-in-Some-next_member-clause-accepted : goal.returns-in-Some-next_member-clause-accepted
returns-in-Some-next_member-clause-accepted c =
    rw c.go_on.ensures (taken (goal.at.returns-in-Some-next_member-clause-accepted c).In-Some-next_member).after

pub returns-in-Some-next_member-clause-spelled : goal.returns-in-Some-next_member-clause-spelled
returns-in-Some-next_member-clause-spelled c =
    (taken (goal.at.returns-in-Some-next_member-clause-spelled c).In-Some-next_member).spelled

pub returns-in-Some-next_member-clause-left : goal.returns-in-Some-next_member-clause-left
returns-in-Some-next_member-clause-left c =
    let fewer = (taken (goal.at.returns-in-Some-next_member-clause-left c).In-Some-next_member).fewer in
    let back : c.self.inside.left - 1 + 1 ≡ c.self.inside.left = omega arith in
    back ∙ ap (λ r. r.left) c.self.view_is

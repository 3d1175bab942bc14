use Rattle.std.proofs.Common.{◌≡◌, ℕ, Option, Some, sym, ◌∙◌, subst, arith}
use Rattle.std.proofs.lemmas.Option.{get_or_from_slice_get}
use Rattle.call_list.specs.Found.{curtailed_for}
use Rattle.call_list.specs.MonthsCalls.{CallsSeen}
use Rattle.call_list.proofs.Answers.{curtailed_by}
use Rattle.call_list.proofs.month.MonthCalls.caller_of.Goals as goal

pub returns-then-is_senior_to-clause-value : goal.returns-then-is_senior_to-clause-value
returns-then-is_senior_to-clause-value c =
    let some : Option ℕ = Some c.in_ok-caller.caller in
    subst (λ (v : CallsSeen). some ≡ curtailed_for v.basin v.month v.found.next c.args.right) c.self.view_is
    (sym (curtailed_by c.self.inside.basin.now c.self.inside.month.now c.self.inside.next.now c.args.right
    c.in_ok-node.node c.in_ok-caller.caller
    (omega (
      arith,
      get_or_from_slice_get c.self.inside.month.now.want c.args.right c.index.result.now 0 c.index.ensures,
    ))
    (sym c.taking_node.ensures.value ∙ c.in_ok-node.was) c.in_ok-caller.was
    (sym c.is_senior_to.ensures ∙ c.if-is_senior_to.true)))

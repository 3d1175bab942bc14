use Rattle.std.proofs.Common.{◌≡◌, sym, ◌∙◌}
use Rattle.std.specs.Prelude.{Some, None}
use Rattle.water_model.specs.History.{calling_right}
use Rattle.cut_cert.proofs.Callers.{calling_right_meaning}
use Rattle.cut_cert.proofs.Search.{nothing_wanted, nothing_taken, nobody_short, first_below, first_calls, first_junior}
use Rattle.cut_cert.proofs.calls.calling_right.Goals as goal

unwanted : (c : goal.Then-not-is_wanted) → None ≡ calling_right c.args.basin.now c.args.month.now c.args.right
unwanted c =
    sym (nothing_wanted c.args.basin.now c.args.month.now c.args.right
    (sym c.is_wanted.ensures ∙ c.if-not-is_wanted.true))

pub returns-then-not-is_wanted-clause-value : goal.returns-then-not-is_wanted-clause-value
returns-then-not-is_wanted-clause-value c = unwanted c

pub returns-then-not-is_wanted-clause-meaning : goal.returns-then-not-is_wanted-clause-meaning
returns-then-not-is_wanted-clause-meaning c =
    calling_right_meaning c.args.basin.now c.args.month.now c.args.right None c.requires.basin (unwanted c)

untaken : (c : goal.After-from_residual) →
    c.from_residual.result ≡ calling_right c.args.basin.now c.args.month.now c.args.right
untaken c =
    c.from_residual.ensures ∙ sym
    (nothing_taken c.args.basin.now c.args.month.now c.args.right (sym c.in_err-node.ensures.value))

pub returns-in_err-node-clause-value : goal.returns-in_err-node-clause-value
returns-in_err-node-clause-value c = untaken c

pub returns-in_err-node-clause-meaning : goal.returns-in_err-node-clause-meaning
returns-in_err-node-clause-meaning c =
    calling_right_meaning c.args.basin.now c.args.month.now c.args.right c.from_residual.result c.requires.basin
    (untaken c)

unanswered : (c : goal.After-from_residual-in_err-caller) →
    c.from_residual-in_err-caller.result ≡ calling_right c.args.basin.now c.args.month.now c.args.right
unanswered c =
    c.from_residual-in_err-caller.ensures ∙ sym
    (nobody_short c.args.basin.now c.args.month.now c.args.right c.in_ok-node.node
    (sym c.is_wanted.ensures ∙ c.if-not-is_wanted.false) (sym c.in_ok-node.ensures.value)
    (sym (c.requires.callers.each c.in_ok-node.node c.in_ok-node.ensures.within) ∙ c.in_err-caller.was))

pub returns-in_err-caller-clause-value : goal.returns-in_err-caller-clause-value
returns-in_err-caller-clause-value c = unanswered c

pub returns-in_err-caller-clause-meaning : goal.returns-in_err-caller-clause-meaning
returns-in_err-caller-clause-meaning c =
    calling_right_meaning c.args.basin.now c.args.month.now c.args.right c.from_residual-in_err-caller.result
    c.requires.basin (unanswered c)

pub is_senior_to-requires-clause-one : goal.is_senior_to-requires-clause-one
is_senior_to-requires-clause-one c =
    first_below c.args.basin.now c.args.month.now c.in_ok-node.node c.in_ok-caller.caller
    (sym (c.requires.callers.each c.in_ok-node.node c.in_ok-node.ensures.within) ∙ c.in_ok-caller.was)

answered : (c : goal.Then-is_senior_to) →
    Some c.in_ok-caller.caller ≡ calling_right c.args.basin.now c.args.month.now c.args.right
answered c =
    sym (first_calls c.args.basin.now c.args.month.now c.args.right c.in_ok-node.node c.in_ok-caller.caller
    (sym c.is_wanted.ensures ∙ c.if-not-is_wanted.false) (sym c.in_ok-node.ensures.value)
    (sym (c.requires.callers.each c.in_ok-node.node c.in_ok-node.ensures.within) ∙ c.in_ok-caller.was)
    (sym c.is_senior_to.ensures ∙ c.if-is_senior_to.true))

pub returns-then-is_senior_to-clause-value : goal.returns-then-is_senior_to-clause-value
returns-then-is_senior_to-clause-value c = answered c

pub returns-then-is_senior_to-clause-meaning : goal.returns-then-is_senior_to-clause-meaning
returns-then-is_senior_to-clause-meaning c =
    calling_right_meaning c.args.basin.now c.args.month.now c.args.right (Some c.in_ok-caller.caller) c.requires.basin
    (answered c)

-- the first caller of the node is junior
unsenior : (c : goal.Else-is_senior_to) → None ≡ calling_right c.args.basin.now c.args.month.now c.args.right
unsenior c =
    sym (first_junior c.args.basin.now c.args.month.now c.args.right c.in_ok-node.node c.in_ok-caller.caller
    c.requires.basin.roll.strict
    (sym c.is_wanted.ensures ∙ c.if-not-is_wanted.false) (sym c.in_ok-node.ensures.value)
    (sym (c.requires.callers.each c.in_ok-node.node c.in_ok-node.ensures.within) ∙ c.in_ok-caller.was)
    (sym c.is_senior_to.ensures ∙ c.if-is_senior_to.false))

pub returns-else-is_senior_to-clause-value : goal.returns-else-is_senior_to-clause-value
returns-else-is_senior_to-clause-value c = unsenior c

pub returns-else-is_senior_to-clause-meaning : goal.returns-else-is_senior_to-clause-meaning
returns-else-is_senior_to-clause-meaning c =
    calling_right_meaning c.args.basin.now c.args.month.now c.args.right None c.requires.basin (unsenior c)

use Rattle.std.proofs.Common.{◌∙◌, ap}
use Rattle.std.specs.Prelude.{position, nat_lt}
use Rattle.rights_roll.proofs.Parts.{parts_fault_is}
use Rattle.rights_roll.proofs.faults.check_parts.Goals as goal

pub returns-in-Some-clause-refused : goal.returns-in-Some-clause-refused
returns-in-Some-clause-refused c =
    parts_fault_is c.args.rights.now c.args.returns.now
    c.in_ok-sums.ensures (c.in-Some.ensures ∙ ap (position (nat_lt 10000)) c.as_slice.ensures.value)

pub returns-clause-none : goal.returns-clause-none
returns-clause-none c =
    parts_fault_is c.args.rights.now c.args.returns.now
    c.in_ok-sums.ensures (c.in-None.ensures ∙ ap (position (nat_lt 10000)) c.as_slice.ensures.value)

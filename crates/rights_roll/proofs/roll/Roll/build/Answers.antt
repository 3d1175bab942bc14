use Rattle.std.proofs.lemmas.Result.{err_from_is_err_and}
use Rattle.rights_roll.specs.RollFaults.{roll_fault}
use Rattle.rights_roll.proofs.Soundness.{sound-from_faultless, refusal_is, some_or}
use Rattle.rights_roll.proofs.roll.Roll.build.Goals as goal

pub returns-in_err-check_dates-clause-refused : goal.returns-in_err-check_dates-clause-refused
unfolding roll_fault
returns-in_err-check_dates-clause-refused c =
    let p = err_from_is_err_and c.from_residual.result c.from_residual.ensures.1 in
    let e = c.in_err-check_dates.field-0.0 in
    rw (p.1, p.2) (some_or e _ _ (refusal_is e _ c.in_err-check_dates.ensures.refused))

pub returns-in_err-order-clause-refused : goal.returns-in_err-order-clause-refused
unfolding roll_fault
returns-in_err-order-clause-refused c =
    let p = err_from_is_err_and c.from_residual-in_err-order.result c.from_residual-in_err-order.ensures.1 in
    rw (p.1, p.2, c.in_ok-check_dates.ensures.none)
    (some_or c.in_err-order.field-0.0 _ _ c.in_err-order.ensures.refused)

pub returns-in_err-check_zones-clause-refused : goal.returns-in_err-check_zones-clause-refused
unfolding roll_fault
returns-in_err-check_zones-clause-refused c =
    let p = err_from_is_err_and c.from_residual-in_err-check_zones.result
    c.from_residual-in_err-check_zones.ensures.1 in
    rw (p.1, p.2, c.in_ok-check_dates.ensures.none, c.in_ok-order.ensures.none)
    (some_or c.in_err-check_zones.field-0.0 _ _ c.in_err-check_zones.ensures.refused)

pub returns-in_err-check_parts-clause-refused : goal.returns-in_err-check_parts-clause-refused
unfolding roll_fault
returns-in_err-check_parts-clause-refused c =
    let p = err_from_is_err_and c.from_residual-in_err-check_parts.result
    c.from_residual-in_err-check_parts.ensures.1 in
    rw (p.1, p.2, c.in_ok-check_dates.ensures.none, c.in_ok-order.ensures.none, c.in_ok-check_zones.ensures.none)
    c.in_err-check_parts.ensures.refused

pub returns-clause-ok : goal.returns-clause-ok
returns-clause-ok c = record {
  order = c.in_ok-order.ensures.order;
  one_next = c.in_ok-on_links.ensures.one_next;
  firsts = c.in_ok-on_links.ensures.firsts;
  nexts = λ right link below on. c.in_ok-on_links.ensures.nexts right link below on;
  others = c.in_ok-on_links.ensures.others;
}

pub returns-clause-faultless : goal.returns-clause-faultless
unfolding roll_fault
returns-clause-faultless c =
    rw (c.in_ok-check_dates.ensures.none, c.in_ok-order.ensures.none, c.in_ok-check_zones.ensures.none)
    c.in_ok-check_parts.ensures.none

pub returns-clause-sound : goal.returns-clause-sound
returns-clause-sound c = sound-from_faultless c.args.rights.now c.args.returns.now (returns-clause-faultless c)

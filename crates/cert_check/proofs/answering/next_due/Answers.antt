use Rattle.std.proofs.Common.{◌∙◌, refl}
use Rattle.cut_cert.proofs.Search.{order_in_range}
use Rattle.cert_check.proofs.answering.next_due.Goals as goal

pub calling_right-requires-clause-basin : goal.calling_right-requires-clause-basin
calling_right-requires-clause-basin c = c.requires.basin

pub calling_right-requires-clause-callers : goal.calling_right-requires-clause-callers
calling_right-requires-clause-callers c = c.requires.callers

pub calling_right-requires-clause-month : goal.calling_right-requires-clause-month
calling_right-requires-clause-month c = c.requires.fits

pub calling_right-requires-clause-right : goal.calling_right-requires-clause-right
calling_right-requires-clause-right c =
    order_in_range c.args.basin.now.rights c.by_seniority-order.result.now c.loop-position.position
    (c.by_seniority-order.ensures ∙ c.requires.roll.order) c.loop-position-test.true

pub loop-position-init : goal.loop-position-init
loop-position-init c = refl

use Rattle.std.proofs.Common.{◌∙◌, ◌<◌, ap, arith, length}
use Rattle.month_fold.proofs.Resuming.{deliveries_more}
use Rattle.month_fold.proofs.resume.replay_returns.Goals as goal

pub loop-month-preserved : goal.loop-month-preserved
loop-month-preserved c =
    let here : c.loop-month.month-index < length c.args.months.now = omega arith in
    rw (deliveries_more (λ m. m.value) c.args.months.now c.loop-month.month-index c.month-item.result
    c.as_slice.result.now here c.month-item.is (c.as_slice.ensures ∙ ap (λ m. m.delivered) c.deref.ensures))
    (c.month_done.ensures.stands _ _ c.loop-month.invariant)

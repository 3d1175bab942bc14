use Rattle.std.proofs.Common.{◌^◌, length, refl, sym, ap, subst, ◌∙◌, map, arith}
use Rattle.std.proofs.lemmas.List.{length-map}
use Rattle.month_terms.proofs.Amounts.{deliveries_small}
use Rattle.month_terms.proofs.WaterYears.{used_most}
use Rattle.water_model.specs.Entries.{count_in}
use Rattle.result_lines.specs.OfBasin.{IsOfBasin}
use Rattle.result_lines.specs.Quantities.{space_of}
use Rattle.water_model.specs.declared.types.MonthRecord.{MonthRecord}
use Rattle.cert_check.specs.Checking.{first_row}
use Rattle.cert_check.specs.Coming.{is_before_called}
use Rattle.cert_check.proofs.Entries.{along, keeps_amount, keeps_delivery, keeps_month, keeps_next, keeps_end}
use Rattle.cert_check.proofs.SetEntries.{keeps_call, keeps_node}
use Rattle.cert_check.proofs.Fitting.{amounts_sized}
use Rattle.cert_check.proofs.entering.enter.Goals as goal

pub enter_amount-requires : goal.enter_amount-requires
enter_amount-requires c = grind (arith, count_in, space_of, amounts_sized)

pub returns-in-Amount : goal.returns-in-Amount
returns-in-Amount c = λ t k m good. along t c.in-Amount.is c.enter_amount.ensures (keeps_amount c.in-Amount.quantity
    c.in-Amount.entry c.in-Amount.amount k)

pub returns-in-Month : goal.returns-in-Month
returns-in-Month c = λ t k m good. along t c.in-Month.is c.enter_month.ensures
    (keeps_month (rw c.in-Month.is at c.requires.item) k)

pub returns-in-Deliver : goal.returns-in-Deliver
returns-in-Deliver c = λ t k m good. along t c.in-Deliver.is c.enter_delivery.ensures (keeps_delivery c.in-Deliver.right
    c.in-Deliver.amount c.in-Deliver.want (m.uncalled (ap is_before_called c.in-Deliver.is)) k)

pub returns-in-Call : goal.returns-in-Call
returns-in-Call c = λ t k m good. along t c.in-Call.is c.enter_call.ensures
    (keeps_call (subst (λ i. IsOfBasin c.args.context.now.basin.now i) c.in-Call.is c.requires.item)
    (m.uncalled (ap is_before_called c.in-Call.is)) k)

pub returns-in-Member : goal.returns-in-Member
returns-in-Member c = λ t k m good. along t c.in-Member.is refl (keeps_node c.in-Member.node
    (m.uncalled (ap is_before_called c.in-Member.is)) c.enter_member.ensures.none c.enter_member.ensures.some k)

pub returns-in-Called : goal.returns-in-Called
returns-in-Called c = grind (arith, along, keeps_next, first_row)

-- what was used is little, as all that was delivered is
pub enter_end-requires-clause-little : goal.enter_end-requires-clause-little
enter_end-requires-clause-little c = λ r l.
    let so_far = c.requires.awaits.so_far in
    let partial = c.requires.awaits.comes.partial in
    omega (
      arith,
      c.requires.awaits.keeps.left.used.each r l,
      used_most c.args.context.now.basin.now (map (λ n. n.delivered) so_far.months) r
          (length (map (λ (n : MonthRecord). n.delivered) so_far.months)) (10 ^ 9)
          (deliveries_small c.args.context.now.basin.now c.args.context.now.series.now so_far.months
          c.requires.context.valid
          c.requires.context.series partial r),
      length-map so_far.months (λ (n : MonthRecord). n.delivered),
      partial.within,
      c.requires.context.valid.run.months.1,
    )

pub returns-in-End : goal.returns-in-End
returns-in-End c = λ t k m good. along t c.in-End.is c.enter_end.ensures.rest (keeps_end
    (c.enter_end.ensures.lags (map (λ n. n.delivered) t.months) k.left.lags)
    (c.enter_end.ensures.comes (map (λ n. n.delivered) t.months) k.left.lags)
    (c.enter_end.ensures.used (map (λ n. n.delivered) t.months) (length-map t.months (λ n. n.delivered)
    ∙ sym k.left.done) k.left.used) k)

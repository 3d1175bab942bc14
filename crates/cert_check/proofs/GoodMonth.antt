-- The lines of a good month are not refuted.
use Rattle.std.proofs.Common.{◌≡◌, ℕ, ◌<◌, ◌≤◌, Bool, true, false, refl, sym, ap, subst, ◌∙◌, arith, List, [], ◌∷◌}
use Rattle.std.proofs.Common.{◌++◌, length, map, fold, append-nil, length-append}
use Rattle.std.specs.Prelude.{Option, Some, None, slice_index}
use Rattle.water_model.specs.History.{cut_of}
use Rattle.water_model.specs.Indices.{seniors_first, outlets}
use Rattle.result_lines.specs.Quantities.{entries_with_line}
use Rattle.result_lines.specs.declared.item.Item.TheVariants as line
use Rattle.result_lines.specs.declared.quantity.Quantity.TheVariants as quantity
use Rattle.water_model.specs.declared.types.Basin.{Basin}
use Rattle.water_model.specs.declared.types.Series.{Series}
use Rattle.water_model.specs.declared.types.MonthRecord.{MonthRecord}
use Rattle.water_model.proofs.Order.{seniors_have, seniors_below, seniors_ordered}
use Rattle.result_reader.specs.ReadSoFar.{ReadSoFar, read_item}
use Rattle.result_reader.proofs.WholeMonth.{IsAllRead}
use Rattle.cut_cert.specs.Callers.{is_short}
use Rattle.cert_check.specs.Checking.{is_tight, balances, callers_due}
use Rattle.cert_check.proofs.Rows.{AreGood, good_section, good_parts, section_good, section_keeps, good_both}
use Rattle.cert_check.proofs.Sections as section
use Rattle.cert_check.proofs.Outflows.{IsInBalance, outflows_read, outlets_rise, outflows_good}
use Rattle.cert_check.proofs.Calls.{HasRightSets, IsSettled, calls_read, Calling, read_short, calls_good}
use Rattle.cert_check.proofs.Callers.{AllCalled, After, IsPast, called_read, settled_called, closings, closing_past}
use Rattle.cert_check.proofs.Callers.{end_past, Callers, called_line, called_good, end_good}
use Rattle.cert_check.proofs.Month.{At, AfterCalls, IsGoodMonth, stages, begun, with_out, with_calls, read_balance}
use Rattle.cert_check.proofs.Month.{read_sees, read_callers, calls_stage, inner_lines, opening_lines, evaporated_lines}
use Rattle.cert_check.proofs.Month.{returned_lines, used_lines, flow_lines, deliver_lines, out_lines, call_lines}
use Rattle.cert_check.proofs.Month.{due_lines, closing_lines, after_opening, after_evaporated, after_returned}
use Rattle.cert_check.proofs.Month.{after_used, after_flow, after_deliver, after_out, after_calls, after_called}
use Rattle.water_model.specs.Rights.{AreStrict}
use Rattle.water_model.proofs.SetEntries.{no_sets}

out_balance : {b : Basin} {series : Series} {m : MonthRecord} (t : ReadSoFar) → IsAllRead b series m →
    t.now ≡ with_out b m → ((n : ℕ) → n < length b.nodes → balances b m n ≡ true) → IsInBalance b series t.now
unfolding IsInBalance
out_balance t a is h n l = read_balance n a is ∙ h n l

calls_begin : {b : Basin} {series : Series} {before : List MonthRecord} {m : MonthRecord} {t : ReadSoFar} →
    IsAllRead b series m → At b before (with_out b m) t → Calling b series m (seniors_first b) t
calls_begin {b} a at = record {
  sees = read_sees a at.now_is;
  settled = λ r e. (let never : None ≡ Some r = sym at.calling ∙ e in cc);
  sets = λ r l none. absurd (none (seniors_have b.rights r l));
  free = λ r h. ap (λ k. cut_of k r) at.now_is ∙ no_sets (length b.rights) r;
}

callers_begin : {b : Basin} {series : Series} {before : List MonthRecord} {m : MonthRecord} {t : ReadSoFar} →
    HasRightSets b m → AfterCalls b before m t → Calling b series m [] t → Callers b series (callers_due b m) [] t
callers_begin {b} {series} {before} {m} {t} right at c = record {
  all = record { settled = c.settled; none_left = λ r l short free. unset r l short free };
  due = read_callers b m at.now_is;
  count = at.called;
}
  where
    unset : (r : ℕ) → r < length b.rights → is_short t.now r ≡ true → cut_of t.now r ≡ None → ⊥
    unset r l short free =
        let own = right.short r l (sym (read_short r c.sees) ∙ short) in
        let never : None ≡ Some own.0 = sym free ∙ (c.sets r l (λ h. h) ∙ own.1) in cc

called_stays : (b : Basin) (series : Series) (dues : List (ℕ × ℕ)) (t : ReadSoFar) →
    (fold (read_item b series) t (due_lines dues)).now ≡ t.now
called_stays b series [] t = refl
called_stays b series (x ∷ xs) t = called_stays b series xs (read_item b series t (called_line x))

pub inner_good : {b : Basin} {series : Series} {before : List MonthRecord} {m : MonthRecord} → AreStrict b.rights →
    IsAllRead b series m → IsGoodMonth b series before m →
    {t : ReadSoFar} → At b before (begun b m) t → AreGood b series t (inner_lines b m (callers_due b m))
inner_good {b} {series} {before} {m} strict a good {t} at =
    let s = stages a at in
    let opening_good = section_good
    (section.openings b series before (λ x. slice_index m.opening x)) (entries_with_line b quantity.Opening)
    (at.calling, at.months) good.opening in
    let evaporated_good = section_good
    (section.evaporations b series m.index m.opening (λ x. slice_index m.evaporated x))
    (entries_with_line b quantity.Evaporated)
    (s.opening.calling, ap (λ k. k.index) s.opening.now_is, ap (λ k. k.opening) s.opening.now_is) good.evaporated in
    let returned_good = section_good
    (section.returns b series before m.index (λ x. slice_index m.returned x)) (entries_with_line b quantity.Returned)
    (s.evaporated.calling, s.evaporated.months, ap (λ k. k.index) s.evaporated.now_is) good.returned in
    let used_good = section_good
    (section.uses b series before m.index (λ x. slice_index m.used x)) (entries_with_line b quantity.Used)
    (s.returned.calling, s.returned.months, ap (λ k. k.index) s.returned.now_is) good.used in
    let flow_good = section_good
    (section.flows b series m.month (λ x. slice_index m.plan.flow x)) (entries_with_line b quantity.Flow)
    (s.used.calling, ap (λ k. k.month) s.used.now_is) good.flow in
    let deliver_good =
    section_good (section.deliveries b series m.index m.used m.plan.flow (λ x. slice_index m.delivered x)
    (λ x. slice_index m.want x)) (seniors_first b) (
      s.flow.calling,
      ap (λ k. k.index) s.flow.now_is,
      ap (λ k. k.used) s.flow.now_is,
      ap (λ k. k.plan.flow) s.flow.now_is,
    ) good.deliver in
    let out_good =
    outflows_good b series (λ x. slice_index m.plan.out x) (outlets b) [] (after_deliver b series m t) refl
    (outlets_rise b) s.deliver.calling
    (out_balance (after_out b series m t) a s.out.now_is good.balance) in
    let calls =
    calls_good b series m good.sets (seniors_first b) (seniors_ordered b.rights strict)
    (λ r h. seniors_below b.rights r h) (after_out b series m t)
    (calls_begin a s.out) in
    let after = calls_stage a s.out in
    let called = called_good (callers_due b m)
    (callers_begin good.sets after calls.1) refl in
    let past : After b series (callers_due b m) m.plan.take (after_called b series m (callers_due b m) t) = record {
      callers = called.1;
      take_is =
          ap (λ k. k.plan.take) (called_stays b series (callers_due b m) (after_calls b series m t) ∙ after.now_is);
    } in
    let last = closings b series (callers_due b m) m.plan.take (λ x. slice_index m.closing x) in
    let closing_good = section_good last
    (entries_with_line b quantity.Closing) past good.closing in
    let ended = section_keeps last
    (entries_with_line b quantity.Closing) past in
    good_both b series t (opening_lines b m) _ opening_good
    (good_both b series (after_opening b series m t) (evaporated_lines b m) _ evaporated_good
    (good_both b series (after_evaporated b series m t) (returned_lines b m) _ returned_good
    (good_both b series (after_returned b series m t) (used_lines b m) _ used_good
    (good_both b series (after_used b series m t) (flow_lines b m) _ flow_good
    (good_both b series (after_flow b series m t) (deliver_lines b m) _ deliver_good
    (good_both b series (after_deliver b series m t) (out_lines b m) _ out_good
    (good_both b series (after_out b series m t) (call_lines b m) _ calls.0
    (good_both b series (after_calls b series m t) (due_lines (callers_due b m)) _ called.0
    (good_both b series (after_called b series m (callers_due b m) t) (closing_lines b m) (line.End ∷ []) closing_good
    (end_good ended.callers, tt))))))))))

-- A month whose lines are not refuted is good.

balance_out : {b : Basin} {series : Series} {m : MonthRecord} (t : ReadSoFar) → IsAllRead b series m →
    t.now ≡ with_out b m → IsInBalance b series t.now → (n : ℕ) → n < length b.nodes → balances b m n ≡ true
unfolding IsInBalance
balance_out {b} {series} {m} t a is h n l = sym (read_balance n a is) ∙ h n l

-- the basin has an outlet
pub record HasOutlet (b : Basin) : Type 0 where
  pub first : ℕ
  pub others : List ℕ
  pub are : outlets b ≡ first ∷ others

outflows_balance : {b : Basin} (series : Series) (a : ℕ → ℕ) (t : ReadSoFar) → HasOutlet b →
    AreGood b series t (map (λ n. line.Amount quantity.Outflow n (a n)) (outlets b)) →
    IsInBalance b series (fold (read_item b series) t (map (λ n. line.Amount quantity.Outflow n (a n)) (outlets b))).now
outflows_balance {b} series a t h g = subst (λ (xs : List ℕ). IsInBalance b series
    (fold (read_item b series) t (map (λ n. line.Amount quantity.Outflow n (a n)) xs)).now) (sym h.are)
    (outflows_read b series a h.first h.others [] t h.are
    (subst (λ (xs : List ℕ). AreGood b series t (map (λ n. line.Amount quantity.Outflow n (a n)) xs)) h.are g))

past_of : {b : Basin} {series : Series} (a : ℕ → ℕ) (xs : List ℕ) {t : ReadSoFar} →
    AreGood b series t (map (λ x. line.Amount quantity.Closing x (a x)) xs ++ line.End ∷ []) → IsPast b series t
past_of a [] g = end_past g.0
past_of a (x ∷ xs) g = closing_past x (a x) g.0

nothing_more : {xs : List (ℕ × ℕ)} (more : List (ℕ × ℕ)) {dues : List (ℕ × ℕ)} → dues ≡ xs ++ more →
    length dues ≤ length xs → dues ≡ xs
nothing_more {xs} [] is l = is ∙ append-nil xs
nothing_more {xs} (x ∷ more) is l = absurd (omega (arith, ap length is, length-append xs (x ∷ more)))

right_sets : {b : Basin} {series : Series} {m : MonthRecord} (t : ReadSoFar) {u : ReadSoFar} → IsAllRead b series m →
    t.now ≡ with_out b m → AreGood b series t (call_lines b m) → u.now ≡ with_calls b m →
    IsSettled b series (fold (read_item b series) t (call_lines b m)) → AllCalled b series u → HasRightSets b m
right_sets {b} {series} {m} t {u} a is g now settled all = record {
  sized = a.sized;
  short = λ r l short. by_set r l short (cut_of m r) refl;
  met = λ r l met. unset r l met (cut_of m r) refl;
}
  where
    so_far : (r : ℕ) (set : List Bool) → r < length b.rights → cut_of m r ≡ Some set → (is_short m r ≡ true) ×
        (is_tight b m r set ≡ true)
    so_far r set l e = calls_read a.sized (seniors_first b) (λ s h. seniors_below b.rights s h) t
        (read_sees a is) g settled r (seniors_have b.rights r l) e

    same_short : (r : ℕ) → is_short u.now r ≡ is_short m r
    same_short r = ap (λ k. is_short k r) now

    same_cut : (r : ℕ) → cut_of u.now r ≡ cut_of m r
    same_cut r = ap (λ k. cut_of k r) now

    by_set : (r : ℕ) → r < length b.rights → is_short m r ≡ true → (o : Option (List Bool)) → cut_of m r ≡ o →
        (set : List Bool) × (cut_of m r ≡ Some set) × (is_tight b m r set ≡ true)
    by_set r l short None e = absurd (all.none_left r l (same_short r ∙ short) (same_cut r ∙ e))
    by_set r l short (Some set) e = (set, e, (so_far r set l e).1)

    unset : (r : ℕ) → r < length b.rights → is_short m r ≡ false → (o : Option (List Bool)) → cut_of m r ≡ o →
        cut_of m r ≡ None
    unset r l met None e = e
    unset r l met (Some set) e = let no_call : false ≡ true = sym met ∙ (so_far r set l e).0 in cc

called_now : {b : Basin} {series : Series} {before : List MonthRecord} {m : MonthRecord} {dues : List (ℕ × ℕ)}
    {t : ReadSoFar} → AfterCalls b before m t → AreGood b series t (due_lines dues) →
    IsPast b series (fold (read_item b series) t (due_lines dues)) →
    ((fold (read_item b series) t (due_lines dues)).now ≡ with_calls b m) × (callers_due b m ≡ dues) ×
    ((fold (read_item b series) t (due_lines dues)).called ≡ length (callers_due b m))
called_now {b} {series} {before} {m} {dues} {t} at g past =
    let c = called_read dues [] g (read_callers b m at.now_is) at.called in
    let now : (fold (read_item b series) t (due_lines dues)).now ≡ with_calls b m = c.now ∙ at.now_is in
    let same : callers_due b (fold (read_item b series) t (due_lines dues)).now ≡ callers_due b m =
    read_callers b m now in
    let dues_are =
    nothing_more c.more c.are
    (omega (arith, past.count, ap length same, c.called, at.called)) in
    (now, dues_are, omega (arith, c.called, at.called, ap length dues_are))

pub inner_is_good : {b : Basin} {series : Series} {before : List MonthRecord} {m : MonthRecord} {dues : List (ℕ × ℕ)} →
    HasOutlet b → IsAllRead b series m → {t : ReadSoFar} → At b before (begun b m) t →
    AreGood b series t (inner_lines b m dues) → IsGoodMonth b series before m × (callers_due b m ≡ dues)
inner_is_good {b} {series} {before} {m} {dues} outlet a {t} at g =
    let s = stages a at in
    let after = calls_stage a s.out in
    let opening = good_parts b series t (opening_lines b m) _ g in
    let evaporated = good_parts b series (after_opening b series m t) (evaporated_lines b m) _ opening.1 in
    let returned = good_parts b series (after_evaporated b series m t) (returned_lines b m) _ evaporated.1 in
    let used = good_parts b series (after_returned b series m t) (used_lines b m) _ returned.1 in
    let flow = good_parts b series (after_used b series m t) (flow_lines b m) _ used.1 in
    let deliver = good_parts b series (after_flow b series m t) (deliver_lines b m) _ flow.1 in
    let out = good_parts b series (after_deliver b series m t) (out_lines b m) _ deliver.1 in
    let calls = good_parts b series (after_out b series m t) (call_lines b m) _ out.1 in
    let dues_read = good_parts b series (after_calls b series m t) (due_lines dues) _ calls.1 in
    let closing = good_parts b series (after_called b series m dues t) (closing_lines b m) (line.End ∷ [])
    dues_read.1 in
    let past = past_of (λ x. slice_index m.closing x) (entries_with_line b quantity.Closing) dues_read.1 in
    let called = called_now after dues_read.0 past in
    let settled = settled_called b series dues (after_calls b series m t) dues_read.0 past.all.settled in
    let stands : After b series (callers_due b m) m.plan.take (after_called b series m dues t) = record {
      callers =
          record {
            all = past.all;
            due = read_callers b m called.0;
            count =
                called.2;
          };
      take_is = ap (λ k. k.plan.take) called.0;
    } in (
      record {
        opening = good_section
            (section.openings b series before (λ x. slice_index m.opening x)) (entries_with_line b quantity.Opening)
            (t) (at.calling, at.months)
            opening.0;
        evaporated = good_section (section.evaporations b series m.index m.opening (λ x. slice_index m.evaporated x))
            (entries_with_line b quantity.Evaporated) (after_opening b series m t)
            (s.opening.calling, ap (λ k. k.index) s.opening.now_is, ap (λ k. k.opening) s.opening.now_is)
            evaporated.0;
        returned = good_section (section.returns b series before m.index (λ x. slice_index m.returned x))
            (entries_with_line b quantity.Returned) (after_evaporated b series m t)
            (s.evaporated.calling, s.evaporated.months, ap (λ k. k.index) s.evaporated.now_is)
            returned.0;
        used = good_section
            (section.uses b series before m.index (λ x. slice_index m.used x)) (entries_with_line b quantity.Used)
            (after_returned b series m t) (
              s.returned.calling,
              s.returned.months,
              ap (λ k. k.index) s.returned.now_is,
            ) used.0;
        flow = good_section
            (section.flows b series m.month (λ x. slice_index m.plan.flow x)) (entries_with_line b quantity.Flow)
            (after_used b series m t) (s.used.calling, ap (λ k. k.month) s.used.now_is)
            flow.0;
        deliver = good_section (section.deliveries b series m.index m.used m.plan.flow (λ x. slice_index m.delivered x)
            (λ x. slice_index m.want x)) (seniors_first b) (after_flow b series m t) (
              s.flow.calling,
              ap (λ k. k.index) s.flow.now_is,
              ap (λ k. k.used) s.flow.now_is,
              ap (λ k. k.plan.flow) s.flow.now_is,
            )
            deliver.0;
        balance = balance_out (after_out b series m t) a s.out.now_is
            (outflows_balance series (λ x. slice_index m.plan.out x) (after_deliver b series m t) outlet
            out.0);
        sets = right_sets (after_out b series m t) a s.out.now_is
            calls.0 called.0 settled past.all;
        closing = good_section (closings b series (callers_due b m) m.plan.take (λ x. slice_index m.closing x))
            (entries_with_line b quantity.Closing) (after_called b series m dues t) stands closing.0;
      },
      called.1,
    )

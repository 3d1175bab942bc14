-- A check state keeps what was read with one more line.
use Rattle.std.proofs.Common.{◌≡◌, ℕ, ◌+◌, false, refl, sym, ap, ◌∙◌, arith, List, [], ◌∷◌}
use Rattle.std.proofs.Common.{◌++◌, length, map, take, length-append}
use Rattle.std.specs.Prelude.{Option, Some, None, ◌&&◌, not, is_some, slice_set, slice_get, if◌then◌else◌}
use Rattle.std.proofs.lemmas.List.{map-append}
use Rattle.std.proofs.lemmas.Option.{slice_get_past}
use Rattle.water_model.proofs.Order.{length-by_seniority}
use Rattle.water_text.specs.Months.{IsMonth}
use Rattle.water_text.specs.declared.month.Month.{Month}
use Rattle.lag_returns.specs.Lags as lag
use Rattle.lag_returns.specs.Lags.{InTransit, HasReturned}
use Rattle.month_terms.specs.Terms.{HasUsed}
use Rattle.water_model.specs.Basin.{taking_node}
use Rattle.water_model.specs.Blank.{blank_month}
use Rattle.water_model.specs.Indices.{seniors_first}
use Rattle.result_lines.specs.declared.item.Item.{Item}
use Rattle.result_lines.specs.declared.item.Item.TheVariants as line
use Rattle.result_lines.specs.declared.quantity.Quantity.{Quantity}
use Rattle.water_model.specs.declared.types.Basin.{Basin}
use Rattle.water_model.specs.declared.types.Series.{Series}
use Rattle.result_reader.specs.ReadSoFar.{ReadSoFar, read_item, with_supply}
use Rattle.cert_check.specs.Checking.{first_row, is_due, callers_due}
use Rattle.cert_check.specs.Keeping.{AreAnswered, AreLeft, Keeps, callers_of, is_supplied}
use Rattle.cert_check.specs.Walks.{IsDueFrom, after}
use Rattle.cert_check.specs.declared.state.CheckState.{CheckState}
use Rattle.cert_check.specs.declared.answering.Due.{Due}
use Rattle.cert_check.proofs.Fitting.{Stays, blank_is, clash, answered_stay, callers_same, callers_stay, none_answered}
use Rattle.cert_check.proofs.Fitting.{none_settled, nobody, put_both, record_with, settled_stay, stays, supply_stays}
use Rattle.cert_check.proofs.Fitting.{with_amount}
use Rattle.cert_check.proofs.Rows.{good_row}
use Rattle.water_model.proofs.Histories.{opens_with_last}

-- the line of an amount
pub keeps_amount : {b : Basin} {series : Series} {a : CheckState} {t : ReadSoFar} (q : Quantity) (x amount : ℕ) →
    Keeps b series a t → Keeps b series (record a {
      month = with_amount q x amount a.month;
      calling = None;
      has_supply = a.has_supply && not (is_supplied q);
    })
    (read_item b series t (line.Amount q x amount))
keeps_amount {b} {series} {a} {t} q x amount k = record {
  left = k.left;
  month = record_with q x amount k.month;
  calling = nobody b (with_amount q x amount a.month).cuts;
  supply = supply_stays b series q x amount a.month t.now a.has_supply k.supply;
  closes = λ e v l. rw so_far.take (k.closes e v l);
  callers = λ e. callers_stay own (k.callers e);
  passed = settled_stay so_far k.passed;
  answered = answered_stay so_far k.answered;
  room = k.room;
}
  where
    own : Stays a.month (with_amount q x amount a.month)
    own = stays q x amount a.month

    so_far : Stays t.now (with_amount q x amount t.now)
    so_far = stays q x amount t.now

-- a `deliver` line, before the `called` lines
pub keeps_delivery : {b : Basin} {series : Series} {a : CheckState} {t : ReadSoFar} (x amount want : ℕ) →
    t.called ≡ 0 → Keeps b series a t → Keeps b series (record a {
      month = record a.month {
        delivered = slice_set a.month.delivered x amount;
        want = slice_set a.month.want x want;
        plan = record a.month.plan
            { take = slice_set a.month.plan.take x (if is_some (taking_node b x) then amount else 0) };
      };
      calling = None;
      has_closes = false;
      has_callers = false;
      passed = 0;
      answered = 0;
    })
    (read_item b series t (line.Deliver x amount want))
keeps_delivery {b} {series} {a} x amount want none k = record {
  left = k.left;
  month = assumption (
    put_both x amount k.month.fits.fits.delivered k.month.shows.delivered,
    put_both x want k.month.fits.fits.want k.month.shows.want,
    put_both x taken k.month.fits.take k.month.shows.take,
  );
  calling = nobody b a.month.cuts;
  supply = k.supply;
  closes = λ e. clash e;
  callers = λ e. clash e;
  passed = none_settled b _;
  answered = none_answered b _ none;
  room = k.room;
}
  where
    taken : ℕ
    taken = if is_some (taking_node b x) then amount else 0

-- a `month` line
pub keeps_month : {b : Basin} {series : Series} {a : CheckState} {t : ReadSoFar} {month : Month} → IsMonth month →
    Keeps b series a t → Keeps b series (record a {
      month = blank_month b a.done month;
      calling = None;
      has_supply = false;
      has_closes = false;
      has_callers = false;
      passed = 0;
      answered = 0;
    }) (read_item b series t (line.Month month))
keeps_month {b} calendar k = record {
  left = k.left;
  month = blank_is calendar k.left.done;
  calling = nobody b _;
  supply = λ e. clash e;
  closes = λ e. clash e;
  callers = λ e. clash e;
  passed = none_settled b _;
  answered = none_answered b _ refl;
  room = k.room;
}

-- a `called` line, with the number of rights whose callers were read
pub keeps_called : {b : Basin} {series : Series} {a : CheckState} {t : ReadSoFar} (x caller : ℕ) {next : ℕ} →
    AreAnswered b t.now next (t.called + 1) → Keeps b series a t →
    Keeps b series (record a { calling = None; answered = next }) (read_item b series t (line.Called x caller))
keeps_called {b} {series} {a} x caller answered k = assumption (nobody b a.month.cuts)

-- the deliveries of one more month
delivered_more : {b : Basin} {series : Series} {a : CheckState} {t : ReadSoFar} → Keeps b series a t →
    map (λ m. m.delivered) (t.months ++ with_supply b series t.now ∷ []) ≡ map (λ m. m.delivered)
    t.months ++ a.month.delivered ∷ []
delivered_more {b} {series} {a} {t} k = map-append (λ m. m.delivered) t.months (with_supply b series t.now ∷ [])
    ∙ ap (λ xs. map (λ m. m.delivered) t.months ++ xs ∷ []) (sym k.month.shows.delivered)

-- an `end` line
pub keeps_end : {b : Basin} {series : Series} {a : CheckState} {t : ReadSoFar} {lags : List InTransit}
    {comes used : List ℕ} →
    lag.LagsStandFor lags b.returns (map (λ m. m.delivered) t.months ++ a.month.delivered ∷ []) →
    HasReturned b (map (λ m. m.delivered) t.months ++ a.month.delivered ∷ []) comes →
    HasUsed b (map (λ m. m.delivered) t.months ++ a.month.delivered ∷ []) used → Keeps b series a t → Keeps b series
    (record a { done = a.done + 1; lags = lags; opens = a.month.closing; comes = comes; used = used; calling = None })
    (read_item b series t line.End)
keeps_end {b} {series} {a} {t} {lags} {comes} {used} stands back spent k =
    assumption (left, nobody b a.month.cuts)
  where
    left : AreLeft b (t.months ++ with_supply b series t.now ∷ []) (a.done + 1) lags a.month.closing comes used
    left = record {
      done = omega (arith, k.left.done, length-append t.months (with_supply b series t.now ∷ []));
      lags = rw (delivered_more k) stands;
      opens = k.month.shows.closing ∙ sym (opens_with_last b t.months (with_supply b series t.now));
      sized = k.month.fits.fits.closing;
      comes = rw (delivered_more k) back;
      used = rw (delivered_more k) spent;
    }

-- the callers that were read are those of the check state's record
pub callers_read : {b : Basin} {series : Series} {a : CheckState} {t : ReadSoFar} → Keeps b series a t →
    (xs : List ℕ) → callers_of b a.month xs ≡ callers_of b t.now xs
callers_read {b} {series} {a} {t} k xs = callers_same b a.month t.now k.month.shows.delivered k.month.shows.want
    k.month.shows.sets xs

-- a good `called` line is that of the next right that answers to a caller
pub keeps_next : {b : Basin} {series : Series} {a : CheckState} {t : ReadSoFar} (x caller : ℕ) (due : Option Due) →
    Keeps b series a t → first_row b series t (line.Called x caller) ≡ None → IsDueFrom b a.month a.answered due →
    Keeps b series (record a { calling = None; answered = after a.answered due })
    (read_item b series t (line.Called x caller))
keeps_next {b} {series} {a} {t} x caller None k good all = clash
    (sym (good_row b series t (line.Called x caller) good).1.1.1.0 ∙ ap (λ o. not (is_due x caller o))
    (past (callers_due b t.now) t.called (omega (arith, k.answered.called, ap length same))))
  where
    same : callers_due b t.now ≡ callers_of b t.now (take a.answered (seniors_first b))
    same = sym (callers_read k (seniors_first b)) ∙ (all ∙ callers_read k (take a.answered (seniors_first b)))

    past : (xs : List (ℕ × ℕ)) (n : ℕ) → n ≡ length xs → slice_get xs n ≡ None
    past xs n e = slice_get_past xs n (omega arith)
keeps_next {b} {series} {a} {t} x caller (Some due) k good next =
    keeps_called x caller (record {
      within = omega (arith, next.within, length-by_seniority b.rights);
      called = omega (
        arith,
        k.answered.called,
        ap length more,
        length-append (callers_of b t.now (take a.answered (seniors_first b))) ((due.right, due.caller) ∷ []),
      );
    }) k
  where
    more : callers_of b t.now (take (due.position + 1) (seniors_first b)) ≡ callers_of b t.now
        (take a.answered (seniors_first b)) ++ (due.right, due.caller) ∷ []
    more = sym (callers_read k (take (due.position + 1) (seniors_first b))) ∙ (next.up_to
        ∙ ap (λ xs. xs ++ (due.right, due.caller) ∷ []) (callers_read k (take a.answered (seniors_first b))))

-- the same, where the line and the check state are known by an equation
pub along : {b : Basin} {series : Series} (t : ReadSoFar) {a c : CheckState} {x y : Item} → x ≡ y → c ≡ a →
    Keeps b series a (read_item b series t y) → Keeps b series c (read_item b series t x)
along t e f k = rw (e, f) k

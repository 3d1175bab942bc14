-- The lines of sections, one section after another.
use Rattle.std.proofs.Common.{◌≡◌, ℕ, ◌<◌, Bool, true, false, refl, sym, ap, subst, ◌∙◌, arith, inl, inr, List, [], ◌∷◌}
use Rattle.std.proofs.Common.{◌++◌, length, map, fold, replicate, append_assoc}
use Rattle.std.specs.Prelude.{Option, Some, None, slice_index, nat_lt}
use Rattle.std.specs.List.{flat_map}
use Rattle.std.proofs.lemmas.List.{length-replicate}
use Rattle.finite_sums.specs.Sums.{total_where}
use Rattle.water_model.specs.Basin.{instream_link}
use Rattle.water_model.specs.Blank.{blank_month}
use Rattle.water_model.specs.History.{cut_of, opening_after, is_zone_of}
use Rattle.water_model.specs.Hydrology.{in_year, evaporation, returned_at, used_of, want_of}
use Rattle.water_model.specs.Lookups.{of_entry}
use Rattle.water_model.specs.Entries.{count_in}
use Rattle.water_model.specs.Indices.{seniors_first}
use Rattle.result_lines.specs.Quantities.{amounts_of, entries_with_line, space_of, with_amounts}
use Rattle.water_model.specs.Plans.{carry_of}
use Rattle.result_lines.specs.Text.{call_items, lines_in, month_lines}
use Rattle.result_lines.specs.declared.item.Item.{Item}
use Rattle.result_lines.specs.declared.item.Item.TheVariants as line
use Rattle.result_lines.specs.declared.item.Section.{Section}
use Rattle.result_lines.specs.declared.item.Section.TheVariants as section
use Rattle.result_lines.specs.declared.item.TheConstants.{SECTIONS}
use Rattle.result_lines.specs.declared.quantity.Quantity.{Quantity}
use Rattle.result_lines.specs.declared.quantity.Quantity.TheVariants as quantity
use Rattle.water_model.specs.declared.types.Basin.{Basin}
use Rattle.water_model.specs.declared.types.Series.{Series}
use Rattle.water_model.specs.declared.types.MonthRecord.{MonthRecord}
use Rattle.water_model.proofs.Order.{Has, seniors_below}
use Rattle.result_lines.proofs.Quantities.{amount_lines, flat_map_one}
use Rattle.result_reader.specs.ReadSoFar.{ReadSoFar, read_item, with_supply}
use Rattle.result_reader.proofs.MonthRead.{Makes, makes_amounts, makes_deliveries, reads_calls, with_sets}
use Rattle.result_reader.proofs.Sets.{put_sets}
use Rattle.result_reader.proofs.Telling.{set_all, tell_call, fold-both}
use Rattle.result_reader.proofs.WholeMonth.{IsAllRead}
use Rattle.cert_check.specs.Checking.{balances, callers_due, caller_due, amount_wrong}
use Rattle.cert_check.proofs.Calls.{Sees, HasRightSets, sees_more, after_call}
use Rattle.cert_check.proofs.Callers.{called_line, called_lines, same_callers}

-- and others after them
abbrev pub onto : {A : Type 0} → (Section → List A) → List Section → List A → List A
onto f [] ys = ys
onto f (k ∷ ks) ys = f k ++ onto f ks ys

pub spread : {A : Type 0} (f : Section → List A) (ks : List Section) (ys : List A) → flat_map f ks ++ ys ≡ onto f ks ys
spread f [] ys = refl
spread f (k ∷ ks) ys = append_assoc (f k) (flat_map f ks) ys ∙ ap (λ zs. f k ++ zs) (spread f ks ys)

pub onto_same : {A : Type 0} (f g : Section → List A) → ((k : Section) → f k ≡ g k) →
    (ks : List Section) (ys : List A) →
    onto f ks ys ≡ onto g ks ys
onto_same f g h [] ys = refl
onto_same f g h (k ∷ ks) ys =
    ap (λ xs. xs ++ onto f ks ys) (h k) ∙ ap (λ zs. g k ++ zs) (onto_same f g h ks ys)

-- The lines of a month are not refuted exactly where its record is right.

-- what stands after some lines of a month: no open call, the months before, and the month so far
pub record At (b : Basin) (before : List MonthRecord) (now : MonthRecord) (t : ReadSoFar) : Type 0 where
  pub calling : t.calling ≡ None
  pub months : t.months ≡ before
  pub now_is : t.now ≡ now
  pub called : t.called ≡ 0

same_called : (b : Basin) (series : Series) (item : ℕ → Item) →
    ((x : ℕ) (t : ReadSoFar) → (read_item b series t (item x)).called ≡ t.called) →
    (xs : List ℕ) (t : ReadSoFar) → (fold (read_item b series) t (map item xs)).called ≡ t.called
same_called b series item h [] t = refl
same_called b series item h (x ∷ xs) t = same_called b series item h xs (read_item b series t (item x)) ∙ h x t

no_calling : (b : Basin) (series : Series) (item : ℕ → Item) →
    ((x : ℕ) (t : ReadSoFar) → (read_item b series t (item x)).calling ≡ None) →
    (xs : List ℕ) (t : ReadSoFar) → t.calling ≡ None → (fold (read_item b series) t (map item xs)).calling ≡ None
no_calling b series item h [] t c = c
no_calling b series item h (x ∷ xs) t c = no_calling b series item h xs (read_item b series t (item x)) (h x t)

-- a section makes of the month what it makes of any
stage : {b : Basin} {series : Series} {before : List MonthRecord} {now next : MonthRecord} (item : ℕ → Item)
    (xs : List ℕ) (f : MonthRecord → MonthRecord) →
    ((x : ℕ) (t : ReadSoFar) → (read_item b series t (item x)).called ≡ t.called) →
    ((x : ℕ) (t : ReadSoFar) → (read_item b series t (item x)).calling ≡ None) → Makes b series (map item xs) f →
    f now ≡ next → {t : ReadSoFar} → At b before now t → At b before next (fold (read_item b series) t (map item xs))
stage {b} {series} {before} {now} {next} item xs f h k makes is {t} a = record {
  calling = no_calling b series item k xs t a.calling;
  months = (makes t).months_are ∙ a.months;
  now_is = (makes t).now_is ∙ (ap f a.now_is ∙ is);
  called = same_called b series item h xs t ∙ a.called;
}

-- the month so far after each section

abbrev pub begun : Basin → MonthRecord → MonthRecord
begun b m = blank_month b m.index m.month

abbrev pub with_opening : Basin → MonthRecord → MonthRecord
with_opening b m = with_amounts quantity.Opening (begun b m) m.opening

abbrev pub with_evaporated : Basin → MonthRecord → MonthRecord
with_evaporated b m = with_amounts quantity.Evaporated (with_opening b m) m.evaporated

abbrev pub with_returned : Basin → MonthRecord → MonthRecord
with_returned b m = with_amounts quantity.Returned (with_evaporated b m) m.returned

abbrev pub with_used : Basin → MonthRecord → MonthRecord
with_used b m = with_amounts quantity.Used (with_returned b m) m.used

abbrev pub with_flow : Basin → MonthRecord → MonthRecord
with_flow b m = with_amounts quantity.Flow (with_used b m) m.plan.flow

abbrev pub with_deliver : Basin → MonthRecord → MonthRecord
with_deliver b m = record (with_flow b m) {
  delivered = m.delivered;
  want = m.want;
  plan = record (with_flow b m).plan { take = m.plan.take };
}

abbrev pub with_out : Basin → MonthRecord → MonthRecord
with_out b m = with_amounts quantity.Outflow (with_deliver b m) m.plan.out

-- the lines of a quantity, and what they make of a month that has none of its amounts
abbrev pub lines_of : Basin → MonthRecord → Quantity → List Item
lines_of b m q = map (λ x. line.Amount q x (slice_index (amounts_of q m) x)) (entries_with_line b q)

amount_stage : {b : Basin} {series : Series} {before : List MonthRecord} {m : MonthRecord} → IsAllRead b series m →
    (q : Quantity) {now : MonthRecord} → amounts_of q now ≡ replicate (count_in (space_of q) b) 0 → {t : ReadSoFar} →
    At b before now t → At b before (with_amounts q now (amounts_of q m)) (fold (read_item b series) t (lines_of b m q))
amount_stage {b} {series} {before} {m} a q {now} none {t} at = stage
    (λ x. line.Amount q x (slice_index (amounts_of q m) x)) (entries_with_line b q) _ (λ x t. refl) (λ x t. refl)
    (makes_amounts b series q (λ x. slice_index (amounts_of q m) x) (entries_with_line b q))
    (ap (λ xs. with_amounts q now (set_all (entries_with_line b q) (λ x. slice_index (amounts_of q m) x) xs)) none
    ∙ ap (with_amounts q now) (a.listed q)) at

abbrev pub deliver_lines : Basin → MonthRecord → List Item
deliver_lines b m = map (λ x. line.Deliver x (slice_index m.delivered x) (slice_index m.want x)) (seniors_first b)

deliver_stage : {b : Basin} {series : Series} {before : List MonthRecord} {m : MonthRecord} → IsAllRead b series m →
    {t : ReadSoFar} → At b before (with_flow b m) t → At b before (with_deliver b m)
    (fold (read_item b series) t (deliver_lines b m))
deliver_stage {b} {series} {before} {m} a {t} at = stage
    (λ x. line.Deliver x (slice_index m.delivered x) (slice_index m.want x)) (seniors_first b) _ (λ x t. refl)
    (λ x t. refl)
    (makes_deliveries b series (λ x. slice_index m.delivered x) (λ x. slice_index m.want x) (seniors_first b))
    (rw (a.delivered, a.want, a.take) refl) at

abbrev pub opening_lines : Basin → MonthRecord → List Item
opening_lines b m = lines_of b m quantity.Opening

abbrev pub evaporated_lines : Basin → MonthRecord → List Item
evaporated_lines b m = lines_of b m quantity.Evaporated

abbrev pub returned_lines : Basin → MonthRecord → List Item
returned_lines b m = lines_of b m quantity.Returned

abbrev pub used_lines : Basin → MonthRecord → List Item
used_lines b m = lines_of b m quantity.Used

abbrev pub flow_lines : Basin → MonthRecord → List Item
flow_lines b m = lines_of b m quantity.Flow

abbrev pub out_lines : Basin → MonthRecord → List Item
out_lines b m = lines_of b m quantity.Outflow

-- the lines of a month's calls, of its callers, and those after them
abbrev pub call_lines : Basin → MonthRecord → List Item
call_lines b m = flat_map (λ r. call_items r (cut_of m r)) (seniors_first b)

abbrev pub closing_lines : Basin → MonthRecord → List Item
closing_lines b m = lines_of b m quantity.Closing

abbrev pub due_lines : List (ℕ × ℕ) → List Item
due_lines dues = map called_line dues

-- the lines of a section, with these `called` lines
abbrev pub section_lines : Basin → MonthRecord → List (ℕ × ℕ) → Section → List Item
section_lines b m dues (section.Amounts q) = lines_of b m q
section_lines b m dues section.Deliveries = deliver_lines b m
section_lines b m dues section.Calls = call_lines b m
section_lines b m dues section.Called = due_lines dues

-- the lines of a month after its `month` line
abbrev pub inner_lines : Basin → MonthRecord → List (ℕ × ℕ) → List Item
inner_lines b m dues = onto (section_lines b m dues) SECTIONS (line.End ∷ [])

section_is : (b : Basin) (m : MonthRecord) (caller_of : ℕ → Option ℕ) (k : Section) →
    lines_in k b m caller_of ≡ section_lines b m (flat_map (λ r. caller_due r (caller_of r)) (seniors_first b)) k
section_is b m caller_of (section.Amounts q) = amount_lines q b m caller_of
section_is b m caller_of section.Deliveries =
    flat_map_one (λ r. line.Deliver r (slice_index m.delivered r) (slice_index m.want r)) (seniors_first b)
section_is b m caller_of section.Calls = refl
section_is b m caller_of section.Called = called_lines caller_of (seniors_first b)

pub month_is : (b : Basin) (m : MonthRecord) (caller_of : ℕ → Option ℕ) →
    month_lines b m caller_of ≡ line.Month m.month ∷ inner_lines b m
    (flat_map (λ r. caller_due r (caller_of r)) (seniors_first b))
unfolding month_lines
month_is b m caller_of = ap (λ xs. line.Month m.month ∷ xs)
    (spread (λ k. lines_in k b m caller_of) SECTIONS (line.End ∷ []) ∙ onto_same (λ k. lines_in k b m caller_of)
    (section_lines b m (flat_map (λ r. caller_due r (caller_of r)) (seniors_first b)))
    (section_is b m caller_of) SECTIONS (line.End ∷ []))

abbrev pub after_opening : Basin → Series → MonthRecord → ReadSoFar → ReadSoFar
after_opening b series m t = fold (read_item b series) t (opening_lines b m)

abbrev pub after_evaporated : Basin → Series → MonthRecord → ReadSoFar → ReadSoFar
after_evaporated b series m t = fold (read_item b series) (after_opening b series m t) (evaporated_lines b m)

abbrev pub after_returned : Basin → Series → MonthRecord → ReadSoFar → ReadSoFar
after_returned b series m t = fold (read_item b series) (after_evaporated b series m t) (returned_lines b m)

abbrev pub after_used : Basin → Series → MonthRecord → ReadSoFar → ReadSoFar
after_used b series m t = fold (read_item b series) (after_returned b series m t) (used_lines b m)

abbrev pub after_flow : Basin → Series → MonthRecord → ReadSoFar → ReadSoFar
after_flow b series m t = fold (read_item b series) (after_used b series m t) (flow_lines b m)

abbrev pub after_deliver : Basin → Series → MonthRecord → ReadSoFar → ReadSoFar
after_deliver b series m t = fold (read_item b series) (after_flow b series m t) (deliver_lines b m)

abbrev pub after_out : Basin → Series → MonthRecord → ReadSoFar → ReadSoFar
after_out b series m t = fold (read_item b series) (after_deliver b series m t) (out_lines b m)

abbrev pub after_calls : Basin → Series → MonthRecord → ReadSoFar → ReadSoFar
after_calls b series m t = fold (read_item b series) (after_out b series m t) (call_lines b m)

abbrev pub after_called : Basin → Series → MonthRecord → List (ℕ × ℕ) → ReadSoFar → ReadSoFar
after_called b series m dues t = fold (read_item b series) (after_calls b series m t) (due_lines dues)

abbrev pub after_closing : Basin → Series → MonthRecord → List (ℕ × ℕ) → ReadSoFar → ReadSoFar
after_closing b series m dues t = fold (read_item b series) (after_called b series m dues t) (closing_lines b m)

-- what stands after each of the sections
pub record Stages (b : Basin) (series : Series) (before : List MonthRecord) (m : MonthRecord) (t : ReadSoFar) : Type 0
  where
    pub opening : At b before (with_opening b m) (after_opening b series m t)
    pub evaporated : At b before (with_evaporated b m) (after_evaporated b series m t)
    pub returned : At b before (with_returned b m) (after_returned b series m t)
    pub used : At b before (with_used b m) (after_used b series m t)
    pub flow : At b before (with_flow b m) (after_flow b series m t)
    pub deliver : At b before (with_deliver b m) (after_deliver b series m t)
    pub out : At b before (with_out b m) (after_out b series m t)

pub stages : {b : Basin} {series : Series} {before : List MonthRecord} {m : MonthRecord} → IsAllRead b series m →
    {t : ReadSoFar} → At b before (begun b m) t → Stages b series before m t
stages a at =
    let s0 = amount_stage a quantity.Opening refl at in
    let s1 = amount_stage a quantity.Evaporated refl s0 in
    let s2 = amount_stage a quantity.Returned refl s1 in
    let s3 = amount_stage a quantity.Used refl s2 in
    let s4 = amount_stage a quantity.Flow refl s3 in
    let s5 = deliver_stage a s4 in
    let s6 = amount_stage a quantity.Outflow refl s5 in
    record {
      opening = s0;
      evaporated = s1;
      returned = s2;
      used = s3;
      flow = s4;
      deliver = s5;
      out = s6;
    }

-- what a month's record has to keep, by the records before it, so that its lines are not refuted
pub record IsGoodMonth (b : Basin) (series : Series) (before : List MonthRecord) (m : MonthRecord) : Type 0 where
  pub opening : (x : ℕ) → Has (entries_with_line b quantity.Opening) x →
      slice_index m.opening x ≡ slice_index (opening_after b before) x
  pub evaporated : (x : ℕ) → Has (entries_with_line b quantity.Evaporated) x → slice_index m.evaporated x
      ≡ of_entry b.reservoirs x
      (λ r. evaporation r.area (slice_index m.opening x) (slice_index r.rate (in_year b m.index))) 0
  pub returned : (x : ℕ) → Has (entries_with_line b quantity.Returned) x →
      slice_index m.returned x ≡ returned_at b (map (λ k. k.delivered) before) x m.index
  pub used : (x : ℕ) → Has (entries_with_line b quantity.Used) x →
      slice_index m.used x ≡ used_of b (map (λ k. k.delivered) before) x m.index
  pub flow : (x : ℕ) → Has (entries_with_line b quantity.Flow) x →
      nat_lt (carry_of b m.month x) (slice_index m.plan.flow x) ≡ false
  pub deliver : (x : ℕ) → Has (seniors_first b) x →
      (slice_index m.want x ≡ want_of b series x m.index (slice_index m.used x))
      × (amount_wrong (instream_link b x) m.plan.flow (slice_index m.delivered x) (slice_index m.want x) ≡ false)
  pub balance : (n : ℕ) → n < length b.nodes → balances b m n ≡ true
  pub sets : HasRightSets b m
  pub closing : (x : ℕ) → Has (entries_with_line b quantity.Closing) x → slice_index m.closing x
      ≡ total_where (length b.rights) (λ r. is_zone_of b r x) (λ r. slice_index m.plan.take r)

-- the balance of a month, by what was read
pub read_balance : {b : Basin} {series : Series} {m now : MonthRecord} (n : ℕ) → IsAllRead b series m →
    now ≡ with_out b m → balances b (with_supply b series now) n ≡ balances b m n
read_balance {b} {series} n a is = ap (λ k. balances b (with_supply b series k) n) is ∙ rw (a.supply) refl

pub read_sees : {b : Basin} {series : Series} {m now : MonthRecord} → IsAllRead b series m → now ≡ with_out b m →
    Sees b series m now
read_sees {b} {series} a is = grind (arith, with_supply, length-replicate)

-- what stands after the calls
abbrev pub with_calls : Basin → MonthRecord → MonthRecord
with_calls b m = with_sets (with_out b m) m.cuts.sets

pub record AfterCalls (b : Basin) (before : List MonthRecord) (m : MonthRecord) (t : ReadSoFar) : Type 0 where
  pub now_is : t.now ≡ with_calls b m
  pub months : t.months ≡ before
  pub called : t.called ≡ 0

calls_called : {b : Basin} {series : Series} {m : MonthRecord} →
    ((r : ℕ) (set : List Bool) → cut_of m r ≡ Some set → length set ≡ length b.nodes) → (xs : List ℕ) →
    ((r : ℕ) → Has xs r → r < length b.rights) → (t : ReadSoFar) → Sees b series m t.now →
    (fold (read_item b series) t (flat_map (λ r. call_items r (cut_of m r)) xs)).called ≡ t.called
calls_called sized [] below t s = refl
calls_called {b} {series} {m} sized (x ∷ xs) below t s =
    by_set (cut_of m x) refl (λ u v. calls_called sized xs (λ y h. below y (inr h)) u v)
  where
    by_set : (o : Option (List Bool)) → cut_of m x ≡ o → ((u : ReadSoFar) → Sees b series m u.now →
        (fold (read_item b series) u (flat_map (λ r. call_items r (cut_of m r)) xs)).called ≡ u.called) →
        (fold (read_item b series) t (call_items x o ++ flat_map (λ r. call_items r (cut_of m r)) xs)).called ≡ t.called
    by_set None e further = further t s
    by_set (Some set) e further = ap (λ u. u.called)
        (fold-both (read_item b series) t (call_items x (Some set)) (flat_map (λ r. call_items r (cut_of m r)) xs))
        ∙ (ap (λ u. (fold (read_item b series) u (flat_map (λ r. call_items r (cut_of m r)) xs)).called)
        (tell_call b series x set t (omega (arith, below x (inl refl), s.sets)) (sized x set e))
        ∙ further (after_call t x set) (sees_more t x set s))

pub calls_stage : {b : Basin} {series : Series} {before : List MonthRecord} {m : MonthRecord} → IsAllRead b series m →
    {t : ReadSoFar} → At b before (with_out b m) t →
    AfterCalls b before m (fold (read_item b series) t (call_lines b m))
calls_stage {b} {series} {before} {m} a {t} at =
    let so_far =
    reads_calls b series (λ r. cut_of m r) a.sized (seniors_first b) t
    (λ r set e. (let l = a.within r set e in
    subst (λ (n : ℕ). r < n) (sym (ap (λ k. length k.cuts.sets) at.now_is)) l)) in
    record {
      now_is = so_far.now_is
          ∙ (ap (λ (k : MonthRecord). with_sets k (put_sets (seniors_first b) (λ r. cut_of m r) k.cuts.sets)) at.now_is
          ∙ ap (λ sets. with_sets (with_out b m) sets) a.sets);
      months = so_far.months_are ∙ at.months;
      called = calls_called a.sized (seniors_first b) (λ r h. seniors_below b.rights r h) t
          (read_sees a at.now_is) ∙ at.called;
    }

pub read_callers : (b : Basin) (m : MonthRecord) {now : MonthRecord} → now ≡ with_calls b m →
    callers_due b now ≡ callers_due b m
read_callers b m is = ap (λ k. callers_due b k) is ∙ same_callers b (with_calls b m) m refl refl refl

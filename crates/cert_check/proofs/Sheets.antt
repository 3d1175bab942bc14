-- The lines of a month, from its form, are those of a record.
use Rattle.std.proofs.Common.{◌≡◌, ℕ, zero, suc, ◌+◌, ◌<◌, Bool, refl, sym, ap, ◌∙◌, arith, inl, inr, List}
use Rattle.std.proofs.Common.{[], ◌∷◌, length, map, replicate, filter}
use Rattle.std.specs.Prelude.{Option, Some, None, option_map, unwrap_or, slice_index, is_some, if◌then◌else◌}
use Rattle.std.specs.List.{flat_map}
use Rattle.std.proofs.lemmas.Bool.{cases_lt}
use Rattle.std.proofs.lemmas.List.{length-replicate}
use Rattle.std.proofs.lemmas.Option.{slice_get_past}
use Rattle.water_model.specs.Basin.{taking_node}
use Rattle.water_model.specs.History.{cut_of}
use Rattle.water_model.specs.Hydrology.{run_month, inflow_at, stored_at}
use Rattle.water_model.specs.Entries.{count_in, in_order}
use Rattle.water_model.specs.Indices.{numbers_from, indices_of, seniors_first}
use Rattle.result_lines.specs.Quantities.{amounts_of, entries_with_line, space_of}
use Rattle.result_lines.specs.Text.{call_items}
use Rattle.water_model.specs.Valid.{IsValidBasin}
use Rattle.result_lines.specs.declared.item.Item.{Item}
use Rattle.result_lines.specs.declared.item.Item.TheVariants as line
use Rattle.result_lines.specs.declared.item.Section.{Section}
use Rattle.result_lines.specs.declared.item.Section.TheVariants as section
use Rattle.result_lines.specs.declared.item.TheConstants.{SECTIONS}
use Rattle.result_lines.specs.declared.quantity.Quantity.{Quantity}
use Rattle.result_lines.specs.declared.quantity.Quantity.TheVariants as quantity
use Rattle.water_model.specs.declared.space.Space.{Space}
use Rattle.water_model.specs.declared.types.Basin.{Basin}
use Rattle.water_model.specs.declared.types.Series.{Series}
use Rattle.water_model.specs.declared.types.MonthRecord.{MonthRecord}
use Rattle.water_model.proofs.Order.{Has, IsOrdered, filter-has, numbers_from-below, seniors_have, seniors_below}
use Rattle.water_model.proofs.Order.{flat_same, map_same, seniors_ordered}
use Rattle.result_lines.proofs.Quantities.{has-with_line}
use Rattle.result_reader.proofs.MonthRead.{take_of}
use Rattle.result_reader.proofs.Telling.{set_all, set_all-has}
use Rattle.result_reader.proofs.WholeMonth.{IsAllRead}
use Rattle.cert_check.proofs.Callers.{called_line}
use Rattle.cert_check.proofs.Calls.{once_in_order}
use Rattle.cert_check.proofs.Inverts.{AreApart}
use Rattle.cert_check.proofs.Month.{inner_lines, section_lines, onto, onto_same}
use Rattle.result_reader.proofs.Sets.{put_sets, set_in, length-put_sets, put_sets-has, put_sets-same, no_sets}
use Rattle.result_reader.proofs.AllRead.{set_all-same}

-- No index comes twice in the lists that sections go over.

pub indices_apart : (from n : ℕ) → AreApart (numbers_from from n)
unfolding numbers_from
indices_apart from zero = tt
indices_apart from (suc n) = (
  λ h. omega (arith, (numbers_from-below (suc from) n from h).0),
  indices_apart (suc from) n,
)

pub filter_apart : (p : ℕ → Bool) (xs : List ℕ) → AreApart xs → AreApart (filter p xs)
filter_apart p [] h = tt
filter_apart p (x ∷ xs) h = grind (arith, filter-has, filter_apart p xs h.1)

ordered_apart : (b : Basin) (xs : List ℕ) → IsOrdered b.rights xs → AreApart xs
ordered_apart b [] h = tt
ordered_apart b (x ∷ xs) h = (once_in_order b x xs h, ordered_apart b xs h.1)

pub seniors_apart : {b : Basin} → IsValidBasin b → AreApart (seniors_first b)
seniors_apart {b} valid = ordered_apart b (seniors_first b) (seniors_ordered b.rights valid.roll.strict)

pub in_order_apart : {b : Basin} → IsValidBasin b → (s : Space) → AreApart (in_order s b)
in_order_apart valid s = grind (arith, indices_apart, seniors_apart)

-- what a month's lines give
pub record Sheet : Type 0 where
  pub amount : Quantity → ℕ → ℕ
  pub delivered : ℕ → ℕ
  pub want : ℕ → ℕ
  pub cut : ℕ → Option (List Bool)

-- the lines that a sheet gives
abbrev pub sheet_section : Basin → Sheet → List (ℕ × ℕ) → Section → List Item
sheet_section b s dues (section.Amounts q) = map (λ x. line.Amount q x (s.amount q x)) (entries_with_line b q)
sheet_section b s dues section.Deliveries = map (λ x. line.Deliver x (s.delivered x) (s.want x)) (seniors_first b)
sheet_section b s dues section.Calls = flat_map (λ r. call_items r (s.cut r)) (seniors_first b)
sheet_section b s dues section.Called = map called_line dues

abbrev pub sheet_lines : Basin → Sheet → List (ℕ × ℕ) → List Item
sheet_lines b s dues = onto (sheet_section b s dues) SECTIONS (line.End ∷ [])

-- the record of a sheet
abbrev pub zeros : ℕ → List ℕ
zeros n = replicate n 0

abbrev pub supplied : Basin → Series → MonthRecord → MonthRecord
supplied b series m =
    record m {
      supply = map (λ n. inflow_at b series n m.index + slice_index m.returned n + stored_at b m.opening m.evaporated n)
          (indices_of b.nodes);
    }

abbrev pub listed : Basin → Sheet → Quantity → List ℕ
listed b s q = set_all (entries_with_line b q) (s.amount q) (zeros (count_in (space_of q) b))

abbrev pub record_of : Basin → Series → ℕ → Sheet → MonthRecord
record_of b series i s = supplied b series (record {
  index = i;
  month = run_month b i;
  opening = listed b s quantity.Opening;
  evaporated = listed b s quantity.Evaporated;
  returned = listed b s quantity.Returned;
  used = listed b s quantity.Used;
  supply = [];
  want = set_all (seniors_first b) s.want (zeros (length b.rights));
  plan = record {
    flow = listed b s quantity.Flow;
    take = set_all (seniors_first b) (take_of b s.delivered) (zeros (length b.rights));
    out = listed b s quantity.Outflow;
  };
  delivered = set_all (seniors_first b) s.delivered (zeros (length b.rights));
  cuts = record { nodes = length b.nodes; sets = put_sets (seniors_first b) s.cut (replicate (length b.rights) None) };
  closing = listed b s quantity.Closing;
})

pub amounts_are : (b : Basin) (series : Series) (i : ℕ) (s : Sheet) (q : Quantity) →
    amounts_of q (record_of b series i s) ≡ listed b s q
amounts_are b series i s quantity.Opening = refl
amounts_are b series i s quantity.Evaporated = refl
amounts_are b series i s quantity.Returned = refl
amounts_are b series i s quantity.Used = refl
amounts_are b series i s quantity.Flow = refl
amounts_are b series i s quantity.Outflow = refl
amounts_are b series i s quantity.Closing = refl

read_is : (xs : List ℕ) (a : ℕ → ℕ) {n k : ℕ} → ((x : ℕ) → Has xs x → x < n) → Has xs k →
    slice_index (set_all xs a (zeros n)) k ≡ a k
read_is xs a {n} {k} below h =
    (let l = below k h in set_all-has xs a (zeros n) k (omega (arith, length-replicate {A = ℕ} n 0)) h)

read_again : (xs : List ℕ) (a : ℕ → ℕ) {n : ℕ} → ((x : ℕ) → Has xs x → x < n) →
    set_all xs (λ k. slice_index (set_all xs a (zeros n)) k) (zeros n) ≡ set_all xs a (zeros n)
read_again xs a {n} below =
    set_all-same xs (λ k. slice_index (set_all xs a (zeros n)) k) a (zeros n) (λ k h. read_is xs a below h)

right_below : (b : Basin) (k : ℕ) → Has (seniors_first b) k → k < length b.rights
right_below b k h = seniors_below b.rights k h

cut_is : (b : Basin) (cut : ℕ → Option (List Bool)) {k : ℕ} → Has (seniors_first b) k →
    set_in (put_sets (seniors_first b) cut (replicate (length b.rights) None)) k ≡ cut k
cut_is b cut {k} h =
    (let l = right_below b k h in
    put_sets-has (seniors_first b) k cut (replicate (length b.rights) None)
    (omega (arith, length-replicate {A = Option (List Bool)} (length b.rights) None)) (no_sets (length b.rights) k) h)

-- all of a sheet's record is read
pub record_read : {b : Basin} (series : Series) (i : ℕ) (s : Sheet) →
    ((r : ℕ) (set : List Bool) → s.cut r ≡ Some set → length set ≡ length b.nodes) →
    IsAllRead b series (record_of b series i s)
record_read {b} series i s sized = record {
  listed = λ q. ap (λ (xs : List ℕ). set_all (entries_with_line b q) (λ x. slice_index xs x)
      (zeros (count_in (space_of q) b))) (amounts_are b series i s q)
      ∙ (read_again (entries_with_line b q) (s.amount q) (λ x h. (has-with_line b q x h).0)
      ∙ sym (amounts_are b series i s q));
  delivered = read_again (seniors_first b) s.delivered (right_below b);
  want = read_again (seniors_first b) s.want (right_below b);
  take = set_all-same (seniors_first b) (take_of b (λ r. slice_index (record_of b series i s).delivered r))
      (take_of b s.delivered) (zeros (length b.rights)) (λ k h. ap (λ n. if is_some (taking_node b k) then n else 0)
      (read_is (seniors_first b) s.delivered (right_below b) h));
  sets = put_sets-same (seniors_first b) (λ r. cut_of (record_of b series i s) r) s.cut
      (replicate (length b.rights) None) (λ r h. cut_is b s.cut h);
  nodes = refl;
  supply = refl;
  sized = λ r set e. sized r set (sym (cut_is b s.cut (seniors_have b.rights r (within r set e))) ∙ e);
  within = λ r set e. omega (arith, within r set e, length-replicate {A = Option (List Bool)} (length b.rights) None);
}
  where
    count : length (put_sets (seniors_first b) s.cut (replicate (length b.rights) None)) ≡ length b.rights
    count = length-put_sets (seniors_first b) s.cut (replicate (length b.rights) None)
        ∙ length-replicate (length b.rights) None

    within : (r : ℕ) (set : List Bool) → cut_of (record_of b series i s) r ≡ Some set → r < length b.rights
    within r set e = elim (cases_lt r (length b.rights)) [
      | inl l ↦ l
      | inr beyond ↦ (let none : cut_of (record_of b series i s) r ≡ None =
          ap (λ (o : Option (Option (List Bool))). unwrap_or (option_map (λ s. s) o) None)
          (slice_get_past (put_sets (seniors_first b) s.cut (replicate (length b.rights) None)) r
          (omega (arith, count))) in
          let never : None ≡ Some set = sym none ∙ e in cc)
    ]

-- and its lines are those of the sheet
pub record_lines : (b : Basin) (series : Series) (i : ℕ) (s : Sheet) (dues : List (ℕ × ℕ)) →
    sheet_lines b s dues ≡ inner_lines b (record_of b series i s) dues
record_lines b series i s dues =
    onto_same (sheet_section b s dues) (section_lines b (record_of b series i s) dues) by_section SECTIONS
    (line.End ∷ [])
  where
    deliver : (k : ℕ) → Has (seniors_first b) k → line.Deliver k (s.delivered k) (s.want k)
        ≡ line.Deliver k (slice_index (record_of b series i s).delivered k)
        (slice_index (record_of b series i s).want k)
    deliver k h =
        rw (
          read_is (seniors_first b) s.delivered (right_below b) h,
          read_is (seniors_first b) s.want (right_below b) h,
        ) refl

    by_section : (k : Section) → sheet_section b s dues k ≡ section_lines b (record_of b series i s) dues k
    by_section (section.Amounts q) = map_same (λ x. line.Amount q x (s.amount q x))
        (λ x. line.Amount q x (slice_index (amounts_of q (record_of b series i s)) x)) (entries_with_line b q)
        (λ k h. ap (λ n. line.Amount q k n) (sym (ap (λ (xs : List ℕ). slice_index xs k) (amounts_are b series i s q)
        ∙ read_is (entries_with_line b q) (s.amount q) (λ x l. (has-with_line b q x l).0) h)))
    by_section section.Deliveries = map_same (λ x. line.Deliver x (s.delivered x) (s.want x))
        (λ x. line.Deliver x (slice_index (record_of b series i s).delivered x)
        (slice_index (record_of b series i s).want x)) (seniors_first b) deliver
    by_section section.Calls =
        flat_same (λ r. call_items r (s.cut r)) (λ r. call_items r (cut_of (record_of b series i s) r))
        (seniors_first b) (λ k h. ap (call_items k) (sym (cut_is b s.cut h)))
    by_section section.Called = refl

-- The lines of records are lines that a text may have.
use Rattle.std.proofs.Common.{◌≡◌, ℕ, suc, ◌+◌, ◌<◌, ◌≤◌, ◌^◌, Bool, true, false, refl, sym, ap, subst, ◌∙◌, arith, inl}
use Rattle.std.proofs.Common.{inr, List, [], ◌∷◌, ◌++◌, length, map, append_assoc, length-append}
use Rattle.std.specs.Prelude.{Option, Some, None, slice_index, if◌then◌else◌}
use Rattle.std.specs.List.{flat_map}
use Rattle.water_model.proofs.Histories.{IsMonth-run_month}
use Rattle.water_text.specs.Months.{IsMonth}
use Rattle.water_model.proofs.Entries.{in_order-below}
use Rattle.water_model.proofs.Order.{Has, seniors_below, find-passes}
use Rattle.water_model.specs.Entries.{count_in, in_order}
use Rattle.water_model.specs.History.{cut_of, calls, calling_right}
use Rattle.water_model.specs.Indices.{members_from, seniors_first}
use Rattle.result_lines.specs.Quantities.{amounts_of, has_line, space_of}
use Rattle.result_lines.specs.Text.{call_items, called_items, section_space, lines_at, lines_in}
use Rattle.result_lines.specs.Text.{month_lines, items_of_month, items_of}
use Rattle.water_model.specs.Valid.{IsValidBasin}
use Rattle.result_lines.specs.declared.item.Item.{Item}
use Rattle.result_lines.specs.declared.item.Item.TheVariants as line
use Rattle.result_lines.specs.declared.item.Section.{Section}
use Rattle.result_lines.specs.declared.item.Section.TheVariants as section
use Rattle.result_lines.specs.declared.item.TheConstants.{SECTIONS}
use Rattle.water_model.specs.declared.types.Basin.{Basin}
use Rattle.water_model.specs.declared.types.Series.{Series}
use Rattle.water_model.specs.declared.types.MonthRecord.{MonthRecord}
use Rattle.result_reader.specs.OfText.{IsOfText}
use Rattle.result_reader.specs.Records.{IsTextMonth, AreTextMonths, AreTextAmounts}
use Rattle.result_reader.proofs.AllRead.{amounts_sized, has_set, month_of}

-- lines that a text of the basin may have
abbrev pub AreOfText : Basin → List Item → Type 0
AreOfText b [] = Unit {0}
AreOfText b (i ∷ is) = IsOfText b i × AreOfText b is

are_both : (b : Basin) (is js : List Item) → AreOfText b is → AreOfText b js → AreOfText b (is ++ js)
are_both b [] js h k = k
are_both b (i ∷ is) js h k = (h.0, are_both b is js h.1 k)

are_each : (b : Basin) (f : ℕ → Item) (xs : List ℕ) → ((x : ℕ) → Has xs x → IsOfText b (f x)) → AreOfText b (map f xs)
are_each b f [] h = tt
are_each b f (x ∷ xs) h = (h x (inl refl), are_each b f xs (λ y m. h y (inr m)))

are_all : (b : Basin) (f : ℕ → List Item) (xs : List ℕ) → ((x : ℕ) → Has xs x → AreOfText b (f x)) →
    AreOfText b (flat_map f xs)
are_all b f [] h = tt
are_all b f (x ∷ xs) h = are_both b (f x) (flat_map f xs) (h x (inl refl)) (are_all b f xs (λ y m. h y (inr m)))

amount_at : (amounts : List ℕ) (n k : ℕ) → AreTextAmounts amounts → length amounts ≡ n → k < n →
    slice_index amounts k ≤ 10 ^ 15
amount_at amounts n k h e l = h k 0 (omega arith)

members-below : (from : ℕ) (set : List Bool) (k : ℕ) → Has (members_from from set) k → k < from + length set
unfolding members_from
members-below from [] k h = absurd h
members-below from (true ∷ set) k (inl is) = omega arith
members-below from (true ∷ set) k (inr h) = omega (arith, members-below (suc from) set k h)
members-below from (false ∷ set) k h = omega (arith, members-below (suc from) set k h)

caller_below : (b : Basin) (m : MonthRecord) (r caller : ℕ) → calling_right b m r ≡ Some caller →
    caller < length b.rights
unfolding calling_right
caller_below b m r caller e =
    seniors_below b.rights caller (find-passes (λ c. calls b m r c) (seniors_first b) caller e).1

call_of_text : (b : Basin) (series : Series) (before : List MonthRecord) (m : MonthRecord) →
    IsTextMonth b series before m → (r : ℕ) → r < length b.rights → AreOfText b (call_items r (cut_of m r))
call_of_text b series before m t r below = by_set (cut_of m r) refl
  where
    by_set : (o : Option (List Bool)) → cut_of m r ≡ o → AreOfText b (call_items r o)
    by_set None e = tt
    by_set (Some set) e = (
      record { of_basin = below; numbers = tt },
      are_each b (λ n. line.Member n) (members_from 0 set) (λ n h. record {
        of_basin = omega (arith, members-below 0 set n h, (has_set b series before m t r set e).1);
        numbers = tt;
      }),
    )

called_of_text : (b : Basin) (m : MonthRecord) (r : ℕ) → r < length b.rights →
    AreOfText b (called_items r (calling_right b m r))
called_of_text b m r below = by_caller (calling_right b m r) refl
  where
    by_caller : (o : Option ℕ) → calling_right b m r ≡ o → AreOfText b (called_items r o)
    by_caller None e = tt
    by_caller (Some caller) e = (record { of_basin = (below, caller_below b m r caller e); numbers = tt }, tt)

-- the lines of an entry of a section
entry_of_text : (b : Basin) (series : Series) (before : List MonthRecord) (m : MonthRecord) →
    IsTextMonth b series before m → (k : Section) (x : ℕ) → x < count_in (section_space k) b →
    AreOfText b (lines_at k b m (calling_right b m) x)
entry_of_text b series before m t (section.Amounts q) x l = by_test (has_line b q x)
  where
    by_test : (p : Bool) → AreOfText b (if p then line.Amount q x (slice_index (amounts_of q m) x) ∷ [] else [])
    by_test true = (
      record {
        of_basin = l;
        numbers = amount_at (amounts_of q m) (count_in (space_of q) b) x (t.amounts.listed q)
            (amounts_sized b series before m t.month q) l;
      },
      tt,
    )
    by_test false = tt
entry_of_text b series before m t section.Deliveries r l = (
  record {
    of_basin = l;
    numbers = (
      amount_at m.delivered (length b.rights) r t.amounts.delivered t.month.fits.delivered l,
      amount_at m.want (length b.rights) r t.amounts.want t.month.fits.want l,
    );
  },
  tt,
)
entry_of_text b series before m t section.Calls r l = call_of_text b series before m t r l
entry_of_text b series before m t section.Called r l = called_of_text b m r l

sections_of_text : (b : Basin) (series : Series) (before : List MonthRecord) (m : MonthRecord) →
    IsTextMonth b series before m → (ks : List Section) →
    AreOfText b (flat_map (λ k. lines_in k b m (calling_right b m)) ks)
sections_of_text b series before m t [] = tt
sections_of_text b series before m t (k ∷ ks) =
    are_both b (lines_in k b m (calling_right b m)) (flat_map (λ k. lines_in k b m (calling_right b m)) ks)
    (are_all b (lines_at k b m (calling_right b m)) (in_order (section_space k) b)
    (λ x h. entry_of_text b series before m t k x (in_order-below (section_space k) b x h)))
    (sections_of_text b series before m t ks)

month_of_text : (b : Basin) (series : Series) (before : List MonthRecord) (m : MonthRecord) → IsValidBasin b →
    IsTextMonth b series before m → length before < b.months → AreOfText b (items_of_month b m)
unfolding month_lines
month_of_text b series before m valid t l = (
  record { of_basin = month; numbers = tt },
  are_both b (flat_map (λ k. lines_in k b m (calling_right b m)) SECTIONS) (line.End ∷ [])
      (sections_of_text b series before m t SECTIONS) (record { of_basin = tt; numbers = tt }, tt),
)
  where
    month : IsMonth m.month
    month = subst IsMonth (sym t.month.month) (IsMonth-run_month b m.index valid.run (omega (arith, t.month.index)))

months_of_text : (b : Basin) (series : Series) (records before ms : List MonthRecord) → IsValidBasin b →
    AreTextMonths b series records → records ≡ before ++ ms → AreOfText b (flat_map (items_of_month b) ms)
months_of_text b series records before [] valid are is = tt
months_of_text b series records before (m ∷ ms) valid are is =
    are_both b (items_of_month b m) (flat_map (items_of_month b) ms)
    (month_of_text b series before m valid (month_of b series records before ms m are is) bounded)
    (months_of_text b series records (before ++ m ∷ []) ms valid are (is ∙ sym (append_assoc before (m ∷ []) ms)))
  where
    bounded : length before < b.months
    bounded = omega (arith, are.within, ap length is, length-append before (m ∷ ms))

pub records_of_text : (b : Basin) (series : Series) (records : List MonthRecord) → IsValidBasin b →
    AreTextMonths b series records → AreOfText b (items_of b records)
records_of_text b series records valid are = (
  record { of_basin = tt; numbers = tt },
  (
    record { of_basin = valid.run.first; numbers = (valid.run.months.0, valid.run.months.1) },
    are_both b (flat_map (items_of_month b) records) (line.Done b.months ∷ [])
        (months_of_text b series records [] records valid are refl)
        (record { of_basin = tt; numbers = (valid.run.months.0, valid.run.months.1) }, tt),
  ),
)

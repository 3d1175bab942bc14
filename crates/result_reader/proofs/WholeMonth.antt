-- The lines of a month say all of its record.
use Rattle.std.proofs.Common.{arith, ◌≡◌, ℕ, ◌+◌, ◌<◌, Bool, refl, sym, ap, subst, ◌∙◌, List, [], ◌∷◌, ◌++◌, length}
use Rattle.std.proofs.Common.{map, fold}
use Rattle.std.proofs.Common.{replicate, append_assoc, append-nil, length-append}
use Rattle.std.specs.Prelude.{Option, Some, None, slice_index}
use Rattle.std.specs.List.{flat_map}
use Rattle.water_model.specs.Blank.{blank_month}
use Rattle.water_model.specs.Entries.{count_in}
use Rattle.water_model.specs.History.{cut_of, calling_right}
use Rattle.water_model.specs.Hydrology.{inflow_at, stored_at}
use Rattle.water_model.specs.Indices.{indices_of, seniors_first}
use Rattle.result_lines.specs.Quantities.{amounts_of, entries_with_line, space_of}
use Rattle.result_lines.specs.Text.{lines_in, month_lines, items_of_month, items_of}
use Rattle.result_lines.specs.declared.item.Item.TheVariants as line
use Rattle.result_lines.specs.declared.item.TheConstants.{SECTIONS}
use Rattle.result_lines.specs.declared.quantity.Quantity.{Quantity}
use Rattle.result_lines.specs.declared.quantity.Quantity.TheVariants as quantity
use Rattle.water_model.specs.declared.types.Basin.{Basin}
use Rattle.water_model.specs.declared.types.Series.{Series}
use Rattle.water_model.specs.declared.types.MonthRecord.{MonthRecord}
use Rattle.result_reader.specs.ReadSoFar.{ReadSoFar, read_item, read_so_far, with_supply}
use Rattle.result_reader.proofs.Telling.{set_all, fold-both}
use Rattle.result_reader.proofs.MonthRead.{Reads, sections_read, take_of, with_section}
use Rattle.result_reader.proofs.Sets.{put_sets}

-- the numbers of the record are all read, and what is not read is 0
pub record IsAllRead (b : Basin) (series : Series) (m : MonthRecord) : Type 0 where
  pub listed : (q : Quantity) →
      set_all (entries_with_line b q) (λ x. slice_index (amounts_of q m) x) (replicate (count_in (space_of q) b) 0)
      ≡ amounts_of q m
  pub delivered : set_all (seniors_first b) (λ r. slice_index m.delivered r)
      (replicate (length b.rights) 0) ≡ m.delivered
  pub want : set_all (seniors_first b) (λ r. slice_index m.want r) (replicate (length b.rights) 0) ≡ m.want
  pub take : set_all (seniors_first b) (take_of b (λ r. slice_index m.delivered r))
      (replicate (length b.rights) 0) ≡ m.plan.take
  pub sets : put_sets (seniors_first b) (λ r. cut_of m r) (replicate (length b.rights) None) ≡ m.cuts.sets
  pub nodes : m.cuts.nodes ≡ length b.nodes
  pub supply : map (λ n. inflow_at b series n m.index + slice_index m.returned n + stored_at b m.opening m.evaporated n)
      (indices_of b.nodes) ≡ m.supply
  pub sized : (r : ℕ) (set : List Bool) → cut_of m r ≡ Some set → length set ≡ length b.nodes
  pub within : (r : ℕ) (set : List Bool) → cut_of m r ≡ Some set →
      r < length (replicate {A = Option (List Bool)} (length b.rights) None)

-- what the lines before `end` make of a month
abbrev before_end : Basin → MonthRecord → MonthRecord
before_end b m = fold (λ now k. with_section b m k now) (blank_month b m.index m.month) SECTIONS

-- the record is whole at its end
end_is : (b : Basin) (series : Series) (m : MonthRecord) → IsAllRead b series m →
    with_supply b series (before_end b m) ≡ m
end_is b series m a =
    rw (
      a.listed quantity.Opening,
      a.listed quantity.Evaporated,
      a.listed quantity.Returned,
      a.listed quantity.Used,
      a.listed quantity.Flow,
      a.listed quantity.Outflow,
      a.listed quantity.Closing,
      a.want,
      a.delivered,
      a.take,
      a.sets,
      a.supply,
      ← a.nodes,
    ) refl

pub month_read : (b : Basin) (series : Series) (m : MonthRecord) (caller_of : ℕ → Option ℕ) (t : ReadSoFar) →
    m.index ≡ length t.months → IsAllRead b series m →
    (fold (read_item b series) t (month_lines b m caller_of)).months ≡ t.months ++ m ∷ []
unfolding month_lines
month_read b series m caller_of t i a =
    ap (λ u. u.months) (fold-both (read_item b series) begun (flat_map (λ k. lines_in k b m caller_of) SECTIONS)
    (line.End ∷ [])) ∙ (ap (λ ms. ms ++ with_supply b series after.now ∷ []) so_far.months_are
    ∙ ap (λ k. t.months ++ k ∷ []) (ap (with_supply b series) now_is ∙ end_is b series m a))
  where
    begun : ReadSoFar
    begun = read_item b series t (line.Month m.month)

    after : ReadSoFar
    after = fold (read_item b series) begun (flat_map (λ k. lines_in k b m caller_of) SECTIONS)

    so_far : Reads b series begun (flat_map (λ k. lines_in k b m caller_of) SECTIONS)
        (fold (λ now k. with_section b m k now) begun.now SECTIONS)
    so_far = sections_read b series m caller_of a.sized SECTIONS begun a.within

    now_is : after.now ≡ before_end b m
    now_is =
        so_far.now_is ∙ ap (λ n. fold (λ now k. with_section b m k now) (blank_month b n m.month) SECTIONS) (sym i)

-- each record is the next month's, and all of it was read
abbrev pub AreAllRead : Basin → Series → ℕ → List MonthRecord → Type 0
AreAllRead b series i [] = Unit {0}
AreAllRead b series i (m ∷ ms) = (m.index ≡ i) × IsAllRead b series m × AreAllRead b series (i + 1) ms

months_read : (b : Basin) (series : Series) (records : List MonthRecord) (t : ReadSoFar) →
    AreAllRead b series (length t.months) records →
    (fold (read_item b series) t (flat_map (items_of_month b) records)).months ≡ t.months ++ records
months_read b series [] t h = sym (append-nil t.months)
months_read b series (m ∷ ms) t h =
    ap (λ u. u.months) (fold-both (read_item b series) t (items_of_month b m) (flat_map (items_of_month b) ms))
    ∙ (months_read b series ms (fold (read_item b series) t (items_of_month b m))
    (subst (λ (i : ℕ). AreAllRead b series i ms) (sym longer) h.2)
    ∙ (ap (λ xs. xs ++ ms) first ∙ append_assoc t.months (m ∷ []) ms))
  where
    first : (fold (read_item b series) t (items_of_month b m)).months ≡ t.months ++ m ∷ []
    first = month_read b series m (calling_right b m) t h.0 h.1

    longer : length (fold (read_item b series) t (items_of_month b m)).months ≡ length t.months + 1
    longer = ap length first ∙ length-append t.months (m ∷ [])

-- the text's items give the records
pub records_read : (b : Basin) (series : Series) (records : List MonthRecord) → AreAllRead b series 0 records →
    (read_so_far b series (items_of b records)).months ≡ records
records_read b series records h = grind (arith, fold-both, months_read)

-- Records whose items are the same are the same.
pub one_reading_of_items : (b : Basin) (series : Series) (records others : List MonthRecord) →
    AreAllRead b series 0 records → AreAllRead b series 0 others →
    items_of b records ≡ items_of b others → records ≡ others
one_reading_of_items b series records others h k e = grind (arith, records_read)

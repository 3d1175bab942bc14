-- The text of records has the form.
use Rattle.std.proofs.Common.{◌≡◌, ℕ, suc, Bool, true, false, refl, sym, ap, subst, ◌∙◌, arith, inl, inr, List, [], ◌∷◌}
use Rattle.std.proofs.Common.{◌++◌, length, map, append-nil, append_assoc, length-append}
use Rattle.std.specs.Prelude.{Option, Some, None, is_some, find, slice_index, if◌then◌else◌}
use Rattle.std.specs.List.{flat_map, list_any}
use Rattle.std.proofs.Math.Bool.{and-false}
use Rattle.water_model.proofs.Order.{find-passes}
use Rattle.water_model.specs.Basin.{is_senior, taking_node}
use Rattle.water_model.specs.Entries.{in_order}
use Rattle.water_model.specs.Hydrology.{run_month}
use Rattle.water_model.specs.History.{cut_of, calls, calling_right}
use Rattle.water_model.specs.Indices.{numbers_from, members_from, seniors_first}
use Rattle.result_lines.specs.Quantities.{amounts_of, has_line}
use Rattle.result_lines.specs.Spelling.{line_of}
use Rattle.result_lines.specs.Text.{call_items, called_items, section_space, lines_at, lines_in}
use Rattle.result_lines.specs.Text.{month_lines, items_of_month, items_of}
use Rattle.result_lines.specs.declared.item.Item.{Item}
use Rattle.result_lines.specs.declared.item.Item.TheVariants as line
use Rattle.result_lines.specs.declared.item.Section.{Section}
use Rattle.result_lines.specs.declared.item.Section.TheVariants as section
use Rattle.result_lines.specs.declared.item.TheConstants.{SECTIONS}
use Rattle.water_model.specs.declared.types.Basin.{Basin}
use Rattle.water_model.specs.declared.types.Series.{Series}
use Rattle.water_model.specs.declared.types.MonthRecord.{MonthRecord}
use Rattle.result_reader.specs.Form.{shape_of, is_allowed, fits, IsFollowedBy, Fills, shapes_at, shapes_in}
use Rattle.result_reader.specs.Form.{due_in_month, due_for_month, due}
use Rattle.result_reader.specs.Laws.{TextsAreAccepted}
use Rattle.result_reader.specs.OfText.{IsOfText}
use Rattle.result_reader.specs.Records.{IsTextMonth, AreTextMonths}
use Rattle.result_reader.specs.declared.shape.Shape.{Shape}
use Rattle.result_reader.specs.declared.shape.Shape.TheVariants as shape
use Rattle.result_reader.proofs.Accepting.{may_come}
use Rattle.result_reader.proofs.AllRead.{has_set, month_of}
use Rattle.result_reader.proofs.Steps.{fits_itself}
use Rattle.result_reader.proofs.OfTexts.{AreOfText, records_of_text}
use Rattle.result_reader.proofs.Spelled.{item-line}

pub fills_both : (b : Basin) (ds es : List Shape) (items others : List Item) → Fills b ds items → Fills b es others →
    Fills b (ds ++ es) (items ++ others)
fills_both b [] es items others h k = rw h k
fills_both b (d ∷ ds) es items others (inl (o, h)) k = inl (o, fills_both b ds es items others h k)
fills_both b (d ∷ ds) es items others (inr (i, members, rest, f, group, are, h)) k =
    inr (
      i,
      members,
      rest ++ others,
      f,
      group,
      ap (λ xs. xs ++ others) are ∙ ap (λ xs. i ∷ xs) (append_assoc members rest others),
      fills_both b ds es rest others h k,
    )

-- the callers and sets of a month are such as a text may have
pub record HasCalls (b : Basin) (m : MonthRecord) (caller_of : ℕ → Option ℕ) : Type 0 where
  pub sized : (r : ℕ) (set : List Bool) → cut_of m r ≡ Some set → length set ≡ length b.nodes
  pub some : (r : ℕ) (set : List Bool) → cut_of m r ≡ Some set → list_any (λ x. x) set ≡ true
  pub taking : (r : ℕ) → is_some (taking_node b r) ≡ false → caller_of r ≡ None
  pub senior : (r caller : ℕ) → caller_of r ≡ Some caller → is_senior b caller r ≡ true

-- a line that stands alone
fills_one : (b : Basin) (i : Item) → is_allowed b i ≡ true → IsFollowedBy b i [] → Fills b (shape_of i ∷ []) (i ∷ [])
fills_one b i allowed alone = inr (i, [], [], fits_itself b i allowed, alone, refl, refl)

-- the lines of an entry fill what is due for it
fills_entry : (b : Basin) (m : MonthRecord) (caller_of : ℕ → Option ℕ) → HasCalls b m caller_of →
    (k : Section) (x : ℕ) → Fills b (shapes_at k b x) (lines_at k b m caller_of x)
fills_entry b m caller_of h (section.Amounts q) x = by_test (has_line b q x)
  where
    by_test : (t : Bool) → Fills b (if t then shape.Amount q x ∷ [] else [])
        (if t then line.Amount q x (slice_index (amounts_of q m) x) ∷ [] else [])
    by_test true = fills_one b (line.Amount q x (slice_index (amounts_of q m) x)) refl refl
    by_test false = refl
fills_entry b m caller_of h section.Deliveries x =
    fills_one b (line.Deliver x (slice_index m.delivered x) (slice_index m.want x)) refl refl
fills_entry b m caller_of h section.Calls x = by_set (cut_of m x) refl
  where
    by_set : (o : Option (List Bool)) → cut_of m x ≡ o → Fills b (shape.Call x ∷ []) (call_items x o)
    by_set None e = inl (refl, refl)
    by_set (Some set) e = inr (
      line.Call x,
      map (λ n. line.Member n) (members_from 0 set),
      [],
      fits_itself b (line.Call x) refl,
      (set, h.sized x set e, h.some x set e, refl),
      ap (λ ms. line.Call x ∷ ms) (sym (append-nil (map (λ n. line.Member n) (members_from 0 set)))),
      refl,
    )
fills_entry b m caller_of h section.Called x = by_taking (is_some (taking_node b x)) refl (caller_of x) refl
  where
    by_taking : (t : Bool) → is_some (taking_node b x) ≡ t → (o : Option ℕ) → caller_of x ≡ o →
        Fills b (if t then shape.Called x ∷ [] else []) (called_items x o)
    by_taking true t None e = inl (refl, refl)
    by_taking true t (Some caller) e = fills_one b (line.Called x caller) (h.senior x caller e) refl
    by_taking false t None e = refl
    by_taking false t (Some caller) e = let none : Some caller ≡ None = sym e ∙ h.taking x t in cc

-- and so do those of a section, and of the sections
fills_entries : (b : Basin) (m : MonthRecord) (caller_of : ℕ → Option ℕ) → HasCalls b m caller_of →
    (k : Section) (xs : List ℕ) → Fills b (flat_map (shapes_at k b) xs) (flat_map (lines_at k b m caller_of) xs)
fills_entries b m caller_of h k [] = refl
fills_entries b m caller_of h k (x ∷ xs) =
    fills_both b (shapes_at k b x) (flat_map (shapes_at k b) xs) (lines_at k b m caller_of x)
    (flat_map (lines_at k b m caller_of) xs) (fills_entry b m caller_of h k x) (fills_entries b m caller_of h k xs)

fills_sections : (b : Basin) (m : MonthRecord) (caller_of : ℕ → Option ℕ) → HasCalls b m caller_of →
    (ks : List Section) → Fills b (flat_map (λ k. shapes_in k b) ks) (flat_map (λ k. lines_in k b m caller_of) ks)
fills_sections b m caller_of h [] = refl
fills_sections b m caller_of h (k ∷ ks) =
    fills_both b (shapes_in k b) (flat_map (λ k. shapes_in k b) ks) (lines_in k b m caller_of)
    (flat_map (λ k. lines_in k b m caller_of) ks)
    (fills_entries b m caller_of h k (in_order (section_space k) b)) (fills_sections b m caller_of h ks)

pub month_fills : (b : Basin) (m : MonthRecord) (caller_of : ℕ → Option ℕ) (i : ℕ) → m.month ≡ run_month b i →
    HasCalls b m caller_of → Fills b (due_for_month b i) (month_lines b m caller_of)
unfolding month_lines due_in_month
month_fills b m caller_of i is h =
    inr (
      line.Month m.month,
      [],
      _,
      ap (λ x. fits b (shape.Month x) (line.Month m.month)) (sym is) ∙ fits_itself b (line.Month m.month) refl,
      refl,
      refl,
      fills_both b (flat_map (λ k. shapes_in k b) SECTIONS) (shape.End ∷ [])
          (flat_map (λ k. lines_in k b m caller_of) SECTIONS) (line.End ∷ [])
          (fills_sections b m caller_of h SECTIONS) (fills_one b line.End refl refl),
    )

-- The callers of a record are such as a text may have.

not_called : (b : Basin) (m : MonthRecord) (r : ℕ) (xs : List ℕ) → is_some (taking_node b r) ≡ false →
    find (λ caller. calls b m r caller) xs ≡ None
unfolding calls
not_called b m r [] h = refl
not_called b m r (x ∷ xs) h = grind (arith, and-false, not_called b m r xs h)

called_senior : (b : Basin) (m : MonthRecord) (r caller : ℕ) → calling_right b m r ≡ Some caller →
    is_senior b caller r ≡ true
unfolding calling_right calls
called_senior b m r caller e =
    let passes = (find-passes (λ c. calls b m r c) (seniors_first b) caller e).0 in grind arith

has_calls : (b : Basin) (series : Series) (before : List MonthRecord) (m : MonthRecord) →
    IsTextMonth b series before m → HasCalls b m (calling_right b m)
unfolding calling_right
has_calls b series before m t = record {
  sized = λ r set e. (has_set b series before m t r set e).1;
  some = λ r set e. (has_set b series before m t r set e).2;
  taking = λ r e. not_called b m r (seniors_first b) e;
  senior = λ r caller e. called_senior b m r caller e;
}

-- The run.

months_fill : (b : Basin) (series : Series) (records before ms : List MonthRecord) → AreTextMonths b series records →
    records ≡ before ++ ms →
    Fills b (flat_map (due_for_month b) (numbers_from (length before) (length ms))) (flat_map (items_of_month b) ms)
unfolding numbers_from
months_fill b series records before [] are is = refl
months_fill b series records before (m ∷ ms) are is =
    let t = month_of b series records before ms m are is in
    fills_both b (due_for_month b (length before))
    (flat_map (due_for_month b) (numbers_from (suc (length before)) (length ms))) (items_of_month b m)
    (flat_map (items_of_month b) ms)
    (month_fills b m (calling_right b m) (length before) (t.month.month ∙ ap (run_month b) t.month.index)
    (has_calls b series before m t))
    (subst (λ (k : ℕ). Fills b (flat_map (due_for_month b) (numbers_from k (length ms)))
    (flat_map (items_of_month b) ms)) (longer before m)
    (months_fill b series records (before ++ m ∷ []) ms are (is ∙ sym (append_assoc before (m ∷ []) ms))))
  where
    longer : (before : List MonthRecord) (m : MonthRecord) → length (before ++ m ∷ []) ≡ suc (length before)
    longer before m = omega (arith, length-append before (m ∷ []))

pub text_fills : (b : Basin) (series : Series) (records : List MonthRecord) → AreTextMonths b series records →
    length records ≡ b.months → Fills b (due b) (items_of b records)
unfolding due
text_fills b series records are all =
    inr (
      line.Title,
      [],
      _,
      fits_itself b line.Title refl,
      refl,
      refl,
      inr (
        line.Run b.first b.months,
        [],
        _,
        fits_itself b (line.Run b.first b.months) refl,
        refl,
        refl,
        fills_both b (flat_map (due_for_month b) (numbers_from 0 b.months)) (shape.Done b.months ∷ [])
            (flat_map (items_of_month b) records) (line.Done b.months ∷ [])
            (subst (λ (k : ℕ). Fills b (flat_map (due_for_month b) (numbers_from 0 k))
            (flat_map (items_of_month b) records)) all (months_fill b series records [] records are refl))
            (inr (line.Done b.months, [], [], fits_itself b (line.Done b.months) refl, refl, refl, refl)),
      ),
    )

-- each line of a text is accepted after those before it
pub texts_are_accepted : TextsAreAccepted
texts_are_accepted b series records before after item valid are all is =
    may_come b before (line_of b item) item (item-line b valid item (of_text before item after
    (subst (λ (xs : List Item). AreOfText b xs) is (records_of_text b series records valid are))))
    (record {
      rest = after;
      whole = subst (λ (xs : List Item). Fills b (due b) xs) (is ∙ sym (append_assoc before (item ∷ []) after))
          (text_fills b series records are all);
    })
  where
    of_text : (xs : List Item) (i : Item) (ys : List Item) → AreOfText b (xs ++ i ∷ ys) → IsOfText b i
    of_text [] i ys h = h.0
    of_text (x ∷ xs) i ys h = of_text xs i ys h.1

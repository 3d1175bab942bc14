-- A basin and a series leave one list of calls.
use Rattle.std.proofs.Common.{◌≡◌, ℕ, suc, refl, sym, ◌∙◌, ap, ap₂, arith, List, [], ◌∷◌, ◌++◌, length}
use Rattle.std.proofs.Common.{take, length-take, Option, Some, None}
use Rattle.std.proofs.lemmas.List.{ext_get_or, length-map}
use Rattle.std.specs.Prelude.{slice_get, slice_index, slice_index_or, option_map, if◌then◌else◌, nat_lt}
use Rattle.std.specs.List.{flat_map}
use Rattle.std.proofs.lemmas.Option.{slice_get_within, slice_get-map}
use Rattle.water_model.specs.Entries.{in_order}
use Rattle.water_model.specs.Basin.{taking_node}
use Rattle.duality.specs.Laws.{HaveSameOutcome}
use Rattle.water_model.specs.Valid.{IsValidBasin}
use Rattle.water_model.specs.declared.types.Basin.{Basin}
use Rattle.water_model.specs.declared.types.MonthRecord.{MonthRecord}
use Rattle.water_model.proofs.Lists.{prefix_partial}
use Rattle.water_model.proofs.Order.{flat_same}
use Rattle.duality.proofs.Balance.{slice_get-take}
use Rattle.duality.proofs.Outcome.{one_outcome}
use Rattle.next_unit.specs.Core.{one_more}
use Rattle.next_unit.specs.Helped.{IsHelped}
use Rattle.next_unit.specs.Laws.{CarryHelpsRight}
use Rattle.next_unit.specs.Next.{HelpsRight, IsNextOrFree}
use Rattle.call_list.specs.Entries.{whole_line}
use Rattle.call_list.specs.Found.{Found, IsFoundIn, curtailed_for, if_senior, next_at}
use Rattle.call_list.specs.Lists.{head_bytes, line_with, lines_at, lines_in, month_bytes, space_of, tail_bytes}
use Rattle.call_list.specs.declared.entry.Entry.TheVariants as line
use Rattle.call_list.specs.declared.part.Part.{Part}
use Rattle.call_list.specs.declared.part.Part.TheVariants as part
use Rattle.call_list.specs.Laws.{FoundIsDetermined, ListIsDetermined}
use Rattle.call_list.specs.Whole.{MonthFound, records_of}
use Rattle.call_list.proofs.Answers.{same_next, same_helped}

same_back : (m n : MonthRecord) → HaveSameOutcome m n → HaveSameOutcome n m
same_back m n same = record {
  index = sym same.index;
  month = sym same.month;
  opening = sym same.opening;
  evaporated = sym same.evaporated;
  returned = sym same.returned;
  supply = sym same.supply;
  used = sym same.used;
  want = sym same.want;
  delivered = sym same.delivered;
  closing = sym same.closing;
  outflow = sym same.outflow;
}

-- where one more unit helps in a month, it does in any other of the same outcome
supply_helps : (b : Basin) (m n : MonthRecord) (node r : ℕ) → HaveSameOutcome m n →
    HelpsRight b m (one_more m.supply node) r → HelpsRight b n (one_more n.supply node) r
supply_helps b m n node r same h = record {
  plan = h.plan;
  is_plan = rw (← same.month, ← same.supply, ← same.want) h.is_plan;
  serves = rw (← same.delivered, ← same.want) h.serves;
  more = rw (← same.delivered, ← same.want) h.more;
}

carry_helps : (b : Basin) (m n : MonthRecord) (link r : ℕ) → HaveSameOutcome m n → CarryHelpsRight b m link r →
    CarryHelpsRight b n link r
carry_helps b m n link r same h = record {
  plan = h.plan;
  is_plan = rw (← same.month, ← same.supply, ← same.want) h.is_plan;
  serves = rw (← same.delivered, ← same.want) h.serves;
  more = rw (← same.delivered, ← same.want) h.more;
}

-- and what is found is the same
module _ (b : Basin) (m n : MonthRecord) (valid : IsValidBasin b) (same : HaveSameOutcome m n) where
  next_there : (node : ℕ) (answer : Option ℕ) → IsNextOrFree b m node answer → IsNextOrFree b n node answer
  next_there node None free = λ s l helps. free s l (supply_helps b n m node s (same_back m n same) helps)
  next_there node (Some r) next = record {
    in_range = next.in_range;
    helps = supply_helps b m n node r same next.helps;
    first = λ s l senior helps. next.first s l senior (supply_helps b n m node s (same_back m n same) helps);
  }

  helped_there : (link : ℕ) (answer : Option ℕ) → IsHelped b m link answer → IsHelped b n link answer
  helped_there link None none = λ s l helps. none s l (carry_helps b n m link s (same_back m n same) helps)
  helped_there link (Some r) first = record {
    in_range = first.in_range;
    helps = carry_helps b m n link r same first.helps;
    first = λ s l senior helps. first.first s l senior (carry_helps b n m link s (same_back m n same) helps);
  }

  pub same_found : (f g : Found) → IsFoundIn b m f → IsFoundIn b n g → f ≡ g
  same_found f g is are =
      let make : List (Option ℕ) → List (Option ℕ) → Found = λ next helped. record { next = next; helped = helped } in
      ap₂ make
      (ext_get_or None f.next g.next (is.next.one_each ∙ sym are.next.one_each) (λ k l.
      same_next b n k valid (slice_index_or f.next k None) (slice_index_or g.next k None)
      (next_there k (slice_index_or f.next k None) (is.next.each k (omega (arith, l, is.next.one_each))))
      (are.next.each k (omega (arith, l, is.next.one_each)))))
      (ext_get_or None f.helped g.helped (is.helped.count ∙ sym are.helped.count) (λ k l.
      same_helped b n k valid (slice_index_or f.helped k None) (slice_index_or g.helped k None)
      (helped_there k (slice_index_or f.helped k None) (is.helped.each k (omega (arith, l, is.helped.count))))
      (are.helped.each k (omega (arith, l, is.helped.count)))))

pub found_is_determined : FoundIsDetermined
found_is_determined b series records others i m n f g valid partial partial' at at' is are =
    same_found b m n valid
    (one_outcome b series (take (suc i) records) (take (suc i) others) valid
    (prefix_partial b series records (suc i) partial) (prefix_partial b series others (suc i) partial')
    (omega (
      arith,
      length-take (suc i) records,
      length-take (suc i) others,
      slice_get_within records i m at,
      slice_get_within others i n at',
    )) i m n (slice_get-take records i ∙ at)
    (slice_get-take others i ∙ at')) f g is are

-- and so are the lines of the month
same_caller : (b : Basin) (m n : MonthRecord) (next : List (Option ℕ)) (right : ℕ) → HaveSameOutcome m n →
    curtailed_for b m next right ≡ curtailed_for b n next right
unfolding curtailed_for
same_caller b m n next right same =
    ap (λ (want : List ℕ). if nat_lt 0 (slice_index want right) then if_senior b right
    (next_at next (taking_node b right)) else None) same.want

same_line : (p : Part) (b : Basin) (m n : MonthRecord) (found : Found) (position : ℕ) → HaveSameOutcome m n →
    lines_at p b m found position ≡ lines_at p b n found position
same_line part.Shorts b m n found right same =
    ap₂ (λ (delivered want : List ℕ). if nat_lt (slice_index delivered right) (slice_index want right)
    then line.Short right (slice_index delivered right) (slice_index want right) ∷ [] else []) same.delivered same.want
same_line part.Nexts b m n found node same = refl
same_line part.Links b m n found link same = refl
same_line part.Curtailed b m n found right same =
    ap (line_with line.Curtailed right) (same_caller b m n found.next right same)

same_parts : (ps : List Part) (b : Basin) (m n : MonthRecord) (found : Found) → HaveSameOutcome m n →
    flat_map (λ p. lines_in p b m found) ps ≡ flat_map (λ p. lines_in p b n found) ps
same_parts [] b m n found same = refl
same_parts (p ∷ ps) b m n found same =
    ap₂ (λ xs ys. xs ++ ys)
    (flat_same (lines_at p b m found) (lines_at p b n found) (in_order (space_of p) b)
    (λ position h. same_line p b m n found position same)) (same_parts ps b m n found same)

same_lines : (b : Basin) (m n : MonthRecord) (f g : Found) → HaveSameOutcome m n → f ≡ g →
    month_bytes b m f ≡ month_bytes b n g
same_lines b m n f g same e =
    ap₂ (λ month lines. flat_map (whole_line b) (line.Month month ∷ (lines ++ line.End ∷ []))) same.month
    (same_parts (part.Shorts ∷ part.Nexts ∷ part.Links ∷ part.Curtailed ∷ []) b m n f same)
    ∙ ap (month_bytes b n) e

same_months : (b : Basin) (xs ys : List MonthFound) → length xs ≡ length ys →
    ((i : ℕ) (x y : MonthFound) → slice_get xs i ≡ Some x → slice_get ys i ≡ Some y →
    month_bytes b x.month x.found ≡ month_bytes b y.month y.found) →
    flat_map (λ e. month_bytes b e.month e.found) xs ≡ flat_map (λ e. month_bytes b e.month e.found) ys
same_months b [] [] e h = refl
same_months b [] (y ∷ ys) e h = absurd (omega arith)
same_months b (x ∷ xs) [] e h = absurd (omega arith)
same_months b (x ∷ xs) (y ∷ ys) e h =
    ap₂ (λ lines more. lines ++ more) (h 0 x y refl refl) (same_months b xs ys (omega arith) (λ i. h (suc i)))

-- the record of a month
record_at : (months : List MonthFound) (i : ℕ) (e : MonthFound) → slice_get months i ≡ Some e →
    slice_get (records_of months) i ≡ Some e.month
record_at months i e at =
    slice_get-map (λ (k : MonthFound). k.month) months i ∙ ap (option_map (λ (k : MonthFound). k.month)) at

pub list_is_determined : ListIsDetermined
list_is_determined b series months others valid partial partial' len are are' =
    ap (λ lines. (head_bytes b ++ lines) ++ tail_bytes b) (same_months b months others len each)
  where
    count : length (records_of months) ≡ length (records_of others)
    count = omega (
      arith,
      len,
      length-map months (λ (k : MonthFound). k.month),
      length-map others (λ (k : MonthFound). k.month),
    )

    each : (i : ℕ) (x y : MonthFound) → slice_get months i ≡ Some x → slice_get others i ≡ Some y →
        month_bytes b x.month x.found ≡ month_bytes b y.month y.found
    each i x y at at' =
        let here = record_at months i x at in
        let there = record_at others i y at' in
        let same = one_outcome b series (records_of months) (records_of others) valid partial partial' count i x.month
        y.month here there in
        same_lines b x.month y.month x.found y.found same
        (found_is_determined b series (records_of months) (records_of others) i x.month y.month x.found y.found valid
        partial partial' here there (are.each i x at) (are'.each i y at'))

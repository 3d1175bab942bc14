-- A text has one `call` line of a right in a month.
use Rattle.std.proofs.Common.{◌≡◌, ℕ, zero, suc, ◌+◌, true, false, refl, sym, ap, ◌∙◌, arith, inl, inr}
use Rattle.std.proofs.Common.{List, [], ◌∷◌, ◌++◌, length, take, append_assoc, length-append}
use Rattle.std.specs.Prelude.{Some, slice_get, slice_index, ◌⊎◌}
use Rattle.std.specs.List.{list_all, flat_map}
use Rattle.std.proofs.lemmas.Bool.{and_parts}
use Rattle.std.proofs.lemmas.Bool.Decides.{nat_tests}
use Rattle.std.proofs.lemmas.List.{length-take-le}
use Rattle.std.proofs.lemmas.Option.{slice_get_within}
use Rattle.water_model.specs.History.{cut_of}
use Rattle.result_lines.specs.Quantities.{amounts_of}
use Rattle.result_lines.specs.Text.{items_of, items_of_month, items_of_tail}
use Rattle.water_model.specs.Valid.{IsValidBasin}
use Rattle.result_lines.specs.declared.item.Item.{Item}
use Rattle.result_lines.specs.declared.item.Item.TheVariants as line
use Rattle.water_model.specs.declared.types.Basin.{Basin}
use Rattle.water_model.specs.declared.types.MonthRecord.{MonthRecord}
use Rattle.cert_check.specs.Audit.{ended_months, is_end, IsCallLine}
use Rattle.cert_check.specs.Checking.{callers_due}
use Rattle.cert_check.proofs.Audits.{ended-append}
use Rattle.cert_check.proofs.Fitting.{clash}
use Rattle.cert_check.proofs.Prefixes.{last_amid, stands_amid}
use Rattle.cert_check.proofs.Passages.{stands_in}
use Rattle.cert_check.proofs.RunGood.{items_are}
use Rattle.cert_check.proofs.Sheets.{Sheet, sheet_lines}
use Rattle.cert_check.proofs.UnderWay.{is_amid, no_call}

-- no month ends within one
amid_no_end : (i : Item) → is_amid i ≡ true → is_end i ≡ false
amid_no_end i h = grind arith

none_ended : (xs : List Item) → list_all is_amid xs ≡ true → ended_months xs ≡ 0
none_ended [] h = refl
none_ended (x ∷ xs) h =
    let two = and_parts (is_amid x) (list_all is_amid xs) h in
    rw (amid_no_end x two.0) (omega (arith, none_ended xs two.1))

-- The lines of one month.

sheet_of : MonthRecord → Sheet
sheet_of m = record {
  amount = λ q x. slice_index (amounts_of q m) x;
  delivered = λ r. slice_index m.delivered r;
  want = λ r. slice_index m.want r;
  cut = λ r. cut_of m r;
}

abbrev inner : Basin → MonthRecord → List Item
inner b m = sheet_lines b (sheet_of m) (callers_due b m)

month_lines_are : (b : Basin) (m : MonthRecord) → items_of_month b m ≡ line.Month m.month ∷ inner b m
unfolding sheet_of
month_lines_are b m = items_are b m

month_ends : {b : Basin} → IsValidBasin b → (m : MonthRecord) → ended_months (items_of_month b m) ≡ 1
month_ends {b} valid m =
    let last = last_amid valid (sheet_of m) (callers_due b m) in
    ap ended_months (month_lines_are b m) ∙ (ap (λ xs. ended_months (line.Month m.month ∷ xs)) last.1
    ∙ omega (arith, ended-append last.0 (line.End ∷ []), none_ended last.0 last.2))

-- a `call` line of a month, and what stands before it
record InMonth (b : Basin) (r : ℕ) (xs : List Item) : Type 0 where
  before : List Item
  are : (first : Item) × (xs ≡ first ∷ before)
  once : list_all (no_call r) before ≡ true
  none : ended_months xs ≡ 0

in_month : {b : Basin} → IsValidBasin b → (m : MonthRecord) (r : ℕ) (xs ys : List Item) →
    items_of_month b m ≡ xs ++ line.Call r ∷ ys → InMonth b r xs
in_month {b} valid m r xs ys e = by_first xs (sym (month_lines_are b m) ∙ e)
  where
    by_first : (xs : List Item) → line.Month m.month ∷ inner b m ≡ xs ++ line.Call r ∷ ys → InMonth b r xs
    by_first [] h = cc
    by_first (x ∷ xs) h =
        let first : line.Month m.month ≡ x = cc in
        let tail : inner b m ≡ xs ++ line.Call r ∷ ys = cc in
        let amid = stands_amid valid (sheet_of m) (callers_due b m) xs (line.Call r) ys tail in
        record {
          before = xs;
          are = (x, refl);
          once = amid.once r refl;
          none = rw (← first) (omega (arith, none_ended xs amid.amid));
        }

own_call : (r : ℕ) → no_call r (line.Call r) ≡ false
own_call r = grind (arith, nat_tests)

-- the first `call` of a right in a list stands at one index
one_first : (r : ℕ) (xs ys us vs : List Item) → xs ++ line.Call r ∷ ys ≡ us ++ line.Call r ∷ vs →
    list_all (no_call r) xs ≡ true → list_all (no_call r) us ≡ true → length xs ≡ length us
one_first r [] ys [] vs e h k = refl
one_first r [] ys (u ∷ us) vs e h k =
    let is : line.Call r ≡ u = cc in
    clash (sym (own_call r) ∙ (ap (no_call r) is ∙ (and_parts (no_call r u) (list_all (no_call r) us) k).0))
one_first r (x ∷ xs) ys [] vs e h k =
    let is : line.Call r ≡ x = cc in
    clash (sym (own_call r) ∙ (ap (no_call r) is ∙ (and_parts (no_call r x) (list_all (no_call r) xs) h).0))
one_first r (x ∷ xs) ys (u ∷ us) vs e h k =
    let tail : xs ++ line.Call r ∷ ys ≡ us ++ line.Call r ∷ vs = cc in
    ap suc (one_first r xs ys us vs tail (and_parts (no_call r x) (list_all (no_call r) xs) h).1
    (and_parts (no_call r u) (list_all (no_call r) us) k).1)

same_index : {r : ℕ} (M : List Item) {xs : List Item} (ys : List Item) {us : List Item} (vs : List Item) {b : Basin} →
    M ≡ xs ++ line.Call r ∷ ys → M ≡ us ++ line.Call r ∷ vs → InMonth b r xs → InMonth b r us → length xs ≡ length us
same_index {r} M ys vs e f x u =
    let both : x.are.0 ∷ (x.before ++ line.Call r ∷ ys) ≡ u.are.0 ∷ (u.before ++ line.Call r ∷ vs) =
    ap (λ ws. ws ++ line.Call r ∷ ys) (sym x.are.1) ∙ (sym e ∙ (f ∙ ap (λ ws. ws ++ line.Call r ∷ vs) u.are.1)) in
    let tail : x.before ++ line.Call r ∷ ys ≡ u.before ++ line.Call r ∷ vs = cc in
    omega (arith, ap length x.are.1, ap length u.are.1, one_first r x.before ys u.before vs tail x.once u.once)

-- The lines of all months.

abbrev rest_lines : Basin → List MonthRecord → List Item
rest_lines b records = flat_map (items_of_month b) records ++ items_of_tail b

one_index : {b : Basin} → IsValidBasin b → (records : List MonthRecord) (r : ℕ) (xs ys us vs : List Item) →
    rest_lines b records ≡ xs ++ line.Call r ∷ ys → rest_lines b records ≡ us ++ line.Call r ∷ vs →
    ended_months xs ≡ ended_months us → length xs ≡ length us
one_index valid [] r [] ys us vs e f same = cc
one_index valid [] r (x ∷ []) ys us vs e f same = cc
one_index valid [] r (x ∷ y ∷ xs) ys us vs e f same = cc
one_index {b} valid (m ∷ records) r xs ys us vs e f same = by_sides (stands_in M xs (sym split ∙ e))
    (stands_in M us (sym split ∙ f)) (λ ws zs k l h. one_index valid records r ws ys zs vs k l h)
  where
    M : List Item
    M = items_of_month b m

    others : List Item
    others = rest_lines b records

    split : rest_lines b (m ∷ records) ≡ M ++ others
    split = append_assoc M (flat_map (items_of_month b) records) (items_of_tail b)

    Side : List Item → List Item → Type 0
    Side ws zs = ((more : List Item) × (M ≡ ws ++ line.Call r ∷ more)) ⊎
        ((more : List Item) × (ws ≡ M ++ more) × (others ≡ more ++ line.Call r ∷ zs))

    later : (ws more : List Item) → ws ≡ M ++ more → ended_months ws ≡ 1 + ended_months more
    later ws more is = ap ended_months is ∙ omega (arith, ended-append M more, month_ends valid m)

    Further : Type 0
    Further = (ws zs : List Item) → others ≡ ws ++ line.Call r ∷ ys → others ≡ zs ++ line.Call r ∷ vs →
        ended_months ws ≡ ended_months zs → length ws ≡ length zs

    by_sides : Side xs ys → Side us vs → Further → length xs ≡ length us
    by_sides (inl (more, here)) (inl (rest, there)) further =
        same_index M more rest here there (in_month valid m r xs more here) (in_month valid m r us rest there)
    by_sides (inl (more, here)) (inr (rest, is, there)) further =
        absurd (omega (arith, same, (in_month valid m r xs more here).none, later us rest is))
    by_sides (inr (more, is, here)) (inl (rest, there)) further =
        absurd (omega (arith, same, (in_month valid m r us rest there).none, later xs more is))
    by_sides (inr (more, is, here)) (inr (rest, also, there)) further =
        let after = further more rest here there (omega (arith, same, later xs more is, later us rest also)) in
        omega (arith, ap length is, ap length also, length-append M more, length-append M rest, after)

one_index_in_text : {b : Basin} → IsValidBasin b → (records : List MonthRecord) (r : ℕ) (xs ys us vs : List Item) →
    items_of b records ≡ xs ++ line.Call r ∷ ys → items_of b records ≡ us ++ line.Call r ∷ vs →
    ended_months xs ≡ ended_months us → length xs ≡ length us
one_index_in_text valid records r [] ys us vs e f same = cc
one_index_in_text valid records r (x ∷ []) ys us vs e f same = cc
one_index_in_text valid records r (x ∷ y ∷ xs) ys [] vs e f same = cc
one_index_in_text valid records r (x ∷ y ∷ xs) ys (u ∷ []) vs e f same = cc
one_index_in_text {b} valid records r (x ∷ y ∷ xs) ys (u ∷ v ∷ us) vs e f same =
    let x_is : line.Title ≡ x = cc in
    let y_is : line.Run b.first b.months ≡ y = cc in
    let u_is : line.Title ≡ u = cc in
    let v_is : line.Run b.first b.months ≡ v = cc in
    let first : rest_lines b records ≡ xs ++ line.Call r ∷ ys = cc in
    let second : rest_lines b records ≡ us ++ line.Call r ∷ vs = cc in
    let equal = rw (← x_is, ← y_is, ← u_is, ← v_is) at same in
    omega (arith, one_index valid records r xs ys us vs first second (omega (arith, equal)))

split_at : (items : List Item) (position : ℕ) {item : Item} → slice_get items position ≡ Some item →
    (rest : List Item) × (items ≡ take position items ++ item ∷ rest)
split_at [] position h = cc
split_at (x ∷ items) zero {item} h = let is : x ≡ item = cc in (items, ap (λ i. i ∷ items) is)
split_at (x ∷ items) (suc position) {item} h =
    let further = split_at items position h in
    (further.0, ap (λ is. x ∷ is) further.1)

-- two numbers of one line are the same
pub one_call_line : {b : Basin} → IsValidBasin b → (records : List MonthRecord) {month right one other : ℕ} →
    IsCallLine (items_of b records) month right one → IsCallLine (items_of b records) month right other → one ≡ other
one_call_line {b} valid records {month} {right} c d =
    let items = items_of b records in
    let first = split_at items c.position c.at in
    let second = split_at items d.position d.at in
    let same = one_index_in_text valid records right (take c.position items) first.0 (take d.position items) second.0
    first.1 second.1 (c.after ∙ sym d.after) in
    omega (
      arith,
      same,
      c.counted,
      d.counted,
      length-take-le c.position items (omega (arith, slice_get_within items c.position (line.Call right) c.at)),
      length-take-le d.position items (omega (arith, slice_get_within items d.position (line.Call right) d.at)),
    )

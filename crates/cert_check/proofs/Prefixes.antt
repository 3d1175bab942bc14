-- What was read after the prefix of a text whose lines are good.
use Rattle.std.proofs.Common.{◌≡◌, ℕ, zero, suc, ◌+◌, ◌<◌, Bool, true, false, refl, sym, ap, subst, ◌∙◌, arith, inl}
use Rattle.std.proofs.Common.{inr, List, [], ◌∷◌, ◌++◌, length, map, fold, append_assoc, length-append}
use Rattle.std.specs.Prelude.{Option, Some, None, ◌⊎◌, ◌==◌, not}
use Rattle.std.specs.List.{list_all, flat_map}
use Rattle.std.proofs.lemmas.Bool.Decides.{nat_tests}
use Rattle.std.proofs.lemmas.List.{length-map}
use Rattle.water_model.specs.History.{IsPartialHistory}
use Rattle.water_model.specs.Hydrology.{run_month}
use Rattle.water_model.specs.Indices.{numbers_from, members_from, seniors_first}
use Rattle.result_lines.specs.Quantities.{entries_with_line}
use Rattle.result_lines.specs.Text.{call_items, items_of_month}
use Rattle.water_model.specs.Valid.{IsValidBasin, IsSeriesOf}
use Rattle.water_text.specs.declared.month.Month.{Month}
use Rattle.result_lines.specs.declared.item.Item.{Item}
use Rattle.result_lines.specs.declared.item.Item.TheVariants as line
use Rattle.result_lines.specs.declared.quantity.Quantity.{Quantity}
use Rattle.result_lines.specs.declared.quantity.Quantity.TheVariants as quantity
use Rattle.water_model.specs.declared.types.Basin.{Basin}
use Rattle.water_model.specs.declared.types.Series.{Series}
use Rattle.water_model.specs.declared.types.MonthRecord.{MonthRecord}
use Rattle.water_model.proofs.Histories.{nothing_is_partial}
use Rattle.water_model.proofs.Order.{Has}
use Rattle.result_reader.specs.Due.{is_member}
use Rattle.result_reader.specs.Form.{Fills, IsPrefix, due}
use Rattle.result_reader.specs.ReadSoFar.{ReadSoFar, read_item, nothing_read}
use Rattle.result_reader.specs.declared.shape.Shape.TheVariants as shape
use Rattle.result_reader.proofs.Telling.{fold-both}
use Rattle.cert_check.specs.Checking.{is_closing}
use Rattle.cert_check.specs.Coming.{MayCome, is_within, is_before_called}
use Rattle.cert_check.proofs.Callers.{called_line}
use Rattle.cert_check.proofs.Fitting.{clash}
use Rattle.cert_check.proofs.Inverts.{AreApart, one_line}
use Rattle.cert_check.proofs.Passages.{stands_in, all_both, all_first, all_at, all_each, all_calls, all_weaker}
use Rattle.cert_check.proofs.Rows.{AreGood, good_first, good_rest}
use Rattle.cert_check.proofs.RunSound.{from_month, OneMonth, one_month, last_line, AfterMonths, next_month}
use Rattle.cert_check.proofs.Sheets.{Sheet, sheet_lines, record_of, seniors_apart}
use Rattle.cert_check.proofs.UnderWay.{is_amid, before_is_amid, in_month, month_begins, uncalled, no_call, free}
use Rattle.water_model.proofs.SetEntries.{no_sets}

-- The lines of a month: those before its `call` lines, these, its `called` and `close` lines, and its last.

abbrev amounts_in : Basin → Sheet → Quantity → List Item
amounts_in b s q = map (λ x. line.Amount q x (s.amount q x)) (entries_with_line b q)

abbrev deliveries : Basin → Sheet → List Item
deliveries b s = map (λ x. line.Deliver x (s.delivered x) (s.want x)) (seniors_first b)

abbrev amounts : Basin → Sheet → List Item
amounts b s =
    amounts_in b s quantity.Opening ++ (amounts_in b s quantity.Evaporated ++ (amounts_in b s quantity.Returned
    ++ (amounts_in b s quantity.Used ++
    (amounts_in b s quantity.Flow ++ (deliveries b s ++ amounts_in b s quantity.Outflow)))))

abbrev calls : Basin → Sheet → List Item
calls b s = flat_map (λ r. call_items r (s.cut r)) (seniors_first b)

abbrev after_calls : Basin → Sheet → List (ℕ × ℕ) → List Item
after_calls b s dues = map called_line dues ++ amounts_in b s quantity.Closing

regroup : (b : Basin) (s : Sheet) (dues : List (ℕ × ℕ)) →
    sheet_lines b s dues ≡ (amounts b s ++ calls b s) ++ (after_calls b s dues ++ line.End ∷ [])
regroup b s dues =
    group (amounts_in b s quantity.Opening) (amounts_in b s quantity.Evaporated) (amounts_in b s quantity.Returned)
    (amounts_in b s quantity.Used) (amounts_in b s quantity.Flow) (deliveries b s) (amounts_in b s quantity.Outflow)
    (calls b s) (map called_line dues) (amounts_in b s quantity.Closing) (line.End ∷ [])
  where
    group : (a c d e f g h i j k l : List Item) →
        a ++ (c ++ (d ++ (e ++ (f ++ (g ++ (h ++ (i ++ (j ++ (k ++ l))))))))) ≡
        ((a ++ (c ++ (d ++ (e ++ (f ++ (g ++ h)))))) ++ i) ++ ((j ++ k) ++ l)
    group a c d e f g h i j k l = simp append_assoc

all_amounts : (p : Item → Bool) → ((q : Quantity) (v n : ℕ) → is_closing q ≡ false → p (line.Amount q v n) ≡ true) →
    ((v n w : ℕ) → p (line.Deliver v n w) ≡ true) → (b : Basin) (s : Sheet) → list_all p (amounts b s) ≡ true
all_amounts p amount deliver b s = all_both p _ _ (each quantity.Opening refl)
    (all_both p _ _ (each quantity.Evaporated refl) (all_both p _ _ (each quantity.Returned refl)
    (all_both p _ _ (each quantity.Used refl) (all_both p _ _ (each quantity.Flow refl)
    (all_both p _ _ (all_each p (λ x. line.Deliver x (s.delivered x) (s.want x)) (λ x. deliver x _ _) (seniors_first b))
    (each quantity.Outflow refl))))))
  where
    each : (q : Quantity) → is_closing q ≡ false → list_all p (amounts_in b s q) ≡ true
    each q h = all_each p (λ x. line.Amount q x (s.amount q x)) (λ x. amount q x _ h) (entries_with_line b q)

all_prefix : (b : Basin) (s : Sheet) → list_all is_before_called (amounts b s ++ calls b s) ≡ true
all_prefix b s = all_both is_before_called (amounts b s) (calls b s)
    (all_amounts is_before_called (λ q v n h. ap not h) (λ v n w. refl) b s)
    (all_calls is_before_called (λ r. refl) (λ n. refl) s.cut (seniors_first b))

all_after : (p : Item → Bool) → ((r c : ℕ) → p (line.Called r c) ≡ true) →
    ((v n : ℕ) → p (line.Amount quantity.Closing v n) ≡ true) → (b : Basin) (s : Sheet) (dues : List (ℕ × ℕ)) →
    list_all p (after_calls b s dues) ≡ true
all_after p called closing b s dues =
    all_both p (map called_line dues) _ (all_each p called_line (λ x. called x.0 x.1) dues)
    (all_each p (λ x. line.Amount quantity.Closing x (s.amount quantity.Closing x)) (λ x. closing x _)
    (entries_with_line b quantity.Closing))

-- no call of a right stands before its own
calls_once : (cut : ℕ → Option (List Bool)) (rs : List ℕ) → AreApart rs → (xs : List Item) (r : ℕ) (ys : List Item) →
    flat_map (λ k. call_items k (cut k)) rs ≡ xs ++ line.Call r ∷ ys → (list_all (no_call r) xs ≡ true) × Has rs r
calls_once cut [] apart [] r ys e = cc
calls_once cut [] apart (x ∷ xs) r ys e = cc
calls_once cut (k ∷ rs) apart xs r ys e = by_set (cut k) refl (λ zs ws h. calls_once cut rs apart.1 zs r ws h)
  where
    Further : Type 0
    Further = (zs ws : List Item) → flat_map (λ k. call_items k (cut k)) rs ≡ zs ++ line.Call r ∷ ws →
        (list_all (no_call r) zs ≡ true) × Has rs r

    differ : Has rs r → no_call r (line.Call k) ≡ true
    differ h = other k r (λ is. apart.0 (subst (Has rs) (sym is) h))
      where
        other : (x y : ℕ) → (x ≡ y → ⊥) → not (x == y) ≡ true
        other x y none = grind (arith, nat_tests)

    no_member : (xs ys : List Item) (set : List Bool) →
        map (λ n. line.Member n) (members_from 0 set) ≡ xs ++ line.Call r ∷ ys → ⊥
    no_member xs ys set h =
        let never : false ≡ true =
        all_at is_member xs ys
        (ap (list_all is_member) (sym h) ∙ all_each is_member (λ n. line.Member n) (λ n. refl) (members_from 0 set))
        in clash never

    in_own : (set : List Bool) (xs zs : List Item) →
        line.Call k ∷ map (λ n. line.Member n) (members_from 0 set) ≡ xs ++ line.Call r ∷ zs →
        (list_all (no_call r) xs ≡ true) × Has (k ∷ rs) r
    in_own set [] zs h = let same : line.Call k ≡ line.Call r = cc in let is : r ≡ k = cc in (refl, inl is)
    in_own set (x ∷ xs) zs h = let tail : map (λ n. line.Member n) (members_from 0 set) ≡ xs ++ line.Call r ∷ zs = cc in
        absurd (no_member xs zs set tail)

    by_set : (o : Option (List Bool)) → cut k ≡ o → Further → (list_all (no_call r) xs ≡ true) × Has (k ∷ rs) r
    by_set None is further =
        let f = further xs ys (ap (λ c. call_items k c ++ flat_map (λ k. call_items k (cut k)) rs) (sym is) ∙ e) in
        (f.0, inr f.1)
    by_set (Some set) is further = elim (stands_in (call_items k (Some set)) xs
        (ap (λ c. call_items k c ++ flat_map (λ k. call_items k (cut k)) rs) (sym is) ∙ e)) [
          | inl own ↦ in_own set xs own.0 own.1
          | inr after ↦ (let f = further after.0 ys after.2 in (
            ap (list_all (no_call r)) after.1 ∙ all_both (no_call r) (call_items k (Some set)) after.0
                (rw (differ f.1) (all_each (no_call r) (λ n. line.Member n) (λ n. refl) (members_from 0 set))) f.0,
            inr f.1,
          ))
        ]

-- nor before it in the month
called_once : {b : Basin} → IsValidBasin b → (s : Sheet) (xs : List Item) (r : ℕ) (ys : List Item) →
    amounts b s ++ calls b s ≡ xs ++ line.Call r ∷ ys → list_all (no_call r) xs ≡ true
called_once {b} valid s xs r ys e = elim (stands_in (amounts b s) xs e) [
  | inl prefix ↦ (let never : false ≡ true = all_at no_calls xs prefix.0 (ap (list_all no_calls) (sym prefix.1)
      ∙ all_amounts no_calls (λ q v n h. refl) (λ v n w. refl) b s) in absurd (clash never))
  | inr after ↦ (let once = calls_once s.cut (seniors_first b) (seniors_apart valid) after.0 r ys after.2 in
      ap (list_all (no_call r)) after.1 ∙ all_both (no_call r) (amounts b s) after.0
      (all_amounts (no_call r) (λ q v n h. refl) (λ v n w. refl) b s) once.0)
]
  where
    no_calls : Item → Bool
    no_calls (line.Call s) = false
    no_calls other = true

-- A line within a month.

amid_is_within : (i : Item) → is_amid i ≡ true → is_within i ≡ true
amid_is_within i h = grind arith

-- a line after the `call` lines of a month, but not its last
abbrev is_after : Item → Bool
is_after (line.Called r c) = true
is_after (line.Amount q v n) = is_closing q
is_after other = false

after_amid : (i : Item) → is_after i ≡ true → (is_amid i ≡ true) × (is_before_called i ≡ false)
after_amid i h = grind arith

-- where a line of a month stands
pub record IsAmid (b : Basin) (s : Sheet) (xs : List Item) (item : Item) : Type 0 where
  pub amid : list_all is_amid xs ≡ true
  pub within : is_within item ≡ true
  pub prefix : is_before_called item ≡ true → list_all is_before_called xs ≡ true
  pub once : (r : ℕ) → item ≡ line.Call r → list_all (no_call r) xs ≡ true

pub stands_amid : {b : Basin} → IsValidBasin b →
    (s : Sheet) (dues : List (ℕ × ℕ)) (xs : List Item) (item : Item) (ys : List Item) →
    sheet_lines b s dues ≡ xs ++ item ∷ ys → IsAmid b s xs item
stands_amid {b} valid s dues xs item ys e = elim (stands_in (amounts b s ++ calls b s) xs
    (sym (regroup b s dues) ∙ e)) [
      | inl prefix ↦ (let all = ap (list_all is_before_called) (sym prefix.1) ∙ all_prefix b s in record {
        amid =
            all_weaker before_is_amid xs (all_first is_before_called xs (item ∷ prefix.0) all);
        within = amid_is_within item (before_is_amid item (all_at is_before_called xs prefix.0 all));
        prefix = λ h. all_first is_before_called xs (item ∷ prefix.0) all;
        once = λ r is. called_once valid s xs r prefix.0 (prefix.1 ∙ ap (λ i. xs ++ i ∷ prefix.0) is);
      })
      | inr after ↦ in_second after.0 after.1 (stands_in (after_calls b s dues) after.0 after.2)
    ]
  where
    all_are : list_all is_after (after_calls b s dues) ≡ true
    all_are = all_after is_after (λ r c. refl) (λ v n. refl) b s dues

    prefix_amid : list_all is_amid (amounts b s ++ calls b s) ≡ true
    prefix_amid = all_weaker before_is_amid (amounts b s ++ calls b s) (all_prefix b s)

    no_call_is : (r : ℕ) → is_before_called item ≡ false → item ≡ line.Call r → list_all (no_call r) xs ≡ true
    no_call_is r h is = clash (sym h ∙ ap is_before_called is)

    amid_xs : (zs : List Item) → xs ≡ (amounts b s ++ calls b s) ++ zs → list_all is_amid zs ≡ true →
        list_all is_amid xs ≡ true
    amid_xs zs is h = ap (list_all is_amid) is ∙ all_both is_amid (amounts b s ++ calls b s) zs prefix_amid h

    last_is : (zs : List Item) → line.End ∷ [] ≡ zs ++ item ∷ ys → (zs ≡ []) × (item ≡ line.End)
    last_is [] h = let is : item ≡ line.End = cc in (refl, is)
    last_is (z ∷ []) h = cc
    last_is (z ∷ w ∷ zs) h = cc

    in_second : (zs : List Item) → xs ≡ (amounts b s ++ calls b s) ++ zs →
        ((ws : List Item) × (after_calls b s dues ≡ zs ++ item ∷ ws)) ⊎
        ((ws : List Item) × (zs ≡ after_calls b s dues ++ ws) × (line.End ∷ [] ≡ ws ++ item ∷ ys)) → IsAmid b s xs item
    in_second zs is (inl (ws, here)) =
        let all = ap (list_all is_after) (sym here) ∙ all_are in
        let own = after_amid item (all_at is_after zs ws all) in
        record {
          amid = amid_xs zs is
              (all_weaker (λ i h. (after_amid i h).0) zs (all_first is_after zs (item ∷ ws) all));
          within = amid_is_within item own.0;
          prefix = λ h. clash (sym own.1 ∙ h);
          once = λ r eq. no_call_is r own.1 eq;
        }
    in_second zs is (inr (ws, all, last)) =
        let end = last_is ws last in
        let not_before : is_before_called item ≡ false = ap is_before_called end.1 in
        record {
          amid = amid_xs zs is (ap (list_all is_amid) (all ∙ ap (λ vs. after_calls b s dues ++ vs) end.0)
              ∙ all_both is_amid (after_calls b s dues) []
              (all_weaker (λ i h. (after_amid i h).0) (after_calls b s dues) all_are) refl);
          within = ap is_within end.1;
          prefix = λ h. clash (sym not_before ∙ h);
          once = λ r eq. no_call_is r not_before eq;
        }

-- the last line of a month, and no other, is its `end`
pub last_amid : {b : Basin} → IsValidBasin b → (s : Sheet) (dues : List (ℕ × ℕ)) →
    (prefix : List Item) × (sheet_lines b s dues ≡ prefix ++ line.End ∷ []) × (list_all is_amid prefix ≡ true)
last_amid {b} valid s dues =
    let prefix = (amounts b s ++ calls b s) ++ after_calls b s dues in
    let are : sheet_lines b s dues ≡ prefix ++ line.End ∷ [] =
    regroup b s dues ∙ sym (append_assoc (amounts b s ++ calls b s) (after_calls b s dues) (line.End ∷ [])) in
    (prefix, are, (stands_amid valid s dues prefix line.End [] are).amid)

-- what was read when a line of a month may come
within_month : {b : Basin} → IsValidBasin b → {series : Series} → IsSeriesOf b series →
    {before : List MonthRecord} {i : ℕ} {t : ReadSoFar} (s : Sheet) (dues : List (ℕ × ℕ)) (xs : List Item) {item : Item}
    (ys : List Item) → i ≡ length before → i < b.months → AfterMonths b series before t →
    sheet_lines b s dues ≡ xs ++ item ∷ ys → AreGood b series (read_item b series t (line.Month (run_month b i))) xs →
    MayCome b series (fold (read_item b series) (read_item b series t (line.Month (run_month b i))) xs) item
within_month {b} valid {series} fits {before} {i} {t} s dues xs {item} ys at left stands e g =
    let a = stands_amid valid s dues xs item ys e in
    let m = in_month valid fits before i at left xs (read_item b series t (line.Month (run_month b i))) a.amid
    g
    (month_begins b series t at stands.months) in
    record {
      partial = subst (IsPartialHistory b series) (sym m.months) stands.partial;
      outer = λ h. clash (sym h ∙ a.within);
      inner = λ h. record {
        index = m.index ∙ (at ∙ ap length (sym m.months));
        in_run = omega (arith, m.index, left);
        month = m.month ∙ ap (run_month b) (sym m.index);
        bounded = rw m.months m.bounded;
      };
      uncalled = λ h. uncalled b series xs (read_item b series t (line.Month (run_month b i))) (a.prefix h);
      free = λ r is. (free b series xs (a.once r is) (record {
        none = no_sets (length b.rights) r;
        other = λ c. none_calls r c;
      })).none;
    }
  where
    none_calls : (r : ℕ) → None ≡ Some r → ⊥
    none_calls r c = cc

-- what was read when a line between the months may come
between_months : {b : Basin} {series : Series} {before : List MonthRecord} {t : ReadSoFar} {item : Item} →
    is_within item ≡ false → is_before_called item ≡ false → AfterMonths b series before t → MayCome b series t item
between_months {b} {series} outer prefix stands = record {
  partial = subst (IsPartialHistory b series) (sym stands.months) stands.partial;
  outer = λ h. stands.calling;
  inner = λ h. clash (sym outer ∙ h);
  uncalled = λ h. clash (sym prefix ∙ h);
  free = λ r is. clash (sym prefix ∙ ap is_before_called is);
}

months_prefix : {b : Basin} → IsValidBasin b → {series : Series} → IsSeriesOf b series →
    (n : ℕ) {i : ℕ} {before : List MonthRecord} {t : ReadSoFar} (items : List Item) {item : Item} (rest : List Item) →
    i ≡ length before → i + n ≡ b.months → AfterMonths b series before t →
    Fills b (from_month b i n) (items ++ item ∷ rest) → AreGood b series t items →
    MayCome b series (fold (read_item b series) t items) item
unfolding numbers_from
months_prefix {b} valid {series} fits zero {i} {before} {t} items {item} rest at all stands h g =
    last items (last_line b h) refl
  where
    last : (xs : List Item) → xs ++ item ∷ rest ≡ line.Done b.months ∷ [] → xs ≡ items →
        MayCome b series (fold (read_item b series) t items) item
    last [] e is =
        let done : item ≡ line.Done b.months = cc in
        subst (λ (ys : List Item). MayCome b series (fold (read_item b series) t ys) item) is
        (between_months (ap is_within done) (ap is_before_called done) stands)
    last (x ∷ []) e is = cc
    last (x ∷ y ∷ xs) e is = cc
months_prefix {b} valid {series} fits (suc n) {i} {before} {t} items {item} rest at all stands h g =
    by_items items (one_month valid h).are g
    (λ later u zs at' all' stands' h' g'. months_prefix valid fits n zs rest at' all' stands' h' g')
  where
    o : OneMonth b i n (items ++ item ∷ rest)
    o = one_month valid h

    Further : Type 0
    Further = (later : List MonthRecord) (u : ReadSoFar) (zs : List Item) → suc i ≡ length later →
        suc i + n ≡ b.months → AfterMonths b series later u →
        Fills b (from_month b (suc i) n) (zs ++ item ∷ rest) → AreGood b series u zs →
        MayCome b series (fold (read_item b series) u zs) item

    by_index : (xs : List Item) → AreGood b series t (line.Month (run_month b i) ∷ xs) → Further →
        ((zs : List Item) × (sheet_lines b o.sheet o.dues ≡ xs ++ item ∷ zs)) ⊎
        ((zs : List Item) × (xs ≡ sheet_lines b o.sheet o.dues ++ zs) × (o.others ≡ zs ++ item ∷ rest)) →
        MayCome b series (fold (read_item b series) (read_item b series t (line.Month (run_month b i))) xs) item
    by_index xs good further (inl (zs, here)) =
        within_month valid fits o.sheet o.dues xs zs at (omega (arith, all)) stands here good.1
    by_index xs good further (inr (zs, is, others)) =
        let m : MonthRecord = record_of b series i o.sheet in
        let lines : List Item = line.Month (run_month b i) ∷ sheet_lines b o.sheet o.dues in
        let both : AreGood b series t (lines ++ zs) =
        subst (λ (ys : List Item). AreGood b series t (line.Month (run_month b i) ∷ ys)) is good in
        let next =
        next_month valid i o.sheet o.dues o.sized at (omega (arith, all)) stands
        (good_first b series t lines zs both) in
        let later = further (before ++ m ∷ []) (fold (read_item b series) t (items_of_month b m)) zs
        (omega (arith, at, length-append before (m ∷ []))) (omega (arith, all)) next.after
        (subst (λ (ys : List Item). Fills b (from_month b (suc i) n) ys) others o.rest)
        (good_rest b series t (items_of_month b m) zs
        (subst (λ (ys : List Item). AreGood b series t (ys ++ zs)) next.lines_are both)) in
        subst (λ (u : ReadSoFar). MayCome b series u item)
        (ap (λ ys. fold (read_item b series) (fold (read_item b series) t ys) zs) (sym next.lines_are)
        ∙ (sym (fold-both (read_item b series) t lines zs)
        ∙ ap (λ ys. fold (read_item b series) (read_item b series t (line.Month (run_month b i))) ys) (sym is))) later

    by_items : (xs : List Item) →
        xs ++ item ∷ rest ≡ line.Month (run_month b i) ∷ (sheet_lines b o.sheet o.dues ++ o.others) →
        AreGood b series t xs → Further → MayCome b series (fold (read_item b series) t xs) item
    by_items [] e good further =
        let begins : item ≡ line.Month (run_month b i) = cc in
        between_months (ap is_within begins) (ap is_before_called begins) stands
    by_items (x ∷ xs) e good further =
        let begins : x ≡ line.Month (run_month b i) = cc in
        let tail : sheet_lines b o.sheet o.dues ++ o.others ≡ xs ++ item ∷ rest = cc in
        let good_month : AreGood b series t (line.Month (run_month b i) ∷ xs) =
        subst (λ (y : Item). AreGood b series t (y ∷ xs)) begins good in
        subst (λ (y : Item). MayCome b series (fold (read_item b series) (read_item b series t y) xs) item) (sym begins)
        (by_index xs good_month further (stands_in (sheet_lines b o.sheet o.dues) xs tail))

-- what was read when a line may come after the good lines of a text
pub may_come : {b : Basin} → IsValidBasin b → {series : Series} → IsSeriesOf b series →
    (items : List Item) {item : Item} → AreGood b series (nothing_read b) items → IsPrefix b (items ++ item ∷ []) →
    MayCome b series (fold (read_item b series) (nothing_read b) items) item
unfolding due
may_come {b} valid {series} fits items {item} g prefix =
    let title = one_line b shape.Title (shape.Run ∷ from_month b 0 b.months) (items ++ item ∷ prefix.rest) refl whole in
    let run = one_line b shape.Run (from_month b 0 b.months) title.others refl title.rest in
    by_items items run.rest g (title.are ∙ ap (λ ms. line.Title ∷ (ms ++ title.others)) title.followed
    ∙ ap (λ ys. line.Title ∷ ys)
    (run.are ∙ ap (λ ms. line.Run run.fields.first run.fields.one ∷ (ms ++ run.others)) run.followed))
  where
    whole : Fills b (due b) (items ++ item ∷ prefix.rest)
    whole = subst (λ (xs : List Item). Fills b (due b) xs) (append_assoc items (item ∷ []) prefix.rest) prefix.whole

    nothing : AfterMonths b series [] (nothing_read b)
    nothing =
        record {
          calling = refl;
          months = refl;
          partial = nothing_is_partial b series;
          opens =
              length-map b.reservoirs (λ v. v.opening);
        }

    by_items : {first : Month} {months : ℕ} {others : List Item} (xs : List Item) →
        Fills b (from_month b 0 b.months) others → AreGood b series (nothing_read b) xs →
        xs ++ item ∷ prefix.rest ≡ line.Title ∷ line.Run first months ∷ others →
        MayCome b series (fold (read_item b series) (nothing_read b) xs) item
    by_items [] h good e =
        let is : item ≡ line.Title = cc in
        between_months (ap is_within is) (ap is_before_called is) nothing
    by_items {first} {months} (x ∷ []) h good e =
        let one : x ≡ line.Title = cc in
        let is : item ≡ line.Run first months = cc in
        subst (λ (y : Item). MayCome b series (read_item b series (nothing_read b) y) item) (sym one)
        (between_months (ap is_within is) (ap is_before_called is) nothing)
    by_items {first} {months} {others} (x ∷ y ∷ xs) h good e =
        let one : x ≡ line.Title = cc in
        let two : y ≡ line.Run first months = cc in
        let rest : others ≡ xs ++ item ∷ prefix.rest = cc in
        let begun : AreGood b series (nothing_read b) (line.Title ∷ line.Run first months ∷ xs) =
        rw (one, two) at good in
        rw (one, two) (months_prefix valid fits b.months xs prefix.rest refl (omega arith) nothing
        (subst (λ (ys : List Item). Fills b (from_month b 0 b.months) ys) rest h) begun.1.1)

-- The first amount that is missing, and the series where none is.
use Rattle.inflow_file.proofs.Words.{◌≡◌, ℕ, suc, ◌+◌, ◌*◌, ◌/◌, ◌%◌, ◌^◌, ◌<◌, ◌≤◌, Bool, true, false, refl, sym, ap}
use Rattle.inflow_file.proofs.Words.{◌∙◌, arith, List, [], ◌∷◌, ◌++◌, length, get_or, Option, Some, None, if◌then◌else◌}
use Rattle.inflow_file.proofs.Words.{is_some, option_map, unwrap_or, slice_get, All, Ok, Err, Result, inl, inr, subst}
use Rattle.inflow_file.proofs.Words.{result_ok, cases_lt, false≢true, get_or-map, get_or_append_left, get_or_push}
use Rattle.inflow_file.proofs.Words.{All-from_get_or, find_at, same_Some, slice_get-get_or, is_same_month, read_month}
use Rattle.inflow_file.proofs.Words.{Month, Basin, cell_within, IsPart, IsColumn, column_numbers, right_number}
use Rattle.inflow_file.proofs.Words.{column_of, go_on, need, records_of, Completes, TookTable, given_by, IsRefusalOf}
use Rattle.inflow_file.proofs.Words.{IsSeriesRefusal, SpellsAmounts, SpellsSeries, amount_for, body_of, series_fault}
use Rattle.inflow_file.proofs.Words.{due, entries_of, missing, missing_of, SeriesRecord, SeriesFault, SeriesRefused}
use Rattle.std.specs.Prelude.{◌==◌, ◌&&◌, not, IfOk, IfErr, OnOk}
use Rattle.std.specs.List.{find, cons_option}
use Rattle.std.proofs.lemmas.List.Sums.{position_or_len_is}
use Rattle.std.proofs.lemmas.Nat.{div-mul-add, mod-mul-add, div_below, mod_below}
use Rattle.water_text.specs.Amounts.{read_amount}
use Rattle.water_model.specs.Hydrology.{run_month, index_in, inflow_at, inflow_of_kind, table_at}
use Rattle.water_model.specs.Valid.{IsSeriesOf, gauged_nodes, is_gauged, is_gauged_kind, is_in_series, rights_in_series}
use Rattle.water_model.specs.declared.types.Inflow.{Inflow}
use Rattle.water_model.specs.declared.types.Inflow.TheVariants.{Monthly, Gauged}
use Rattle.water_model.specs.declared.types.Series.{Series}
use Rattle.water_model.specs.declared.types.Node.{Node}
use Rattle.water_text.proofs.AmountLaws.{amount_is_read}
use Rattle.inflow_file.specs.Entries.{read_record}
use Rattle.inflow_file.specs.Given.{given}
use Rattle.inflow_file.proofs.ColumnLaws.{count_of_columns, is_gauge, is_want, index_holds, index_of_gauge}
use Rattle.inflow_file.proofs.ColumnLaws.{index_of_want}
use Rattle.inflow_file.proofs.DueLaws.{IsSplit, column_there, due_at, given_at, length-due, length-given, split, width}
use Rattle.inflow_file.proofs.DueLaws.{some_column}
use Rattle.inflow_file.proofs.TableLaws.{refusal_of}
use Rattle.inflow_file.specs.declared.refused.SeriesFault.TheVariants as fault

-- the first element that passes a test, by its index
find_first : {X : Type 0} (p : X → Bool) (xs : List X) (k : ℕ) (d : X) → k < length xs →
    ((j : ℕ) → j < k → p (get_or xs j d) ≡ false) → p (get_or xs k d) ≡ true → find p xs ≡ Some (get_or xs k d)
find_first p xs k d l before here =
    find_at p xs ∙ ap (slice_get xs) (position_or_len_is p xs k d (omega arith) before (λ m. here))
    ∙ slice_get-get_or xs k d l

find_none : {X : Type 0} (p : X → Bool) (xs : List X) (d : X) → ((j : ℕ) → j < length xs → p (get_or xs j d) ≡ false) →
    find p xs ≡ None
find_none p [] d none = refl
find_none p (x ∷ xs) d none = rw (none 0 (omega arith)) (find_none p xs d (λ j m. none (suc j) (omega arith)))

-- whether an amount that is due is given
given_there : (b : Basin) (entries : List SeriesRecord) (k : ℕ) (d : Month × ℕ) → k < length (due b) →
    get_or (given b entries) k None ≡ amount_for entries (get_or (due b) k d).0 (get_or (due b) k d).1
unfolding given
given_there b entries k d l = get_or-map (λ e. amount_for entries e.0 e.1) (due b) k d None l

-- where every amount is given, none is missing
pub none_missing : (b : Basin) (entries : List SeriesRecord) (amounts : List (Option ℕ)) → amounts ≡ given b entries →
    ((k : ℕ) → k < length amounts → is_some (get_or amounts k None) ≡ true) → missing b entries ≡ None
none_missing b entries amounts is all =
    ap (option_map (λ (d : Month × ℕ). missing_of b d.0 d.1))
    (find_none (λ d. not (is_some (amount_for entries d.0 d.1))) (due b) (b.first, 0)
    (λ k l. there k l (all k (rw is (rw (length-given b entries) (rw (← length-due b) l))))))
  where
    there : (k : ℕ) → k < length (due b) → is_some (get_or amounts k None) ≡ true →
        not (is_some (amount_for entries (get_or (due b) k (b.first, 0)).0 (get_or (due b) k (b.first, 0)).1)) ≡ false
    there k l h = rw (← given_there b entries k (b.first, 0) l, ← is, h) refl

-- the first that isn't
pub first_missing : (b : Basin) (entries : List SeriesRecord) (amounts : List (Option ℕ)) (k : ℕ) →
    amounts ≡ given b entries → k < length amounts →
    ((j : ℕ) → j < k → is_some (get_or amounts j None) ≡ true) → is_some (get_or amounts k None) ≡ false →
    missing b entries ≡ Some (missing_of b (run_month b (k / width b)) (get_or (column_numbers b) (k % width b) 0))
first_missing b entries amounts k is l before here =
    ap (option_map (λ (d : Month × ℕ). missing_of b d.0 d.1))
    (find_first (λ d. not (is_some (amount_for entries d.0 d.1))) (due b) k (b.first, 0) within
    (λ j m. tested j (omega (arith, within)) true (before j m)) (tested k within false here)
    ∙ ap (λ d. Some d) (pair (split b k (rw (← length-due b) within))))
  where
    within : k < length (due b)
    within = rw (length-due b) (rw (← length-given b entries) (rw (← is) l))

    tested : (j : ℕ) → j < length (due b) → (t : Bool) → is_some (get_or amounts j None) ≡ t →
        not (is_some (amount_for entries (get_or (due b) j (b.first, 0)).0 (get_or (due b) j (b.first, 0)).1)) ≡ not t
    tested j m t h = rw (← given_there b entries j (b.first, 0) m, ← is, h) refl

    pair : IsSplit b k →
        get_or (due b) k (b.first, 0) ≡ (run_month b (k / width b), get_or (column_numbers b) (k % width b) 0)
    pair s = ap (λ j. get_or (due b) j (b.first, 0)) (sym s.cell)
        ∙ due_at b (k / width b) (k % width b) b.first s.row s.gauge

-- what is made of an amount that was read is small
abbrev IsSmall : Result SeriesRecord SeriesFault → Type 0
IsSmall r = IfOk r (λ e. e.amount ≤ 10 ^ 9)

need_small : {X : Type 0} (f : SeriesFault) (o : Option X) (next : X → Result SeriesRecord SeriesFault) →
    ((x : X) → o ≡ Some x → IsSmall (next x)) → IsSmall (need f o next)
need_small f None next small = tt
need_small f (Some x) next small = small x refl

go_on_small : {X : Type 0} (r : Result X SeriesFault) (next : X → Result SeriesRecord SeriesFault) →
    ((x : X) → IsSmall (next x)) → IsSmall (go_on r next)
go_on_small (Err f) next small = tt
go_on_small (Ok x) next small = small x

small_record : (b : Basin) (row : List (List ℕ)) → IsSmall (read_record b row)
unfolding read_record
small_record b [] = tt
small_record b (month ∷ []) = tt
small_record b (month ∷ kind ∷ []) = tt
small_record b (month ∷ kind ∷ name ∷ []) = tt
small_record b (month ∷ kind ∷ name ∷ amount ∷ other ∷ row) = tt
small_record b (month ∷ kind ∷ name ∷ amount ∷ []) =
    need_small fault.BadMonth (read_month month) _ (λ m at. go_on_small (column_of b kind name) _ (λ n.
    need_small fault.BadAmount (read_amount amount (10 ^ 9)) _ (λ a read.
    (amount_is_read amount (10 ^ 9) a read).within)))

-- and so is every amount that records give
small_given : (b : Basin) (rows : List (List (List ℕ))) (month : Month) (n a : ℕ) →
    amount_for (entries_of b rows) month n ≡ Some a → a ≤ 10 ^ 9
small_given b [] month n a e = cc
small_given b (row ∷ rows) month n a e =
    by_read (read_record b row) (small_record b row) e (small_given b rows month n a)
  where
    by_test : (t : Bool) (x : SeriesRecord) → x.amount ≤ 10 ^ 9 → option_map (λ (y : SeriesRecord). y.amount)
        (if t then Some x else find (λ y. is_same_month month y.month && y.column == n) (entries_of b rows)) ≡ Some a →
        (amount_for (entries_of b rows) month n ≡ Some a → a ≤ 10 ^ 9) → a ≤ 10 ^ 9
    by_test true x small h further = rw (← same_Some x.amount a h) small
    by_test false x small h further = further h

    by_read : (r : Result SeriesRecord SeriesFault) → IsSmall r →
        amount_for (cons_option (result_ok r) (entries_of b rows)) month n ≡ Some a →
        (amount_for (entries_of b rows) month n ≡ Some a → a ≤ 10 ^ 9) → a ≤ 10 ^ 9
    by_read (Ok x) small h further = by_test (is_same_month month x.month && x.column == n) x small h further
    by_read (Err f) small h further = further h

-- the inflow of a gauged node
pub inflow_gauged : (b : Basin) (series : Series) (node i : ℕ) → is_gauged b node ≡ true →
    inflow_at b series node i ≡ table_at series.gauged series.amount i node
inflow_gauged b series node i h = by_entry (slice_get b.nodes node) h
  where
    by_entry : (o : Option Node) → unwrap_or (option_map (λ n. is_gauged_kind n.inflow) o) false ≡ true → unwrap_or
        (option_map (λ n. inflow_of_kind b series node i n.inflow) o) 0 ≡ table_at series.gauged series.amount i node
    by_entry None e = absurd (false≢true e)
    by_entry (Some n) e = by_kind n.inflow e
      where
        by_kind : (k : Inflow) → is_gauged_kind k ≡ true →
            inflow_of_kind b series node i k ≡ table_at series.gauged series.amount i node
        by_kind (Monthly amounts) f = absurd (false≢true f)
        by_kind Gauged f = refl

-- all amounts are there
abbrev pub AreThere : List (Option ℕ) → Type 0
AreThere amounts = (k : ℕ) → k < length amounts → is_some (get_or amounts k None) ≡ true

some_is : (o : Option ℕ) → is_some o ≡ true → o ≡ Some (unwrap_or o 0)
some_is None h = absurd (false≢true h)
some_is (Some n) h = refl

-- one amount more
pub part_more : (f : ℕ → ℕ) (part : List ℕ) (n k x : ℕ) → length part ≡ n →
    ((m : ℕ) → m < n → get_or part m 0 ≡ f m) → x ≡ f n → k < n + 1 → get_or (part ++ x ∷ []) k 0 ≡ f k
part_more f part n k x count each is l =
    elim (cases_lt k n) [
      | inl below ↦ get_or_append_left part (x ∷ []) 0 k (omega arith) ∙ each k below
      | inr past ↦ let same : k ≡ n = omega arith in rw same (get_or_push part x 0 n count ∙ is)
    ]

-- where the amount of a cell of a part stands among all
pub cell_below : (k all from months count : ℕ) → from + count ≤ all → k < months * count →
    k / count * all + from + k % count < months * all
cell_below k all from months count h l =
    let some : 0 < count = some_column k months count l in let row = div_below k count months some l in
    let column = mod_below k count some in
    let cell = cell_within (k / count) months all (from + k % count) row (omega arith) in omega (arith, cell)

part_at : (amounts : List (Option ℕ)) (w from months count : ℕ) (part : List ℕ) (k : ℕ) →
    AreThere amounts → length amounts ≡ months * w → from + count ≤ w → IsPart amounts w from months count part →
    k < months * count → get_or amounts (k / count * w + from + k % count) None ≡ Some (get_or part k 0)
part_at amounts w from months count part k all cells fits h l =
    let below = cell_below k w from months count fits l in
    some_is (get_or amounts (k / count * w + from + k % count) None)
    (all (k / count * w + from + k % count) (omega (arith, below, cells)))
    ∙ ap (λ n. Some n) (sym (h.each k l))

small_part : (b : Basin) (rows : List (List (List ℕ))) (amounts : List (Option ℕ)) (from count : ℕ) (part : List ℕ) →
    amounts ≡ given_by b rows → AreThere amounts →
    from + count ≤ width b → IsPart amounts (width b) from b.months count part → All (λ n. n ≤ 10 ^ 9) part
small_part b rows amounts from count part is all fits h =
    All-from_get_or (λ n. n ≤ 10 ^ 9) part 0 (λ k l. small k (rw h.count_is at l))
  where
    small : (k : ℕ) → k < b.months * count → get_or part k 0 ≤ 10 ^ 9
    small k l =
        let cell : ℕ = k / count * width b + from + k % count in
        let below : cell < b.months * width b = cell_below k (width b) from b.months count fits l in
        let within : cell < length (due b) = omega (arith, length-due b) in
        small_given b rows (get_or (due b) cell (b.first, 0)).0 (get_or (due b) cell (b.first, 0)).1 (get_or part k 0)
        (sym (given_there b (entries_of b rows) cell (b.first, 0) within) ∙ (ap (λ xs. get_or xs cell None) (sym is)
        ∙ part_at amounts (width b) from b.months count part k all (ap length is ∙ length-given b (entries_of b rows))
        fits h l))

-- what a part says of a column is what the entries say
part_says : (b : Basin) (rows : List (List (List ℕ))) (amounts : List (Option ℕ)) (from count : ℕ) (part : List ℕ)
    (i g n : ℕ) → amounts ≡ given_by b rows → AreThere amounts → from + count ≤ width b → IsPart amounts (width b)
    from b.months count part → i < b.months → g < count → IsColumn b n → index_in (column_numbers b) n ≡ from + g →
    amount_for (entries_of b rows) (run_month b i) n ≡ Some (get_or part (i * count + g) 0)
part_says b rows amounts from count part i g n is all fits h l k column cell =
    let there = column_there b n column in
    let within : i * count + g < b.months * count = cell_within i b.months count g l k in
    let at : (i * count + g) / count * width b + from + (i * count + g) % count ≡ i * width b
    + index_in (column_numbers b) n = rw (div-mul-add i count g k, mod-mul-add i count g k, cell) (omega arith) in
    ap (amount_for (entries_of b rows) (run_month b i)) (sym there.1)
    ∙ (sym (given_at b (entries_of b rows) i (index_in (column_numbers b) n) l there.0)
    ∙ (ap (λ xs. get_or xs (i * width b + index_in (column_numbers b) n) None) (sym is)
    ∙ (ap (λ j. get_or amounts j None) (sym at)
    ∙ part_at amounts (width b) from b.months count part (i * count + g) all
    (ap length is ∙ length-given b (entries_of b rows)) fits h within)))

-- a table of all amounts is the series of a faultless one
pub record AreParts (b : Basin) (amounts : List (Option ℕ)) (series : Series) : Type 0 where
  pub there : AreThere amounts
  pub gauged : series.gauged ≡ gauged_nodes b
  pub wanted : series.wanted ≡ rights_in_series b
  pub amount : IsPart amounts (width b) 0 b.months (length (gauged_nodes b)) series.amount
  pub want : IsPart amounts (width b) (length (gauged_nodes b)) b.months (length (rights_in_series b)) series.want

pub complete_series : (b : Basin) (rows : List (List (List ℕ))) (amounts : List (Option ℕ)) (series : Series) →
    amounts ≡ given_by b rows → AreParts b amounts series →
    (missing b (entries_of b rows) ≡ None) × IsSeriesOf b series × SpellsAmounts b rows series
complete_series b rows amounts series is parts = (
  none_missing b (entries_of b rows) amounts is parts.there,
  record {
    gauged = parts.gauged;
    amounts = parts.amount.count_is ∙ ap (λ xs. b.months * length xs) (sym parts.gauged);
    small_amounts = small_part b rows amounts _ _ _ is parts.there gauges_fit parts.amount;
    wanted = parts.wanted;
    wants = parts.want.count_is ∙ ap (λ xs. b.months * length xs) (sym parts.wanted);
    small_wants = small_part b rows amounts _ _ _ is parts.there wants_fit parts.want;
  },
  record {
    each = λ node i l g m. part_says b rows amounts _ _ _
        i _ node is parts.there gauges_fit parts.amount m (index_holds (λ n. is_gauged b n) (length b.nodes) node l g).0
        (is_gauge b node l g) (omega (arith, index_of_gauge b node l g)) ∙ ap (λ n. Some n)
        (sym (inflow_gauged b series node i g ∙ ap (λ xs. table_at xs series.amount i node) parts.gauged));
    wants = λ right i l w m. part_says b rows amounts _ _ _ i _ (right_number b right) is parts.there
        wants_fit parts.want m (index_holds (λ r. is_in_series b r) (length b.rights) right l w).0 (is_want b right l w)
        (index_of_want b right l w) ∙ ap (λ n. Some n) (sym (ap (λ xs. table_at xs series.want i right) parts.wanted));
  },
)
  where
    gauges_fit : 0 + length (gauged_nodes b) ≤ width b
    gauges_fit = omega (arith, count_of_columns b)

    wants_fit : length (gauged_nodes b) + length (rights_in_series b) ≤ width b
    wants_fit = omega (arith, count_of_columns b)

pub missing_found : (b : Basin) (rows : List (List (List ℕ))) (amounts : List (Option ℕ)) (k : ℕ) (e : SeriesRefused) →
    amounts ≡ given_by b rows → k < length amounts → ((j : ℕ) → j < k → is_some (get_or amounts j None) ≡ true) →
    is_some (get_or amounts k None) ≡ false → e ≡ missing_of b (run_month b (k / width b))
    (get_or (column_numbers b) (k % width b) 0) → IsRefusalOf (missing b (entries_of b rows)) e
missing_found b rows amounts k e is l before here found =
    refusal_of _ e (first_missing b (entries_of b rows) amounts k is l before here ∙ ap (λ x. Some x) (sym found))

-- what a table is read as
pub record IsRead (b : Basin) (text : List ℕ) (r : Result Series SeriesRefused) : Type 0 where
  pub spelled : IfOk r (SpellsSeries b text)
  pub valid : IfOk r (IsSeriesOf b)
  pub faultless : OnOk r (series_fault b text ≡ None)
  pub refused : IfErr r (λ e. IsSeriesRefusal e b text)

pub series_read : (b c : Basin) (text : List ℕ) (amounts : List (Option ℕ)) (r : Result Series SeriesRefused) →
    c ≡ b → TookTable c (records_of text) amounts → Completes c (body_of c (records_of text)) r → IsRead b text r
series_read b c text amounts r same took done = subst (λ (x : Basin). IsRead x text r) same (by r done)
  where
    by : (r : Result Series SeriesRefused) → Completes c (body_of c (records_of text)) r → IsRead c text r
    by (Ok series) h = record { spelled = h.2; valid = h.1; faultless = took.fault ∙ h.0; refused = tt }
    by (Err e) h =
        record {
          spelled = tt;
          valid = tt;
          faultless = tt;
          refused = subst (λ (o : Option SeriesRefused). IsRefusalOf o e) (sym took.fault) h;
        }

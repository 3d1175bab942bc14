-- What is due, and the amounts that are given for it.
use Rattle.inflow_file.proofs.Words.{◌≡◌, ◌≢◌, ◌⊎◌, ℕ, zero, suc, ◌+◌, ◌*◌, ◌/◌, ◌%◌, ◌<◌, ◌≤◌, Bool, true, false, refl}
use Rattle.inflow_file.proofs.Words.{sym, ap, ◌∙◌, arith, List, [], ◌∷◌, ◌++◌, length, get_or, set, map, replicate, inl}
use Rattle.inflow_file.proofs.Words.{inr, Option, Some, None, if◌then◌else◌, is_some, option_map, option_or, cases_Bool}
use Rattle.inflow_file.proofs.Words.{cases_eq, false≢true, eqb-true, and_parts, eq-eqb, ext_get_or, length-map}
use Rattle.inflow_file.proofs.Words.{length-append, length-set, get_or_append_left, get_or-append-add, get_or-map}
use Rattle.inflow_file.proofs.Words.{get_or-set_same, get_or-set_other, find-append, IsMonth, is_same_month, Month}
use Rattle.inflow_file.proofs.Words.{Basin, cell_within, IsColumn, column_numbers, count_of_both, is_column, IsEntry}
use Rattle.inflow_file.proofs.Words.{amount_for, due, months_of, repeats, is_in_run, SeriesRecord}
use Rattle.std.proofs.Common.{◌==◌, ◌&&◌}
use Rattle.std.specs.List.{find, flat_map}
use Rattle.std.proofs.lemmas.Nat.{div-add-mod', div_below, mod_below, mul-le}
use Rattle.water_model.specs.Hydrology.{run_month, index_in}
use Rattle.water_model.specs.Valid.{HasBoundedEntries}
use Rattle.inflow_file.specs.Given.{given}
use Rattle.inflow_file.proofs.ColumnLaws.{passed_most, index_holds, index_of_passing}
use Rattle.inflow_file.proofs.RunLaws.{length-months, month_there, month_in_run, same_index, same_month_is}
use Rattle.inflow_file.proofs.RunLaws.{same_month_itself}

or_none : {X : Type 0} (r : Option X) → option_or r None ≡ r
or_none None = refl
or_none (Some n) = refl

-- a table of months and numbers, row by row
abbrev row_of : List ℕ → Month → List (Month × ℕ)
row_of nodes month = map (λ node. (month, node)) nodes

abbrev grid : List Month → List ℕ → List (Month × ℕ)
grid months nodes = flat_map (row_of nodes) months

length-row : (nodes : List ℕ) (m : Month) → length (row_of nodes m) ≡ length nodes
length-row nodes m = length-map nodes (λ node. (m, node))

length-grid : (months : List Month) (nodes : List ℕ) → length (grid months nodes) ≡ length months * length nodes
length-grid [] nodes = omega arith
length-grid (m ∷ months) nodes =
    length-append (row_of nodes m) (grid months nodes) ∙ omega (arith, length-row nodes m, length-grid months nodes)

grid_at : (months : List Month) (nodes : List ℕ) (i g : ℕ) (m : Month) (n : ℕ) → i < length months → g < length nodes →
    get_or (grid months nodes) (i * length nodes + g) (m, n) ≡ (get_or months i m, get_or nodes g n)
grid_at [] nodes i g m n l k = absurd (omega arith)
grid_at (first ∷ months) nodes zero g m n l k =
    let at : zero * length nodes + g ≡ g = omega arith in let len = length-row nodes first in
    ap (λ j. get_or (grid (first ∷ months) nodes) j (m, n)) at
    ∙ (get_or_append_left (row_of nodes first) (grid months nodes) (m, n) g (omega (arith, len))
    ∙ get_or-map (λ node. (first, node)) nodes g n (m, n) k)
grid_at (first ∷ months) nodes (suc i) g m n l k =
    let len = length-row nodes first in
    let at : suc i * length nodes + g ≡ length (row_of nodes first) + (i * length nodes + g) = omega (arith, len) in
    ap (λ j. get_or (grid (first ∷ months) nodes) j (m, n)) at
    ∙ (get_or-append-add (row_of nodes first) (grid months nodes) (i * length nodes + g) (m, n)
    ∙ grid_at months nodes i g m n (omega arith) k)

abbrev pub width : Basin → ℕ
width b = length (column_numbers b)

pub length-due : (b : Basin) → length (due b) ≡ b.months * width b
length-due b = length-grid (months_of b) (column_numbers b) ∙ ap (λ k. k * width b) (length-months b)

-- what stands in a month's row at a column
pub due_at : (b : Basin) (i g : ℕ) (m : Month) → i < b.months → g < width b →
    get_or (due b) (i * width b + g) (m, 0) ≡ (run_month b i, get_or (column_numbers b) g 0)
due_at b i g m l k =
    grid_at (months_of b) (column_numbers b) i g m 0 (omega (arith, length-months b)) k
    ∙ ap (λ (month : Month). (month, get_or (column_numbers b) g 0)) (month_there b i m l)

pub bounded_columns : (b : Basin) → HasBoundedEntries b → width b ≤ 4000
bounded_columns b bounded = omega
    (arith, bounded.nodes, bounded.rights, passed_most (λ n. is_column b n) (count_of_both b))

-- the table is small enough for numbers of the machine
pub small_table : (b : Basin) → b.months ≤ 1200 → HasBoundedEntries b → b.months * width b ≤ 4800000
small_table b months bounded = mul-le b.months (width b) 1200 4000 months (bounded_columns b bounded)

-- the index of a column
pub column_there : (b : Basin) (n : ℕ) → IsColumn b n →
    (index_in (column_numbers b) n < width b) × (get_or (column_numbers b) (index_in (column_numbers b) n) 0 ≡ n)
column_there b n h = index_holds (λ k. is_column b k) (count_of_both b) n h.within h.due

pub small_index : (b : Basin) (i n : ℕ) → b.months ≤ 1200 → HasBoundedEntries b → i < b.months → IsColumn b n →
    (i * width b ≤ 4800000) × (i * width b + index_in (column_numbers b) n < b.months * width b)
small_index b i n months bounded l h =
    let within = cell_within i b.months (width b) (index_in (column_numbers b) n) l (column_there b n h).0 in
    (omega (arith, within, small_table b months bounded), within)

-- the row and the column of a cell
pub record IsSplit (b : Basin) (k : ℕ) : Type 0 where
  pub row : k / width b < b.months
  pub gauge : k % width b < width b
  pub cell : k / width b * width b + k % width b ≡ k

-- a cell of some months and columns is one of some column
pub some_column : (k m g : ℕ) → k < m * g → 0 < g
some_column k m zero h = absurd (omega arith)
some_column k m (suc g) h = omega arith

pub split : (b : Basin) (k : ℕ) → k < b.months * width b → IsSplit b k
split b k l =
    let some = some_column k b.months (width b) l in
    record {
      row = div_below k (width b) b.months some l;
      gauge = mod_below k (width b) some;
      cell = div-add-mod' k (width b);
    }

pub length-given : (b : Basin) (entries : List SeriesRecord) → length (given b entries) ≡ b.months * width b
unfolding given
length-given b entries = length-map (due b) (λ d. amount_for entries d.0 d.1) ∙ length-due b

pub given_at : (b : Basin) (entries : List SeriesRecord) (i g : ℕ) → i < b.months → g < width b →
    get_or (given b entries) (i * width b + g) None ≡ amount_for entries (run_month b i) (get_or (column_numbers b) g 0)
unfolding given
given_at b entries i g l k =
    let within : i * width b + g < length (due b) = rw (length-due b) (cell_within i b.months (width b) g l k) in
    get_or-map (λ d. amount_for entries d.0 d.1) (due b) (i * width b + g) (run_month b i, 0) None within
    ∙ ap (λ (d : Month × ℕ). amount_for entries d.0 d.1) (due_at b i g (run_month b i) l k)

-- one entry more
abbrev is_for : Month → ℕ → SeriesRecord → Bool
is_for month node e = is_same_month month e.month && e.column == node

pub one_entry_more : (entries : List SeriesRecord) (e : SeriesRecord) (month : Month) (node : ℕ) →
    amount_for (entries ++ e ∷ []) month node ≡ option_or (amount_for entries month node)
    (if is_for month node e then Some e.amount else None)
one_entry_more entries e month node =
    ap (option_map (λ (x : SeriesRecord). x.amount)) (find-append (is_for month node) entries (e ∷ []))
    ∙ by_test (find (is_for month node) entries) (is_for month node e)
  where
    by_test : (o : Option SeriesRecord) (t : Bool) →
        option_map (λ (x : SeriesRecord). x.amount) (option_or o (if t then Some e else None))
        ≡ option_or (option_map (λ (x : SeriesRecord). x.amount) o) (if t then Some e.amount else None)
    by_test (Some x) t = refl
    by_test None true = refl
    by_test None false = refl

-- each column has its own index
pub own_gauge : (b : Basin) (g node : ℕ) → g < width b → get_or (column_numbers b) g 0 ≡ node →
    index_in (column_numbers b) node ≡ g
own_gauge b g node l e =
    ap (index_in (column_numbers b)) (sym e) ∙ index_of_passing (λ n. is_column b n) (count_of_both b) g l

abbrev pub index_for : Basin → ℕ → ℕ → ℕ
index_for b i node = i * width b + index_in (column_numbers b) node

-- an entry that is for a cell of the table has this cell
same_cell : (b : Basin) (e : SeriesRecord) (i k g : ℕ) → IsMonth b.first → k < b.months → g < width b →
    e.month ≡ run_month b i →
    is_for (run_month b k) (get_or (column_numbers b) g 0) e ≡ true → k * width b + g ≡ index_for b i e.column
same_cell b e i k g first l m month h =
    let tests = and_parts (is_same_month (run_month b k) e.month) (e.column == get_or (column_numbers b) g 0) h in
    let index : k ≡ i = same_index b k i first (same_month_is (run_month b k) e.month tests.0 ∙ month) in
    let gauge : index_in (column_numbers b) e.column ≡ g =
    own_gauge b g e.column m (sym (eqb-true e.column (get_or (column_numbers b) g 0) tests.1)) in
    rw (index, gauge) refl

-- an entry for a month of the run adds its amount, where there was none
added_here : (b : Basin) (earlier : List SeriesRecord) (e : SeriesRecord) (i : ℕ) →
    IsEntry b e → i < b.months → e.month ≡ run_month b i → amount_for earlier (run_month b i) e.column ≡ None →
    get_or (given b (earlier ++ e ∷ [])) (index_for b i e.column) None ≡ Some e.amount
added_here b earlier e i entry l month absent =
    let there = column_there b e.column entry.column in
    let for_it : is_for (run_month b i) e.column e ≡ true =
    rw (month, same_month_itself (run_month b i), eq-eqb e.column e.column refl) refl in
    given_at b (earlier ++ e ∷ []) i (index_in (column_numbers b) e.column) l there.0
    ∙ (ap (amount_for (earlier ++ e ∷ []) (run_month b i)) there.1
    ∙ (one_entry_more earlier e (run_month b i) e.column ∙ rw (absent, for_it) refl))

kept_elsewhere : (b : Basin) (earlier : List SeriesRecord) (e : SeriesRecord) (i k n g : ℕ) →
    IsMonth b.first → e.month ≡ run_month b i → n < b.months → g < width b → n * width b + g ≡ k →
    k ≢ index_for b i e.column → get_or (given b (earlier ++ e ∷ [])) k None ≡ get_or (given b earlier) k None
kept_elsewhere b earlier e i k n g first month row gauge cell other =
    let apart : is_for (run_month b n) (get_or (column_numbers b) g 0) e ≡ false =
    elim (cases_Bool (is_for (run_month b n) (get_or (column_numbers b) g 0) e)) [
      | inl here ↦ absurd (other (sym cell ∙ same_cell b e i n g first row gauge month here))
      | inr off ↦ off
    ] in
    rw (← cell) (given_at b (earlier ++ e ∷ []) n g row gauge
    ∙ (one_entry_more earlier e (run_month b n) (get_or (column_numbers b) g 0)
    ∙ (rw apart (or_none (amount_for earlier (run_month b n) (get_or (column_numbers b) g 0)))
    ∙ sym (given_at b earlier n g row gauge))))

pub enters : (b : Basin) (earlier : List SeriesRecord) (e : SeriesRecord) (i : ℕ) → IsMonth b.first →
    IsEntry b e → i < b.months → e.month ≡ run_month b i → amount_for earlier (run_month b i) e.column ≡ None →
    given b (earlier ++ e ∷ []) ≡ set (given b earlier) (index_for b i e.column) (Some e.amount)
enters b earlier e i first entry l month absent =
    ext_get_or None (given b (earlier ++ e ∷ [])) (set (given b earlier) (index_for b i e.column) (Some e.amount))
    (length-given b (earlier ++ e ∷ [])
    ∙ sym (length-set (given b earlier) (index_for b i e.column) (Some e.amount) ∙ length-given b earlier))
    (λ k below. at k (split b k (omega (arith, length-given b (earlier ++ e ∷ []))))
    (cases_eq k (index_for b i e.column)))
  where
    within : index_for b i e.column < length (given b earlier)
    within = rw (length-given b earlier)
        (cell_within i b.months (width b) (index_in (column_numbers b) e.column) l
        (column_there b e.column entry.column).0)

    at : (k : ℕ) → IsSplit b k → (k ≡ index_for b i e.column) ⊎ (k ≡ index_for b i e.column → ⊥) → get_or (given
        b (earlier ++ e ∷ [])) k None ≡ get_or (set (given b earlier) (index_for b i e.column) (Some e.amount)) k None
    at k s (inl here) =
        ap (λ j. get_or (given b (earlier ++ e ∷ [])) j None) here
        ∙ (added_here b earlier e i entry l month absent
        ∙ (sym (get_or-set_same (given b earlier) (index_for b i e.column) (Some e.amount) None within)
        ∙ ap (λ j. get_or (set (given b earlier) (index_for b i e.column) (Some e.amount)) j None) (sym here)))
    at k s (inr other) =
        kept_elsewhere b earlier e i k (k / width b) (k % width b) first month s.row s.gauge s.cell other
        ∙ sym (get_or-set_other (given b earlier) (index_for b i e.column) k (Some e.amount) None other)

-- an entry for a month outside the run adds nothing
pub passes_by : (b : Basin) (earlier : List SeriesRecord) (e : SeriesRecord) → is_in_run b e.month ≡ false →
    given b (earlier ++ e ∷ []) ≡ given b earlier
passes_by b earlier e outside =
    ext_get_or None (given b (earlier ++ e ∷ [])) (given b earlier)
    (length-given b (earlier ++ e ∷ []) ∙ sym (length-given b earlier))
    (λ k below. at k (split b k (omega (arith, length-given b (earlier ++ e ∷ [])))))
  where
    never : (n g : ℕ) → n < b.months → is_for (run_month b n) g e ≡ false
    never n g row = elim (cases_Bool (is_for (run_month b n) g e)) [
      | inl here ↦
          (let same : run_month b n ≡ e.month =
          same_month_is (run_month b n) e.month
          (and_parts (is_same_month (run_month b n) e.month) (e.column == g) here).0 in
          let inside : is_in_run b e.month ≡ true = ap (is_in_run b) (sym same) ∙ month_in_run b n row in
          absurd (false≢true (sym outside ∙ inside)))
      | inr off ↦ off
    ]

    at : (k : ℕ) → IsSplit b k → get_or (given b (earlier ++ e ∷ [])) k None ≡ get_or (given b earlier) k None
    at k s =
        rw (← s.cell) (given_at b (earlier ++ e ∷ []) (k / width b) (k % width b) s.row s.gauge
        ∙ (one_entry_more earlier e (run_month b (k / width b)) (get_or (column_numbers b) (k % width b) 0)
        ∙ (rw (never (k / width b) (get_or (column_numbers b) (k % width b) 0) s.row)
        (or_none (amount_for earlier (run_month b (k / width b)) (get_or (column_numbers b) (k % width b) 0)))
        ∙ sym (given_at b earlier (k / width b) (k % width b) s.row s.gauge))))

-- what entering an entry does, where its month is outside the run
pub outside_is : (b : Basin) (earlier : List SeriesRecord) (e : SeriesRecord) (amounts : List (Option ℕ)) →
    is_in_run b e.month ≡ false → amounts ≡ given b earlier →
    (repeats b earlier e ≡ false) × (amounts ≡ given b (earlier ++ e ∷ []))
outside_is b earlier e amounts outside is = (rw outside refl, is ∙ sym (passes_by b earlier e outside))

-- where it has a cell in the table, what stands there
pub stands_there : (b : Basin) (earlier : List SeriesRecord) (e : SeriesRecord) (i : ℕ) (amounts : List (Option ℕ)) →
    IsEntry b e → i < b.months → e.month ≡ run_month b i →
    amounts ≡ given b earlier → get_or amounts (index_for b i e.column) None ≡ amount_for earlier e.month e.column
stands_there b earlier e i amounts entry l month is =
    let there = column_there b e.column entry.column in
    ap (λ xs. get_or xs (index_for b i e.column) None) is
    ∙ (given_at b earlier i (index_in (column_numbers b) e.column) l there.0
    ∙ (ap (amount_for earlier (run_month b i)) there.1 ∙ ap (λ m. amount_for earlier m e.column) (sym month)))

pub repeated_is : (b : Basin) (earlier : List SeriesRecord) (e : SeriesRecord) (i : ℕ) (amounts : List (Option ℕ)) →
    IsEntry b e → i < b.months → e.month ≡ run_month b i →
    amounts ≡ given b earlier → is_some (get_or amounts (index_for b i e.column) None) ≡ repeats b earlier e
repeated_is b earlier e i amounts entry l month is =
    let inside : is_in_run b e.month ≡ true = ap (is_in_run b) month ∙ month_in_run b i l in
    rw (inside, stands_there b earlier e i amounts entry l month is) refl

pub entered_is : (b : Basin) (earlier : List SeriesRecord) (e : SeriesRecord) (i : ℕ) (amounts : List (Option ℕ)) →
    IsMonth b.first → IsEntry b e → i < b.months → e.month ≡ run_month b i →
    amounts ≡ given b earlier → is_some (get_or amounts (index_for b i e.column) None) ≡ false →
    (repeats b earlier e ≡ false) × (set amounts (index_for b i e.column) (Some e.amount) ≡ given b (earlier ++ e ∷ []))
entered_is b earlier e i amounts first entry l month is free =
    let absent : amount_for earlier (run_month b i) e.column ≡ None =
    ap (λ m. amount_for earlier m e.column) (sym month)
    ∙ (sym (stands_there b earlier e i amounts entry l month is) ∙ none_there _ free) in (
      sym (repeated_is b earlier e i amounts entry l month is) ∙ free,
      ap (λ xs. set xs (index_for b i e.column) (Some e.amount)) is
          ∙ sym (enters b earlier e i first entry l month absent),
    )
  where
    none_there : (r : Option ℕ) → is_some r ≡ false → r ≡ None
    none_there None h = refl
    none_there (Some n) h = cc

-- no entry gives an amount
none_of : (ds : List (Month × ℕ)) → map (λ d. amount_for [] d.0 d.1) ds ≡ replicate (length ds) None
none_of [] = refl
none_of (d ∷ ds) = ap (λ xs. None ∷ xs) (none_of ds)

pub none_given : (b : Basin) → given b [] ≡ replicate (b.months * width b) None
unfolding given
none_given b = none_of (due b) ∙ ap (λ n. replicate n None) (length-due b)

-- A missing amount is one of a month of the run, and of a node or a right.
use Rattle.std.proofs.Common.{◌≡◌, ℕ, zero, suc, ◌+◌, ◌-◌, ◌<◌, ◌≤◌, Bool, true, false, refl, sym, ◌∙◌, ap}
use Rattle.std.proofs.Common.{subst, arith, All, List, [], ◌∷◌, ◌++◌, length, map, Option, Some, None}
use Rattle.std.proofs.Common.{if◌then◌else◌, option_map}
use Rattle.std.proofs.lemmas.List.Elements.{All-append, All-cons, All-filter, All-head, All-map, All-nil, All-tail}
use Rattle.std.specs.Prelude.{not, is_some, slice_get, ◌||◌, nat_lt, ⊤}
use Rattle.std.specs.List.{find, flat_map}
use Rattle.std.specs.Option.{option_or}
use Rattle.water_text.specs.Months.{IsMonth}
use Rattle.water_text.specs.declared.month.Month.{Month}
use Rattle.water_model.specs.Indices.{numbers_from}
use Rattle.water_model.specs.Valid.{IsValidBasin, IsValidNode, IsValidRight}
use Rattle.water_model.specs.declared.types.Basin.{Basin}
use Rattle.water_model.specs.declared.types.Node.{Node}
use Rattle.water_model.specs.declared.types.Right.{Right}
use Rattle.water_text.specs.Names.{is_name}
use Rattle.std.proofs.lemmas.Bool.Decides.{nat_tests}
use Rattle.water_model.proofs.Valid.{entry_holds}
use Rattle.std.proofs.lemmas.Option.{slice_get_within}
use Rattle.std.proofs.lemmas.Bool.{ltb-true}
use Rattle.inflow_file.specs.SeriesFaults.{series_fault, table_fault, first_fault, record_fault, missing, missing_of}
use Rattle.inflow_file.specs.SeriesFaults.{body_of, has_kinds, entries_of, due, amount_for, months_of}
use Rattle.inflow_file.specs.Columns.{column_numbers, count_of_both, is_column}
use Rattle.inflow_file.specs.CsvRecords.{records_of, is_header}
use Rattle.inflow_file.specs.declared.refused.SeriesFault.{SeriesFault}
use Rattle.inflow_file.specs.declared.refused.SeriesRefused.{SeriesRefused}
use Rattle.inflow_file.specs.declared.refused.SeriesRefused.TheVariants as refused
use Rattle.inflow_file.specs.declared.refused.SeriesFault.TheVariants as fault
use Rattle.inflow_file.proofs.RunLaws.{length-months, month_there}
use Rattle.water_model.proofs.Histories.{IsMonth-run_month}

-- the month of what is missing is one of the calendar, and the node or the right one of the basin
abbrev pub IsNameable : Basin → SeriesRefused → Type 0
IsNameable b (refused.Record fault number) = ⊤
IsNameable b (refused.Missing month node) = IsMonth month × (node < length b.nodes)
IsNameable b (refused.MissingWant month right) = IsMonth month × (right < length b.rights)
IsNameable b refused.OutOfMemory = ⊤

numbers_below : (from count bound : ℕ) → from + count ≤ bound → All (λ n. n < bound) (numbers_from from count)
unfolding numbers_from
numbers_below from zero bound h = All-nil (λ n. n < bound)
numbers_below from (suc count) bound h =
    All-cons (λ n. n < bound) from (numbers_from (suc from) count) (omega arith)
    (numbers_below (suc from) count bound (omega arith))

-- what is due is due in a month of the calendar
record IsDue (b : Basin) (d : Month × ℕ) : Type 0 where
  calendar : IsMonth d.0
  inside : d.1 < count_of_both b

all_due : (b : Basin) → IsValidBasin b → All (IsDue b) (due b)
all_due b valid = of_months (months_of b) (λ i m l. subst IsMonth (sym (month_there b i m (rw (← length-months b) l)))
    (IsMonth-run_month b i valid.run (rw (← length-months b) l)))
  where
    columns : All (λ n. n < count_of_both b) (column_numbers b)
    columns = All-filter (λ n. is_column b n) (λ n. n < count_of_both b) (numbers_from 0 (count_of_both b))
        (numbers_below 0 (count_of_both b) (count_of_both b) (omega arith))

    of_months : (months : List Month) → All IsMonth months →
        All (IsDue b) (flat_map (λ m. map (λ n. (m, n)) (column_numbers b)) months)
    of_months [] all = All-nil (IsDue b)
    of_months (m ∷ months) all = All-append (IsDue b) (map (λ n. (m, n)) (column_numbers b)) _
        (All-map (IsDue b) (λ n. (m, n)) (column_numbers b) (λ i n l.
        record { calendar = All-head IsMonth m months all; inside = columns i n l }))
        (of_months months (All-tail IsMonth m months all))

-- what holds of all elements of a list holds of the one that is found
found_holds : {X : Type 0} (P : X → Type 0) (p : X → Bool) (xs : List X) (d : X) → All P xs → find p xs ≡ Some d → P d
found_holds P p [] d all e = cc
found_holds {X} P p (x ∷ xs) d all e = by_test (p x) e (found_holds P p xs d (All-tail P x xs all))
  where
    by_test : (t : Bool) → (if t then Some x else find p xs) ≡ Some d → (find p xs ≡ Some d → P d) → P d
    by_test true f rest = let same : x ≡ d = cc in subst P same (All-head P x xs all)
    by_test false f rest = rest f

missing_is_nameable : (b : Basin) (month : Month) (n : ℕ) → IsMonth month → n < count_of_both b →
    IsNameable b (missing_of b month n)
missing_is_nameable b month n calendar inside = by_test (nat_lt n (length b.nodes)) refl
  where
    after : (n m k : ℕ) → nat_lt n m ≡ false → n < m + k → n - m < k
    after n m k e l = grind (arith, nat_tests)

    by_test : (t : Bool) → nat_lt n (length b.nodes) ≡ t →
        IsNameable b (if t then refused.Missing month n else refused.MissingWant month (n - length b.nodes))
    by_test true e = (calendar, ltb-true n (length b.nodes) e)
    by_test false e = (calendar, after n (length b.nodes) (length b.rights) e inside)

missing_nameable : (b : Basin) (rows : List (List (List ℕ))) (e : SeriesRefused) → IsValidBasin b →
    missing b (entries_of b rows) ≡ Some e → IsNameable b e
missing_nameable b rows e valid h =
    by_found (find (λ d. not (is_some (amount_for (entries_of b rows) d.0 d.1))) (due b)) refl h
  where
    by_found : (o : Option (Month × ℕ)) →
        find (λ d. not (is_some (amount_for (entries_of b rows) d.0 d.1))) (due b) ≡ o →
        option_map (λ (d : Month × ℕ). missing_of b d.0 d.1) o ≡ Some e → IsNameable b e
    by_found None f h = cc
    by_found (Some d) f h =
        let within =
        found_holds (IsDue b) (λ c. not (is_some (amount_for (entries_of b rows) c.0 c.1))) (due b) d (all_due b valid)
        f in
        let same : missing_of b d.0 d.1 ≡ e = cc in
        subst (λ (x : SeriesRefused). IsNameable b x) same (missing_is_nameable b d.0 d.1 within.calendar within.inside)

record_nameable : (b : Basin) (before : List (List (List ℕ))) (number : ℕ) (rows : List (List (List ℕ)))
    (e : SeriesRefused) →
    first_fault b before number rows ≡ Some e → IsNameable b e
unfolding first_fault
record_nameable b before number [] e h = cc
record_nameable b before number (row ∷ rows) e h =
    by_fault (record_fault b before row) h (λ f. record_nameable b (before ++ row ∷ []) (number + 1) rows e f)
  where
    by_fault : (o : Option SeriesFault) →
        option_or (option_map (λ fault. refused.Record fault number) o)
        (first_fault b (before ++ row ∷ []) (number + 1) rows) ≡ Some e →
        (first_fault b (before ++ row ∷ []) (number + 1) rows ≡ Some e → IsNameable b e) → IsNameable b e
    by_fault None h rest = rest h
    by_fault (Some f) h rest = let same : refused.Record f number ≡ e = cc in
        subst (λ (x : SeriesRefused). IsNameable b x) same tt

pub refusal_nameable : (b : Basin) (text : List ℕ) (e : SeriesRefused) → IsValidBasin b → series_fault b text ≡ Some e →
    IsNameable b e
refusal_nameable b text e valid h = by_rows (records_of text) h
  where
    by_first : (o : Option SeriesRefused) (rows : List (List (List ℕ))) → (o ≡ Some e → IsNameable b e) →
        option_or o (missing b (entries_of b rows)) ≡ Some e → IsNameable b e
    by_first None rows first h = missing_nameable b rows e valid h
    by_first (Some f) rows first h = first h

    by_header : (t : Bool) (rows : List (List (List ℕ))) →
        (if t then option_or (first_fault b [] 2 rows) (missing b (entries_of b rows)) else Some
        (refused.Record fault.Header 1)) ≡ Some e → IsNameable b e
    by_header true rows h = by_first (first_fault b [] 2 rows) rows (record_nameable b [] 2 rows e) h
    by_header false rows h = let same : refused.Record fault.Header 1 ≡ e = cc in
        subst (λ (x : SeriesRefused). IsNameable b x) same tt

    by_rows : (rows : List (List (List ℕ))) → table_fault b rows ≡ Some e → IsNameable b e
    by_rows [] h = let same : refused.Record fault.Header 1 ≡ e = cc in
        subst (λ (x : SeriesRefused). IsNameable b x) same tt
    by_rows (header ∷ rows) h = by_header (is_header header || has_kinds b header) (body_of b (header ∷ rows)) h

-- a node of a valid basin has a name, and so has a right
pub name_there : (b : Basin) (node : ℕ) (n : Node) → IsValidBasin b → slice_get b.nodes node ≡ Some n →
    is_name n.name ≡ true
name_there b node n valid e =
    let found = entry_holds IsValidNode b.nodes node valid.nodes (slice_get_within b.nodes node n e) in
    let some : Some found.0 ≡ Some n = sym found.1 ∙ e in
    let same : found.0 ≡ n = cc in
    let named : is_name found.0.name ≡ true = found.2.name in
    subst (λ (x : Node). is_name x.name ≡ true) same named

pub right_named : (b : Basin) (right : ℕ) (r : Right) → IsValidBasin b → slice_get b.rights right ≡ Some r →
    is_name r.name ≡ true
right_named b right r valid e =
    let found = entry_holds (λ x. IsValidRight b x) b.rights right valid.rights (slice_get_within b.rights right r e) in
    let some : Some found.0 ≡ Some r = sym found.1 ∙ e in
    let same : found.0 ≡ r = cc in
    let named : is_name found.0.name ≡ true = found.2.name in
    subst (λ (x : Right). is_name x.name ≡ true) same named

-- so its name is read
pub never_none : {text name : List ℕ} → text ≡ name → is_name name ≡ true →
    (if is_name text then Some text else None) ≡ None → ⊥
never_none {text} {name} same named read =
    let test : is_name text ≡ true = ap is_name same ∙ named in
    by_test (is_name text) test read
  where
    by_test : (t : Bool) → t ≡ true → (if t then Some text else None) ≡ None → ⊥
    by_test true e h = cc
    by_test false e h = cc

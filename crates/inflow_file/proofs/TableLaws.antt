-- The records of a table, from the first to the last.
use Rattle.inflow_file.proofs.Words.{◌≡◌, ℕ, ◌+◌, Bool, true, false, map, refl, sym, ap, ◌∙◌, List, [], ◌∷◌, ◌++◌}
use Rattle.inflow_file.proofs.Words.{append_assoc, Option, Some, None, Result, Ok, Err, MatchResult, ◌||◌, result_ok}
use Rattle.inflow_file.proofs.Words.{option_or, append-nil, filter_map-append, Basin, is_header, with_kind, read_record}
use Rattle.inflow_file.proofs.Words.{given, Takes, TakesAll, TakesTable, IsRefusalOf, entries_of, record_fault, repeats}
use Rattle.inflow_file.proofs.Words.{table_fault, has_kinds, SeriesRecord, SeriesFault, SeriesRefused}
use Rattle.inflow_file.specs.SeriesFaults.{first_fault}
use Rattle.inflow_file.specs.declared.refused.SeriesFault.TheVariants as fault
use Rattle.inflow_file.specs.declared.refused.SeriesRefused.TheVariants as refused

-- the entries of one record more
entries_more : (b : Basin) (before : List (List (List ℕ))) (row : List (List ℕ)) (e : SeriesRecord) →
    Ok e ≡ read_record b row → entries_of b (before ++ row ∷ []) ≡ entries_of b before ++ e ∷ []
entries_more b before row e reads =
    filter_map-append (λ r. result_ok (read_record b r)) before (row ∷ []) ∙ rw (← reads) refl

-- an entry that is entered or refused is a record that is taken or refused
pub entry_taken : (b : Basin) (before : List (List (List ℕ)))
    (row : List (List ℕ)) (e : SeriesRecord) (old new : List (Option ℕ)) (result : Result (Unit {0}) SeriesFault) →
    Ok e ≡ read_record b row → (old ≡ given b (entries_of b before) → MatchResult
    result (λ _. (repeats b (entries_of b before) e ≡ false) × (new ≡ given b (entries_of b before ++ e ∷ [])))
    (λ f. (f ≡ fault.Repeated) × (repeats b (entries_of b before) e ≡ true))) → Takes b before row old new result
entry_taken b before row e old new (Ok done) reads enters is =
    let h = enters is in (rw (← reads, h.0) refl, h.1 ∙ ap (given b) (sym (entries_more b before row e reads)))
entry_taken b before row e old new (Err f) reads enters is =
    let h = enters is in rw (← reads, h.1) (ap (λ x. Some x) (sym h.0))

-- a record at fault, a record without a fault, and no record
pub fault_here : (b : Basin) (before : List (List (List ℕ)))
    (number : ℕ) (row : List (List ℕ)) (rows left : List (List (List ℕ))) (f : SeriesFault) → left ≡ row ∷ rows →
    record_fault b before row ≡ Some f → first_fault b before number left ≡ Some (refused.Record f number)
unfolding first_fault
fault_here b before number row rows left f is at = rw (is, at) refl

pub fault_later : (b : Basin) (before : List (List (List ℕ))) (number : ℕ)
    (row : List (List ℕ)) (rows left : List (List (List ℕ))) → left ≡ row ∷ rows → record_fault b before row ≡ None →
    first_fault b before number left ≡ first_fault b (before ++ row ∷ []) (number + 1) rows
unfolding first_fault
fault_later b before number row rows left is at = rw (is, at) refl

pub no_fault_left : (b : Basin) (before : List (List (List ℕ))) (number : ℕ) (left : List (List (List ℕ))) → left ≡ [] →
    first_fault b before number left ≡ None
unfolding first_fault
no_fault_left b before number left is = rw is refl

-- the records before and after, one further
pub one_further : {X : Type 0} (before left rows all : List X) (row : X) → left ≡ row ∷ rows → before ++ left ≡ all →
    (before ++ row ∷ []) ++ rows ≡ all
one_further before left rows all row is h = append_assoc before (row ∷ []) rows ∙ (ap (λ xs. before ++ xs) (sym is) ∙ h)

pub none_further : {X : Type 0} (before left all : List X) → left ≡ [] → before ++ left ≡ all → before ≡ all
none_further before left all is h = sym (append-nil before) ∙ (ap (λ xs. before ++ xs) (sym is) ∙ h)

-- a refusal by the first fault, if there is one
pub refusal_of : (o : Option SeriesRefused) (e : SeriesRefused) → o ≡ Some e → IsRefusalOf o e
refusal_of o refused.OutOfMemory h = tt
refusal_of o (refused.Record f n) h = h
refusal_of o (refused.Missing m n) h = h
refusal_of o (refused.MissingWant m n) h = h

first_refusal : (o later : Option SeriesRefused) (e : SeriesRefused) → IsRefusalOf o e →
    IsRefusalOf (option_or o later) e
first_refusal o later refused.OutOfMemory h = tt
first_refusal o later (refused.Record f n) h = rw h refl
first_refusal o later (refused.Missing m n) h = rw h refl
first_refusal o later (refused.MissingWant m n) h = rw h refl

-- the records of a table whose header is one are all taken, or refused
pub table_taken : (b : Basin) (header : List (List ℕ)) (rows table : List (List (List ℕ))) (kinds : Bool)
    (new : List (Option ℕ)) (result : Result (Unit {0}) SeriesRefused) →
    table ≡ header ∷ rows → kinds ≡ has_kinds b header → (is_header header || kinds) ≡ true →
    TakesAll b (map (with_kind kinds) rows) new result → TakesTable b table new result
table_taken b header rows table kinds new (Ok done) is says good took = record {
  fault = rw (is, ← says, good, took.0) refl;
  given = rw (is, ← says) took.1;
}
table_taken b header rows table kinds new (Err e) is says good took =
    rw (is, ← says, good) (first_refusal (first_fault b [] 2 (map (with_kind kinds) rows)) _ e took)

-- and one without a header is refused
pub no_header : (b : Basin) (header : List (List ℕ)) (rows table : List (List (List ℕ))) (kinds : Bool) →
    table ≡ header ∷ rows → kinds ≡ has_kinds b header → (is_header header || kinds) ≡ false →
    table_fault b table ≡ Some (refused.Record fault.Header 1)
no_header b header rows table kinds is says bad = rw (is, ← says, bad) refl

-- The records of a text, one after the other.
use Rattle.inflow_file.proofs.Words.{◌≡◌, ℕ, zero, suc, ◌+◌, ◌<◌, ◌≤◌, Bool, true, false, refl, ap, ◌∙◌, arith, List}
use Rattle.inflow_file.proofs.Words.{[], ◌∷◌, ◌++◌, length, add-one, Option, Some, None, if◌then◌else◌, inl, ◌||◌}
use Rattle.std.proofs.Common.{◌==◌, ◌&&◌}
use Rattle.std.specs.Borrow.{Bor}
use Rattle.csv.specs.Machine.{Read, next_record, step, is_end, ends_at_end, after_end, in_field, start_field}
use Rattle.csv.specs.Machine.{start_record, fields_after, field_after}
use Rattle.csv.specs.Reading.{Reached, ReadRecord, default_config, records_from, records_next, strip_bom}
use Rattle.csv.specs.declared.parser.Action.{Action}
use Rattle.csv.specs.declared.parser.State.{State}
use Rattle.csv.specs.declared.reader.Reader.{Reader}
use Rattle.csv.proofs.ReadFacts.{rows-more, rows-end}
use Rattle.inflow_file.specs.CsvRecords.{records_of}
use Rattle.inflow_file.specs.RecordsLeft.{IsReading, TakesFirst, bytes_left, records_in, records_left}
use Rattle.csv.specs.declared.parser.Action.TheVariants as act
use Rattle.csv.specs.declared.parser.State.TheVariants as st
use Rattle.csv.specs.declared.parser.Terminator.TheVariants as term

-- where the record ends, the reader is between two records
abbrev EndsBetween : State × Action → Type 0
EndsBetween after = is_end after.1 ≡ true → ends_at_end after.0 ≡ false

either : (t : Bool) (x y : State × Action) → EndsBetween x → EndsBetween y → EndsBetween (if t then x else y)
either true x y a b = a
either false x y a b = b

goes_on : (x : State × Action) → is_end x.1 ≡ false → EndsBetween x
goes_on x h e = cc

end_of_line : (c : ℕ) → ends_at_end (after_end term.CRLF c) ≡ false
end_of_line c = by_test (c == 13)
  where
    by_test : (t : Bool) → ends_at_end (if t then st.AfterCr else st.StartRecord) ≡ false
    by_test true = refl
    by_test false = refl

end_in_field : (c : ℕ) → EndsBetween (in_field default_config c)
end_in_field c =
    either (c == 44) (st.StartField, act.EndField)
    (if (c == 13) || (c == 10) then (after_end term.CRLF c, act.EndRecord) else (st.InField, act.Copy))
    (goes_on (st.StartField, act.EndField) refl) (either ((c == 13) || (c == 10)) (after_end term.CRLF c, act.EndRecord)
    (st.InField, act.Copy) (λ e. end_of_line c) (goes_on (st.InField, act.Copy) refl))

end_start_field : (c : ℕ) → EndsBetween (start_field default_config c)
end_start_field c =
    either (c == 34) (st.InQuoted, act.Skip) (in_field default_config c) (goes_on (st.InQuoted, act.Skip) refl)
    (end_in_field c)

end_start_record : (c : ℕ) → EndsBetween (start_record default_config c)
end_start_record c =
    either ((c == 13) || (c == 10)) (st.StartRecord, act.Skip) (start_field default_config c)
    (goes_on (st.StartRecord, act.Skip) refl) (end_start_field c)

end_step : (s : State) (c : ℕ) → EndsBetween (step default_config s c)
end_step st.StartRecord c = end_start_record c
end_step st.StartField c = end_start_field c
end_step st.InField c = end_in_field c
end_step st.InQuoted c =
    either (c == 34) (st.AfterQuote, act.Skip) (st.InQuoted, act.Copy) (goes_on (st.AfterQuote, act.Skip) refl)
    (goes_on (st.InQuoted, act.Copy) refl)
end_step st.InEscape c = goes_on (st.InQuoted, act.Copy) refl
end_step st.AfterQuote c =
    either (c == 34) (st.InQuoted, act.Copy) (in_field default_config c) (goes_on (st.InQuoted, act.Copy) refl)
    (end_in_field c)
end_step st.InComment c =
    either (c == 10) (st.StartRecord, act.Skip) (st.InComment, act.Skip) (goes_on (st.StartRecord, act.Skip) refl)
    (goes_on (st.InComment, act.Skip) refl)
end_step st.AfterCr c =
    either (c == 10) (st.StartRecord, act.Skip) (start_record default_config c)
    (goes_on (st.StartRecord, act.Skip) refl) (end_start_record c)

-- what is left after a record is shorter, and the reader is between two records
record IsAfter (bytes : List ℕ) (r : Read) : Type 0 where
  fewer : length r.2 ≤ length bytes
  between : ends_at_end r.1 ≡ false

same_read : (a b : Read) → Some a ≡ Some b → a ≡ b
same_read a b e = cc

one_byte : (s : State) (fields : List (List ℕ)) (field : List ℕ) (c : ℕ) (bytes : List ℕ) (r : Read)
    → (next_record default_config (step default_config s c).0 (fields_after (step default_config s c).1 fields field)
    (field_after (step default_config s c).1 c field) bytes ≡ Some r → IsAfter bytes r)
    → next_record default_config s fields field (c ∷ bytes) ≡ Some r → IsAfter bytes r
unfolding next_record
one_byte s fields field c bytes r further =
    by_test (is_end (step default_config s c).1) (fields_after (step default_config s c).1 fields field)
    (step default_config s c).0 (end_step s c) further
  where
    by_test : (t : Bool) (all : List (List ℕ)) (after : State) {later : Option Read} →
        (t ≡ true → ends_at_end after ≡ false) →
        (later ≡ Some r → IsAfter bytes r) → (if t then Some (all, after, bytes) else later) ≡ Some r → IsAfter bytes r
    by_test true all after between further e =
        let same = same_read (all, after, bytes) r e in
        record { fewer = rw (← same) (omega arith); between = rw (← same) (between refl) }
    by_test false all after between further e = further e

beyond : (s : State) (fields : List (List ℕ)) (field bytes : List ℕ) (r : Read) →
    next_record default_config s fields field bytes ≡ Some r → IsAfter bytes r
unfolding next_record
beyond s fields field [] r = by_test (ends_at_end s)
  where
    by_test : (t : Bool) → (if t then Some (fields ++ (field ∷ []), st.StartRecord, []) else None) ≡ Some r →
        IsAfter [] r
    by_test true e =
        let same = same_read (fields ++ (field ∷ []), st.StartRecord, []) r e in
        record { fewer = rw (← same) (omega arith); between = rw (← same) refl }
    by_test false e = cc
beyond s fields field (c ∷ bytes) r = λ e. further (one_byte s fields field c bytes r
    (beyond (step default_config s c).0 (fields_after (step default_config s c).1 fields field)
    (field_after (step default_config s c).1 c field) bytes r) e)
  where
    further : IsAfter bytes r → IsAfter (c ∷ bytes) r
    further h = record { fewer = omega (arith, h.fewer); between = h.between }

-- so a record that is read between two records takes at least one byte
pub record TakesBytes (bytes : List ℕ) (r : Read) : Type 0 where
  pub fewer : length r.2 < length bytes
  pub between : ends_at_end r.1 ≡ false

pub takes_bytes : (s : State) (bytes : List ℕ) (r : Read) → ends_at_end s ≡ false →
    next_record default_config s [] [] bytes ≡ Some r → TakesBytes bytes r
unfolding next_record
takes_bytes s [] r between e = let none = rw between at e in cc
takes_bytes s (c ∷ bytes) r between e =
    let h = one_byte s [] [] c bytes r (beyond (step default_config s c).0
    (fields_after (step default_config s c).1 [] []) (field_after (step default_config s c).1 c []) bytes r) e in
    record { fewer = omega (arith, h.fewer); between = h.between }

-- more turns than bytes give all records
pub enough : (n m : ℕ) (s : State) (bytes : List ℕ) → ends_at_end s ≡ false → length bytes < n → length bytes < m →
    records_from default_config n s bytes ≡ records_from default_config m s bytes
unfolding records_from
enough zero m s bytes between l k = absurd (omega arith)
enough (suc n) zero s bytes between l k = absurd (omega arith)
enough (suc n) (suc m) s bytes between l k =
    by_read (next_record default_config s [] [] bytes) refl (λ t rest. enough n m t rest)
  where
    by_read : (o : Option Read) → next_record default_config s [] [] bytes ≡ o →
        ((t : State) (rest : List ℕ) → ends_at_end t ≡ false → length rest < n → length rest < m →
        records_from default_config n t rest ≡ records_from default_config m t rest) →
        records_next (records_from default_config n) o ≡ records_next (records_from default_config m) o
    by_read None e further = refl
    by_read (Some r) e further =
        let h = takes_bytes s bytes r between e in
        ap (λ rows. r.0 ∷ rows) (further r.1 r.2 h.between (omega (arith, h.fewer)) (omega (arith, h.fewer)))

-- the records of a text that has one more, and of one that has none
pub one_more : (s : State) (bytes : List ℕ) (r : Read) → ends_at_end s ≡ false →
    next_record default_config s [] [] bytes ≡ Some r → records_in s (Some bytes) ≡ r.0 ∷ records_in r.1 (Some r.2)
unfolding records_from
one_more s bytes r between e =
    let h = takes_bytes s bytes r between e in let turns : length bytes + 1 ≡ suc (length bytes) = omega arith in
    rw (turns, e)
    (ap (λ rows. r.0 ∷ rows) (enough (length bytes) (length r.2 + 1) r.1 r.2 h.between h.fewer (omega arith)))

pub no_more : (s : State) (bytes : List ℕ) → next_record default_config s [] [] bytes ≡ None →
    records_in s (Some bytes) ≡ []
unfolding records_from
no_more s bytes e = rw (add-one, e) refl

-- there are no more records than bytes
pub bounded_from : (n : ℕ) (s : State) (bytes : List ℕ) → ends_at_end s ≡ false →
    length (records_from default_config n s bytes) ≤ length bytes
unfolding records_from
bounded_from zero s bytes between = omega arith
bounded_from (suc n) s bytes between = by_read (next_record default_config s [] [] bytes) refl
    (λ t rest. bounded_from n t rest)
  where
    by_read : (o : Option Read) → next_record default_config s [] [] bytes ≡ o → ((t : State) (rest : List ℕ) →
        ends_at_end t ≡ false → length (records_from default_config n t rest) ≤ length rest) →
        length (records_next (records_from default_config n) o) ≤ length bytes
    by_read None e further = omega arith
    by_read (Some r) e further = let h = takes_bytes s bytes r between e in
        omega (arith, h.fewer, further r.1 r.2 h.between)

strip_shorter : (bytes : List ℕ) → length (strip_bom bytes) ≤ length bytes
unfolding strip_bom
strip_shorter [] = omega arith
strip_shorter (a ∷ []) = omega arith
strip_shorter (a ∷ b ∷ []) = omega arith
strip_shorter (a ∷ b ∷ c ∷ rest) = by_test ((a == 0xEF) && (b == 0xBB) && (c == 0xBF))
  where
    by_test : (t : Bool) → length (if t then rest else a ∷ b ∷ c ∷ rest) ≤ length (a ∷ b ∷ c ∷ rest)
    by_test true = omega arith
    by_test false = omega arith

pub bounded_records : (text : List ℕ) → length (records_of text) ≤ length text
unfolding records_of
bounded_records text =
    omega (arith, strip_shorter text, bounded_from (length (strip_bom text) + 1) st.StartRecord (strip_bom text) refl)

meets : (s after : State) (bytes rest : List ℕ) (fields : List (List ℕ)) (known later : Option (List ℕ)) (p : Read) →
    known ≡ Some bytes → later ≡ Some rest → fields ≡ p.0 → p.1 ≡ after → p.2 ≡ rest → ends_at_end s ≡ false →
    next_record default_config s [] [] bytes ≡ Some p → records_in s known ≡ fields ∷ records_in after later
meets s after bytes rest fields known later p is will first state left between e =
    rw (is, will, first, ← state, ← left) (one_more s bytes p between e)

-- what one read of a reader does, as `ReadFacts` of csv says
pub record TookOne (a b : Reader (Bor (List ℕ))) (fields : List (List ℕ)) : Type 0 where
  pub bytes : List ℕ
  pub known : bytes_left b ≡ Some bytes
  pub between : ends_at_end b.state ≡ false
  pub takes : records_left a ≡ fields ∷ records_left b

pub took_one : (a b : Reader (Bor (List ℕ))) (fields : List (List ℕ)) → IsReading a →
    ReadRecord (λ s. Some s.now) a b true fields → TookOne a b fields
unfolding Reached records_left
took_one a b fields reading read =
    let m = rows-more (λ (s : Bor (List ℕ)). Some s.now) a b fields default_config a.state reading.bytes reading.bytes
    [] reading.config reading.known (refl, refl) read in
    let p = m.2.0 in let h = takes_bytes a.state reading.bytes p reading.between m.2.1 in
    let state : p.1 ≡ b.state = m.2.3.0 in let rest : p.2 ≡ m.0 = m.2.3.1 in
    record {
      bytes = m.0;
      known = m.1;
      between = rw (← state) h.between;
      takes = meets a.state b.state reading.bytes m.0 fields (bytes_left a) (bytes_left b) p reading.known m.1 m.2.2
          state rest reading.between m.2.1;
    }

pub took_none : (a b : Reader (Bor (List ℕ))) (fields : List (List ℕ)) → IsReading a →
    ReadRecord (λ s. Some s.now) a b false fields → records_left a ≡ []
unfolding records_left
took_none a b fields reading read =
    rw reading.known
    (no_more a.state reading.bytes
    (rows-end (λ (s : Bor (List ℕ)). Some s.now) a b fields default_config reading.bytes reading.config
    reading.known read))

-- the reader goes on between two records, with its settings
pub reads_on : (a b : Reader (Bor (List ℕ))) (fields : List (List ℕ)) → IsReading a →
    ReadRecord (λ s. Some s.now) a b true fields → b.first ≡ true → IsReading b
reads_on a b fields reading read began =
    let one = took_one a b fields reading read in
    record {
      trim = read.3 ∙ reading.trim;
      ready = inl began;
      config = read.2 ∙ reading.config;
      between = one.between;
      bytes = one.bytes;
      known = one.known;
    }

pub takes_first : (a b : Reader (Bor (List ℕ))) (found : Bool) (fields : List (List ℕ)) → IsReading a →
    ReadRecord (λ s. Some s.now) a b found fields → TakesFirst found fields (records_left a) (records_left b)
takes_first a b true fields reading read = (took_one a b fields reading read).takes
takes_first a b false fields reading read = took_none a b fields reading read

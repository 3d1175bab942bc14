-- A roll without faults is sound, and a sound one has no fault.
use Rattle.std.proofs.Common.{◌≡◌, ℕ, zero, suc, ◌<◌, ◌≤◌, Bool, true, false, List, [], ◌∷◌, length, Option, Some, None}
use Rattle.std.proofs.Common.{refl, sym, ap, ◌∙◌, arith}
use Rattle.std.proofs.lemmas.Bool.Decides.{nat_tests}
use Rattle.std.proofs.lemmas.Iterator.Adapters.{position_from-zero}
use Rattle.std.specs.Prelude.{nat_lt, option_map, ◌+◌}
use Rattle.std.specs.List.{position, position_from, find, range_with_len}
use Rattle.std.specs.Option.{option_or}
use Rattle.water_model.specs.Lookups.{of_entry}
use Rattle.water_model.specs.Rights.{has_bad_date, has_zone_fault, parts_in, IsSoundRoll}
use Rattle.water_model.specs.declared.types.ReturnRow.{ReturnRow}
use Rattle.water_model.specs.declared.types.Right.{Right}
use Rattle.rights_roll.specs.RollFaults.{date_fault, same_seniority, zone_fault, has_many_parts, parts_fault}
use Rattle.rights_roll.specs.RollFaults.{roll_fault, IsRefusal}
use Rattle.rights_roll.specs.declared.RollRefused.{RollRefused}
use Rattle.rights_roll.specs.declared.RollRefused.TheVariants.{BadDate, SameSeniority, ZoneOrder, ReturnParts}
use Rattle.rights_roll.specs.declared.RollRefused.TheVariants.{OutOfMemory}
use Rattle.water_model.proofs.Finds.{find_none, none_found}
use Rattle.rights_roll.proofs.SameSeniority.{strict-from_none, none-from_strict}

-- where there is no fault, no index was found
none-mapped : (f : ℕ → RollRefused) (o : Option ℕ) → option_map f o ≡ None → o ≡ None
none-mapped f None h = refl
none-mapped f (Some k) h = let none : Some (f k) ≡ None = h in cc

dates-from : (rights : List Right) (n : ℕ) → position_from has_bad_date n rights ≡ None → (r : ℕ) → r < length rights →
    of_entry rights r has_bad_date false ≡ false
dates-from [] n none r below = absurd (omega arith)
dates-from (x ∷ xs) n none r below = by_test (has_bad_date x) refl (dates-from xs (n + 1)) r below
  where
    by_test : (t : Bool) → has_bad_date x ≡ t →
        (position_from has_bad_date (n + 1) xs ≡ None → (r : ℕ) → r < length xs →
        of_entry xs r has_bad_date false ≡ false) →
        (r : ℕ) → r < suc (length xs) → of_entry (x ∷ xs) r has_bad_date false ≡ false
    by_test true e further r h = let found : Some n ≡ None = rw e at none in cc
    by_test false e further zero h = e
    by_test false e further (suc r) h = further (rw e at none) r (omega arith)

none-from_dates : (rights : List Right) (n : ℕ) →
    ((r : ℕ) → r < length rights → of_entry rights r has_bad_date false ≡ false) →
    position_from has_bad_date n rights ≡ None
none-from_dates [] n fine = refl
none-from_dates (x ∷ xs) n fine =
    let first : has_bad_date x ≡ false = fine 0 (omega arith) in
    rw first (none-from_dates xs (n + 1) (λ r h. fine (suc r) (omega arith)))

bounded_parts : (returns : List ReturnRow) (r : ℕ) → has_many_parts returns r ≡ false → parts_in returns r ≤ 10000
bounded_parts returns r h = at_most (parts_in returns r) h
  where
    at_most : (n : ℕ) → nat_lt 10000 n ≡ false → n ≤ 10000
    at_most n e = grind (arith, nat_tests)

not_many_parts : (returns : List ReturnRow) (r : ℕ) → parts_in returns r ≤ 10000 → has_many_parts returns r ≡ false
not_many_parts returns r h = not_above (parts_in returns r) h
  where
    not_above : (n : ℕ) → n ≤ 10000 → nat_lt 10000 n ≡ false
    not_above n e = grind (arith, nat_tests)

-- the fault of the whole is the first of the four
pub roll_fault-is : (rights : List Right) (returns : List ReturnRow) →
    roll_fault rights returns ≡ option_or (date_fault rights)
    (option_or (same_seniority rights) (option_or (zone_fault rights) (parts_fault rights returns)))
unfolding roll_fault
roll_fault-is rights returns = refl

none-of_four : (a b c d : Option RollRefused) → option_or a (option_or b (option_or c d)) ≡ None →
    (a ≡ None) × (b ≡ None) × (c ≡ None) × (d ≡ None)
none-of_four None None None d h = (refl, refl, refl, h)
none-of_four (Some e) b c d h = cc
none-of_four None (Some e) c d h = cc
none-of_four None None (Some e) d h = cc

-- a roll without a fault is sound
pub sound-from_faultless : (rights : List Right) (returns : List ReturnRow) → roll_fault rights returns ≡ None →
    IsSoundRoll rights returns
sound-from_faultless rights returns none =
    let four = none-of_four (date_fault rights) (same_seniority rights) (zone_fault rights) (parts_fault rights returns)
    (sym (roll_fault-is rights returns) ∙ none) in record {
      dates = dates-from rights 0
          (sym (position_from-zero has_bad_date rights) ∙ none-mapped BadDate (position has_bad_date rights) four.0);
      strict = strict-from_none rights four.1;
      zones = λ r h. none_found (has_zone_fault rights) 0 (length rights)
          (none-mapped ZoneOrder (find (has_zone_fault rights) (range_with_len 0 (length rights))) four.2) r
          (omega arith) (omega arith);
      parts = λ r h. bounded_parts returns r (none_found (has_many_parts returns) 0 (length rights)
          (none-mapped ReturnParts (find (has_many_parts returns) (range_with_len 0 (length rights))) four.3) r
          (omega arith) (omega arith));
    }

-- a sound roll has no fault
pub roll_fault-sound : (rights : List Right) (returns : List ReturnRow) → IsSoundRoll rights returns →
    roll_fault rights returns ≡ None
roll_fault-sound rights returns sound =
    roll_fault-is rights returns ∙ rw (dates, none-from_strict rights sound.strict, zones) parts
  where
    dates : date_fault rights ≡ None
    dates = ap (λ (o : Option ℕ). option_map BadDate o)
        (position_from-zero has_bad_date rights ∙ none-from_dates rights 0 sound.dates)

    zones : zone_fault rights ≡ None
    zones = ap (λ (o : Option ℕ). option_map ZoneOrder o)
        (find_none (has_zone_fault rights) 0 (length rights) (λ r _ h. sound.zones r (omega arith)))

    parts : parts_fault rights returns ≡ None
    parts = ap (λ (o : Option ℕ). option_map ReturnParts o) (find_none (has_many_parts returns) 0 (length rights)
        (λ r _ h. not_many_parts returns r (sound.parts r (omega arith))))

-- a fault is its own refusal
pub refusal_is : (e : RollRefused) (fault : Option RollRefused) → fault ≡ Some e → IsRefusal e fault
refusal_is (BadDate a) fault h = h
refusal_is (SameSeniority a b) fault h = h
refusal_is (ZoneOrder a) fault h = h
refusal_is (ReturnParts a) fault h = h
refusal_is OutOfMemory fault h = tt

-- a refusal of one part is a refusal of it and what follows
pub some_or : (e : RollRefused) (part rest : Option RollRefused) → IsRefusal e part → IsRefusal e (option_or part rest)
some_or (BadDate a) part rest h = ap (λ o. option_or o rest) h
some_or (SameSeniority a b) part rest h = ap (λ o. option_or o rest) h
some_or (ZoneOrder a) part rest h = ap (λ o. option_or o rest) h
some_or (ReturnParts a) part rest h = ap (λ o. option_or o rest) h
some_or OutOfMemory part rest h = h

-- A check state keeps what was read where only what follows from it is added.
use Rattle.std.proofs.Common.{◌≡◌, ℕ, ◌+◌, zero, suc, true, false, refl, sym, ap, ◌∙◌, arith, List, [], ◌∷◌, ◌++◌}
use Rattle.std.proofs.Common.{length, take, drop, append_assoc}
use Rattle.std.specs.Prelude.{Some, None, nat_lt, slice_get, Option}
use Rattle.std.proofs.lemmas.Bool.Decides.{nat_tests}
use Rattle.std.proofs.lemmas.Grind.{flat_map-append}
use Rattle.std.proofs.lemmas.List.{take_all}
use Rattle.std.proofs.lemmas.Option.{slice_get_past}
use Rattle.water_model.proofs.Order.{length-by_seniority}
use Rattle.water_model.specs.Indices.{seniors_first}
use Rattle.water_model.specs.History.{calling_right}
use Rattle.water_model.specs.declared.types.Basin.{Basin}
use Rattle.water_model.specs.declared.types.Series.{Series}
use Rattle.water_model.specs.declared.types.MonthRecord.{MonthRecord}
use Rattle.result_reader.specs.ReadSoFar.{ReadSoFar, with_supply}
use Rattle.cert_check.specs.Checking.{caller_due, callers_due}
use Rattle.cert_check.specs.Keeping.{Keeps, callers_of, AreAnswered, AreSettled}
use Rattle.cert_check.specs.Walks.{IsNextDue}
use Rattle.cert_check.specs.declared.state.CheckState.{CheckState}
use Rattle.cert_check.specs.declared.answering.Due.{Due}
use Rattle.cert_check.proofs.Callers.{at_length}
use Rattle.cert_check.proofs.Entries.{callers_read}
use Rattle.cut_cert.specs.Callers.{AreCallers}
use Rattle.cert_check.specs.Shows.{Shows}
use Rattle.cert_check.proofs.Bounded.{length-supply}

same_supply : (b : Basin) (series : Series) {m : MonthRecord} (t : ReadSoFar) → Shows m t.now →
    (with_supply b series m).supply ≡ (with_supply b series t.now).supply
same_supply b series t s = rw (s.index, s.returned, s.opening, s.evaporated) refl

-- the supply that was read is made
pub keeps_supply : {b : Basin} {series : Series} {a : CheckState} {t : ReadSoFar} → Keeps b series a t →
    Keeps b series (record a { month = with_supply b series a.month; has_supply = true }) t
keeps_supply {b} {series} {a} {t} k =
    assumption (length-supply b series a.month, same_supply b series t k.month.shows, callers)
  where
    callers : a.has_callers ≡ true → AreCallers b (with_supply b series a.month) a.callers
    callers e = let known = k.callers e in assumption known

-- this many rights are passed, or answered
pub keeps_passed : {b : Basin} {series : Series} {a : CheckState} {t : ReadSoFar} {count : ℕ} → Keeps b series a t →
    AreSettled b t.now count → Keeps b series (record a { passed = count }) t
keeps_passed k settled = assumption

pub keeps_answered : {b : Basin} {series : Series} {a : CheckState} {t : ReadSoFar} {count : ℕ} → Keeps b series a t →
    AreAnswered b t.now count t.called → Keeps b series (record a { answered = count }) t
keeps_answered k answered = assumption

-- the callers are those of the deliveries and sets that were read
pub keeps_callers : {b : Basin} {series : Series} {a : CheckState} {t : ReadSoFar} {callers : List (Option ℕ)} →
    Keeps b series a t → AreCallers b a.month callers →
    Keeps b series (record a { callers = callers; has_callers = true }) t
keeps_callers k known = assumption

-- the room for sums may have any
pub keeps_room : {b : Basin} {series : Series} {a : CheckState} {t : ReadSoFar} {into out_of : List ℕ} →
    Keeps b series a t → length into ≡ length b.nodes → length out_of ≡ length b.nodes →
    Keeps b series (record a { into = into; out_of = out_of }) t
keeps_room k l h = assumption

-- The next `called` line that is due, by the index that a check state keeps.

-- the callers of some rights, and of those after them
callers_split : (b : Basin) (m : MonthRecord) (xs : List ℕ) (k : ℕ) →
    callers_of b m xs ≡ callers_of b m (take k xs) ++ callers_of b m (drop k xs)
callers_split b m xs k = ap (callers_of b m) (sym (both xs k))
    ∙ flat_map-append (λ r. caller_due r (calling_right b m r)) (take k xs) (drop k xs)
  where
    both : (xs : List ℕ) (k : ℕ) → take k xs ++ drop k xs ≡ xs
    both xs zero = refl
    both [] (suc k) = refl
    both (x ∷ xs) (suc k) = ap (λ ys. x ∷ ys) (both xs k)

pub due_here : {b : Basin} {series : Series} {a : CheckState} {t : ReadSoFar} {due : Due} → Keeps b series a t →
    IsNextDue b a.month a.answered due → slice_get (callers_due b t.now) t.called ≡ Some (due.right, due.caller)
due_here {b} {series} {a} {t} {due} k next = ap (λ xs. slice_get xs t.called) all ∙ (ap (slice_get
    (callers_of b t.now (take a.answered (seniors_first b)) ++ (due.right, due.caller) ∷ callers_of b t.now
    (drop (due.position + 1) (seniors_first b)))) k.answered.called
    ∙ at_length (callers_of b t.now (take a.answered (seniors_first b))) (due.right, due.caller)
    (callers_of b t.now (drop (due.position + 1) (seniors_first b))))
  where
    up_to : callers_of b t.now (take (due.position + 1) (seniors_first b)) ≡ callers_of b t.now
        (take a.answered (seniors_first b)) ++ (due.right, due.caller) ∷ []
    up_to = sym (callers_read k (take (due.position + 1) (seniors_first b))) ∙ (next.up_to
        ∙ ap (λ xs. xs ++ (due.right, due.caller) ∷ []) (callers_read k (take a.answered (seniors_first b))))

    all : callers_due b t.now ≡ callers_of b t.now
        (take a.answered (seniors_first b)) ++ (due.right, due.caller) ∷ callers_of b t.now
        (drop (due.position + 1) (seniors_first b))
    all = callers_split b t.now (seniors_first b) (due.position + 1)
        ∙ (ap (λ xs. xs ++ callers_of b t.now (drop (due.position + 1) (seniors_first b))) up_to
        ∙ append_assoc (callers_of b t.now (take a.answered (seniors_first b))) ((due.right, due.caller) ∷ [])
        (callers_of b t.now (drop (due.position + 1) (seniors_first b))))

count_is : {b : Basin} {series : Series} {a : CheckState} {t : ReadSoFar} → Keeps b series a t →
    callers_due b a.month ≡ callers_of b a.month (take a.answered (seniors_first b)) →
    t.called ≡ length (callers_due b t.now)
count_is {b} {series} {a} {t} k all = k.answered.called ∙ ap length (sym (sym (callers_read k (seniors_first b))
    ∙ (all ∙ callers_read k (take a.answered (seniors_first b)))))

pub none_due : {b : Basin} {series : Series} {a : CheckState} {t : ReadSoFar} → Keeps b series a t →
    callers_due b a.month ≡ callers_of b a.month (take a.answered (seniors_first b)) →
    slice_get (callers_due b t.now) t.called ≡ None
none_due {b} {series} {a} {t} k all = slice_get_past (callers_due b t.now) t.called (omega (arith, count_is k all))

pub none_left : {b : Basin} {series : Series} {a : CheckState} {t : ReadSoFar} → Keeps b series a t →
    callers_due b a.month ≡ callers_of b a.month (take a.answered (seniors_first b)) →
    nat_lt t.called (length (callers_due b t.now)) ≡ false
none_left {b} {series} {a} {t} k all = same t.called (length (callers_due b t.now)) (count_is k all)
  where
    same : (x y : ℕ) → x ≡ y → nat_lt x y ≡ false
    same x y e = grind (arith, nat_tests)

pub some_left : {b : Basin} {series : Series} {a : CheckState} {t : ReadSoFar} {due : Due} → Keeps b series a t →
    IsNextDue b a.month a.answered due → nat_lt t.called (length (callers_due b t.now)) ≡ true
some_left {b} {series} {a} {t} {due} k next = within (callers_due b t.now) t.called (due_here k next)
  where
    more : (n k : ℕ) → nat_lt n k ≡ true → nat_lt (suc n) (suc k) ≡ true
    more n k h = grind (arith, nat_tests)

    first : (k : ℕ) → nat_lt 0 (suc k) ≡ true
    first k = grind (arith, nat_tests)

    within : (xs : List (ℕ × ℕ)) (n : ℕ) → slice_get xs n ≡ Some (due.right, due.caller) → nat_lt n (length xs) ≡ true
    within [] n e = cc
    within (x ∷ xs) zero e = first (length xs)
    within (x ∷ xs) (suc n) e = more n (length xs) (within xs n e)

-- where none is due all rights are answered
pub keeps_all : {b : Basin} {series : Series} {a : CheckState} {t : ReadSoFar} → Keeps b series a t →
    callers_due b a.month ≡ callers_of b a.month (take a.answered (seniors_first b)) →
    Keeps b series (record a { answered = length b.rights }) t
keeps_all {b} {series} {a} {t} k all =
    grind (arith, nat_tests, keeps_answered, count_is, callers_of, take_all, seniors_first, length-by_seniority)

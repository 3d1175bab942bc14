-- What the rows say of `called` lines, and of the lines after them.
use Rattle.std.proofs.Common.{◌≡◌, ℕ, ◌+◌, ◌<◌, ◌≤◌, Bool, true, false, refl, sym, ap, ◌∙◌, arith, List, [], ◌∷◌, ◌++◌}
use Rattle.std.proofs.Common.{length, map, fold, append_assoc, append-nil, length-append}
use Rattle.std.specs.Prelude.{Option, Some, None, ◌&&◌, ◌==◌, not, nat_lt, slice_get, slice_index}
use Rattle.std.specs.List.{flat_map}
use Rattle.std.proofs.lemmas.Bool.Decides.{nat_tests}
use Rattle.std.proofs.lemmas.Bool.{eqb-true, and_parts, not-false}
use Rattle.finite_sums.specs.Sums.{total_where}
use Rattle.water_model.specs.History.{cut_of, is_zone_of, calls, calling_right}
use Rattle.result_lines.specs.Text.{called_items}
use Rattle.result_lines.specs.declared.item.Item.{Item}
use Rattle.result_lines.specs.declared.item.Item.TheVariants as line
use Rattle.result_lines.specs.declared.quantity.Quantity.TheVariants as quantity
use Rattle.water_model.specs.declared.types.Basin.{Basin}
use Rattle.water_model.specs.declared.types.Series.{Series}
use Rattle.water_model.specs.declared.types.MonthRecord.{MonthRecord}
use Rattle.result_reader.specs.ReadSoFar.{ReadSoFar, read_item}
use Rattle.cut_cert.specs.Callers.{is_short}
use Rattle.cert_check.specs.Checking.{rows, caller_due, callers_due, is_due}
use Rattle.cert_check.proofs.Rows.{NoneHolds, AreGood, Section, is_same, same_is}
use Rattle.cert_check.proofs.Calls.{clash, IsSettled, loose_fails, settled, missing_fails, none_missing}

-- callers follow from deliveries, wants and sets
pub same_callers : (b : Basin) (m k : MonthRecord) → m.delivered ≡ k.delivered → m.want ≡ k.want →
    m.cuts.sets ≡ k.cuts.sets → callers_due b m ≡ callers_due b k
unfolding calling_right calls
same_callers b m k d w s = rw (d, w, s) refl

abbrev pub called_line : ℕ × ℕ → Item
called_line due = line.Called due.0 due.1

pub called_lines : (f : ℕ → Option ℕ) (xs : List ℕ) →
    flat_map (λ r. called_items r (f r)) xs ≡ map called_line (flat_map (λ r. caller_due r (f r)) xs)
called_lines f [] = refl
called_lines f (x ∷ xs) = grind (arith, called_lines f xs)

-- each short right has its set, and the open one is settled
pub record AllCalled (b : Basin) (series : Series) (t : ReadSoFar) : Type 0 where
  pub settled : IsSettled b series t
  pub none_left : (r : ℕ) → r < length b.rights → is_short t.now r ≡ true → cut_of t.now r ≡ None → ⊥

-- the number of `called` lines so far, of those that are due
pub record Callers (b : Basin) (series : Series) (dues before : List (ℕ × ℕ)) (t : ReadSoFar) : Type 0 where
  pub all : AllCalled b series t
  pub due : callers_due b t.now ≡ dues
  pub count : t.called ≡ length before

is_the_pair : (r c : ℕ) (due : ℕ × ℕ) → due ≡ (r, c) → not (is_due r c (Some due)) ≡ false
is_the_pair r c due e = rw e (itself r c)
  where
    itself : (r c : ℕ) → not (r == r && c == c) ≡ false
    itself r c = grind (arith, nat_tests)

pub at_length : (before : List (ℕ × ℕ)) (due : ℕ × ℕ) (others : List (ℕ × ℕ)) →
    slice_get (before ++ due ∷ others) (length before) ≡ Some due
at_length [] due others = refl
at_length (x ∷ before) due others = at_length before due others

pub called_good : {b : Basin} {series : Series} {dues : List (ℕ × ℕ)} (others : List (ℕ × ℕ)) {before : List (ℕ × ℕ)}
    {t : ReadSoFar} → Callers b series dues before t → dues ≡ before ++ others →
    AreGood b series t (map called_line others) × Callers b series dues dues
    (fold (read_item b series) t (map called_line others))
called_good {b} {series} {dues} [] {before} c is =
    (tt, record { all = c.all; due = c.due; count = c.count ∙ ap length (sym (append-nil before) ∙ sym is) })
called_good {b} {series} {dues} (x ∷ xs) {before} {t} c is =
    let rest = called_good xs (record {
      all = record { settled = λ r e. (let never : None ≡ Some r = e in cc); none_left = c.all.none_left };
      due = c.due;
      count = rw (c.count, length-append before (x ∷ [])) refl;
    }) (is ∙ sym (append_assoc before (x ∷ []) xs)) in (
      (
        (
          loose_fails b series t (called_line x) c.all.settled,
          (
            missing_fails b t (called_line x) (λ r l s f p. c.all.none_left r l s f),
            (
              refl,
              (rw (c.due, c.count, is, at_length before x xs) (is_the_pair x.0 x.1 x refl), tt),
            ),
          ),
        ),
        rest.0,
      ),
      rest.1,
    )

-- The lines after the calls.

not_less : (n : ℕ) → nat_lt n n ≡ false
not_less n = grind (arith, nat_tests)

-- what stays after them
pub record After (b : Basin) (series : Series) (dues : List (ℕ × ℕ)) (take : List ℕ) (t : ReadSoFar) : Type 0 where
  pub callers : Callers b series dues dues t
  pub take_is : t.now.plan.take ≡ take

pub closings : (b : Basin) (series : Series) (dues : List (ℕ × ℕ)) (take : List ℕ) (a : ℕ → ℕ) →
    Section b series (After b series dues take)
    (λ x. a x ≡ total_where (length b.rights) (λ r. is_zone_of b r x) (λ r. slice_index take r))
    (λ x. line.Amount quantity.Closing x (a x))
closings b series dues take a = record {
  makes = λ x t p g. grind (arith, nat_tests, loose_fails, missing_fails, not_less, same_is);
  reads = λ x t p n. is_same n.1.1.1.1.0
      ∙ ap (λ ts. total_where (length b.rights) (λ r. is_zone_of b r x) (λ r. slice_index ts r)) p.take_is;
  keeps = λ x t p. record {
    callers = record {
      all = record { settled = λ r e. (let never : None ≡ Some r = e in cc); none_left = p.callers.all.none_left };
      due = same_callers b (read_item b series t (line.Amount quantity.Closing x (a x))).now t.now refl refl refl
          ∙ p.callers.due;
      count = p.callers.count;
    };
    take_is = p.take_is;
  };
}

pub end_good : {b : Basin} {series : Series} {dues : List (ℕ × ℕ)} {t : ReadSoFar} → Callers b series dues dues t →
    NoneHolds (rows b series t line.End)
end_good {b} {series} {dues} {t} c = grind (arith, nat_tests, loose_fails, settled, missing_fails, not_less)

-- The converse.

-- `called` lines that are not refuted are those that are due
pub record AreCalled (b : Basin) (series : Series) (others rest : List (ℕ × ℕ)) (t : ReadSoFar) : Type 0 where
  pub more : List (ℕ × ℕ)
  pub are : rest ≡ others ++ more
  pub called : (fold (read_item b series) t (map called_line others)).called ≡ t.called + length others
  pub now : (fold (read_item b series) t (map called_line others)).now ≡ t.now
  pub months : (fold (read_item b series) t (map called_line others)).months ≡ t.months

due_at : (before rest : List (ℕ × ℕ)) {r c : ℕ} →
    not (is_due r c (slice_get (before ++ rest) (length before))) ≡ false → (more : List (ℕ × ℕ)) ×
    (rest ≡ (r, c) ∷ more)
due_at [] [] h = clash h
due_at [] (x ∷ rest) {r} {c} h = (rest, ap (λ y. y ∷ rest) (pair x (both (x.0 == r) (x.1 == c) h)))
  where
    both : (p q : Bool) → not (p && q) ≡ false → (p ≡ true) × (q ≡ true)
    both p q k = and_parts p q (not-false (p && q) k)

    pair : (x : ℕ × ℕ) → (x.0 == r ≡ true) × (x.1 == c ≡ true) → x ≡ (r, c)
    pair (i, j) k = rw (eqb-true i r k.0, eqb-true j c k.1) refl
due_at (x ∷ before) rest {r} {c} h = due_at before rest h

pub called_read : {b : Basin} {series : Series} (others : List (ℕ × ℕ)) {rest : List (ℕ × ℕ)} (before : List (ℕ × ℕ))
    {t : ReadSoFar} → AreGood b series t (map called_line others) → callers_due b t.now ≡ before ++ rest →
    t.called ≡ length before → AreCalled b series others rest t
called_read {b} {series} [] {rest} before g is count =
    record { more = rest; are = refl; called = omega arith; now = refl; months = refl }
called_read {b} {series} ((r, c) ∷ xs) {rest} before {t} g is count =
    let first = due_at before rest (rw (← is, ← count) g.0.1.1.1.0) in
    let further = called_read xs (before ++ (r, c) ∷ []) g.1
    (is ∙ (ap (λ ys. before ++ ys) first.1 ∙ sym (append_assoc before ((r, c) ∷ []) first.0)))
    (omega (arith, count, length-append before ((r, c) ∷ []))) in
    record {
      more = further.more;
      are = first.1 ∙ ap (λ ys. (r, c) ∷ ys) further.are;
      called = omega (arith, further.called);
      now = further.now;
      months = further.months;
    }

-- the open set is settled by the first `called` line, or after them
pub settled_called : (b : Basin) (series : Series) (others : List (ℕ × ℕ)) (t : ReadSoFar) →
    AreGood b series t (map called_line others) →
    IsSettled b series (fold (read_item b series) t (map called_line others)) → IsSettled b series t
settled_called b series [] t g h = h
settled_called b series (x ∷ xs) t g h = settled b series t (called_line x) refl g.0.0

-- what a line after the calls says
pub record IsPast (b : Basin) (series : Series) (t : ReadSoFar) : Type 0 where
  pub all : AllCalled b series t
  pub count : length (callers_due b t.now) ≤ t.called

at_most : {n k : ℕ} → nat_lt k n ≡ false → n ≤ k
at_most h = grind (arith, nat_tests)

pub closing_past : {b : Basin} {series : Series} {t : ReadSoFar} (v amount : ℕ) →
    NoneHolds (rows b series t (line.Amount quantity.Closing v amount)) → IsPast b series t
closing_past {b} {series} {t} v amount n = grind (arith, nat_tests, settled, none_missing, at_most)

pub end_past : {b : Basin} {series : Series} {t : ReadSoFar} → NoneHolds (rows b series t line.End) → IsPast b series t
end_past {b} {series} {t} n = grind (arith, nat_tests, settled, none_missing, at_most)

-- The `in` lines that may come.
use Rattle.std.proofs.Common.{◌≡◌, ℕ, zero, suc, ◌+◌, ◌-◌, ◌<◌, ◌≤◌, Bool, true, false, refl, sym, ap, ◌∙◌, arith, inl}
use Rattle.std.proofs.Common.{inr, List, [], ◌∷◌, ◌++◌, length, drop, add-one}
use Rattle.std.specs.Prelude.{Option, Some, None, not}
use Rattle.std.proofs.lemmas.Bool.{and_parts, cases_order}
use Rattle.std.proofs.Math.Bool.{and-false}
use Rattle.water_model.specs.declared.types.Basin.{Basin}
use Rattle.water_model.specs.Indices.{numbers_from}
use Rattle.result_reader.specs.Form.{fits, due_in_month}
use Rattle.result_reader.specs.Due.{opened, take_line, step, is_member, is_member_shape, is_call}
use Rattle.result_reader.specs.Progress.{due_at, members_due}
use Rattle.result_lines.specs.declared.item.Item.{Item}
use Rattle.result_lines.specs.declared.item.Item.TheVariants as line
use Rattle.result_reader.specs.declared.shape.Shape.{Shape}
use Rattle.result_reader.specs.declared.shape.Shape.TheVariants as shape
use Rattle.result_reader.specs.declared.position.Position.{Position}
use Rattle.result_reader.specs.declared.position.Position.TheVariants as position
use Rattle.result_reader.proofs.Grammar.{member_only, has_no_members, no_member_due, plain, call, other}
use Rattle.result_reader.proofs.Steps.{nodes_from, fits_itself, take_fits, take_skips, step_open}
use Rattle.result_reader.proofs.Prefixes.{from_no_members, in_month_no_members, append_no_members}

fits_not : (b : Basin) (k : ℕ) (i : Item) → (i ≡ line.Member k → ⊥) → fits b (shape.Member k) i ≡ false
fits_not b k i h = grind (arith, member_only)

pub skip_members : (b : Basin) (ds : List Shape) (i : Item) → is_member i ≡ false → (n k : ℕ) →
    take_line b (nodes_from k n ++ ds) i ≡ take_line b ds i
unfolding numbers_from
skip_members b ds i h zero k = refl
skip_members b ds i h (suc n) k =
    take_skips b (shape.Member k) (nodes_from (suc k) n ++ ds) i (fits_not b k i other)
    refl ∙ skip_members b ds i h n (suc k)
  where
    other : i ≡ line.Member k → ⊥
    other is = let no : false ≡ true = sym h ∙ ap is_member is in cc

pub member_before : (b : Basin) (ds : List Shape) (j n k : ℕ) → j < k →
    take_line b (nodes_from k n ++ ds) (line.Member j) ≡ take_line b ds (line.Member j)
unfolding numbers_from
member_before b ds j zero k l = refl
member_before b ds j (suc n) k l =
    take_skips b (shape.Member k) (nodes_from (suc k) n ++ ds) (line.Member j) (fits_not b k (line.Member j) other) refl
    ∙ member_before b ds j n (suc k) (omega arith)
  where
    other : line.Member j ≡ line.Member k → ⊥
    other is = let same : j ≡ k = cc in omega arith

pub member_found : (b : Basin) (ds : List Shape) (j n k m : ℕ) → k ≤ j → j + suc m ≡ k + n →
    take_line b (nodes_from k n ++ ds) (line.Member j) ≡ Some (nodes_from (j + 1) m ++ ds)
unfolding numbers_from
member_found b ds j zero k m l e = absurd (omega arith)
member_found b ds j (suc n) k m l e = elim (cases_order k j) [
  | inl same ↦ here same
  | inr o ↦
      elim o [
        | inl below ↦ skipped below ∙ member_found b ds j n (suc k) m (omega arith) (omega arith)
        | inr above ↦
            absurd (omega arith)
      ]
]
  where
    here : k ≡ j → take_line b (shape.Member k ∷ (nodes_from (suc k) n ++ ds)) (line.Member j) ≡ Some
        (nodes_from (j + 1) m ++ ds)
    here same =
        let count : m ≡ n = omega arith in
        rw (← same, count, add-one k) (take_fits b (shape.Member k) (nodes_from (suc k) n ++ ds) (line.Member k)
        (fits_itself b (line.Member k) refl))

    skipped : k < j → take_line b (shape.Member k ∷ (nodes_from (suc k) n ++ ds))
        (line.Member j) ≡ take_line b (nodes_from (suc k) n ++ ds) (line.Member j)
    skipped below =
        take_skips b (shape.Member k) (nodes_from (suc k) n ++ ds) (line.Member j)
        (fits_not b k (line.Member j) other) refl
      where
        other : line.Member j ≡ line.Member k → ⊥
        other is = let same : j ≡ k = cc in omega arith

-- no `in` line is due from an index on
drop_no_members : (ds : List Shape) (k : ℕ) → has_no_members ds ≡ true → has_no_members (drop k ds) ≡ true
drop_no_members ds zero h = h
drop_no_members [] (suc k) h = refl
drop_no_members (d ∷ ds) (suc k) h = drop_no_members ds k (and_parts (not (is_member_shape d)) (has_no_members ds) h).1

pub place_no_members : (b : Basin) (dues : List Shape) (p : Position) → dues ≡ due_in_month b →
    has_no_members (due_at b dues p) ≡ true
place_no_members b dues position.Title is = from_no_members b 0 (b.months - 0)
place_no_members b dues position.Run is = from_no_members b 0 (b.months - 0)
place_no_members b dues (position.Month begun at) is =
    grind (arith, append_no_members, drop_no_members, has_no_members, in_month_no_members, from_no_members)
place_no_members b dues position.After is = refl

-- The steps of a progress.

pub member_step : (b : Basin) (ds : List Shape) (must : Bool) (next node : ℕ) → next ≤ node → node < length b.nodes →
    step b must (members_due b (Some next) ++ ds) (line.Member node) ≡ Some (members_due b (Some (node + 1)) ++ ds)
member_step b ds must next node l k = grind (arith, step_open, and-false, member_found)

pub member_too_early : (b : Basin) (ds : List Shape) (must : Bool) (next node : ℕ) → node < next →
    has_no_members ds ≡ true → step b must (members_due b (Some next) ++ ds) (line.Member node) ≡ None
member_too_early b ds must next node l clean = grind (arith, step_open, and-false, member_before, no_member_due)

pub no_member_step : (b : Basin) (ds : List Shape) (must : Bool) (node : ℕ) → has_no_members ds ≡ true →
    step b must (members_due b None ++ ds) (line.Member node) ≡ None
no_member_step b ds must node clean = grind (arith, step_open, and-false, no_member_due)

pub other_step : (b : Basin) (ds : List Shape) (o : Option ℕ) (i : Item) → is_member i ≡ false →
    step b false (members_due b o ++ ds) i ≡ take_line b ds i
other_step b ds None i h = refl
other_step b ds (Some next) i h = skip_members b ds i h (length b.nodes - next) next

pub call_opens : (b : Basin) (i : Item) → is_call i ≡ true → opened b i ≡ members_due b (Some 0)
call_opens b i h = grind (arith, plain, call, other)

pub other_opens : (b : Basin) (i : Item) → is_call i ≡ false → opened b i ≡ []
other_opens b i h = grind (arith, plain, call, other)

-- the steps of `in` lines, and of others
pub ruleset member_steps = (member_step, member_too_early, no_member_step, place_no_members)

pub ruleset other_steps = (other_step, call_opens, other_opens)

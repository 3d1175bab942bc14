-- A reader stands for the lines that it accepted.
use Rattle.std.proofs.Common.{◌≡◌, ℕ, ◌+◌, ◌≤◌, false, refl, sym, ap, subst, ◌∙◌, arith, List, [], ◌∷◌, ◌++◌}
use Rattle.std.specs.Prelude.{Option, Some, None, Ok, Err}
use Rattle.std.specs.Option.{option_and_then}
use Rattle.result_lines.specs.Spelling.{line_of}
use Rattle.water_model.specs.Valid.{IsValidBasin}
use Rattle.result_lines.specs.declared.item.Item.{Item}
use Rattle.water_model.specs.declared.types.Basin.{Basin}
use Rattle.result_reader.specs.Due.{Due, is_call, step, all_due, due_after}
use Rattle.result_reader.specs.Form.{due, due_in_month}
use Rattle.result_reader.specs.Progress.{dues_of, due_of, IsNextProgress, IsProgress}
use Rattle.result_reader.specs.OfText.{IsOfText}
use Rattle.result_reader.specs.Reading.{item_of, read_line}
use Rattle.result_reader.specs.Standing.{ReaderView, ReaderStandsFor, max_lines, IsReader}
use Rattle.result_reader.specs.declared.bad_line.BadLine.{BadLine}
use Rattle.result_reader.specs.declared.bad_line.BadLine.TheVariants as bad
use Rattle.result_reader.specs.declared.position.Position.TheVariants as position
use Rattle.result_reader.specs.declared.progress.Progress.{Progress}
use Rattle.result_reader.specs.declared.shape.Shape.{Shape}
use Rattle.result_reader.proofs.Prefixes.{due_more}
use Rattle.result_reader.proofs.LinesLeft.{step-fewer}
use Rattle.result_reader.proofs.Sayings.{item_is_said}

-- what contracts see of a reader's fields
abbrev pub reader_view : Basin → List Shape → Progress → ℕ → ReaderView
reader_view b dues p left = record { basin = b; due = due_of b dues p; left = left }

-- a progress before all lines
pub all_due_first : (b : Basin) (dues : List Shape) →
    all_due b ≡ due_of b dues (record { position = position.Title; next_member = None; must = false })
unfolding due
all_due_first b dues = grind arith

-- what is due after one more line
due_later : {b : Basin} (dues : List Shape) (p : Progress) {left : ℕ} {r : ReaderView} → reader_view b dues p left ≡ r →
    (items : List Item) (i : Item) (s : Option (List Shape)) → ReaderStandsFor r items →
    step b p.must (dues_of b dues p) i ≡ s → due_after r.basin (all_due r.basin) (items ++ i ∷ [])
    ≡ option_and_then (λ ds. Some (record { must = is_call i; dues = ds })) s
due_later dues p {r = r} is items i s stands e =
    due_more r.basin (all_due r.basin) r.due items i stands
    ∙ ap (λ o. option_and_then (λ ds. Some (record { must = is_call i; dues = ds })) o) (rw (← is) e)

-- A line that says nothing is refused.
pub line_refused : (b : Basin) (bytes : List ℕ) {why : BadLine} → item_of b bytes ≡ Err why → (items : List Item) →
    Err why ≡ read_line b items bytes
unfolding read_line
line_refused b bytes said items = rw said refl

-- A line whose item may not come is out of place.
pub line_blocked : {b : Basin} (dues : List Shape) (p : Progress) {left : ℕ} {r : ReaderView} (bytes : List ℕ)
    {i : Item} → reader_view b dues p left ≡ r → item_of r.basin bytes ≡ Ok i → IsNextProgress b dues p i None →
    (items : List Item) → ReaderStandsFor r items → Err bad.OutOfPlace ≡ read_line r.basin items bytes
unfolding read_line
line_blocked dues p bytes {i} is said next items stands = rw (said, due_later dues p is items i None stands next) refl

-- A line whose item may come is accepted: it is spelled as it says, and then at least one line fewer is left.
pub record IsTaken (b : Basin) (dues : List Shape) (next : Progress) (left : ℕ) (r : ReaderView) (bytes : List ℕ)
    (i : Item) : Type 0 where
  pub answer : (items : List Item) → ReaderStandsFor r items → Ok i ≡ read_line r.basin items bytes
  pub after : (items : List Item) → ReaderStandsFor r items →
      due_after b (all_due b) (items ++ i ∷ []) ≡ Some (due_of b dues next)
  pub spelled : (bytes ≡ line_of r.basin i) × IsOfText r.basin i
  pub fewer : max_lines b (dues_of b dues next) + 1 ≤ left
  pub progress : IsProgress b dues next

pub line_taken : {b : Basin} {dues : List Shape} {p : Progress} (next : Progress) {left : ℕ} {r : ReaderView}
    (bytes : List ℕ) {i : Item} → reader_view b dues p left ≡ r → item_of r.basin bytes ≡ Ok i →
    IsReader b dues p left → IsNextProgress b dues p i (Some next) → IsTaken b dues next left r bytes i
unfolding read_line
line_taken {b} {dues} {p} next {left} {r} bytes {i} is said reads step = record {
  answer = λ items stands. rw (said, later items stands) refl;
  after = λ items stands. rw (← is) at (later items stands);
  spelled = (let s = item_is_said r.basin bytes i said in (s.spelled, s.of_text));
  fewer = omega (
    arith,
    reads.left_is,
    step-fewer b p.must (dues_of b dues p) i (dues_of b dues next) step.0,
  );
  progress = step.2;
}
  where
    later : (items : List Item) → ReaderStandsFor r items →
        due_after r.basin (all_due r.basin) (items ++ i ∷ []) ≡ Some (due_of b dues next)
    later items stands = due_later dues p is items i (Some (dues_of b dues next)) stands step.0
        ∙ ap (λ m. let d : Due = record { must = m; dues = dues_of b dues next } in Some d) (sym step.1)

-- a reader that accepted nothing
pub reader_first : (b c : Basin) (dues : List Shape) (left : ℕ) → c ≡ b → IsValidBasin b → dues ≡ due_in_month b →
    max_lines b (due b) ≤ left →
    IsReader c dues (record { position = position.Title; next_member = None; must = false }) left
reader_first b c dues left is valid are most =
    subst (λ (x : Basin). IsReader x dues (record { position = position.Title; next_member = None; must = false }) left)
    (sym is) (record {
      valid = valid;
      dues_are = are;
      progress = record { position = tt; member = tt; must = λ no. cc };
      left_is = rw (← ap (λ (d : Due). d.dues) (all_due_first b dues)) most;
    })

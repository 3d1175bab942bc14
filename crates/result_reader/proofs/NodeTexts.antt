-- The `in` lines of a basin's nodes, kept in one text.
use Rattle.std.proofs.Common.{◌≡◌, ℕ, zero, suc, ◌+◌, ◌-◌, ◌≤◌, ◌⊎◌, inl, inr, refl, ap, ◌∙◌, arith, List, [], ◌∷◌}
use Rattle.std.proofs.Common.{◌++◌, length, take, drop, length-append, length-drop, Some, None}
use Rattle.std.proofs.Math.Seq.{drop-append_seam}
use Rattle.std.proofs.lemmas.List.{take-append-le, drop-append-le, take_all}
use Rattle.std.specs.Prelude.{◌*◌, codes, slice_get}
use Rattle.water_model.specs.declared.types.Basin.{Basin}
use Rattle.result_reader.specs.NodeLines.{member_text, IsLineAt, AreNodeLines}
use Rattle.result_reader.specs.declared.node_lines.Span.{Span}

-- a line stays where it is while others are added
line_stays : (text more : List ℕ) (span : Span) (line : List ℕ) → IsLineAt text span line →
    IsLineAt (text ++ more) span line
line_stays text more span line at =
    let in_order = at.in_order in
    let within = at.within in
    let early : span.start ≤ length text = omega arith in
    let fits : span.end - span.start ≤ length (drop span.start text) = omega (arith, length-drop span.start text) in
    record {
      in_order = in_order;
      within = omega (arith, length-append text more);
      line_is =
          ap (take (span.end - span.start)) (drop-append-le span.start text more early)
          ∙ (take-append-le (span.end - span.start) (drop span.start text) more fits ∙ at.line_is);
    }

-- a line that is added stands at the end
line_added : (text line : List ℕ) (span : Span) → span.start ≡ length text → span.end ≡ length (text ++ line) →
    IsLineAt (text ++ line) span line
line_added text line span starts ends =
    let sum = length-append text line in
    let count : length line ≤ span.end - span.start = omega arith in
    record {
      in_order = omega arith;
      within = omega arith;
      line_is =
          ap (λ (n : ℕ). take (span.end - span.start) (drop n (text ++ line))) starts
          ∙ (ap (take (span.end - span.start)) (drop-append_seam text line)
          ∙ take_all (span.end - span.start) line count);
    }

-- an element of a list with one more is one of the list, or the last
last_or_before : {X : Type 0} (xs : List X) (x : X) (k : ℕ) (y : X) → slice_get (xs ++ x ∷ []) k ≡ Some y →
    (slice_get xs k ≡ Some y) ⊎ ((k ≡ length xs) × (x ≡ y))
last_or_before [] x zero y h = inr (refl, (let same : Some x ≡ Some y = h in cc))
last_or_before [] x (suc k) y h = let none : None ≡ Some y = h in cc
last_or_before (z ∷ xs) x zero y h = inl h
last_or_before (z ∷ xs) x (suc k) y h = elim (last_or_before xs x k y h) [
  | inl is ↦ inl is
  | inr last ↦ inr (ap suc last.0, last.1)
]

-- a line is a name's, a few bytes longer
pub line_short : (name text : List ℕ) (count : ℕ) → length name ≤ 32 → length text ≤ 36 * count →
    length (text ++ (codes "in " ++ (name ++ 10 ∷ []))) ≤ 36 * (count + 1)
line_short name text count short fits = grind (arith, length-append)

-- the lines of one more node
pub more_lines : (b : Basin) (text : List ℕ) (spans : List Span) (span : Span) (node : ℕ) → AreNodeLines b text spans →
    node ≡ length spans → span.start ≡ length text → span.end ≡ length (text ++ member_text b node) →
    AreNodeLines b (text ++ member_text b node) (spans ++ span ∷ [])
more_lines b text spans span node before count starts ends = λ at other is.
    elim (last_or_before spans span at other is) [
      | inl early ↦ line_stays text (member_text b node) other (member_text b at) (before at other early)
      | inr last ↦ rw (last.0, ← count, ← last.1) (line_added text (member_text b node) span starts ends)
    ]

-- The `in` lines of a basin's nodes, kept in one text.
use Rattle.std.specs.Prelude.{◌≡◌, ℕ, ◌-◌, ◌≤◌, List, [], ◌∷◌, ◌++◌, length, codes, take, drop, slice_get, Some}
use Rattle.water_model.specs.Entries.{name_in}
use Rattle.water_model.specs.declared.space.Space.TheVariants as space
use Rattle.water_model.specs.declared.types.Basin.{Basin}
use Rattle.result_reader.specs.declared.node_lines.Span.{Span}

-- the `in` line of a node, with its line feed
abbrev pub member_text : Basin → ℕ → List ℕ
member_text b node = codes "in " ++ (name_in space.Nodes b node ++ (10 ∷ []))

-- a part of a text is a line
pub record IsLineAt (text : List ℕ) (span : Span) (line : List ℕ) : Type 0 where
  pub in_order : span.start ≤ span.end
  pub within : span.end ≤ length text
  pub line_is : take (span.end - span.start) (drop span.start text) ≡ line

-- parts of a text are the `in` lines of the nodes from 0 on
abbrev pub AreNodeLines : Basin → List ℕ → List Span → Type 0
AreNodeLines b text spans =
    (node : ℕ) (span : Span) → slice_get spans node ≡ Some span → IsLineAt text span (member_text b node)

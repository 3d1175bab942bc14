-- A text that is begun, and how far a text was written that goes month by month.
use Rattle.std.specs.Prelude.{ℕ, ◌⊎◌, ◌-◌, ◌<◌, ◌≤◌, List, ◌++◌, length, take}
use Rattle.std.specs.List.{flat_map}
use Rattle.water_edge.specs.Edge.{Extends, HasFlushed, Output}
use Rattle.result_lines.specs.Spelling.{whole_line}
use Rattle.result_lines.specs.Text.{items_of_head, items_of_month}
use Rattle.water_model.specs.declared.types.Basin.{Basin}
use Rattle.water_model.specs.declared.types.MonthRecord.{MonthRecord}

-- the bytes of the head's lines and of the lines of these months, which a text of further months begins with
abbrev pub begun_bytes : Basin → List MonthRecord → List ℕ
begun_bytes b records = flat_map (whole_line b) (items_of_head b ++ flat_map (items_of_month b) records)

-- Where writing stopped that goes month by month: all of these months but the last stand after what out had taken, and
-- of the last one a prefix; no line of the tail stands before all months do. All but the last are flushed, with the
-- head. `begun` gives the head with the lines of some months.
pub record IsPrefixOf {X : Type 0} (begun : List X → List ℕ) (whole_text : List ℕ) (months : List X) (are_all : Type 0)
    (old now : Output) : Type 0 where
  pub count : ℕ
  pub whole : 0 < length months → length (begun (take (length months - 1) months)) ≤ count
  pub last : are_all ⊎ (count ≤ length (begun months))
  pub text : Extends old now (take count whole_text)
  pub flushed : 1 < length months → HasFlushed old now (begun (take (length months - 1) months))

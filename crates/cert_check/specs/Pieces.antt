-- What a checker stands for that is given a text in pieces.
use Rattle.std.specs.Prelude.{◌≡◌, ℕ, ◌+◌, ◌-◌, ◌*◌, ◌≤◌, false, List, [], ◌∷◌, ◌++◌, length, Option, None, IsSome}
use Rattle.water_text.specs.LinesIn.{LineHeld}
use Rattle.water_model.specs.declared.types.Basin.{Basin}
use Rattle.water_model.specs.declared.types.Series.{Series}
use Rattle.cert_check.specs.Standing.{CheckerView, CheckerStandsFor, lines_left}
use Rattle.cert_check.specs.Whole.{pieces_of}
use Rattle.cert_check.specs.declared.progress.CheckProgress.{CheckProgress}
use Rattle.cert_check.specs.declared.refuted.Refuted.{Refuted}

-- a line that isn't whole, with at most 128 bytes so far
pub record IsPartialLine (line : LineHeld) : Type 0 where
  pub unended : line.whole ≡ false
  pub short : length line.bytes ≤ 128

-- The checker was given the lines of these bytes, and none of them is at fault. What stands after the last line feed is
-- held, at most 128 bytes.
pub record AreGiven (checker : CheckerView) (line : LineHeld) (text : List ℕ) : Type 0 where
  pub lines : List (List ℕ)
  pub stands : CheckerStandsFor checker lines
  pub good : checker.refused ≡ None
  pub pieces : pieces_of text ≡ lines ++ line.bytes ∷ []
  pub short : length line.bytes ≤ 128

-- How many bytes may still be given before one is refused, at most: 128 and a line feed for each line that may still be
-- accepted, and what may stand after the last of them.
abbrev pub room_left : CheckerView → LineHeld → ℕ
room_left checker line = 129 * lines_left checker + (128 - length line.bytes)

-- the value that contracts see of a checker of pieces: that of a checker of lines, and what is held of the line under
-- way
pub record PiecesView : Type 0 where
  pub basin : Basin
  pub series : Series
  pub progress : CheckProgress
  pub refused : Option Refuted
  pub line : LineHeld

abbrev pub checker_of : PiecesView → CheckerView
checker_of c = record { basin = c.basin; series = c.series; progress = c.progress; refused = c.refused }

-- the bytes so far, with nothing refused
abbrev pub StandsForText : PiecesView → List ℕ → Type 0
StandsForText c text = AreGiven (checker_of c) c.line text

abbrev pub bytes_left : PiecesView → ℕ
bytes_left c = room_left (checker_of c) c.line

-- an audit was asked for
abbrev pub IsAudit : PiecesView → Type 0
IsAudit c = IsSome c.progress.audit

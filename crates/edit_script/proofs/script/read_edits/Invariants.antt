use Rattle.std.proofs.Common.{◌≡◌, ◌+◌, ◌≤◌, length}
use Rattle.std.specs.Prelude.{All}
use Rattle.edit_script.specs.Edits.{IsValidEdit}
use Rattle.edit_script.specs.Scripts.{edits_from, lines_of}
use Rattle.edit_script.proofs.Reading.{after}
use Rattle.edit_script.proofs.script.read_edits.Given as goal

abbrev pub invariant-loop-line : goal.invariant-loop-line
invariant-loop-line l = record {
  so_far : edits_from l.names.basin.now l.series 2 (lines_of l.text) ≡ after l.edits.items
      (edits_from l.names.basin.now l.series l.number (lines_of l.rest));
  placed : All (IsValidEdit l.names.basin.now l.series) l.edits.items;
  small : l.number + length l.rest ≤ length l.text + 2;
}

abbrev pub decreases-loop-line : goal.decreases-loop-line
decreases-loop-line l = length l.rest

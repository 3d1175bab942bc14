use Rattle.std.proofs.Common.{◌≡◌, ◌+◌, ◌≤◌, ◌⊎◌, [], ◌∷◌, length}
use Rattle.std.specs.Prelude.{IfSome, None}
use Rattle.cert_check.specs.Pieces.{bytes_left}
use Rattle.water_edge.specs.Edge.{SameShelf}
use Rattle.basin_cli.specs.Answer.{CanAnswer}
use Rattle.basin_cli.specs.Failed.{AskForEach}
use Rattle.basin_cli.proofs.Parts.{IsFed}
use Rattle.basin_cli.proofs.checking.answer_parts.Given as goal

abbrev pub invariant-loop-count : goal.invariant-loop-count
invariant-loop-count g l = record {
  same : SameShelf (g.S.Shelf.known l.fn.shelf) (g.S.Shelf.known l.shelf) (g.S.Shelf.serves l.fn.shelf)
      (g.S.Shelf.serves l.shelf);
  later : g.S.Shelf.faults l.fn.shelf ≤ g.S.Shelf.faults l.shelf;
  asked :
      (g.S.Shelf.asked l.shelf ≡ g.S.Shelf.asked l.fn.shelf)
      ⊎ AskForEach (l.name ∷ []) (g.S.Shelf.asked l.fn.shelf) (g.S.Shelf.asked l.shelf);
  part : length l.part ≡ 65536;
  fed : IfSome (g.S.Shelf.known l.fn.shelf l.name) (IsFed l.checker l.from);
  good : l.checker.refused ≡ None;
  can : CanAnswer l.question l.checker;
  left : l.from + bytes_left l.checker ≤ bytes_left l.fn.checker;
  basin : l.checker.basin ≡ l.fn.checker.basin;
  series : l.checker.series ≡ l.fn.checker.series;
}

abbrev pub decreases-loop-count : goal.decreases-loop-count
decreases-loop-count g l = bytes_left l.checker

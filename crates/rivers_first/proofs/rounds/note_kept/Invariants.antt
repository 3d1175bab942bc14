use Rattle.rivers_first.proofs.Kept.{IsNoting}
use Rattle.rivers_first.proofs.rounds.note_kept.Given as goal

abbrev pub invariant-loop-right : goal.invariant-loop-right
invariant-loop-right l = IsNoting l.basin l.want l.flow l.right l.kept

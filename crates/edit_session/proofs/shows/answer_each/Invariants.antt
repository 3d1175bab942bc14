use Rattle.std.proofs.Common.{◌≡◌, ◌≤◌, drop, length}
use Rattle.edit_session.proofs.Playing.{IsPlayed}
use Rattle.edit_session.proofs.shows.answer_each.Given as goal

abbrev pub invariant-loop-edit : goal.invariant-loop-edit
invariant-loop-edit g l = record {
  basin : l.session.basin ≡ l.fn.session.basin;
  played : IsPlayed g.K.Sink l.fn.session.basin l.fn.session.series l.session.series l.edits
      (drop l.edit-index l.edits) l.fn.out l.out (length l.fn.session.kept) (length l.session.kept) l.fn.work l.work;
  later : g.K.Sink.faults l.fn.out ≤ g.K.Sink.faults l.out;
}

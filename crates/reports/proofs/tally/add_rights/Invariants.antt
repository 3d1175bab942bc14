use Rattle.std.proofs.Common.{ℕ, ◌≡◌, ◌<◌, ◌≤◌, List, [], ◌∷◌, ◌++◌, length, Some}
use Rattle.std.specs.Prelude.{slice_get}
use Rattle.water_model.specs.declared.types.MonthRecord.{MonthRecord}
use Rattle.reports.specs.Tallies.{figures_of}
use Rattle.reports.proofs.tally.add_rights.Given as goal

abbrev pub invariant-loop-right : goal.invariant-loop-right
invariant-loop-right l = record {
  count : length l.rights ≡ length l.fn.rights;
  done : (records : List MonthRecord) (k : ℕ) → k < l.right → slice_get l.fn.rights k ≡ Some (figures_of records k) →
      slice_get l.rights k ≡ Some (figures_of (records ++ l.month ∷ []) k);
  rest : (k : ℕ) → l.right ≤ k → slice_get l.rights k ≡ slice_get l.fn.rights k;
}

use Rattle.std.proofs.Common.{◌≡◌, ℕ, ◌+◌, ◌<◌, ◌≤◌, slice_index}
use Rattle.senior_hold.proofs.sweep.add_run.Given as goal

abbrev pub invariant-loop-link : goal.invariant-loop-link
invariant-loop-link l = record {
  done : (e : ℕ) → e < l.link → slice_index l.flow e ≡ slice_index l.fn.flow e + slice_index l.run e;
  left : (e : ℕ) → l.link ≤ e → slice_index l.flow e ≡ slice_index l.fn.flow e;
}

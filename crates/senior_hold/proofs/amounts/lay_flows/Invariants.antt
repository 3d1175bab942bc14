use Rattle.std.proofs.Common.{◌≡◌, ℕ, ◌<◌, slice_index}
use Rattle.senior_hold.proofs.amounts.lay_flows.Given as goal

abbrev pub invariant-loop-link : goal.invariant-loop-link
invariant-loop-link l = (e : ℕ) → e < l.link → slice_index l.into e ≡ slice_index l.flow e

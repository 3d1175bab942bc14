use Rattle.std.proofs.Common.{◌≡◌, ℕ, ◌<◌, slice_index}
use Rattle.circulation.specs.Contents.{flow_of}
use Rattle.senior_hold.proofs.amounts.read_links.Given as goal

abbrev pub invariant-loop-link : goal.invariant-loop-link
invariant-loop-link l = (e : ℕ) → e < l.link → slice_index l.into e ≡ flow_of l.circ e

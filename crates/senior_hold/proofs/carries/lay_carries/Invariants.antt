use Rattle.senior_hold.proofs.Dailies.{IsLaying}
use Rattle.senior_hold.proofs.carries.lay_carries.Given as goal

abbrev pub invariant-loop-link : goal.invariant-loop-link
invariant-loop-link l = IsLaying l.basin l.fn.month l.row l.into l.link

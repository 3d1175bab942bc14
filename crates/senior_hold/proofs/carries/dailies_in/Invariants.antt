use Rattle.std.proofs.Common.{◌≡◌, map, take}
use Rattle.senior_hold.specs.Carries.{daily_of_kind}
use Rattle.senior_hold.proofs.carries.dailies_in.Given as goal

abbrev pub invariant-loop-link : goal.invariant-loop-link
invariant-loop-link l = l.row.items ≡ map (λ x. daily_of_kind x.carry l.position) (take l.link-index l.basin.links)

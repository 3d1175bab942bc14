use Rattle.std.proofs.Common.{◌≡◌, map, take}
use Rattle.cut_cert.proofs.rows.tails_of.Given as goal

abbrev pub invariant-loop-link : goal.invariant-loop-link
invariant-loop-link l = l.tails.items ≡ map (λ k. k.from) (take l.link-index l.link-items)

use Rattle.std.proofs.Common.{◌≡◌, map, take}
use Rattle.month_terms.proofs.evaporation.tables_of.Given as goal

abbrev pub invariant-loop-reservoir : goal.invariant-loop-reservoir
invariant-loop-reservoir l = l.tables.items ≡ map (λ v. v.area) (take l.reservoir-index l.reservoir-items)

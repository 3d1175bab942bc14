use Rattle.std.proofs.Common.{◌≡◌, ℕ, List, ◌++◌, Some, rules}
use Rattle.water_edge.specs.Edge.{Extends}
use Rattle.water_edge.proofs.Outputs.{IsKnownPrefix-same}
use Rattle.memory_edge.proofs.memory.MemorySinkSink.put.Goals as goal

-- a sink that keeps nothing back takes a piece
memory_extends : (old new piece : List ℕ) → new ≡ old ++ piece →
    Extends (record { taken = Some old; flushed = Some old }) (record { taken = Some new; flushed = Some new }) piece
memory_extends old new piece is = record {
  taken = is;
  passes = record { later = (piece, is); within = λ _. IsKnownPrefix-same (Some new) };
}

pub returns-then-bytes-self-clause-bytes : goal.returns-then-bytes-self-clause-bytes
returns-then-bytes-self-clause-bytes c = (0, search rules, memory_extends _ _ _ (search rules))

pub returns-clause-bytes : goal.returns-clause-bytes
returns-clause-bytes c = memory_extends _ _ _ (search rules)

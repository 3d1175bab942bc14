use Rattle.std.proofs.Common.{◌≡◌, ℕ, List, ◌++◌, Some, rules}
use Rattle.water_edge.specs.Edge.{Extends}
use Rattle.water_edge.proofs.Outputs.{IsKnownPrefix-same}
use Rattle.basin_cli.proofs.draft.DraftSink.put.Goals as goal

-- a sink that keeps nothing back takes a piece
draft_extends : (old new piece : List ℕ) → new ≡ old ++ piece →
    Extends (record { taken = Some old; flushed = Some old }) (record { taken = Some new; flushed = Some new }) piece
draft_extends old new piece is = record {
  taken = is;
  passes = record { later = (piece, is); within = λ _. IsKnownPrefix-same (Some new) };
}

pub returns-in-Ok-clause-bytes : goal.returns-in-Ok-clause-bytes
returns-in-Ok-clause-bytes c = draft_extends _ _ _ (search rules)

-- A text that grows in memory.
use Rattle.std.specs.Prelude.{Some}
use Rattle.water_edge.specs.Edge.{Output}
use Rattle.basin_cli.specs.declared.draft.Draft.{Draft}

-- it keeps nothing back
abbrev pub draft_output : Draft → Output
draft_output draft = record { taken = Some draft.bytes.items; flushed = Some draft.bytes.items }

use Rattle.std.proofs.Common.{◌≡◌, ℕ, ◌+◌, ◌<◌, get_or, length}
use Rattle.std.specs.Prelude.{codes, false}
use Rattle.std.specs.Option.{option_map_or}
use Rattle.toml.specs.Data.{get_member}
use Rattle.toml.specs.View.{table_view}
use Rattle.basin_file.specs.Spelled.{lists_month}
use Rattle.basin_file.proofs.parts.shut_at.Given as goal

abbrev pub invariant-loop-i : goal.invariant-loop-i
invariant-loop-i l = (length l.shut ≡ 12)
    × ((k : ℕ) → k < l.i →
    get_or l.shut k false ≡ option_map_or (lists_month (k + 1)) (get_member (codes "closed") (table_view l.row))
    false)

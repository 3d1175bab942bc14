use Rattle.std.proofs.Common.{◌≡◌, ℕ, ◌<◌, get_or, length}
use Rattle.toml.specs.Data.{get_member}
use Rattle.toml.specs.View.{table_view}
use Rattle.toml_tree.specs.Values.{month_number}
use Rattle.toml_tree.proofs.values.monthly_at.Given as goal

abbrev pub invariant-loop-i : goal.invariant-loop-i
invariant-loop-i l = (length l.months ≡ 12) ×
    ((k : ℕ) → k < l.i → get_or l.months k 0 ≡ month_number l.most (get_member l.key (table_view l.row)) k)

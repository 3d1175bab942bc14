use Rattle.std.proofs.Common.{◌+◌, arith}
use Rattle.std.specs.Prelude.{codes, false}
use Rattle.std.specs.Option.{option_map_or}
use Rattle.std.proofs.lemmas.List.FromFn.{fill_by_all}
use Rattle.toml.specs.Data.{get_member}
use Rattle.toml.specs.View.{table_view}
use Rattle.basin_file.specs.Spelled.{lists_month, shut_of}
use Rattle.basin_file.proofs.parts.shut_at.Goals as goal

pub returns : goal.returns
unfolding shut_of
returns c =
    fill_by_all
    (λ i. option_map_or (lists_month (i + 1)) (get_member (codes "closed") (table_view c.args.row.now)) false)
    c.loop-i.shut 12 false c.loop-i.invariant.0
    (λ k h. c.loop-i.invariant.1 k (omega arith))

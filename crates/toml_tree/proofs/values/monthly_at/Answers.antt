use Rattle.std.proofs.Common.{arith}
use Rattle.std.proofs.lemmas.List.FromFn.{fill_by_all}
use Rattle.toml.specs.Data.{get_member}
use Rattle.toml.specs.View.{table_view}
use Rattle.toml_tree.specs.Values.{month_number, monthly_of}
use Rattle.toml_tree.proofs.values.monthly_at.Goals as goal

pub returns : goal.returns
unfolding monthly_of
returns c =
    fill_by_all (month_number c.args.most (get_member c.args.key.now (table_view c.args.row.now))) c.loop-i.months 12 0
    c.loop-i.invariant.0 (λ k h. c.loop-i.invariant.1 k (omega arith))

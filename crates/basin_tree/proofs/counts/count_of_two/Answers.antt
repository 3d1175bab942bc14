use Rattle.std.proofs.Common.{rules}
use Rattle.toml_tree.proofs.ItemLaws.{items_len-view}
use Rattle.basin_tree.proofs.counts.count_of_two.Goals as goal

pub returns : goal.returns
returns c = rw (items_len-view c.args.items.now, items_len-view c.args.others.now) (search rules)

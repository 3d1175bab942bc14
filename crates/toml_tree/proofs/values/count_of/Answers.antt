use Rattle.std.proofs.Common.{rules}
use Rattle.toml_tree.proofs.ItemLaws.{items_len-view}
use Rattle.toml_tree.proofs.values.count_of.Goals as goal

pub returns : goal.returns
returns c = rw (items_len-view c.args.items.now) (search rules)

use Rattle.toml_tree.proofs.IndexLaws.{item_got}
use Rattle.toml_tree.proofs.values.item_at.Goals as goal

pub returns : goal.returns
returns c = item_got c.get.result c.args.at c.args.items.now c.get.ensures.lookup.1 c.get.ensures.lookup.3

-- The tree of a document.
use Rattle.toml.specs.Data.{Members}
use Rattle.toml.specs.View.{table_view}
use Rattle.basin_tree.specs.declared.document.Document.{Document}

-- its top table, as plain data
abbrev pub tree_of : Document → Members
tree_of document = table_view document.tree.now

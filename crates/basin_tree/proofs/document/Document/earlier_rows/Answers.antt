use Rattle.std.proofs.Common.{◌≡◌, slice_index, ◌∙◌, rules}
use Rattle.toml_tree.proofs.IndexLaws.{earlier_is}
use Rattle.basin_tree.proofs.document.Document.earlier_rows.Goals as goal

pub returns : goal.returns
returns c =
    let read : c.unwrap_or.result ≡ slice_index c.args.self.now.earlier.items c.args.index = search rules in
    read ∙ earlier_is _ c.args.self.now.earlier.items c.args.index c.args.self.now.earlier_kept

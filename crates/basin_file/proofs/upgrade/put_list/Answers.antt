use Rattle.std.proofs.Common.{◌≡◌, ◌∙◌, ap, sym, subst, false, length}
use Rattle.std.specs.Prelude.{◌==◌, OnOk}
use Rattle.toml.specs.Data.{Members}
use Rattle.toml.specs.View.{table_view}
use Rattle.toml.proofs.Views.{view-Array}
use Rattle.basin_file.specs.Upgraded.{with_member}
use Rattle.basin_file.proofs.Fields.{listed-put}
use Rattle.basin_file.proofs.upgrade.put_list.Goals as goal

pub returns : goal.returns
returns c =
    subst (λ (ms : Members). OnOk c.put.result (table_view c.put.new.row ≡ ms))
    (ap (λ d. with_member c.args.key.now d (table_view c.args.row.now)) (view-Array c.args.list)
    ∙ listed-put c.args.key.now c.args.list.items (table_view c.args.row.now) some)
    c.put.ensures
  where
    some : (length c.args.list.items == 0) ≡ false
    some = ap (λ xs. length xs == 0) (sym c.as_slice.ensures.value) ∙ (sym c.is_empty.ensures ∙ c.if-is_empty.false)

use Rattle.std.proofs.Common.{◌∙◌, ap}
use Rattle.toml.specs.View.{members_view, view}
use Rattle.basin_file.specs.Upgraded.{with_member}
use Rattle.basin_file.proofs.Fields.{view-insert}
use Rattle.basin_file.proofs.upgrade.put.Goals as goal

pub returns : goal.returns
returns c =
    ap members_view c.in_ok-insert.ensures.entries
    ∙ (view-insert c.in_ok-name.name c.args.value c.args.row.now.entries
    ∙ ap (λ key. with_member key (view c.args.value) (members_view c.args.row.now.entries)) c.in_ok-name.ensures.ok)

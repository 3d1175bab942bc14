use Rattle.std.proofs.Common.{rules, [], ◌∷◌}
use Rattle.std.specs.Prelude.{string_bytes}
use Rattle.basin_cli.specs.declared.ending.File.TheVariants as file
use Rattle.basin_cli.specs.declared.status.Status.TheVariants as its
use Rattle.basin_cli.proofs.Failing.{asks_one, stops_at}
use Rattle.basin_cli.proofs.Upgraded.{upgrade_writes}
use Rattle.basin_cli.proofs.upgrading.do_upgrade.Goals as goal

pub returns-in-Err : goal.returns-in-Err
returns-in-Err g c = λ done.
    (let asked =
    stops_at (λ file. c.args.name.now ∷ []) _ _ file.Basin c.in-Err.ending c.in-Err.ensures.at
    (asks_one _ _ _ c.read_basin_file.ensures.asked) in
    search rules)

pub returns-in-Ok-put_whole : goal.returns-in-Ok-put_whole
returns-in-Ok-put_whole g c = λ done.
    (let writes =
    upgrade_writes (g.S.Shelf.known c.args.shelf.now) c.args.name.now c.in-Ok.basin
    (string_bytes c.in-Ok-upgraded.text) its.Done _ _ c.in-Ok.ensures.text c.in-Ok-upgraded.ensures.table
    c.in-Ok-upgraded.ensures.spells c.in-Ok-upgraded.ensures.sound
    (rw c.as_bytes.ensures.value at c.in-Ok-put_whole.ensures.text) in
    search rules)

pub returns : goal.returns
returns g c = λ done.
    (let put = rw c.as_bytes.ensures.value at c.in-Err-put_whole.ensures.text in
    let writes =
    upgrade_writes (g.S.Shelf.known c.args.shelf.now) c.args.name.now c.in-Ok.basin
    (string_bytes c.in-Ok-upgraded.text) its.WriteFault _ _ c.in-Ok.ensures.text c.in-Ok-upgraded.ensures.table
    c.in-Ok-upgraded.ensures.spells c.in-Ok-upgraded.ensures.sound (put.0, put.2) in
    search rules)

use Rattle.std.proofs.Common.{◌∙◌, ◌++◌, ap, sym, subst}
use Rattle.std.specs.Str.{IsAscii}
use Rattle.water_text.specs.Months.{month_digits}
use Rattle.basin_file.proofs.Values.{month_ascii}
use Rattle.basin_file.proofs.upgrade.put_month.Goals as goal

pub put_text-requires : goal.put_text-requires
put_text-requires c =
    subst IsAscii
    (sym (c.bytes.ensures ∙ (c.put_into.ensures.text ∙ ap (λ text. text ++ month_digits c.args.month)
    c.new-line.ensures)))
    (month_ascii c.args.month c.requires)

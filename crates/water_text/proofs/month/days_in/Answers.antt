use Rattle.std.proofs.Common.{◌≡◌, ◌∙◌, refl, pos, arith, sym, FitsSigned, w8}
use Rattle.std.proofs.lemmas.Int.{ints, to_z-of_z}
use Rattle.jiff_core.specs.Calendar.{days_in_month}
use Rattle.water_text.proofs.DayNumbers.{days_in-days_in_month, days_in_month-le}
use Rattle.water_text.proofs.month.days_in.Goals as goal

pub returns-clause-value : goal.returns-clause-value
returns-clause-value c =
    let d = c.date.ensures in
    let e = c.days_in_month.ensures in
    let year : c.date.result.year ≡ pos c.args.year = omega (arith, ints, d.0) in
    let month : c.date.result.month ≡ c.args.month = omega (arith, ints, d.1) in
    let days : c.days_in_month.result ≡ pos (days_in_month (pos c.args.year) c.args.month) =
    e ∙ rw (year, month) refl in
    let most = days_in_month-le (pos c.args.year) c.args.month in
    let fits : FitsSigned w8 (pos (days_in_month (pos c.args.year) c.args.month)) = omega (arith, ints, most) in
    rw (days, to_z-of_z w8 (pos (days_in_month (pos c.args.year) c.args.month)) fits)
    (sym (days_in-days_in_month c.args.year c.args.month c.requires.low c.requires.high))

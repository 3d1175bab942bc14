use Rattle.std.proofs.Common.{refl}
use Rattle.std.proofs.lemmas.Option.{get_or_from_slice_get}
use Rattle.reports.proofs.Growth.{figures_more}
use Rattle.reports.proofs.figures.RightFigures.with_month.Goals as goal

pub returns : goal.returns
returns c = λ records is.
    let m = c.args.month.now in
    let r = c.args.right in
    let want = get_or_from_slice_get m.want r c.index-want.result.now 0 c.index-want.ensures in
    let given = get_or_from_slice_get m.delivered r c.index-delivered.result.now 0 c.index-delivered.ensures in
    rw (
      figures_more records m r c.args.self.now is,
      want,
      given,
      c.short_after.ensures,
      c.max.ensures,
      c.worst_after.ensures,
      c.saturating_sub-shortage.ensures,
    ) refl

use Rattle.std.proofs.Common.{slice_index, sym, ◌∙◌}
use Rattle.std.proofs.lemmas.Bool.{ltb-true}
use Rattle.basin_cli.proofs.Explained.{short_explained}
use Rattle.basin_cli.proofs.explaining.put_answer.Goals as goal

pub returns-then-is_short-clause-text : goal.returns-then-is_short-clause-text
returns-then-is_short-clause-text g c =
    let known = c.put_account.ensures.text in (
      known.0,
      short_explained c.args.account c.args.basin.now c.args.month.now c.args.right known.0
          (ltb-true (slice_index c.args.month.now.delivered c.args.right)
          (slice_index c.args.month.now.want c.args.right) (sym c.is_short.ensures ∙ c.if-is_short.true))
          known.1,
      known.2,
    )

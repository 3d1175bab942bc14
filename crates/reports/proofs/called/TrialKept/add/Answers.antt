use Rattle.std.proofs.Common.{arith, length-append, [], ◌∷◌}
use Rattle.std.proofs.lemmas.List.Sums.{sum_by_push}
use Rattle.water_model.proofs.Histories.{last_follows}
use Rattle.reports.specs.Figures.{called_in}
use Rattle.reports.proofs.Room.{called_room}
use Rattle.reports.proofs.called.TrialKept.add.Goals as goal

pub called_in-requires-clause-month : goal.called_in-requires-clause-month
called_in-requires-clause-month c =
    let next = c.requires.next in
    (last_follows c.args.basin.now c.args.series.now next.records c.args.month.now next.partial).after.fits

pub overflow_add-self : goal.overflow_add-self
overflow_add-self c =
    let next = c.requires.next in
    omega (
      arith,
      called_room c.args.basin.now next.records c.args.month.now c.requires.basin
          (omega (arith, next.partial.within, length-append next.records (c.args.month.now ∷ []))),
      next.is.called,
      c.called_in.ensures.value,
    )

pub returns : goal.returns
returns c = λ records is. record {
  tally = c.add.ensures records is.tally;
  called = omega (
    arith,
    is.called,
    c.called_in.ensures.value,
    sum_by_push (λ m. called_in c.args.basin.now m) records
        c.args.month.now,
  );
}

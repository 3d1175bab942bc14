use Rattle.std.proofs.Common.{◌∙◌, sym, arith, length-append, [], ◌∷◌, ◌++◌}
use Rattle.water_model.proofs.Histories.{last_follows}
use Rattle.reports.specs.Tallies.{figures_of}
use Rattle.reports.proofs.Rights.{entry_is, entry_at, entries_count, list_is}
use Rattle.reports.proofs.Room.{right_room, month_room}
use Rattle.reports.proofs.tally.TallyKept.add.Goals as goal

pub add_rights-requires-clause-want : goal.add_rights-requires-clause-want
add_rights-requires-clause-want c =
    let next = c.requires.next in
    let follows = last_follows c.args.basin.now c.args.series.now next.records c.args.month.now next.partial in
    follows.after.fits.want
    ∙ sym (entries_count (figures_of next.records) c.args.basin.now.rights c.args.self.now.rights next.is.rights)

pub add_rights-requires-clause-delivered : goal.add_rights-requires-clause-delivered
add_rights-requires-clause-delivered c =
    let next = c.requires.next in
    let follows = last_follows c.args.basin.now c.args.series.now next.records c.args.month.now next.partial in
    follows.after.fits.delivered
    ∙ sym (entries_count (figures_of next.records) c.args.basin.now.rights c.args.self.now.rights next.is.rights)

pub add_rights-requires-clause-room : goal.add_rights-requires-clause-room
add_rights-requires-clause-room c = λ right figures at.
    let next = c.requires.next in
    let at_row =
    entry_at (figures_of next.records) c.args.basin.now.rights c.args.self.now.rights right figures
    next.is.rights at in
    right_room c.args.basin.now c.args.series.now next.records c.args.month.now right figures c.requires.basin
    c.requires.series next.partial at_row.0 at_row.1

pub with_month-self-requires-clause-index : goal.with_month-self-requires-clause-index
with_month-self-requires-clause-index c =
    let next = c.requires.next in
    let follows = last_follows c.args.basin.now c.args.series.now next.records c.args.month.now next.partial in
    omega (arith, follows.after.index, next.partial.within, length-append next.records (c.args.month.now ∷ []))

pub with_month-self-requires-clause-fits : goal.with_month-self-requires-clause-fits
with_month-self-requires-clause-fits c =
    let next = c.requires.next in
    (last_follows c.args.basin.now c.args.series.now next.records c.args.month.now next.partial).after.fits

pub with_month-self-requires-clause-room : goal.with_month-self-requires-clause-room
with_month-self-requires-clause-room c =
    let next = c.requires.next in
    month_room c.args.basin.now c.args.series.now next.records c.args.month.now c.args.self.now.waters c.requires.basin
    c.requires.series next.partial next.is.waters

pub returns : goal.returns
returns c = λ records is. record {
  rights = list_is (figures_of (records ++ c.args.month.now ∷ [])) c.args.basin.now.rights c.add_rights.new.rights
      (c.add_rights.ensures.count ∙ entries_count (figures_of records) c.args.basin.now.rights c.args.self.now.rights
      is.rights)
      (λ k l. c.add_rights.ensures.each records k
      (entry_is (figures_of records) c.args.basin.now.rights c.args.self.now.rights k is.rights l));
  waters = c.with_month-self.ensures records is.waters;
}

use Rattle.std.proofs.Common.{List, subst}
use Rattle.std.specs.List.{flat_map}
use Rattle.water_edge.specs.Edge.{Puts}
use Rattle.cut_book.specs.Entries.{whole_line}
use Rattle.cut_book.specs.Shortages.{ShortageView, shortage}
use Rattle.cut_book.specs.declared.entry.BookLine.{BookLine}
use Rattle.cut_book.proofs.Adding.{account_lines}
use Rattle.cut_book.proofs.writer.put_account.Goals as goal

pub returns-clause-text : goal.returns-clause-text
returns-clause-text g c =
    let s : ShortageView = shortage c.args.basin.now c.args.roll.now c.args.month.now c.args.cuts.now c.args.right in
    subst (λ (lines : List BookLine). Puts (g.K.Sink.output c.args.sink.now) (g.K.Sink.output c.put_listing.new.sink)
    c.put_listing.result (flat_map (whole_line s.basin) lines))
    (account_lines s c.sum-sum.result c.sum-sum.ensures c.requires.tight) c.put_listing.ensures.text

pub put_listing-requires-clause-basin : goal.put_listing-requires-clause-basin
put_listing-requires-clause-basin g c = c.requires.basin

pub put_listing-requires-clause-roll : goal.put_listing-requires-clause-roll
put_listing-requires-clause-roll g c = c.requires.roll

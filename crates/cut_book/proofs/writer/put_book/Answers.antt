use Rattle.std.proofs.Common.{List, ◌∷◌, subst}
use Rattle.std.specs.List.{flat_map}
use Rattle.water_edge.specs.Edge.{Puts}
use Rattle.cut_cert.specs.Sets.{cut_at}
use Rattle.cut_book.specs.Book.{account}
use Rattle.cut_book.specs.Entries.{whole_line}
use Rattle.cut_book.specs.Shortages.{ShortageView, shortage}
use Rattle.cut_book.specs.declared.entry.BookLine.{BookLine}
use Rattle.cut_book.proofs.Adding.{account_lines}
use Rattle.cut_book.proofs.writer.put_book.Goals as goal

pub returns-clause-text : goal.returns-clause-text
returns-clause-text g c =
    let b = c.args.basin.now in
    let m = c.args.month.now in
    let old = g.K.Sink.output c.args.sink.now in
    let new = g.K.Sink.output c.put_listing.new.sink in
    let s : ShortageView = shortage b c.args.roll.now m m.cuts c.args.right in
    subst (λ (why : BookLine). Puts old new c.put_listing.result
    (flat_map (whole_line b) (why ∷ account b m c.args.right (cut_at m.cuts c.args.right)))) c.why-why.ensures.value
    (subst (λ (lines : List BookLine). Puts old new c.put_listing.result
    (flat_map (whole_line b) (c.why-why.result ∷ lines)))
    (account_lines s c.sum-sum.result c.sum-sum.ensures c.requires.tight) c.put_listing.ensures.text)

pub put_listing-requires-clause-basin : goal.put_listing-requires-clause-basin
put_listing-requires-clause-basin g c = c.requires.basin

pub put_listing-requires-clause-roll : goal.put_listing-requires-clause-roll
put_listing-requires-clause-roll g c = c.requires.roll

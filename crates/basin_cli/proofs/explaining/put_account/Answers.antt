use Rattle.cut_book.specs.Book.{book_bytes}
use Rattle.cut_cert.specs.Sets.{cut_at}
use Rattle.basin_cli.proofs.Explained.{reach_explained}
use Rattle.basin_cli.proofs.explaining.put_account.Goals as goal

pub returns-in-Reach-clause-text : goal.returns-in-Reach-clause-text
returns-in-Reach-clause-text g c = (
  book_bytes c.args.basin.now c.args.month.now c.args.right (cut_at c.args.month.now.cuts c.args.right),
  rw c.in-Reach.is (reach_explained c.args.basin.now c.args.month.now c.args.right c.requires.can.reaches
      c.requires.can.within c.requires.short),
  c.put_book.ensures.text,
)

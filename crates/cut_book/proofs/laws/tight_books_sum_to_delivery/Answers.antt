use Rattle.cut_book.proofs.Adding.{tight_books_sum_to_delivery}
use Rattle.cut_book.proofs.laws.tight_books_sum_to_delivery.Goals as goal

pub returns : goal.returns
returns c = tight_books_sum_to_delivery

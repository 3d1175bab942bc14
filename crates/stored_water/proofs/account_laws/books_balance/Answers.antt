use Rattle.stored_water.proofs.Accounting.{books_balance}
use Rattle.stored_water.proofs.account_laws.books_balance.Goals as goal

pub returns : goal.returns
returns c = books_balance

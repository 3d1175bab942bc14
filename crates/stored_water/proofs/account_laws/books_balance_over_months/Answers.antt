use Rattle.stored_water.proofs.Ledgers.{books_balance_over_months}
use Rattle.stored_water.proofs.account_laws.books_balance_over_months.Goals as goal

pub returns : goal.returns
returns c = books_balance_over_months

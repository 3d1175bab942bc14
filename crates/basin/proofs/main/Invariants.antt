use Rattle.basin.proofs.main.Given as goal

abbrev pub ghosts-run-P-Ledger : goal.ghosts-run-P-Ledger
ghosts-run-P-Ledger a = record { name = a.pushes.name; parts = a.pushes.parts }

abbrev pub ghosts-run-M-Ledger : goal.ghosts-run-M-Ledger
ghosts-run-M-Ledger a = record { name = a.months.name; parts = a.months.parts }

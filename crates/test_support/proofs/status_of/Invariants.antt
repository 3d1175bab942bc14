use Rattle.test_support.proofs.status_of.Given as goal

abbrev pub ghosts-call_over-P-Ledger : goal.ghosts-call_over-P-Ledger
ghosts-call_over-P-Ledger g a = record { name = a.pushes.name; parts = a.pushes.parts }

abbrev pub ghosts-call_over-M-Ledger : goal.ghosts-call_over-M-Ledger
ghosts-call_over-M-Ledger g a = record { name = a.months.name; parts = a.months.parts }

use Rattle.tests_basins.proofs.resumed.go_on_alone.Given as goal

abbrev pub ghosts-go_on-P-Ledger : goal.ghosts-go_on-P-Ledger
ghosts-go_on-P-Ledger g a = record { name = a.pushes.name; parts = a.pushes.parts }

abbrev pub ghosts-go_on-M-Ledger : goal.ghosts-go_on-M-Ledger
ghosts-go_on-M-Ledger g a = record { name = a.months.name; parts = a.months.parts }

use Rattle.tests_trials.proofs.reported.reports_generated_basins.Given as goal

abbrev pub ghosts-compare_made-P-Ledger : goal.ghosts-compare_made-P-Ledger
ghosts-compare_made-P-Ledger g a = record { name = a.pushes.name; parts = a.pushes.parts }

abbrev pub ghosts-compare_made-M-Ledger : goal.ghosts-compare_made-M-Ledger
ghosts-compare_made-M-Ledger g a = record { name = a.months.name; parts = a.months.parts }

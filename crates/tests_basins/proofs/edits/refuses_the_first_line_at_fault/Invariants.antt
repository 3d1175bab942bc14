use Rattle.tests_basins.proofs.edits.refuses_the_first_line_at_fault.Given as goal

abbrev pub ghosts-answered-P-Ledger : goal.ghosts-answered-P-Ledger
ghosts-answered-P-Ledger g a = record { name = a.pushes.name; parts = a.pushes.parts }

abbrev pub ghosts-answered-M-Ledger : goal.ghosts-answered-M-Ledger
ghosts-answered-M-Ledger g a = record { name = a.months.name; parts = a.months.parts }

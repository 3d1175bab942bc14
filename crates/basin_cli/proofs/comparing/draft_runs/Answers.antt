use Rattle.std.proofs.Common.{◌∙◌, sym}
use Rattle.basin_cli.proofs.Compared.{none_compared, whole_comparison}
use Rattle.basin_cli.proofs.comparing.draft_runs.Goals as goal

pub compare_months-requires-clause-compared : goal.compare_months-requires-clause-compared
compare_months-requires-clause-compared g c =
    none_compared _ _ _ _ _ c.requires.first.0 c.requires.second.0 c.requires.first.1 c.requires.second.1
    c.requires.empty

pub returns-clause-text : goal.returns-clause-text
returns-clause-text g c =
    let months = c.in_ok-injured.ensures in
    whole_comparison _ _ _ _ c.compare_months.new.first c.compare_months.new.second _ _ _
    months.series months.other_series months.done
    (months.abreast ∙ (months.done ∙ sym c.requires.months)) months.compared
    (rw c.requires.pairing at c.in_ok-draft_counts.ensures)

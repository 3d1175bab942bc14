use Rattle.std.proofs.Common.{refl, subst, sym, List, ℕ, Option}
use Rattle.std.proofs.lemmas.Result.{err_from_is_err_and}
use Rattle.std.specs.Prelude.{IfSome}
use Rattle.basin_cli.specs.Command.{named}
use Rattle.basin_cli.specs.Failed.{IsAt, pair_to}
use Rattle.basin_cli.specs.Series.{IsBasinText}
use Rattle.basin_cli.specs.declared.ending.File.TheVariants as file
use Rattle.basin_cli.proofs.Failing.{asks_one, asks_then, stops_at}
use Rattle.basin_cli.proofs.Stops.{other_run}
use Rattle.basin_cli.proofs.pairs.read_basins.Goals as goal

pub returns-in_err-match_months-clause-stops : goal.returns-in_err-match_months-clause-stops
returns-in_err-match_months-clause-stops g c =
    let p = err_from_is_err_and c.from_residual-in_err-match_months.result
    c.from_residual-in_err-match_months.ensures.1 in
    rw (p.1, p.2)
    (other_run (named c.args.inputs) c.args.second.now (g.S.Shelf.known c.args.shelf.now) _ c.in_ok-basin.basin
    c.in_ok-other.other
    c.in_ok-basin.ensures.text
    (subst (λ (o : Option (List ℕ)). IfSome o (IsBasinText c.in_ok-other.other))
    (c.in_ok-basin.ensures.same.known c.args.second.now)
    c.in_ok-other.ensures.text) c.in_err-match_months.field-0.0 c.in_err-match_months.ensures)

pub returns-in_err-basin-clause-up_to : goal.returns-in_err-basin-clause-up_to
returns-in_err-basin-clause-up_to g c =
    let p = err_from_is_err_and c.from_residual.result c.from_residual.ensures.1 in
    rw (p.1, p.2)
    (stops_at (pair_to (named c.args.inputs) c.args.second.now) _ _ file.Basin c.in_err-basin.field-0.0
    c.in_err-basin.ensures.at (asks_one _ _ _ c.read_basin_file.ensures.asked))

pub returns-in_err-other-clause-up_to : goal.returns-in_err-other-clause-up_to
returns-in_err-other-clause-up_to g c =
    let p = err_from_is_err_and c.from_residual-in_err-other.result c.from_residual-in_err-other.ensures.1 in
    rw (p.1, p.2)
    (stops_at (pair_to (named c.args.inputs) c.args.second.now) _ _ file.SecondBasin c.in_err-other.field-0.0
    c.in_err-other.ensures.at
    (asks_then _ _ _ _ _ (asks_one _ _ _ c.read_basin_file.ensures.asked)
    (asks_one _ _ _ c.read_second.ensures.asked)))

pub returns-in_err-match_months-clause-up_to : goal.returns-in_err-match_months-clause-up_to
returns-in_err-match_months-clause-up_to g c =
    let p = err_from_is_err_and c.from_residual-in_err-match_months.result
    c.from_residual-in_err-match_months.ensures.1 in
    rw (p.1, p.2)
    (stops_at (pair_to (named c.args.inputs) c.args.second.now) _ _ file.SecondBasin
    c.in_err-match_months.field-0.0 (subst (IsAt file.SecondBasin) (sym c.in_err-match_months.ensures.0) refl)
    (asks_then _ _ _ _ _ (asks_one _ _ _ c.read_basin_file.ensures.asked)
    (asks_one _ _ _ c.read_second.ensures.asked)))

pub returns-clause-reads : goal.returns-clause-reads
returns-clause-reads g c =
    asks_then _ _ _ _ _ (asks_one _ _ _ c.read_basin_file.ensures.asked) (asks_one _ _ _ c.read_second.ensures.asked)

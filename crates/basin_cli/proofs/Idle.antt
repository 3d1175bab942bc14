-- Where nothing is solved, no more is solved than a command may.
use Rattle.std.proofs.Common.{List, arith, refl, ℕ}
use Rattle.edit_script.specs.Edits.{cost}
use Rattle.month_fold.specs.Works.{WorkDone}
use Rattle.month_fold.proofs.Works.{Solves-none, Solves-within, SolvesBoth-none, SolvesBoth-within}
use Rattle.basin_cli.specs.Bytes.{KnownFiles, known_series}
use Rattle.basin_cli.specs.Command.{Files}
use Rattle.basin_cli.specs.Comparison.{ComparisonWork}
use Rattle.basin_cli.specs.Edited.{EditWork}
use Rattle.basin_cli.proofs.Known.{of_any}

-- no month is within any number of them
pub compares_none : (known : KnownFiles) (files : Files) (second : List ℕ) (w : WorkDone) →
    ComparisonWork known files second w w
compares_none known files second w = of_any (known files.basin) (λ _. of_any (known second) (λ _ b c _ _.
    SolvesBoth-within 0 b.months b c w w (omega arith) (SolvesBoth-none b c w)))

pub edits_none : (known : KnownFiles) (files : Files) (script : List ℕ) (w : WorkDone) → EditWork known files script w w
edits_none known files script w = of_any (known files.basin) (λ _. of_any (known_series known files.series) (λ _.
    of_any (known script) (λ _ b _ _. record {
      asked = λ edits _. Solves-within 0 (cost edits) b w w (omega arith) (Solves-none b w);
      refused = λ _. refl;
    })))

-- What a checker keeps.
use Rattle.std.specs.Prelude.{ℕ, List}
use Rattle.cert_check.specs.Context.{IsContext}
use Rattle.cert_check.specs.Standing.{CheckerView, CheckerStandsFor}
use Rattle.cert_check.specs.declared.checker.Checker.TheInside.{Inside}

abbrev pub view_of : Inside → CheckerView
view_of c = record {
  basin = c.context.basin.now;
  series = c.context.series.now;
  progress = c.progress;
  refused = c.refused;
}

-- the checker was given some lines
pub record HasGivenLines (c : CheckerView) : Type 0 where
  pub lines : List (List ℕ)
  pub stands : CheckerStandsFor c lines

pub record IsValidChecker (c : Inside) : Type 0 where
  pub context : IsContext c.context
  pub lines : HasGivenLines (view_of c)

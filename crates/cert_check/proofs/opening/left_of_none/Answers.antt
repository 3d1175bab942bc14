use Rattle.std.proofs.Common.{refl, ap, subst, ◌∙◌, [], List, ℕ, length}
use Rattle.std.specs.Prelude.{slice_index}
use Rattle.std.proofs.lemmas.List.{length-map, length-replicate}
use Rattle.lag_returns.specs.Lags as lag
use Rattle.month_terms.proofs.WaterYears.{nothing_used}
use Rattle.cert_check.proofs.opening.left_of_none.Goals as goal
use Rattle.water_model.proofs.Lists.{no_numbers}

pub first_comes-requires-clause-basin : goal.first_comes-requires-clause-basin
first_comes-requires-clause-basin c = c.requires

pub returns : goal.returns
returns c = record {
  done = refl;
  lags = subst (λ rows. lag.LagsStandFor c.in_ok-lags.lags rows []) c.as_slice.ensures c.in_ok-lags.ensures;
  opens = c.in_ok-opens.ensures;
  sized = ap length c.in_ok-opens.ensures ∙ length-map c.args.basin.now.reservoirs (λ v. v.opening);
  comes = c.in_ok-comes.ensures;
  used = nothing_used c.args.basin.now c.in_ok-used.used
      (ap length c.in_ok-used.ensures ∙ (length-replicate c.len.result 0 ∙ c.len.ensures))
      (λ r. ap (λ (xs : List ℕ). slice_index xs r) c.in_ok-used.ensures ∙ no_numbers c.len.result r);
}

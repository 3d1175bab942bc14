use Rattle.std.proofs.Common.{◌∙◌, ℕ, List, ap, length, slice_index}
use Rattle.std.proofs.lemmas.List.{length-replicate}
use Rattle.index_seq.proofs.Running.{sums_start}
use Rattle.index_seq.proofs.months.room_for_traces.Goals as goal
use Rattle.water_model.proofs.Lists.{no_numbers}

pub returns-clause-sums : goal.returns-clause-sums
returns-clause-sums c =
    sums_start c.args.basin.now c.args.series.now c.in_ok-amounts.amounts
    (c.in_ok-amounts.ensures.count ∙ c.len.ensures) c.in_ok-amounts.ensures.empty

pub returns-clause-year : goal.returns-clause-year
returns-clause-year c = record {
  count = ap length c.in_ok-year.ensures ∙ (length-replicate c.len-2.result 0 ∙ c.len-2.ensures);
  zeros = λ r l. ap (λ (xs : List ℕ). slice_index xs r) c.in_ok-year.ensures ∙ no_numbers c.len-2.result r;
}

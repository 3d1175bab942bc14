use Rattle.inflow_file.proofs.Words.{◌≡◌, ◌∙◌, arith, ap, length, rules, columns_from}
use Rattle.inflow_file.proofs.ColumnLaws.{count_of_columns, gauges_are, wants_are}
use Rattle.inflow_file.proofs.GapLaws.{complete_series, missing_found}
use Rattle.inflow_file.proofs.cells.complete.Goals as goal

pub returns-then-gap-amounts : goal.returns-then-gap-amounts
returns-then-gap-amounts c = λ rows is. missing_found c.args.columns.now.basin.now
    rows c.args.amounts.now c.first_gap-gap.result c.missing_at.result is c.if-gap-amounts.true
    c.first_gap-gap.ensures.before (c.first_gap-gap.ensures.here c.if-gap-amounts.true) c.missing_at.ensures

pub part_of-requires-clause-columns : goal.part_of-requires-clause-columns
part_of-requires-clause-columns c =
    let gauges : c.len-gauges.result ≡ length c.in_ok-gauged.gauged.items = search rules in
    let b = c.args.columns.now.basin.now in
    let gauged = c.in_ok-gauged.ensures ∙ ap (columns_from b 0) c.len-nodes.ensures ∙ gauges_are b in
    omega (arith, gauges, ap length gauged, count_of_columns b)

pub part_of-requires-2-clause-columns : goal.part_of-requires-2-clause-columns
part_of-requires-2-clause-columns c =
    let gauges : c.len-gauges.result ≡ length c.in_ok-gauged.gauged.items = search rules in
    let wants : c.len-wants.result ≡ length c.in_ok-wanted.wanted.items = search rules in
    let b = c.args.columns.now.basin.now in
    let gauged = c.in_ok-gauged.ensures ∙ ap (columns_from b 0) c.len-nodes.ensures ∙ gauges_are b in
    let wanted = rw (c.len-nodes.ensures, c.len-rights.ensures) at c.in_ok-wanted.ensures in
    omega (arith, gauges, wants, ap length gauged, ap length (wanted ∙ wants_are b), count_of_columns b)

pub returns : goal.returns
returns c = λ rows is.
    let b = c.args.columns.now.basin.now in
    let gauged = c.in_ok-gauged.ensures ∙ ap (columns_from b 0) c.len-nodes.ensures ∙ gauges_are b in
    let wanted = rw (c.len-nodes.ensures, c.len-rights.ensures) at c.in_ok-wanted.ensures in
    let gauges : c.len-gauges.result ≡ length c.in_ok-gauged.gauged.items = search rules in
    let wants : c.len-wants.result ≡ length c.in_ok-wanted.wanted.items = search rules in
    complete_series b rows c.args.amounts.now _ is
    (record {
      there = λ k l. c.first_gap-gap.ensures.before k (omega arith);
      gauged = c.from_vec.ensures ∙ gauged;
      wanted = c.from_vec-3.ensures ∙ wanted ∙ wants_are b;
      amount = rw (← gauged, ← gauges, c.from_vec-2.ensures) c.in_ok-amount.ensures;
      want = rw (← gauged, ← gauges, ← wants_are b, ← wanted, ← wants, c.from_vec-4.ensures) c.in_ok-want.ensures;
    })

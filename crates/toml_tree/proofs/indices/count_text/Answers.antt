use Rattle.std.proofs.Common.{arith}
use Rattle.toml_tree.proofs.IndexLaws.{counted_more}
use Rattle.toml_tree.proofs.indices.count_text.Goals as goal

pub overflow_add-before : goal.overflow_add-before
overflow_add-before c = omega (arith, c.requires c.in-Some.text.now, c.count_at-before.ensures)

pub returns-in_ok-insert-in-Some-clause-counts : goal.returns-in_ok-insert-in-Some-clause-counts
returns-in_ok-insert-in-Some-clause-counts c =
    rw c.in-Some.is
    (counted_more c.in-Some.text c.args.counts.now c.insert.new.self c.count_at-before.result
    c.in_ok-insert-in-Some.ensures.updates c.count_at-before.ensures)

use Rattle.std.proofs.Common.{List, ℕ, arith, option_and_then}
use Rattle.toml.specs.Data.{get, as_str}
use Rattle.toml.specs.View.{view}
use Rattle.toml.specs.declared.value.Value.{Value}
use Rattle.toml_tree.specs.FirstIndices.{counted}
use Rattle.toml_tree.proofs.IndexLaws.{counts_all, counts_more, earlier_more, texts_view}
use Rattle.toml_tree.proofs.indices.earlier_of.Goals as goal

pub loop-value-preserved : goal.loop-value-preserved
loop-value-preserved c =
    let values = c.args.values.now in
    let i = c.loop-value.value-index in
    let value = c.value-item.result in
    let text = λ (v : Value). option_and_then as_str (get c.args.key.now (view v)) in
    let counts = λ (q : List ℕ). counted c.loop-value.counts q in
    record {
      counts = λ q. counts_more text values i value c.loop-value-test.true c.value-item.is counts q _
          (c.loop-value.invariant.counts q) (c.in_ok-add_earlier.ensures.counts q);
      earlier = earlier_more text values i value c.loop-value-test.true c.value-item.is counts
          c.loop-value.earlier.items c.add_earlier.new.earlier.items _ c.loop-value.invariant.counts
          c.in_ok-add_earlier.ensures.before c.loop-value.invariant.earlier;
    }

pub returns : goal.returns
returns c =
    rw (texts_view c.args.key.now c.args.values.now)
    (counts_all _ _ _ _ c.loop-value.value-index (omega arith) c.loop-value.invariant.earlier)

use Rattle.std.proofs.Common.{◌≡◌, ℕ, List, [], ◌++◌, drop, take, map, count_by, option_and_then}
use Rattle.toml.specs.Data.{get, as_str}
use Rattle.toml.specs.View.{view}
use Rattle.toml_tree.specs.Texts.{is_the_text}
use Rattle.toml_tree.specs.FirstIndices.{counted, earlier_from}
use Rattle.toml_tree.proofs.indices.earlier_of.Given as goal

abbrev pub invariant-loop-value : goal.invariant-loop-value
invariant-loop-value l = record {
  counts : (q : List ℕ) →
      counted l.counts q ≡ count_by (is_the_text q)
      (map (λ v. option_and_then as_str (get l.key (view v))) (take l.value-index l.values));
  earlier : l.earlier.items ++ earlier_from
      (map (λ v. option_and_then as_str (get l.key (view v))) (take l.value-index l.values))
      (map (λ v. option_and_then as_str (get l.key (view v))) (drop l.value-index l.values))
      ≡ earlier_from [] (map (λ v. option_and_then as_str (get l.key (view v))) l.values);
}

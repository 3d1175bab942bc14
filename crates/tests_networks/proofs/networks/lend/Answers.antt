use Rattle.std.proofs.Common.{ℕ, List, take, drop, sym, ap, subst, ◌∙◌}
use Rattle.circulation.specs.Places.{fixed_count, AreWordsOf}
use Rattle.tests_networks.proofs.networks.lend.Goals as goal

pub lend-requires : goal.lend-requires
lend-requires c =
    let circ = c.args.circ.now in
    let count = fixed_count circ.nodes circ.arcs in
    let prefix = c.split_at_mut-fixed.ensures.front ∙ ap (λ (n : ℕ). take n c.args.words.now) c.fixed.ensures in
    let back = c.split_at_mut-fixed.ensures.back ∙ ap (λ (n : ℕ). drop n c.args.words.now) c.fixed.ensures in
    let one =
    subst (λ (xs : List ℕ). AreWordsOf circ c.requires.0 xs (drop count c.args.words.now)) (sym prefix)
    c.requires.1 in (
      c.requires.0,
      subst (λ (xs : List ℕ). AreWordsOf circ c.requires.0 c.split_at_mut-fixed.result.0.now xs) (sym back) one,
    )

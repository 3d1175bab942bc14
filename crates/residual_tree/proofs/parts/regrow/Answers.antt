use Rattle.std.proofs.Common.{ℕ, ◌+◌, arith, subst}
use Rattle.residual_tree.proofs.Frees.{freeing_start}
use Rattle.residual_tree.proofs.Grows.{freed_none}
use Rattle.residual_tree.specs.Repair.{IsFreeing}
use Rattle.residual_tree.proofs.parts.regrow.Goals as goal

pub adopt_or_free-loose-requires-clause-tree : goal.adopt_or_free-loose-requires-clause-tree
adopt_or_free-loose-requires-clause-tree c =
    freeing_start c.split_at_mut-freed.result.0.now c.requires.saturated
    (omega (arith, c.split_at_mut-freed.ensures.front_len, c.nodes-nodes.ensures.number))

pub returns-then-loose-eq0 : goal.returns-then-loose-eq0
returns-then-loose-eq0 c =
    freed_none (subst (λ (n : ℕ). IsFreeing c.args.circ.now c.adopt_or_free-loose.new.labels
    c.adopt_or_free-loose.new.freed (c.args.first + c.args.count) (c.args.first + c.args.count) 0 n)
    c.if-loose-eq0.true c.adopt_or_free-loose.ensures)

pub adopt_or_free-loose-requires-clause-fits : goal.adopt_or_free-loose-requires-clause-fits
adopt_or_free-loose-requires-clause-fits c = c.requires.fits

pub adopt_or_free-loose-requires-clause-arcs : goal.adopt_or_free-loose-requires-clause-arcs
adopt_or_free-loose-requires-clause-arcs c = c.requires.arcs

pub adopt_or_free-loose-requires-clause-kept : goal.adopt_or_free-loose-requires-clause-kept
adopt_or_free-loose-requires-clause-kept c = c.requires.kept

pub free_below-free-requires-clause-kept : goal.free_below-free-requires-clause-kept
free_below-free-requires-clause-kept c = c.requires.kept

pub grow-requires-clause-kept : goal.grow-requires-clause-kept
grow-requires-clause-kept c = c.requires.kept

pub returns : goal.returns
returns c = c.grow.ensures

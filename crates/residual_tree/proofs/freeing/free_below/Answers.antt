use Rattle.std.proofs.Common.{ℕ, ◌≡◌, arith, subst}
use Rattle.residual_tree.specs.Repair.{IsFreeing}
use Rattle.residual_tree.proofs.freeing.free_below.Goals as goal

pub returns : goal.returns
returns c =
    let state = c.loop-done.invariant.1 in
    let all : c.loop-done.done ≡ c.loop-done.count = omega (arith, state.order, c.loop-done-test.false) in (
      c.loop-done.invariant.0,
      subst (λ (n : ℕ). IsFreeing c.args.circ.now c.loop-done.labels c.loop-done.freed c.loop-done.invariant.0
          c.loop-done.invariant.0 n c.loop-done.count) all state,
    )

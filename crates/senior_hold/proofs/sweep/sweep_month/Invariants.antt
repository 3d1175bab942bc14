use Rattle.std.proofs.Common.{◌≡◌, ◌≤◌, ◌+◌, ◌*◌, length}
use Rattle.residual_tree.specs.Tree.{IsResidualTree}
use Rattle.senior_hold.specs.Layouts.{FitsRoom}
use Rattle.senior_hold.specs.MonthNetwork.{arc_count}
use Rattle.senior_hold.specs.Solved.{FitsPlan}
use Rattle.senior_hold.specs.Spilled.{SpillsAreOf}
use Rattle.senior_hold.specs.declared.sweep.Method.{Method}
use Rattle.senior_hold.proofs.Turns.{StandsAt}
use Rattle.senior_hold.proofs.sweep.sweep_month.Given as goal

abbrev pub invariant-loop-turn : goal.invariant-loop-turn
invariant-loop-turn g l = record {
  standing : StandsAt l.givens l.turn l.circ l.cuts;
  tree : l.givens.method ≡ Method.Tree → IsResidualTree l.circ l.tree;
  first : l.turn ≡ 0 → l.circ ≡ l.initial.circ;
  cost : l.givens.method ≡ Method.Tree →
      l.pushes + l.left ≤ l.fn.pushes + 30 * length l.givens.basin.now.rights;
  spills : SpillsAreOf l.givens.basin.now l.givens.method l.circ;
  used : l.givens.method ≡ Method.Tree →
      l.fn.pushes + 30 * length l.givens.basin.now.rights ≤ l.pushes + l.left + l.turn;
  search_cost : l.givens.method ≡ Method.Searches →
      l.pushes ≤ l.fn.pushes + l.turn * (30 * (2 * arc_count l.givens.basin.now + 1));
  room : FitsRoom l.givens.basin.now l.room;
  plan : FitsPlan l.givens.basin.now l.plan;
}

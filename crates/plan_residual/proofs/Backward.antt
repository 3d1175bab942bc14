-- What a search against the steps sees are the nodes from which its first node is reached.
use Rattle.std.proofs.Common.{ℕ, ◌∙◌, ap, length, inl, inr}
use Rattle.std.proofs.lemmas.Bool.{both_ways}
use Rattle.water_model.specs.Lookups.{has}
use Rattle.water_model.specs.declared.types.Basin.{Basin}
use Rattle.water_model.specs.declared.types.MonthRecord.{MonthRecord}
use Rattle.plan_residual.specs.declared.steps.Direction.TheVariants.{ToRight}
use Rattle.plan_residual.specs.Core.{AreUpstream}
use Rattle.plan_residual.specs.Queue.{QueueView, IsEmpty, IsVisit}
use Rattle.plan_residual.specs.Search.{HasGrown, IsClosedAlong}
use Rattle.plan_residual.proofs.Queues.{seen_none}
use Rattle.plan_residual.proofs.Along.{along_from_backward, backward_from_along}

pub found_upstream : {b : Basin} {m : MonthRecord} {r node : ℕ} {none one q : QueueView} →
    IsEmpty (length b.nodes) none → IsVisit none one node → HasGrown b m r ToRight one q →
    IsClosedAlong b m r ToRight q.seen → AreUpstream b m r node q.seen
found_upstream {b = b} {m = m} {r = r} {node = node} {q = q} empty visit grown along = record {
  one_each = grown.count ∙ (visit.count ∙ empty.count);
  holds = grown.extends.kept node visit.on;
  closed = backward_from_along b m r q.seen along;
  least = λ other closed there n h.
      grown.least other (along_from_backward b m r other closed) (λ v saw. elim (visit.only v saw) [
        | inl same ↦ ap (has other) same ∙ there
        | inr old ↦ absurd (both_ways _ (seen_none empty v) old)
      ]) n h;
}

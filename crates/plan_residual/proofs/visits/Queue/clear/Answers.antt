use Rattle.std.proofs.Common.{length, rules, ◌≡◌, ◌∙◌, ap, ℕ, replicate, false, refl}
use Rattle.std.specs.Vec.{vec_len}
use Rattle.plan_residual.proofs.Queues.{queue_none}
use Rattle.plan_residual.proofs.visits.Queue.clear.Goals as goal

pub returns : goal.returns
returns c =
    let now = rw (← c.self.view_is) at c.requires in
    let same : vec_len c.self.inside.seen ≡ length c.self.inside.seen.items = search rules in
    rw (← c.self.view_is) (queue_none (length c.self.inside.seen.items) _
    (c.fill.ensures.items (λ y h. h) ∙ ap (λ (n : ℕ). replicate n false) same) now.sized refl now.bounded)

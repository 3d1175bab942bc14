use Rattle.std.proofs.Common.{ℕ, ◌≡◌, ◌<◌, ◌*◌, Bool, true, false, arith, rules, length, Some}
use Rattle.water_model.proofs.Valid.{ends}
use Rattle.circulation.specs.Residual.{arc_of, is_backward, by_direction, start_of}
use Rattle.rivers_first.specs.Rounds.{links_above, starts_at}
use Rattle.rivers_first.proofs.search.Search.open.Goals as goal

pub returns : goal.returns
returns c =
    let steps = c.in_ok-steps.ensures (starts_at c.args.basin.now) (λ step node l is. search rules) in
    rw (c.len-nodes.ensures, c.len.ensures) at steps

use Rattle.std.proofs.Common.{ℕ, ◌∙◌, ap, Bool, false, true, List, replicate}
use Rattle.std.specs.Prelude.{slice_set}
use Rattle.river_net.proofs.Searches.{search_start}
use Rattle.river_net.proofs.cycle.Search.start.Goals as goal

pub returns-clause-search : goal.returns-clause-search
returns-clause-search c = search_start c.requires
    (ap (λ (xs : List Bool). slice_set xs c.args.node true) (c.in_ok-seen.ensures.items_if_clones_equal (λ y h. h)
    ∙ ap (λ (n : ℕ). replicate {A = Bool} n false) c.nodes.ensures.value)) c.in_ok-queue.ensures.items

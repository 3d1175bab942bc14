use Rattle.std.proofs.Common.{ℕ, List, ◌*◌, length, take, slice_index, arith, ap, ◌∙◌}
use Rattle.circulation.proofs.RowLists.{zeros_small}
use Rattle.circulation.proofs.laying.lay_rows.Goals as goal

pub make_rows-requires-clause-none : goal.make_rows-requires-clause-none
make_rows-requires-clause-none c = λ p.
    let arcs = 2 * length c.args.pairs.now in
    let is = c.split_at_mut-end.ensures.front ∙ ap (take arcs) c.split_at_mut-step.ensures.back in
    let small = zeros_small c.args.rows.now arcs arcs c.requires.none p in
    omega (arith, small, ap (λ (xs : List ℕ). slice_index xs p) is)

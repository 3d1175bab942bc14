-- What leaves a network at a node is no more than its whole supply.
use Rattle.std.proofs.Common.{◌≡◌, ℕ, ◌+◌, ◌<◌, ◌≤◌, ap, subst, arith, length, List}
use Rattle.finite_sums.specs.Sums.{total, when}
use Rattle.finite_sums.proofs.Totals.{total_zero}
use Rattle.water_model.specs.declared.types.Basin.{Basin}
use Rattle.water_model.specs.Valid.{IsValidBasin}
use Rattle.water_model.proofs.Valid.{ends}
use Rattle.circulation.specs.Network.{Network, IsFlow, inflow, outflow, enters}
use Rattle.circulation.proofs.WaysOut.{up_to, none_enters, carries_at_most}
use Rattle.draw_course.specs.Draws.{AreDraws}
use Rattle.draw_course.specs.MonthNetwork.{HasCourseEnds}
use Rattle.draw_course.specs.declared.draws.DrawNodes.{DrawNodes}
use Rattle.draw_course.proofs.Parts.{IsArc, is_link, is_take, is_out, is_draw, arc_is}

-- each arc begins at a node of the basin
pub tail_within : (b : Basin) (draws : List DrawNodes) (w : Network) (a : ℕ) → IsValidBasin b → AreDraws b draws →
    HasCourseEnds b draws w → a < w.arcs → w.from a < length b.nodes
tail_within b draws w a valid are ends_of l = of_arc (arc_is b (length draws) a (let n = ends_of.arcs in omega arith))
  where
    of_arc : IsArc b (length draws) a → w.from a < length b.nodes
    of_arc (is_link k) = let e = (ends b valid a k).0 in let from = ends_of.link_from a k in omega arith
    of_arc (is_take n k e) = subst (λ a. w.from a < length b.nodes) e (let from = ends_of.take_from n k in omega arith)
    of_arc (is_out n k e) = subst (λ a. w.from a < length b.nodes) e (let from = ends_of.out_from n k in omega arith)
    of_arc (is_draw j k e) =
        subst (λ a. w.from a < length b.nodes) e
        (let from = ends_of.draw_from j k in let d = are.diversions j k in omega arith)

-- the same network with bounds that say nothing of the amounts
abbrev loose : Network → (ℕ → ℕ) → Network
loose w g = record w { lower = λ a. 0; upper = g }

-- an arc to the outside carries no more than all supply
pub out_small : (b : Basin) (draws : List DrawNodes) (w : Network) (g : ℕ → ℕ) (a : ℕ) → IsValidBasin b →
    AreDraws b draws → HasCourseEnds b draws w →
    ((v : ℕ) → v < w.nodes → w.supply v + inflow w g v ≡ outflow w g v) → a < w.arcs → w.to a ≡ length b.nodes →
    g a ≤ total (length b.nodes) w.supply
out_small b draws w g a valid are ends_of balanced l outside =
    let v : Network = loose w g in
    let nodes = ends_of.nodes in
    let tail = tail_within b draws w a valid are ends_of l in
    omega (
      arith,
      carries_at_most {w = v} (λ n. 0) a flow l (omega arith) (λ inner. absurd (omega arith)),
      total_zero w.arcs (λ x. when (enters v (up_to v (λ n. 0) (w.from a)) x) (g x)) (λ x k.
          let from = tail_within b draws w x valid are ends_of k in
          none_enters v (λ n. 0) g (w.from a) x (λ inner. (omega arith, omega arith))),
      ap (λ n. total n w.supply) nodes,
    )
  where
    flow : IsFlow (loose w g) g
    flow = record { low = λ x k. omega arith; high = λ x k. omega arith; balanced = balanced }

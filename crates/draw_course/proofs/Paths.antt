-- From each reservoir rivers lead out of the basin, with room in every flow.
use Rattle.std.proofs.Common.{◌≡◌, ℕ, ◌+◌, ◌^◌, ◌<◌, ◌≤◌, Bool, true, false, sym, ◌∙◌, ap}
use Rattle.std.proofs.Common.{arith, length, inl, inr}
use Rattle.std.proofs.lemmas.Bool.{cases_Bool}
use Rattle.std.specs.Prelude.{slice_index, ◌⊎◌}
use Rattle.finite_sums.specs.Sums.{total, when}
use Rattle.finite_sums.proofs.Totals.{total_same, total_zero, total_most}
use Rattle.water_model.specs.Basin.{is_outlet}
use Rattle.water_model.specs.Network.{IsForward, HasRiverOut}
use Rattle.water_model.specs.Valid.{IsValidBasin}
use Rattle.water_model.proofs.Carries.{river_carry}
use Rattle.water_model.proofs.Valid.{ends}
use Rattle.river_net.proofs.Ranks.{ranks}
use Rattle.circulation.specs.Network.{Network, IsFlow, enters}
use Rattle.circulation.proofs.WaysOut.{Rises, LeadsOn, up_to, none_enters, carries_at_most, way_out}
use Rattle.augment.specs.Raised.{HasPathOut}
use Rattle.draw_course.specs.Draws.{MonthDraws, AreDraws}
use Rattle.draw_course.specs.Arcs.{take_arc, out_arc, draw_arc}
use Rattle.draw_course.specs.MonthNetwork.{IsCourseNetwork}
use Rattle.draw_course.proofs.Parts.{arcs_total}
use Rattle.draw_course.proofs.Supplies.{tail_within}

-- a network of little supply, in which draws may have little
pub record IsLittle (m : MonthDraws) (most : ℕ → ℕ) : Type 0 where
  pub valid : IsValidBasin m.basin
  pub draws : AreDraws m.basin m.draws
  pub supply : total (length m.basin.nodes) (λ n. slice_index m.supply n) < 10 ^ 14
  pub small : (k : ℕ) → k < length m.draws → most k ≤ 10 ^ 9

-- an arc that is no draw rises where it leads to a basin node
arc_rises : (m : MonthDraws) (least most : ℕ → ℕ) (rank : ℕ → ℕ) (w : Network) (a : ℕ) → IsLittle m most →
    IsCourseNetwork m least most w → IsForward m.basin.links rank → a < w.arcs →
    (a < length m.basin.links) ⊎ (w.to a ≡ length m.basin.nodes) → Rises w rank a
arc_rises m least most rank w a little net forward l (inl link) inner =
    let from = ap rank (net.ends.link_from a link) in
    let to = ap rank (net.ends.link_to a link) in
    let tail = tail_within m.basin m.draws w a little.valid little.draws net.ends l in
    (omega (arith, tail, net.ends.nodes), omega (arith, from, to, forward.runs a link))
arc_rises m least most rank w a little net forward l (inr out) inner = absurd (omega (arith, inner, out, net.ends.nodes))

-- a link and what leaves the basin carry less than a river can: what comes to the nodes upstream is their supply, and
-- what draws bring
flow_small : (m : MonthDraws) (least most : ℕ → ℕ) (rank : ℕ → ℕ) (w : Network) (g : ℕ → ℕ) (a : ℕ) →
    IsLittle m most → IsCourseNetwork m least most w → IsForward m.basin.links rank → IsFlow w g → a < w.arcs →
    (a < length m.basin.links) ⊎ (w.to a ≡ length m.basin.nodes) → g a < 10 ^ 15
flow_small m least most rank w g a little net forward flow l kind =
    let b = m.basin in
    let count = length m.draws in
    let entering : (x : ℕ) → ℕ = λ x. when (enters w (up_to w rank (w.from a)) x) (g x) in
    let none = λ (x : ℕ) (k : x < w.arcs) (is : (x < length b.links) ⊎ (w.to x ≡ length b.nodes)).
    none_enters w rank g (w.from a) x (λ inner.
    let up = arc_rises m least most rank w x little net forward k is inner in (up.0, omega (arith, up.1))) in
    let arcs = net.ends.arcs in
    let tail = tail_within b m.draws w a little.valid little.draws net.ends l in
    omega (
      arith,
      carries_at_most rank a flow l (omega (arith, tail, net.ends.nodes))
          (arc_rises m least most rank w a little net forward l kind),
      arcs_total b count entering,
      total_zero (length b.links) entering (λ e k. none e (omega arith) (inl k)),
      total_zero (length b.nodes) (λ n. entering (take_arc b n))
          (λ n k. none (take_arc b n) (omega arith) (inr (net.ends.take_to n k))),
      total_zero (length b.nodes) (λ n. entering (out_arc b n))
          (λ n k. none (out_arc b n) (omega arith) (inr (net.ends.out_to n k))),
      total_most count (10 ^ 9) (λ k. entering (draw_arc b k)) (λ k j. omega (
        arith,
        at_most (enters w (up_to w rank (w.from a)) (draw_arc b k)) (g (draw_arc b k)),
        flow.high (draw_arc b k) (omega arith),
        net.draw_upper k j,
        little.small k j,
      )),
      ap (λ n. total n entering) arcs,
      ap (λ n. total n w.supply) net.ends.nodes
          ∙ total_same (length b.nodes) w.supply (λ n. slice_index m.supply n) net.supplies,
      little.supply,
      little.draws.count,
    )
  where
    at_most : (t : Bool) (x : ℕ) → when t x ≤ x
    at_most true x = omega arith
    at_most false x = omega arith

-- a river, or what leaves at an outlet, leads on from each node
leads_on : (m : MonthDraws) (least most : ℕ → ℕ) (rank : ℕ → ℕ) (w : Network) (r v : ℕ) → IsLittle m most →
    IsCourseNetwork m least most w → IsForward m.basin.links rank →
    length m.basin.links + (length m.basin.nodes + length m.basin.nodes) ≤ r → v < length m.basin.nodes →
    LeadsOn w r rank v
leads_on m least most rank w r v little net forward far l =
    elim (cases_Bool (is_outlet m.basin v)) [
      | inl outlet ↦ record {
        arc = out_arc m.basin v;
        below = out_in;
        from = net.ends.out_from v l;
        other = λ e. absurd (omega arith);
        room = λ g flow. omega (
          arith,
          net.out_upper v l,
          ap (λ (t : Bool). when t (10 ^ 15)) outlet,
          flow_small m least most rank w g (out_arc m.basin v) little net forward flow out_in
              (inr (net.ends.out_to v l)),
        );
        to = inl (net.ends.out_to v l ∙ sym net.ends.nodes);
      }
      | inr inner ↦ by_river (little.valid.network.rivers v l inner)
    ]
  where
    out_in : out_arc m.basin v < w.arcs
    out_in = let n = net.ends.arcs in omega arith

    by_river : HasRiverOut m.basin.links v → LeadsOn w r rank v
    by_river river =
        let e : ℕ = river.link in
        let k : e < length m.basin.links = river.in_range in
        let to = net.ends.link_to e k in
        let below : e < w.arcs = (let n = net.ends.arcs in omega arith) in
        record {
          arc = e;
          below = below;
          from = net.ends.link_from e k ∙ river.tail;
          other = λ s. absurd (omega arith);
          room = λ g flow. omega (
            arith,
            net.link_upper e k,
            river_carry m.basin m.month e river.river,
            flow_small m least most rank w g e little net forward flow below (inl k),
          );
          to = inr (
            omega (arith, to, (ends m.basin little.valid e k).1, net.ends.nodes),
            omega (arith, ap rank river.tail, ap rank to, forward.runs e k),
          );
        }

-- so the head of the arc of a draw has a way out, where that is the reservoir's node
pub path_out : (m : MonthDraws) (least most : ℕ → ℕ) (w : Network) (k : ℕ) → IsLittle m most →
    IsCourseNetwork m least most w → w.to (draw_arc m.basin k) < length m.basin.nodes →
    HasPathOut w (draw_arc m.basin k)
path_out m least most w k little net l =
    let ranked = ranks m.basin little.valid in
    let found = way_out w (draw_arc m.basin k) ranked.rank 0 (λ v inside _. leads_on m least most ranked.rank w
    (draw_arc m.basin k) v little net ranked.forward (omega arith) (omega (arith, inside, net.ends.nodes)))
    (w.to (draw_arc m.basin k)) (omega (arith, l, net.ends.nodes)) (omega arith) in
    record { path = found.0; leads = found.1 }

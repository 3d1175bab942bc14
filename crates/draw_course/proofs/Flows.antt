-- A course is a flow in the network of a month's draws, and a flow there is a course.
use Rattle.std.proofs.Common.{◌≡◌, ℕ, ◌+◌, ◌^◌, ◌<◌, ◌≤◌, Bool, refl, ◌∙◌, ap, subst, arith}
use Rattle.std.proofs.Common.{List, length, inl, inr}
use Rattle.std.proofs.lemmas.Bool.{cases_Bool}
use Rattle.std.specs.Prelude.{◌==◌, slice_index}
use Rattle.finite_sums.specs.Sums.{total, total_where, when}
use Rattle.finite_sums.proofs.Totals.{total_same}
use Rattle.water_model.specs.Basin.{tail_of, head_of, is_outlet}
use Rattle.water_model.specs.Valid.{IsValidBasin}
use Rattle.water_model.proofs.Sets.{total_where_same}
use Rattle.circulation.specs.Contents.{Contents, network, flow_of, IsCirculation}
use Rattle.circulation.specs.Network.{Network, IsFlow, inflow, outflow}
use Rattle.draw_course.specs.Draws.{MonthDraws, AreDraws, diversion_of}
use Rattle.draw_course.specs.Courses.{IsCourse}
use Rattle.draw_course.specs.Arcs.{take_arc, out_arc, draw_arc, draw_head, amount_at}
use Rattle.draw_course.specs.MonthNetwork.{HasCourseEnds, IsCourseNetwork, moved}
use Rattle.draw_course.proofs.Balances.{node_inflow, node_outflow, moved_balance, heads_at, tails_at}
use Rattle.draw_course.proofs.Parts.{IsArc, is_link, is_take, is_out, is_draw, arc_is}
use Rattle.draw_course.proofs.Parts.{amount_link, amount_take, amount_out, amount_draw}
use Rattle.draw_course.proofs.Supplies.{out_small}

-- the amounts of a course by arc
abbrev pub course_amounts : MonthDraws → (flow out : ℕ → ℕ) → ℕ → ℕ
course_amounts m flow out a = amount_at m.basin flow (λ n. slice_index m.taken n) out (moved m) a

-- amounts by arc that have these parts
pub record HasParts (m : MonthDraws) (flow out g : ℕ → ℕ) : Type 0 where
  pub links : (e : ℕ) → e < length m.basin.links → g e ≡ flow e
  pub takes : (n : ℕ) → n < length m.basin.nodes → g (take_arc m.basin n) ≡ slice_index m.taken n
  pub outs : (n : ℕ) → n < length m.basin.nodes → g (out_arc m.basin n) ≡ out n
  pub draws : (k : ℕ) → k < length m.draws → g (draw_arc m.basin k) ≡ moved m k

pub has_parts : (m : MonthDraws) (flow out : ℕ → ℕ) → HasParts m flow out (course_amounts m flow out)
has_parts m flow out = record {
  links = λ e l. amount_link m.basin flow (λ n. slice_index m.taken n) out (moved m) e l;
  takes = λ n l. amount_take m.basin flow (λ n. slice_index m.taken n) out (moved m) n l;
  outs = λ n l. amount_out m.basin flow (λ n. slice_index m.taken n) out (moved m) n l;
  draws = λ k l. amount_draw m.basin flow (λ n. slice_index m.taken n) out (moved m) k;
}

-- what a node gains and loses by such amounts, as a course says it
pub record NodeSums (m : MonthDraws) (w : Network) (flow out g : ℕ → ℕ) (v : ℕ) : Type 0 where
  pub inflow_is : inflow w g v ≡ total_where (length m.basin.links) (λ e. head_of m.basin e == v) flow
      + heads_at m.basin m.draws (moved m) v
  pub outflow_is : outflow w g v ≡ total_where (length m.basin.links) (λ e. tail_of m.basin e == v) flow
      + (slice_index m.taken v + (out v + tails_at m.draws (moved m) v))

pub node_sums : (m : MonthDraws) (w : Network) (flow out g : ℕ → ℕ) (v : ℕ) → HasCourseEnds m.basin m.draws w →
    HasParts m flow out g → v < length m.basin.nodes → NodeSums m w flow out g v
node_sums m w flow out g v ends parts l = record {
  inflow_is = omega (
    arith,
    node_inflow m.basin m.draws w g v ends l,
    total_where_same (length m.basin.links) (λ e. head_of m.basin e == v) g flow parts.links,
    total_where_same (length m.draws) (λ k. draw_head m.basin m.draws k == v) (λ k. g (draw_arc m.basin k)) (moved m)
        parts.draws,
  );
  outflow_is = omega (
    arith,
    node_outflow m.basin m.draws w g v ends l,
    total_where_same (length m.basin.links) (λ e. tail_of m.basin e == v) g flow parts.links,
    total_where_same (length m.draws) (λ k. diversion_of m.draws k == v) (λ k. g (draw_arc m.basin k)) (moved m)
        parts.draws,
    parts.takes v l,
    parts.outs v l,
  );
}

-- a course is in balance in the network
pub course_balanced : (m : MonthDraws) (w : Network) (flow out g : ℕ → ℕ) → HasCourseEnds m.basin m.draws w →
    ((n : ℕ) → n < length m.basin.nodes → w.supply n ≡ slice_index m.supply n) → HasParts m flow out g →
    IsCourse m flow out → (v : ℕ) → v < w.nodes → w.supply v + inflow w g v ≡ outflow w g v
course_balanced m w flow out g ends supplies parts course v l =
    let k : v < length m.basin.nodes = (let n = ends.nodes in omega arith) in
    let sums = node_sums m w flow out g v ends parts k in
    omega (arith, sums.inflow_is, sums.outflow_is, moved_balance m v k, course.balance v k, supplies v k)

-- the same course in other words
pub same_course : (m : MonthDraws) (flow flow' out out' : ℕ → ℕ) →
    ((e : ℕ) → e < length m.basin.links → flow' e ≡ flow e) →
    ((v : ℕ) → v < length m.basin.nodes → out' v ≡ out v) → IsCourse m flow out → IsCourse m flow' out'
same_course m flow flow' out out' links outs course = record {
  low = λ e l. omega (arith, links e l, course.low e l);
  high = λ e l. omega (arith, links e l, course.high e l);
  outlets = λ n l h. outs n l ∙ course.outlets n l h;
  balance = λ n l. omega (
    arith,
    course.balance n l,
    outs n l,
    total_where_same (length m.basin.links) (λ e. head_of m.basin e == n) flow' flow links,
    total_where_same (length m.basin.links) (λ e. tail_of m.basin e == n) flow' flow links,
  );
}

-- and a flow is a course
pub flow_course : (m : MonthDraws) (w : Network) (g : ℕ → ℕ) → IsCourseNetwork m (moved m) (moved m) w → IsFlow w g →
    IsCourse m g (λ n. g (out_arc m.basin n))
flow_course m w g net flow = record {
  low = λ e l. (let at = net.link_lower e l in let low = flow.low e (link_in e l) in omega arith);
  high = λ e l. (let at = net.link_upper e l in let high = flow.high e (link_in e l) in omega arith);
  outlets = λ n l h. (let at = net.out_upper n l in
      let shut : when (is_outlet m.basin n) (10 ^ 15) ≡ 0 = ap (λ (t : Bool). when t (10 ^ 15)) h in
      let high = flow.high (out_arc m.basin n) (out_in n l) in omega arith);
  balance = λ n l. (let sums = node_sums m w g (λ n. g (out_arc m.basin n)) g n net.ends parts l in
      omega (
        arith,
        sums.inflow_is,
        sums.outflow_is,
        moved_balance m n l,
        flow.balanced n (let s = net.ends.nodes in omega arith),
        net.supplies n l,
      ));
}
  where
    link_in : (e : ℕ) → e < length m.basin.links → e < w.arcs
    link_in e l = let s = net.ends.arcs in omega arith

    take_in : (n : ℕ) → n < length m.basin.nodes → take_arc m.basin n < w.arcs
    take_in n l = let s = net.ends.arcs in omega arith

    out_in : (n : ℕ) → n < length m.basin.nodes → out_arc m.basin n < w.arcs
    out_in n l = let s = net.ends.arcs in omega arith

    draw_in : (k : ℕ) → k < length m.draws → draw_arc m.basin k < w.arcs
    draw_in k l = let s = net.ends.arcs in omega arith

    parts : HasParts m g (λ n. g (out_arc m.basin n)) g
    parts = record {
      links = λ e l. refl;
      takes = λ n l. (let low = net.take_lower n l in let high = net.take_upper n l in
          let above = flow.low (take_arc m.basin n) (take_in n l) in
          let below = flow.high (take_arc m.basin n) (take_in n l) in
          omega arith);
      outs = λ n l. refl;
      draws = λ k l. (let low = net.draw_lower k l in let high = net.draw_upper k l in
          let above = flow.low (draw_arc m.basin k) (draw_in k l) in
          let below = flow.high (draw_arc m.basin k) (draw_in k l) in
          omega arith);
    }

-- and so is what was read of it
pub read_course : {m n : MonthDraws} {c : Contents} (flow out : List ℕ) → m ≡ n →
    IsCourseNetwork m (moved m) (moved m) (network c) → IsCirculation c →
    ((e : ℕ) → e < length m.basin.links → slice_index flow e ≡ flow_of c e) →
    ((v : ℕ) → v < length m.basin.nodes → slice_index out v ≡ flow_of c (out_arc m.basin v)) →
    IsCourse n (λ e. slice_index flow e) (λ v. slice_index out v)
read_course {m} {n} {c} flow out is net kept links outs =
    subst (λ (x : MonthDraws). IsCourse x (λ e. slice_index flow e) (λ v. slice_index out v)) is
    (same_course m (flow_of c) (λ e. slice_index flow e) (λ v. flow_of c (out_arc m.basin v)) (λ v. slice_index out v)
    links outs (flow_course m (network c) (flow_of c) net kept.flow))

-- a course is a flow where draws may have what was drawn
pub course_flow : (m : MonthDraws) (least most : ℕ → ℕ) (w : Network) (flow out g : ℕ → ℕ) → IsValidBasin m.basin →
    AreDraws m.basin m.draws → total (length m.basin.nodes) (λ n. slice_index m.supply n) < 10 ^ 14 →
    IsCourseNetwork m least most w →
    ((k : ℕ) → k < length m.draws → least k ≤ moved m k) → ((k : ℕ) → k < length m.draws → moved m k ≤ most k) →
    HasParts m flow out g → IsCourse m flow out → IsFlow w g
course_flow m least most w flow out g valid are small net low high parts course = record {
  low = λ a l. low_at a (arc_is m.basin (length m.draws) a (let s = net.ends.arcs in omega arith));
  high = λ a l. high_at a (arc_is m.basin (length m.draws) a (let s = net.ends.arcs in omega arith));
  balanced = balanced;
}
  where
    balanced : (v : ℕ) → v < w.nodes → w.supply v + inflow w g v ≡ outflow w g v
    balanced = course_balanced m w flow out g net.ends net.supplies parts course

    low_at : (a : ℕ) → IsArc m.basin (length m.draws) a → w.lower a ≤ g a
    low_at a (is_link k) = omega (arith, net.link_lower a k, parts.links a k, course.low a k)
    low_at a (is_take n k e) = subst (λ a. w.lower a ≤ g a) e (omega (arith, net.take_lower n k, parts.takes n k))
    low_at a (is_out n k e) = subst (λ a. w.lower a ≤ g a) e (omega (arith, net.out_lower n k))
    low_at a (is_draw j k e) = subst (λ a. w.lower a ≤ g a) e
        (omega (arith, net.draw_lower j k, parts.draws j k, low j k))

    out_at : (n : ℕ) → n < length m.basin.nodes → g (out_arc m.basin n) ≤ w.upper (out_arc m.basin n)
    out_at n k = elim (cases_Bool (is_outlet m.basin n)) [
      | inl outlet ↦ omega (
        arith,
        net.out_upper n k,
        ap (λ (t : Bool). when t (10 ^ 15)) outlet,
        out_small m.basin m.draws w g (out_arc m.basin n) valid are net.ends balanced
            (let s = net.ends.arcs in omega arith) (net.ends.out_to n k),
        total_same (length m.basin.nodes) w.supply (λ n. slice_index m.supply n) net.supplies,
        small,
      )
      | inr inner ↦ omega (arith, parts.outs n k, course.outlets n k inner)
    ]

    high_at : (a : ℕ) → IsArc m.basin (length m.draws) a → g a ≤ w.upper a
    high_at a (is_link k) = omega (arith, net.link_upper a k, parts.links a k, course.high a k)
    high_at a (is_take n k e) = subst (λ a. g a ≤ w.upper a) e (omega (arith, net.take_upper n k, parts.takes n k))
    high_at a (is_out n k e) = subst (λ a. g a ≤ w.upper a) e (out_at n k)
    high_at a (is_draw j k e) = subst (λ a. g a ≤ w.upper a) e
        (omega (arith, net.draw_upper j k, parts.draws j k, high j k))

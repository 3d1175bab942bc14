-- A month that begins with a course before any draw.
use Rattle.std.proofs.Common.{◌≡◌, ℕ, ◌+◌, ◌-◌, ◌^◌, ◌<◌, ◌≤◌, Bool, true, false, refl, sym, ◌∙◌, ap, subst}
use Rattle.std.proofs.Common.{arith, List, ◌++◌, length, replicate, inl, inr}
use Rattle.std.proofs.lemmas.Bool.{cases_Bool}
use Rattle.std.proofs.lemmas.List.{get_or-replicate}
use Rattle.std.specs.Prelude.{slice_index, take, if◌then◌else◌}
use Rattle.finite_sums.specs.Sums.{total, when}
use Rattle.water_text.specs.Months.{IsMonth}
use Rattle.water_text.specs.declared.month.Month.{Month}
use Rattle.water_model.specs.Basin.{is_outlet}
use Rattle.water_model.specs.Plans.{carry_of}
use Rattle.water_model.specs.Valid.{IsValidBasin}
use Rattle.water_model.proofs.Carries.{carry_most}
use Rattle.word_region.specs.Words.{Words, words_at}
use Rattle.circulation.specs.declared.Circulation.{Circulation}
use Rattle.circulation.specs.Contents.{Contents, network, month_contents, on_last, IsStart, IsCirculation}
use Rattle.circulation.specs.Places.{AreFixedOf, fixed_count}
use Rattle.circulation.specs.Network.{Network, inflow, outflow}
use Rattle.draw_course.specs.Draws.{BasinDraws, MonthDraws, AreDraws, FitsMonth}
use Rattle.draw_course.specs.Courses.{IsCourse}
use Rattle.draw_course.specs.Arcs.{arc_count, take_arc, out_arc, draw_arc, amount_at}
use Rattle.draw_course.specs.Engine.{HasNetwork, first_draws}
use Rattle.draw_course.specs.declared.draws.DrawNodes.{DrawNodes}
use Rattle.water_model.specs.declared.types.Basin.{Basin}
use Rattle.draw_course.specs.MonthNetwork.{HasCourseEnds, IsCourseNetwork, Stands, moved}
use Rattle.draw_course.specs.Raising.{SameButLower, IsHeldFrom}
use Rattle.draw_course.proofs.Flows.{HasParts, course_balanced}
use Rattle.draw_course.proofs.Parts.{IsArc, is_link, is_take, is_out, is_draw, arc_is}
use Rattle.draw_course.proofs.Parts.{amount_link, amount_take, amount_out, amount_draw}
use Rattle.draw_course.proofs.Supplies.{out_small}
use Rattle.draw_course.proofs.Turns.{is_own}

-- the most that arcs may carry before any draw, and what they carry
pub record AreBegun (m : MonthDraws) (flow out : ℕ → ℕ) (upper start : List ℕ) : Type 0 where
  pub uppers : length upper ≡ arc_count m.basin (length m.draws)
  pub starts : length start ≡ arc_count m.basin (length m.draws)
  pub most : (a : ℕ) → a < arc_count m.basin (length m.draws) → slice_index upper a
      ≡ amount_at m.basin (carry_of m.basin m.month) (λ n. slice_index m.taken n)
      (λ n. when (is_outlet m.basin n) (10 ^ 15)) (λ k. 0) a
  pub amount : (a : ℕ) → a < arc_count m.basin (length m.draws) → slice_index start a
      ≡ amount_at m.basin flow (λ n. slice_index m.taken n) out (λ k. 0) a
  pub none : (k : ℕ) → k < length m.draws → slice_index m.drawn k ≡ 0

-- a month of which nothing was drawn
pub record IsFirst (m : MonthDraws) (flow out : ℕ → ℕ) : Type 0 where
  pub valid : IsValidBasin m.basin
  pub draws : AreDraws m.basin m.draws
  pub month : IsMonth m.month
  pub fits : FitsMonth m
  pub course : IsCourse m flow out

-- no draw moves anything
pub moved_none : (m : MonthDraws) (k : ℕ) → slice_index m.drawn k ≡ 0 → moved m k ≡ 0
moved_none m k h = of_test (is_own m k) h
  where
    of_test : (t : Bool) {x : ℕ} → x ≡ 0 → (if t then 0 else x) ≡ 0
    of_test true h = refl
    of_test false h = h

-- the bounds by what an arc is
record HasMost (m : MonthDraws) (upper : List ℕ) : Type 0 where
  links : (e : ℕ) → e < length m.basin.links → slice_index upper e ≡ carry_of m.basin m.month e
  takes : (n : ℕ) → n < length m.basin.nodes → slice_index upper (take_arc m.basin n) ≡ slice_index m.taken n
  outs : (n : ℕ) → n < length m.basin.nodes → slice_index upper (out_arc m.basin n)
      ≡ when (is_outlet m.basin n) (10 ^ 15)
  draws : (k : ℕ) → k < length m.draws → slice_index upper (draw_arc m.basin k) ≡ 0

has_most : (m : MonthDraws) (flow out : ℕ → ℕ) (upper start : List ℕ) → AreBegun m flow out upper start →
    HasMost m upper
has_most m flow out upper start are = record {
  links = λ e l. are.most e (omega arith)
      ∙ amount_link m.basin (carry_of m.basin m.month) (λ n. slice_index m.taken n)
      (λ n. when (is_outlet m.basin n) (10 ^ 15)) (λ k. 0) e l;
  takes = λ n l. are.most (take_arc m.basin n) (omega arith)
      ∙ amount_take m.basin (carry_of m.basin m.month) (λ n. slice_index m.taken n)
      (λ n. when (is_outlet m.basin n) (10 ^ 15)) (λ k. 0) n l;
  outs = λ n l. are.most (out_arc m.basin n) (omega arith)
      ∙ amount_out m.basin (carry_of m.basin m.month) (λ n. slice_index m.taken n)
      (λ n. when (is_outlet m.basin n) (10 ^ 15)) (λ k. 0) n l;
  draws = λ k l. are.most (draw_arc m.basin k) (omega arith)
      ∙ amount_draw m.basin (carry_of m.basin m.month) (λ n. slice_index m.taken n)
      (λ n. when (is_outlet m.basin n) (10 ^ 15)) (λ k. 0) k;
}

begun_parts : (m : MonthDraws) (flow out : ℕ → ℕ) (upper start : List ℕ) → AreBegun m flow out upper start →
    HasParts m flow out (λ a. slice_index start a)
begun_parts m flow out upper start are = record {
  links = λ e l. are.amount e (omega arith) ∙ amount_link m.basin flow (λ n. slice_index m.taken n) out (λ k. 0) e l;
  takes = λ n l. are.amount (take_arc m.basin n) (omega arith)
      ∙ amount_take m.basin flow (λ n. slice_index m.taken n) out (λ k. 0) n l;
  outs = λ n l. are.amount (out_arc m.basin n) (omega arith)
      ∙ amount_out m.basin flow (λ n. slice_index m.taken n) out (λ k. 0) n l;
  draws = λ k l. are.amount (draw_arc m.basin k) (omega arith)
      ∙ amount_draw m.basin flow (λ n. slice_index m.taken n) out (λ k. 0) k ∙ sym (moved_none m k (are.none k l));
}

begun_ends : (m : MonthDraws) (c : Contents) (supply upper start : List ℕ) →
    HasCourseEnds m.basin m.draws (network c) →
    HasCourseEnds m.basin m.draws (network (month_contents c supply upper start))
begun_ends m c supply upper start ends = record {
  nodes = ends.nodes;
  arcs = ends.arcs;
  link_from = ends.link_from;
  link_to = ends.link_to;
  take_from = ends.take_from;
  take_to = ends.take_to;
  out_from = ends.out_from;
  out_to = ends.out_to;
  draw_from = ends.draw_from;
  draw_to = ends.draw_to;
}

-- a month may start so
pub begins : (m : MonthDraws) (flow out : ℕ → ℕ) (c : Contents) (upper start : List ℕ) → IsFirst m flow out →
    AreBegun m flow out upper start → HasCourseEnds m.basin m.draws (network c) → IsStart c m.supply upper start
begins m flow out c upper start first are ends = record {
  supplies = first.fits.supply ∙ sym ends.nodes;
  uppers = are.uppers ∙ sym ends.arcs;
  amounts = are.starts ∙ sym ends.arcs;
  small = λ a l. small_at a (arc_is m.basin (length m.draws) a (let s = ends.arcs in omega arith));
  flow = record {
    low = λ a l. (let at = get_or-replicate {A = ℕ} (length c.from) a 0 0 l in omega arith);
    high = λ a l. high_at a (arc_is m.basin (length m.draws) a (let s = ends.arcs in omega arith));
    balanced = balanced;
  };
}
  where
    w : Network
    w = network (month_contents c m.supply upper start)

    most : HasMost m upper
    most = has_most m flow out upper start are

    parts : HasParts m flow out (λ a. slice_index start a)
    parts = begun_parts m flow out upper start are

    balanced : (v : ℕ) → v < c.nodes → slice_index m.supply v
        + inflow (network (month_contents c m.supply upper start)) (λ a. slice_index start a) v
        ≡ outflow (network (month_contents c m.supply upper start)) (λ a. slice_index start a) v
    balanced = course_balanced m (network (month_contents c m.supply upper start)) flow out (λ a. slice_index start a)
        (begun_ends m c m.supply upper start ends) (λ n l. refl) parts first.course

    -- what an arc to the outside carries
    little : (a : ℕ) → a < length c.from → slice_index c.to a ≡ length m.basin.nodes →
        slice_index start a ≤ total (length m.basin.nodes) (λ n. slice_index m.supply n)
    little a l to = out_small m.basin m.draws (network (month_contents c m.supply upper start))
        (λ a. slice_index start a) a first.valid first.draws (begun_ends m c m.supply upper start ends) balanced l to

    at_outlet : (t : Bool) → when t (10 ^ 15) ≤ 10 ^ 15
    at_outlet true = omega arith
    at_outlet false = omega arith

    small_at : (a : ℕ) → IsArc m.basin (length m.draws) a → slice_index upper a ≤ 10 ^ 15
    small_at a (is_link k) = omega (arith, most.links a k, carry_most m.basin m.month a first.valid first.month k)
    small_at a (is_take n k e) = subst (λ a. slice_index upper a ≤ 10 ^ 15) e (omega (
      arith,
      most.takes n k,
      parts.takes n k,
      little (take_arc m.basin n) (let s = ends.arcs in omega arith) (ends.take_to n k),
      first.fits.small,
    ))
    small_at a (is_out n k e) = subst (λ a. slice_index upper a ≤ 10 ^ 15) e
        (omega (arith, most.outs n k, at_outlet (is_outlet m.basin n)))
    small_at a (is_draw j k e) = subst (λ a. slice_index upper a ≤ 10 ^ 15) e (omega (arith, most.draws j k))

    high_at : (a : ℕ) → IsArc m.basin (length m.draws) a → slice_index start a ≤ slice_index upper a
    high_at a (is_link k) = omega (arith, most.links a k, parts.links a k, first.course.high a k)
    high_at a (is_take n k e) = subst (λ a. slice_index start a ≤ slice_index upper a) e
        (omega (arith, most.takes n k, parts.takes n k))
    high_at a (is_out n k e) = subst (λ a. slice_index start a ≤ slice_index upper a) e (out_at n k)
      where
        out_at : (n : ℕ) → n < length m.basin.nodes →
            slice_index start (out_arc m.basin n) ≤ slice_index upper (out_arc m.basin n)
        out_at n k = elim (cases_Bool (is_outlet m.basin n)) [
          | inl outlet ↦ omega (
            arith,
            most.outs n k,
            ap (λ (t : Bool). when t (10 ^ 15)) outlet,
            little (out_arc m.basin n) (let s = ends.arcs in omega arith) (ends.out_to n k),
            first.fits.small,
          )
          | inr inner ↦ omega (arith, parts.outs n k, first.course.outlets n k inner)
        ]
    high_at a (is_draw j k e) = subst (λ a. slice_index start a ≤ slice_index upper a) e
        (omega (arith, parts.draws j k, moved_none m j (are.none j k)))

-- the amounts that a month starts with are those of all arcs
pub starts_all : {arcs : ℕ} {xs : List ℕ} → length xs ≡ arcs → on_last arcs xs ≡ xs
starts_all {arcs} {xs} all =
    let none : arcs - length xs ≡ 0 = omega arith in ap (λ (n : ℕ). replicate {A = ℕ} n 0 ++ xs) none

-- what has to be no more than the flow before it is held
pub held_fits : (m : MonthDraws) (flow out : ℕ → ℕ) (upper start : List ℕ) → IsFirst m flow out →
    AreBegun m flow out upper start → (e : ℕ) → e < length m.basin.links →
    slice_index m.held e ≤ slice_index start e
held_fits m flow out upper start first are e l =
    omega (arith, (begun_parts m flow out upper start are).links e l, first.course.low e l)

pub taken_fits : (m : MonthDraws) (flow out : ℕ → ℕ) (upper start : List ℕ) → AreBegun m flow out upper start →
    (n : ℕ) → n < length m.basin.nodes → slice_index m.taken n ≤ slice_index start (take_arc m.basin n)
taken_fits m flow out upper start are n l = omega (arith, (begun_parts m flow out upper start are).takes n l)

-- what is held when links and takes are held
pub record IsHeldBoth (m : MonthDraws) (arcs : ℕ) (once twice : List ℕ) : Type 0 where
  pub links : IsHeldFrom (replicate arcs 0) once 0 m.held (length m.basin.links)
  pub takes : IsHeldFrom once twice (length m.basin.links) m.taken (length m.basin.nodes)

-- the network of a month that is begun
pub begun_net : (m : MonthDraws) (flow out : ℕ → ℕ) (c : Contents) (upper start flows scratch once lower : List ℕ) →
    AreBegun m flow out upper start → HasCourseEnds m.basin m.draws (network c) →
    IsHeldBoth m (length c.from) once lower →
    IsCourseNetwork m (moved m) (moved m)
    (network (record c { supply = m.supply; lower = lower; upper = upper; flow = flows; scratch = scratch }))
begun_net m flow out c upper start flows scratch once lower are ends held = record {
  ends = record {
    nodes = ends.nodes;
    arcs = ends.arcs;
    link_from = ends.link_from;
    link_to = ends.link_to;
    take_from = ends.take_from;
    take_to = ends.take_to;
    out_from = ends.out_from;
    out_to = ends.out_to;
    draw_from = ends.draw_from;
    draw_to = ends.draw_to;
  };
  supplies = λ n l. refl;
  link_lower = λ e l. held.takes.others e (inl l)
      ∙ (let is : 0 + e ≡ e = omega arith in ap (slice_index once) (sym is) ∙ held.links.held e l);
  link_upper = most.links;
  take_lower = λ n l. held.takes.held n l;
  take_upper = most.takes;
  out_lower = λ n l. none (out_arc m.basin n) (omega arith) (let s = ends.arcs in omega arith);
  out_upper = most.outs;
  draw_lower = λ k l. none (draw_arc m.basin k) (omega arith) (let s = ends.arcs in omega arith)
      ∙ sym (moved_none m k (are.none k l));
  draw_upper = λ k l. most.draws k l ∙ sym (moved_none m k (are.none k l));
}
  where
    most : HasMost m upper
    most = has_most m flow out upper start are

    none : (a : ℕ) → length m.basin.links + length m.basin.nodes ≤ a → a < length c.from → slice_index lower a ≡ 0
    none a far l = held.takes.others a (inr far) ∙ held.links.others a (inr (omega arith))
        ∙ get_or-replicate {A = ℕ} (length c.from) a 0 0 l

-- a month is the first one that was asked for
pub first_of : {d e : BasinDraws} {month : Month} {supply taken held : List ℕ} {flow out : ℕ → ℕ} → d ≡ e →
    IsValidBasin d.basin → AreDraws d.basin d.draws → IsMonth month → FitsMonth (first_draws e month supply taken held) →
    IsCourse (first_draws e month supply taken held) flow out → IsFirst (first_draws d month supply taken held) flow out
first_of {d} {e} {month} {supply} {taken} {held} {flow} {out} is valid draws is_month fits course = record {
  valid = valid;
  draws = draws;
  month = is_month;
  fits = subst (λ (x : BasinDraws). FitsMonth (first_draws x month supply taken held)) (sym is) fits;
  course = subst (λ (x : BasinDraws). IsCourse (first_draws x month supply taken held) flow out) (sym is) course;
}

-- nothing is drawn in it
pub first_none : (d : BasinDraws) (k : ℕ) → k < length d.draws → slice_index (replicate (length d.draws) 0) k ≡ 0
first_none d k l = get_or-replicate {A = ℕ} (length d.draws) k 0 0 l

-- the words that never change are those of the arcs
pub fixed_lent : {b : Basin} {draws : List DrawNodes} {r : Words} {circ : Circulation} {words front : List ℕ} {mid : ℕ}
    (h : HasNetwork b draws r circ) → words ≡ words_at r.words circ.place → front ≡ take mid words →
    mid ≡ fixed_count circ.nodes circ.arcs → AreFixedOf circ h.contents front
fixed_lent {b} {draws} {r} {circ} {words} {front} {mid} h is front_is at =
    subst (λ (xs : List ℕ). AreFixedOf circ h.contents xs)
    (sym (front_is ∙ ap (λ (n : ℕ). take n words) at ∙ ap (take (fixed_count circ.nodes circ.arcs)) is)) h.held.fixed

-- a month may be lent with all amounts
pub begins_last : {m : MonthDraws} {flow out : ℕ → ℕ} {c : Contents} {upper start : List ℕ} {arcs : ℕ} →
    IsFirst m flow out → AreBegun m flow out upper start → HasCourseEnds m.basin m.draws (network c) →
    arcs ≡ arc_count m.basin (length m.draws) → IsStart c m.supply upper (on_last arcs start)
begins_last {m} {flow} {out} {c} {upper} {start} {arcs} first are ends all =
    subst (λ (xs : List ℕ). IsStart c m.supply upper xs) (sym (starts_all (are.starts ∙ sym all)))
    (begins m flow out c upper start first are ends)

-- it is lent with them
pub lent_is : (c : Contents) {new : Contents} (supply upper start : List ℕ) {arcs : ℕ} → length start ≡ arcs →
    new ≡ record (month_contents c supply upper (on_last arcs start)) { scratch = new.scratch } →
    new ≡ record (month_contents c supply upper start) { scratch = new.scratch }
lent_is c {new} supply upper start all is =
    is ∙ ap (λ (xs : List ℕ). record (month_contents c supply upper xs) { scratch = new.scratch }) (starts_all all)

-- and stands in its network once links and takes are held
pub stands_begun : (m : MonthDraws) (flow out : ℕ → ℕ) (c lent once twice : Contents) (upper start : List ℕ) →
    IsFirst m flow out → AreBegun m flow out upper start → HasCourseEnds m.basin m.draws (network c) →
    lent ≡ record (month_contents c m.supply upper start) { scratch = lent.scratch } → SameButLower lent once →
    SameButLower once twice → IsHeldFrom lent.lower once.lower 0 m.held (length m.held) →
    IsHeldFrom once.lower twice.lower (length m.basin.links) m.taken (length m.taken) → IsCirculation twice →
    Stands m twice
stands_begun m flow out c lent once twice upper start first are ends is same same' links takes kept = record {
  valid = first.valid;
  draws = first.draws;
  fits = first.fits;
  kept = kept;
  net = subst (λ (x : Contents). IsCourseNetwork m (moved m) (moved m) (network x)) (sym all)
      (begun_net m flow out c upper start start lent.scratch once.lower twice.lower are ends record {
        links = subst (λ (n : ℕ). IsHeldFrom (replicate (length c.from) 0) once.lower 0 m.held n) first.fits.held
            (subst (λ (xs : List ℕ). IsHeldFrom xs once.lower 0 m.held (length m.held))
            (ap (λ (x : Contents). x.lower) is) links);
        takes = subst (λ (n : ℕ). IsHeldFrom once.lower twice.lower (length m.basin.links) m.taken n) first.fits.taken
            takes;
      });
}
  where
    all : twice ≡ record c {
      supply = m.supply;
      lower = twice.lower;
      upper = upper;
      flow = start;
      scratch = lent.scratch;
    }
    all = same' ∙ ap (λ (x : Contents). record x { lower = twice.lower }) same
        ∙ ap (λ (x : Contents). record x { lower = twice.lower }) is

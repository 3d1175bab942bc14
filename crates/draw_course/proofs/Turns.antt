-- One draw's turn.
use Rattle.std.proofs.Common.{◌≡◌, ◌≢◌, ℕ, ◌^◌, ◌<◌, ◌≤◌, Bool, true, false, refl, sym, ◌∙◌, ap, subst, arith}
use Rattle.std.proofs.Common.{List, length, inl, inr}
use Rattle.std.proofs.lemmas.Bool.{cases_eq}
use Rattle.std.proofs.lemmas.List.{get_or-set_same, get_or-set_other, length-set}
use Rattle.std.specs.Prelude.{◌==◌, slice_index, slice_set, if◌then◌else◌}
use Rattle.water_model.specs.CutSets.{CutSets}
use Rattle.water_model.specs.Valid.{IsValidBasin}
use Rattle.augment.specs.Raised.{HasPathOut}
use Rattle.circulation.specs.Contents.{Contents, arcs, network, flow_of, bounded_contents, IsCirculation}
use Rattle.circulation.specs.Network.{Network}
use Rattle.draw_course.specs.Draws.{MonthDraws, AreDraws, FitsMonth, with_draw, diversion_of, reservoir_of}
use Rattle.draw_course.specs.Courses.{IsGreatestDraw}
use Rattle.draw_course.specs.Stops.{IsFullOrStopped}
use Rattle.draw_course.specs.Raising.{IsRaisedDraw, fixed_contents}
use Rattle.draw_course.specs.Arcs.{take_arc, out_arc, draw_arc, draw_head}
use Rattle.draw_course.specs.MonthNetwork.{IsCourseNetwork, HasCourseEnds, Stands, moved}
use Rattle.draw_course.proofs.Balances.{differs, itself}
use Rattle.draw_course.proofs.Flows.{flow_course, course_flow, course_amounts, has_parts}
use Rattle.draw_course.proofs.Paths.{IsLittle, path_out}
use Rattle.draw_course.proofs.Tight.{AreFixedBut, tight_stop}

-- the draw stands at its reservoir
abbrev pub is_own : MonthDraws → ℕ → Bool
is_own m k = diversion_of m.draws k == reservoir_of m.draws k

pub moved_other : (m : MonthDraws) (k x j : ℕ) → j ≢ k → moved (with_draw m k x) j ≡ moved m j
moved_other m k x j ne = ap (λ (z : ℕ). if is_own m j then 0 else z) (get_or-set_other m.drawn k j x 0 ne)

pub moved_same : (m : MonthDraws) (k x : ℕ) → k < length m.drawn → is_own m k ≡ false → moved (with_draw m k x) k ≡ x
moved_same m k x l own = ap (λ (t : Bool). if t then 0 else slice_index (slice_set m.drawn k x) k) own
    ∙ get_or-set_same m.drawn k x 0 l

pub moved_own : (m : MonthDraws) (k : ℕ) → is_own m k ≡ true → moved m k ≡ 0
moved_own m k own = ap (λ (t : Bool). if t then 0 else slice_index m.drawn k) own

pub moved_small : (m : MonthDraws) → FitsMonth m → (k : ℕ) → k < length m.draws → moved m k ≤ 10 ^ 9
moved_small m fits k l = of_test (is_own m k) (fits.draws k l)
  where
    of_test : (t : Bool) {x : ℕ} → x ≤ 10 ^ 9 → (if t then 0 else x) ≤ 10 ^ 9
    of_test true h = omega arith
    of_test false h = h

-- the month has an amount for each draw still
pub fits_with : (m : MonthDraws) (k x : ℕ) → FitsMonth m → x ≤ 10 ^ 9 → FitsMonth (with_draw m k x)
fits_with m k x fits small = record {
  supply = fits.supply;
  taken = fits.taken;
  held = fits.held;
  drawn = length-set m.drawn k x ∙ fits.drawn;
  small = fits.small;
  draws = λ j l. elim (cases_eq j k) [
    | inl e ↦ subst (λ (i : ℕ). slice_index (slice_set m.drawn k x) i ≤ 10 ^ 9) (sym e)
        (omega (arith, get_or-set_same m.drawn k x 0 (omega (arith, l, fits.drawn)), small))
    | inr ne ↦ omega (arith, get_or-set_other m.drawn k j x 0 ne, fits.draws j l)
  ];
}

-- the network is one with other words for the bounds of draws
pub network_with : (m : MonthDraws) (k x : ℕ) (least most least' most' : ℕ → ℕ) (w : Network) →
    ((j : ℕ) → j < length m.draws → least j ≡ least' j) → ((j : ℕ) → j < length m.draws → most j ≡ most' j) →
    IsCourseNetwork m least most w → IsCourseNetwork (with_draw m k x) least' most' w
network_with m k x least most least' most' w low high net = record {
  ends = net.ends;
  supplies = net.supplies;
  link_lower = net.link_lower;
  link_upper = net.link_upper;
  take_lower = net.take_lower;
  take_upper = net.take_upper;
  out_lower = net.out_lower;
  out_upper = net.out_upper;
  draw_lower = λ j l. net.draw_lower j l ∙ low j l;
  draw_upper = λ j l. net.draw_upper j l ∙ high j l;
}

-- the most that draws may have while one is opened
abbrev pub opened_most : MonthDraws → (k cap : ℕ) → ℕ → ℕ
opened_most m k cap j = if j == k then cap else moved m j

pub opened_here : (m : MonthDraws) (k cap : ℕ) → opened_most m k cap k ≡ cap
opened_here m k cap = ap (λ (t : Bool). if t then cap else moved m k) (itself k)

pub opened_other : (m : MonthDraws) (k cap j : ℕ) → j ≢ k → opened_most m k cap j ≡ moved m j
opened_other m k cap j ne = ap (λ (t : Bool). if t then cap else moved m j) (differs j k ne)

-- the ends are the same whatever is written besides
ends_same : (m : MonthDraws) (c : Contents) (lower upper flow scratch : List ℕ) →
    HasCourseEnds m.basin m.draws (network c) →
    HasCourseEnds m.basin m.draws
    (network (record c { lower = lower; upper = upper; flow = flow; scratch = scratch }))
ends_same m c lower upper flow scratch ends = record {
  nodes = ends.nodes;
  arcs = ends.arcs;
  link_from = ends.link_from;
  link_to = ends.link_to;
  take_from = ends.take_from;
  take_to = ends.take_to;
  out_from = ends.out_from;
  out_to = ends.out_to;
  draw_from = ends.draw_from;
  draw_to = ends.draw_to;
}

-- the network with the arc of a draw opened
pub opened_net : (m : MonthDraws) (c : Contents) (k cap : ℕ) → IsCirculation c → k < length m.draws →
    IsCourseNetwork m (moved m) (moved m) (network c) →
    IsCourseNetwork m (moved m) (opened_most m k cap) (network (bounded_contents c (draw_arc m.basin k) cap))
opened_net m c k cap kept l net = record {
  ends = ends_same m c c.lower (slice_set c.upper (draw_arc m.basin k) cap) c.flow c.scratch net.ends;
  supplies = net.supplies;
  link_lower = net.link_lower;
  link_upper = λ e b. other e (λ s. absurd (omega arith)) ∙ net.link_upper e b;
  take_lower = net.take_lower;
  take_upper = λ n b. other (take_arc m.basin n) (λ s. absurd (omega arith)) ∙ net.take_upper n b;
  out_lower = net.out_lower;
  out_upper = λ n b. other (out_arc m.basin n) (λ s. absurd (omega arith)) ∙ net.out_upper n b;
  draw_lower = net.draw_lower;
  draw_upper = λ j b. elim (cases_eq j k) [
    | inl e ↦ ap (λ (i : ℕ). slice_index (slice_set c.upper (draw_arc m.basin k) cap) (draw_arc m.basin i)) e
        ∙ get_or-set_same c.upper (draw_arc m.basin k) cap 0 inside ∙ sym (opened_here m k cap)
        ∙ ap (opened_most m k cap) (sym e)
    | inr ne ↦ other (draw_arc m.basin j) (λ s. ne (omega arith)) ∙ net.draw_upper j b
        ∙ sym (opened_other m k cap j ne)
  ];
}
  where
    inside : draw_arc m.basin k < length c.upper
    inside = let n = net.ends.arcs in omega (arith, kept.shape.upper, n, l)

    other : (a : ℕ) → a ≢ draw_arc m.basin k →
        slice_index (slice_set c.upper (draw_arc m.basin k) cap) a ≡ slice_index c.upper a
    other a ne = get_or-set_other c.upper (draw_arc m.basin k) a cap 0 ne

-- and with the arc fixed at what was drawn
pub fixed_net : (m : MonthDraws) (c new : Contents) (k x : ℕ) → IsCirculation c → FitsMonth m → k < length m.draws →
    is_own m k ≡ false → IsCourseNetwork m (moved m) (moved m) (network c) →
    new ≡ fixed_contents c new (draw_arc m.basin k) x →
    IsCourseNetwork (with_draw m k x) (moved (with_draw m k x)) (moved (with_draw m k x)) (network new)
fixed_net m c new k x kept fits l apart net is =
    subst (λ (d : Contents). IsCourseNetwork (with_draw m k x) (moved (with_draw m k x)) (moved (with_draw m k x))
    (network d)) (sym is) record {
      ends = ends_same m c (slice_set c.lower r x) (slice_set c.upper r x) new.flow new.scratch net.ends;
      supplies = net.supplies;
      link_lower = λ e b. other c.lower e (λ s. absurd (omega arith)) ∙ net.link_lower e b;
      link_upper = λ e b. other c.upper e (λ s. absurd (omega arith)) ∙ net.link_upper e b;
      take_lower = λ n b. other c.lower (take_arc m.basin n) (λ s. absurd (omega arith)) ∙ net.take_lower n b;
      take_upper = λ n b. other c.upper (take_arc m.basin n) (λ s. absurd (omega arith)) ∙ net.take_upper n b;
      out_lower = λ n b. other c.lower (out_arc m.basin n) (λ s. absurd (omega arith)) ∙ net.out_lower n b;
      out_upper = λ n b. other c.upper (out_arc m.basin n) (λ s. absurd (omega arith)) ∙ net.out_upper n b;
      draw_lower = λ j b. bound c.lower (let s = kept.shape.lower in let n = net.ends.arcs in omega arith) j b
          (net.draw_lower j b);
      draw_upper = λ j b. bound c.upper (let s = kept.shape.upper in let n = net.ends.arcs in omega arith) j b
          (net.draw_upper j b);
    }
  where
    r : ℕ
    r = draw_arc m.basin k

    other : (xs : List ℕ) (a : ℕ) → a ≢ draw_arc m.basin k →
        slice_index (slice_set xs (draw_arc m.basin k) x) a ≡ slice_index xs a
    other xs a ne = get_or-set_other xs (draw_arc m.basin k) a x 0 ne

    bound : (xs : List ℕ) → draw_arc m.basin k < length xs → (j : ℕ) → j < length m.draws →
        slice_index xs (draw_arc m.basin j) ≡ moved m j →
        slice_index (slice_set xs (draw_arc m.basin k) x) (draw_arc m.basin j) ≡ moved (with_draw m k x) j
    bound xs inside j b before = elim (cases_eq j k) [
      | inl e ↦ ap (λ (i : ℕ). slice_index (slice_set xs (draw_arc m.basin k) x) (draw_arc m.basin i)) e
          ∙ get_or-set_same xs (draw_arc m.basin k) x 0 inside
          ∙ sym (moved_same m k x (let s = fits.drawn in omega arith) apart)
          ∙ ap (moved (with_draw m k x)) (sym e)
      | inr ne ↦ other xs (draw_arc m.basin j) (λ s. ne (omega arith)) ∙ before ∙ sym (moved_other m k x j ne)
    ]

-- nothing of the network changes where the draw stands at its reservoir
pub own_net : (m : MonthDraws) (w : Network) (k x : ℕ) → is_own m k ≡ true →
    IsCourseNetwork m (moved m) (moved m) w →
    IsCourseNetwork (with_draw m k x) (moved (with_draw m k x)) (moved (with_draw m k x)) w
own_net m w k x own net =
    network_with m k x (moved m) (moved m) (moved (with_draw m k x)) (moved (with_draw m k x)) w same same net
  where
    same : (j : ℕ) → j < length m.draws → moved m j ≡ moved (with_draw m k x) j
    same j l = elim (cases_eq j k) [
      | inl e ↦ ap (moved m) e ∙ moved_own m k own ∙ sym (moved_own (with_draw m k x) k own)
          ∙ ap (moved (with_draw m k x)) (sym e)
      | inr ne ↦ sym (moved_other m k x j ne)
    ]

-- and the draw is its cap
pub own_greatest : (m : MonthDraws) (c : Contents) (k cap : ℕ) → is_own m k ≡ true → IsCirculation c →
    IsCourseNetwork m (moved m) (moved m) (network c) → IsGreatestDraw m k cap cap
own_greatest m c k cap own kept net = record {
  within = omega arith;
  course = (
    flow_of c,
    (
      (λ n. flow_of c (out_arc m.basin n)),
      flow_course (with_draw m k cap) (network c) (flow_of c) (own_net m (network c) k cap own net) kept.flow,
    ),
  );
  greatest = λ more le has. le;
}

-- while one is opened, all draws are little
pub opened_little : (m : MonthDraws) (k cap : ℕ) → IsValidBasin m.basin → AreDraws m.basin m.draws → FitsMonth m →
    cap ≤ 10 ^ 9 → IsLittle m (opened_most m k cap)
opened_little m k cap valid draws fits limit = record {
  valid = valid;
  draws = draws;
  supply = fits.small;
  small = λ j l. elim (cases_eq j k) [
    | inl e ↦ subst (λ (i : ℕ). opened_most m k cap i ≤ 10 ^ 9) (sym e) (omega (arith, opened_here m k cap, limit))
    | inr ne ↦ omega (arith, opened_other m k cap j ne, moved_small m fits j l)
  ];
}

-- the bounds of the other draws are what was drawn
fixed_but : (m : MonthDraws) (k cap x : ℕ) → AreFixedBut (with_draw m k x) (moved m) (opened_most m k cap) k
fixed_but m k cap x = record {
  low = λ j l ne. sym (moved_other m k x j ne);
  high = λ j l ne. opened_other m k cap j ne ∙ sym (moved_other m k x j ne);
}

-- a draw that was raised as far as can be is the greatest
pub raised_greatest : (m : MonthDraws) (c new : Contents) (k cap x : ℕ) (before after : CutSets) →
    IsValidBasin m.basin → AreDraws m.basin m.draws → FitsMonth m → IsCirculation c → IsCirculation new →
    k < length m.draws → is_own m k ≡ false → slice_index m.drawn k ≡ 0 →
    IsCourseNetwork m (moved m) (moved m) (network c) →
    IsRaisedDraw c new (draw_arc m.basin k) k cap x before after → IsGreatestDraw m k cap x
raised_greatest m c new k cap x before after valid draws fits kept kept' l apart turn net raised = record {
  within = raised.within;
  course = (
    flow_of new,
    (
      (λ n. flow_of new (out_arc m.basin n)),
      flow_course (with_draw m k x) (network new) (flow_of new)
          (fixed_net m c new k x kept fits l apart net raised.fixed) kept'.flow,
    ),
  );
  greatest = λ y le has.
      let w : Network = network (bounded_contents c (draw_arc m.basin k) cap) in
      let flow = has.0 in
      let out = has.1.0 in
      let more = with_draw m k y in
      let opened = network_with m k y (moved m) (opened_most m k cap) (moved m) (opened_most m k cap) w (λ j b. refl)
      (λ j b. refl) (opened_net m c k cap kept l net) in
      let parts = has_parts more flow out in
      let is_flow = course_flow more (moved m) (opened_most m k cap) w flow out (course_amounts more flow out) valid
      draws fits.small opened (low y) (high y le) parts has.1.1 in
      omega (
        arith,
        raised.greatest (course_amounts more flow out) is_flow,
        parts.draws k l,
        moved_same m k y (let s = fits.drawn in omega arith) apart,
      );
}
  where
    none : moved m k ≡ 0
    none = ap (λ (t : Bool). if t then 0 else slice_index m.drawn k) apart ∙ turn

    low : (y j : ℕ) → j < length m.draws → moved m j ≤ moved (with_draw m k y) j
    low y j b = elim (cases_eq j k) [
      | inl e ↦ (let at : moved m j ≡ 0 = ap (moved m) e ∙ none in omega arith)
      | inr ne ↦ omega (arith, moved_other m k y j ne)
    ]

    high : (y : ℕ) → y ≤ cap → (j : ℕ) → j < length m.draws → moved (with_draw m k y) j ≤ opened_most m k cap j
    high y le j b = elim (cases_eq j k) [
      | inl e ↦ subst (λ (i : ℕ). moved (with_draw m k y) i ≤ opened_most m k cap i) (sym e) (omega (
        arith,
        moved_same m k y (let s = fits.drawn in omega arith) apart,
        opened_here m k cap,
        le,
      ))
      | inr ne ↦ omega (arith, moved_other m k y j ne, opened_other m k cap j ne)
    ]

-- and has a stop where it is below its cap
pub raised_outcome : (m : MonthDraws) (c new : Contents) (k cap x : ℕ) (before after : CutSets) →
    FitsMonth m → IsCirculation c → k < length m.draws → is_own m k ≡ false →
    IsCourseNetwork m (moved m) (moved m) (network c) →
    IsRaisedDraw c new (draw_arc m.basin k) k cap x before after →
    IsFullOrStopped (with_draw m k x) k cap x before after
raised_outcome m c new k cap x before after fits kept l apart net raised = elim raised.outcome [
  | inl full ↦ inl full
  | inr short ↦
      let set : List Bool = short.1.0 in
      let opened = opened_net m c k cap kept l net in
      let size : length set ≡ length m.basin.nodes = short.1.1.1.0 ∙ opened.ends.nodes in
      inr (
        short.0,
        (
          set,
          (
            short.1.1.0,
            tight_stop (with_draw m k x) (moved m) (opened_most m k cap)
                (network (bounded_contents c (draw_arc m.basin k) cap)) (flow_of new) k set
                (network_with m k x (moved m) (opened_most m k cap) (moved m) (opened_most m k cap)
                (network (bounded_contents c (draw_arc m.basin k) cap)) (λ j b. refl) (λ j b. refl) opened)
                (fixed_but m k cap x) l apart
                (raised.carried ∙ sym (moved_same m k x (let s = fits.drawn in omega arith) apart)) size
                short.1.1.1.1,
          ),
        ),
      )
]

-- the arc of a draw is one of the network's
pub draw_inside : {m : MonthDraws} {c : Contents} {k arc : ℕ} → Stands m c → k < length m.draws →
    arc ≡ draw_arc m.basin k → arc < arcs c
draw_inside s l is = let n = s.net.ends.arcs in omega arith

-- it is shut before its turn
pub draw_shut : {m : MonthDraws} {c : Contents} {k arc : ℕ} → Stands m c → k < length m.draws →
    slice_index m.drawn k ≡ 0 → arc ≡ draw_arc m.basin k → slice_index c.upper arc ≡ 0
draw_shut {m} {c} {k} s l turn is = ap (slice_index c.upper) is ∙ s.net.draw_upper k l ∙ none (is_own m k) turn
  where
    none : (t : Bool) {x : ℕ} → x ≡ 0 → (if t then 0 else x) ≡ 0
    none true h = refl
    none false h = h

-- and from its head a path leads out of the basin
pub draw_path : {m : MonthDraws} {c : Contents} {k arc : ℕ} (cap : ℕ) → Stands m c → k < length m.draws →
    is_own m k ≡ false → cap ≤ 10 ^ 9 → arc ≡ draw_arc m.basin k →
    HasPathOut (network (bounded_contents c arc cap)) arc
draw_path {m} {c} {k} {arc} cap s l apart small is =
    subst (λ (a : ℕ). HasPathOut (network (bounded_contents c a cap)) a) (sym is)
    (path_out m (moved m) (opened_most m k cap) (network (bounded_contents c (draw_arc m.basin k) cap)) k
    (opened_little m k cap s.valid s.draws s.fits small) (opened_net m c k cap s.kept l s.net)
    (let at = s.net.ends.draw_to k l in let r = s.draws.reservoirs k l in
    let head : draw_head m.basin m.draws k ≡ reservoir_of m.draws k =
    ap (λ (t : Bool). if t then length m.basin.nodes else reservoir_of m.draws k) apart in
    omega arith))

-- what a turn comes to
pub record IsTurn (m : MonthDraws) (new : Contents) (k cap x : ℕ) (before after : CutSets) : Type 0 where
  pub stands : Stands (with_draw m k x) new
  pub greatest : IsGreatestDraw m k cap x
  pub outcome : IsFullOrStopped (with_draw m k x) k cap x before after

-- a turn at the draw's own reservoir
pub turn_own : {m : MonthDraws} {c : Contents} {k : ℕ} (cap : ℕ) (stops : CutSets) → Stands m c → k < length m.draws →
    is_own m k ≡ true → cap ≤ 10 ^ 9 → IsTurn m c k cap cap stops stops
turn_own {m} {c} {k} cap stops s l own small = record {
  stands = record {
    valid = s.valid;
    draws = s.draws;
    fits = fits_with m k cap s.fits small;
    kept = s.kept;
    net = own_net m (network c) k cap own s.net;
  };
  greatest = own_greatest m c k cap own s.kept s.net;
  outcome = inl (refl, refl);
}

-- and over its arc
pub turn_raised : {m : MonthDraws} {c new : Contents} {k arc cap x : ℕ} {before after : CutSets} → Stands m c →
    k < length m.draws → is_own m k ≡ false → slice_index m.drawn k ≡ 0 → cap ≤ 10 ^ 9 →
    arc ≡ draw_arc m.basin k → IsCirculation new → IsRaisedDraw c new arc k cap x before after →
    IsTurn m new k cap x before after
turn_raised {m} {c} {new} {k} {arc} {cap} {x} {before} {after} s l apart turn small is kept raised =
    let at = subst (λ (a : ℕ). IsRaisedDraw c new a k cap x before after) is raised in
    record {
      stands = record {
        valid = s.valid;
        draws = s.draws;
        fits = fits_with m k x s.fits (let le = at.within in omega arith);
        kept = kept;
        net = fixed_net m c new k x s.kept s.fits l apart s.net at.fixed;
      };
      greatest = raised_greatest m c new k cap x before after s.valid s.draws s.fits s.kept kept l apart turn s.net at;
      outcome = raised_outcome m c new k cap x before after s.fits s.kept l apart s.net at;
    }

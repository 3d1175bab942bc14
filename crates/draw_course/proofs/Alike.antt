-- Courses, stops and draws of the network as those of a basin's draws.
use Rattle.std.proofs.Common.{◌≡◌, ℕ, ◌+◌, ◌-◌, ◌<◌, ◌≤◌, Bool, true, false, refl, sym, ◌∙◌, ap, arith, List, length}
use Rattle.std.proofs.Common.{subst, inl, inr}
use Rattle.std.proofs.lemmas.Bool.{eq-eqb}
use Rattle.std.proofs.lemmas.List.{get_or-set_other, get_or-set_same}
use Rattle.std.specs.Prelude.{◌==◌, if◌then◌else◌, slice_index, slice_set, Some, None, unwrap_or, option_map}
use Rattle.finite_sums.specs.Sums.{total, total_where}
use Rattle.finite_sums.proofs.Terms.{same_where}
use Rattle.finite_sums.proofs.Totals.{term_le_total_where, total_append, total_change, total_same, total_zero}
use Rattle.draw_course.specs.Stops.{IsFullOrStopped}
use Rattle.water_model.proofs.SetEntries.{set_of_with}
use Rattle.water_model.specs.CutSets.{CutSets, set_of}
use Rattle.draw_course.specs.Alike.{AnswersShowDraws}
use Rattle.draw_course.specs.Alike.{CoursesAreAlike, DrawsAreAlike, GreatestAreDrawn, IsTakenAfter}
use Rattle.draw_course.specs.Alike.{MonthsAreAlike, StopsAreAlike, TakenAreAlike}
use Rattle.draw_course.specs.Courses.{HasCourse, IsCourse, drawn_at, left_at}
use Rattle.draw_course.specs.Draws.{MonthDraws, diversion_of, reservoir_of, with_draw}
use Rattle.stored_water.proofs.CourseBalance.{after_draw_at, length_after}
use Rattle.stored_water.proofs.Drawing.{cap_by_carried, draws_add_up, listed}
use Rattle.water_model.proofs.Sets.{at_index, grouped, total_where_add}
use Rattle.water_model.specs.Accounts.{Ledger, drawn_from, draws_on, stock_of}
use Rattle.water_model.specs.Basin.{head_of, is_at, tail_of}
use Rattle.water_model.specs.Courses as courses
use Rattle.water_model.specs.Draws.{AreTaken, IsSited, cap_of}
use Rattle.water_model.specs.Lookups.{has}
use Rattle.water_model.specs.Plans.{carry_of}
use Rattle.water_model.specs.Stores.{drawing_node, drawn_node, storing_node}
use Rattle.water_model.specs.declared.types.Basin.{Basin}
use Rattle.water_model.specs.declared.types.Draw.{Draw}

-- ---- courses

pub courses_are_alike : CoursesAreAlike
courses_are_alike m taken flow out t links nodes = (
  λ c. record {
    taken_len = t.one_each;
    flow_len = links;
    out_len = nodes;
    carries = c.high;
    holds = c.low;
    outlets = c.outlets;
    balance = λ n l. omega (arith, c.balance n l, t.each n l);
  },
  λ c. record {
    low = c.holds;
    high = c.carries;
    outlets = c.outlets;
    balance = λ n l. omega (arith, c.balance n l, t.each n l);
  },
)

-- a course by other functions with the same amounts
same_course : (m : MonthDraws) (f g o p : ℕ → ℕ) → ((e : ℕ) → e < length m.basin.links → g e ≡ f e) →
    ((n : ℕ) → n < length m.basin.nodes → p n ≡ o n) → IsCourse m f o → IsCourse m g p
same_course m f g o p links nodes c = record {
  low = λ e l. omega (arith, c.low e l, links e l);
  high = λ e l. omega (arith, c.high e l, links e l);
  outlets = λ n l h. nodes n l ∙ c.outlets n l h;
  balance = λ n l. omega (
    arith,
    c.balance n l,
    nodes n l,
    same_where (length m.basin.links) (λ e. head_of m.basin e == n) g f (λ e k h. links e k),
    same_where (length m.basin.links) (λ e. tail_of m.basin e == n) g f (λ e k h. links e k),
  );
}

-- there is one in the one sense where there is one in the other
to_lists : (m : MonthDraws) (taken : List ℕ) → IsTakenAfter m taken → HasCourse m →
    courses.HasCourse m.basin (carry_of m.basin m.month) (slice_index m.held) m.supply taken
to_lists m taken t has_course =
    let flow = listed (length m.basin.links) has_course.0 in
    let out = listed (length m.basin.nodes) has_course.1.0 in
    record {
      flow = flow.0;
      out = out.0;
      is_course = (courses_are_alike m taken flow.0 out.0 t flow.1 out.1).0
          (same_course m has_course.0 (slice_index flow.0) has_course.1.0 (slice_index out.0) flow.2 out.2
          has_course.1.1);
    }

to_functions : (m : MonthDraws) (taken : List ℕ) → IsTakenAfter m taken →
    courses.HasCourse m.basin (carry_of m.basin m.month) (slice_index m.held) m.supply taken → HasCourse m
to_functions m taken t has_course =
    let course = has_course.is_course in (
      slice_index has_course.flow,
      (
        slice_index has_course.out,
        (courses_are_alike m taken has_course.flow has_course.out t course.flow_len course.out_len).1 course,
      ),
    )

-- ---- stops

pub stops_are_alike : StopsAreAlike
stops_are_alike m taken k set t = (
  λ s. record {
    one_each = s.one_each;
    drawing = s.diversion;
    storing = s.reservoir;
    full = omega (arith, s.tight, sums s.one_each);
  },
  λ s. record {
    one_each = s.one_each;
    diversion = s.drawing;
    reservoir = s.storing;
    tight = omega (arith, s.full, sums s.one_each);
  },
)
  where
    -- what draws move at nodes of the set is what those at such nodes move
    moved_in : (at : ℕ → ℕ) → length set ≡ length m.basin.nodes →
        total_where (length m.basin.nodes) (λ n. has set n)
        (λ n. total_where (length m.draws) (λ j. at j == n) (λ j. slice_index m.drawn j))
        ≡ total_where (length m.draws) (λ j. has set (at j)) (λ j. slice_index m.drawn j)
    moved_in at len =
        grouped (length m.basin.nodes) (length m.draws) (λ n. has set n) (λ j n. at j == n) (λ j. has set (at j))
        (λ j. slice_index m.drawn j) (λ j x. at_index (length m.basin.nodes) set len (at j) x)

    sums : length set ≡ length m.basin.nodes →
        total_where (length m.basin.nodes) (λ n. has set n) (λ n. slice_index taken n)
        + total_where (length m.draws) (λ j. has set (reservoir_of m.draws j)) (λ j. slice_index m.drawn j)
        ≡ total_where (length m.basin.nodes) (λ n. has set n) (λ n. slice_index m.taken n)
        + total_where (length m.draws) (λ j. has set (diversion_of m.draws j)) (λ j. slice_index m.drawn j)
    sums len =
        omega (
          arith,
          moved_in (reservoir_of m.draws) len,
          moved_in (diversion_of m.draws) len,
          total_where_add (length m.basin.nodes) (λ n. has set n) (slice_index taken) (left_at m),
          total_where_add (length m.basin.nodes) (λ n. has set n) (slice_index m.taken) (drawn_at m),
          same_where (length m.basin.nodes) (λ n. has set n) (λ n. slice_index taken n + left_at m n)
              (λ n. slice_index m.taken n + drawn_at m n) (λ n l h. t.each n l),
        )

-- ---- draws

-- one draw more
drawn_more : (n k x : ℕ) (p : ℕ → Bool) (drawn : List ℕ) → k < n → n ≡ length drawn → slice_index drawn k ≡ 0 →
    total_where n p (λ j. slice_index (slice_set drawn k x) j)
    ≡ total_where n p (λ j. slice_index drawn j) + (if p k then x else 0)
drawn_more n k x p drawn l len none =
    omega (
      arith,
      total_change n k (λ j. if p j then slice_index (slice_set drawn k x) j else 0)
          (λ j. if p j then slice_index drawn j else 0) l
          (λ j h other. ap (λ y. if p j then y else 0) (get_or-set_other drawn k j x 0 other)),
      ap (λ y. if p k then y else 0) (get_or-set_same drawn k x 0 (omega arith)),
      nothing (p k),
    )
  where
    nothing : (t : Bool) → (if t then slice_index drawn k else 0) ≡ 0
    nothing true = none
    nothing false = refl

pub taken_are_alike : TakenAreAlike
taken_are_alike m taken k cap amount t turn fits = record {
  one_each = length_after taken (reservoir_of m.draws k) (diversion_of m.draws k) amount ∙ t.one_each;
  each = λ n l. omega (
    arith,
    t.each n l,
    after_draw_at taken (reservoir_of m.draws k) (diversion_of m.draws k) amount n
        (omega (arith, turn.from, t.one_each)) (omega (arith, turn.to, t.one_each)) (omega (arith, turn.kept, fits)),
    drawn_more (length m.draws) k amount (λ j. reservoir_of m.draws j == n) m.drawn turn.within (sym turn.drawn)
        turn.none,
    drawn_more (length m.draws) k amount (λ j. diversion_of m.draws j == n) m.drawn turn.within (sym turn.drawn)
        turn.none,
  );
}

pub draws_are_alike : DrawsAreAlike
draws_are_alike m taken k cap amount t turn = (
  λ g. record {
    within = g.within;
    course = to_lists (with_draw m k amount) (after amount) (alike amount g.within) g.course;
    greatest = λ other capped c.
        g.greatest other capped (to_functions (with_draw m k other) (after other) (alike other capped) c);
  },
  λ g. record {
    within = g.within;
    course = to_functions (with_draw m k amount) (after amount) (alike amount g.within) g.course;
    greatest = λ other capped c.
        g.greatest other capped (to_lists (with_draw m k other) (after other) (alike other capped) c);
  },
)
  where
    after : ℕ → List ℕ
    after x = courses.after_draw taken (reservoir_of m.draws k) (diversion_of m.draws k) x

    alike : (x : ℕ) → x ≤ cap → IsTakenAfter (with_draw m k x) (after x)
    alike x fits = taken_are_alike m taken k cap x t turn fits

pub answers_show_draws : AnswersShowDraws
answers_show_draws m taken k cap amount flow out before after t turn within can outcome links nodes course = record {
  within = within;
  course = (courses_are_alike (with_draw m k amount) drawn flow out alike links nodes).0 course;
  full = λ is_cap. full outcome is_cap;
  stopped = λ below. stopped outcome below;
}
  where
    drawn : List ℕ
    drawn = courses.after_draw taken (reservoir_of m.draws k) (diversion_of m.draws k) amount

    alike : IsTakenAfter (with_draw m k amount) drawn
    alike = taken_are_alike m taken k cap amount t turn within

    full : IsFullOrStopped (with_draw m k amount) k cap amount before after → amount ≡ cap → set_of after k ≡ None
    full (inl met) is_cap = ap (λ (s : CutSets). set_of s k) met.1 ∙ can.free
    full (inr short) is_cap = absurd (omega (arith, short.0))

    stopped : IsFullOrStopped (with_draw m k amount) k cap amount before after → amount < cap →
        (stop : List Bool) × (set_of after k ≡ Some stop)
        × courses.IsStop m.basin m.month (slice_index m.held) m.supply drawn (reservoir_of m.draws k)
        (diversion_of m.draws k) stop
    stopped (inl met) below = absurd (omega (arith, met.0))
    stopped (inr short) below = (
      short.1.0,
      ap (λ (s : CutSets). set_of s k) short.1.1.0 ∙ set_of_with before k (Some short.1.0) can.draw,
      (stops_are_alike (with_draw m k amount) drawn k short.1.0 alike).0 short.1.1.1,
    )

-- ---- the basin's own draws

-- a sum of which nothing comes behind the first terms
early : (n count : ℕ) (p q : ℕ → Bool) (f g : ℕ → ℕ) → count ≤ n →
    ((k : ℕ) → k < count → (p k ≡ q k) × (f k ≡ g k)) → ((k : ℕ) → count ≤ k → k < n → f k ≡ 0) →
    total_where n p f ≡ total_where count q g
early n count p q f g le same none =
    omega (
      arith,
      ap (λ m. total m (λ k. if p k then f k else 0)) whole,
      total_append count (n - count) (λ k. if p k then f k else 0),
      total_same count (λ k. if p k then f k else 0) (λ k. if q k then g k else 0)
          (λ k l. (let s = same k l in ap (λ t. if t then f k else 0) s.0 ∙ ap (λ x. if q k then x else 0) s.1)),
      total_zero (n - count) (λ k. if p (count + k) then f (count + k) else 0)
          (λ k l. nothing (p (count + k)) (f (count + k)) (none (count + k) (omega arith) (omega arith))),
    )
  where
    whole : n ≡ count + (n - count)
    whole = omega arith

    nothing : (t : Bool) (x : ℕ) → x ≡ 0 → (if t then x else 0) ≡ 0
    nothing true x h = h
    nothing false x h = refl

pub months_are_alike : MonthsAreAlike
months_are_alike delivered l count amounts m taken is below sited fits takes = record {
  one_each = takes.one_each;
  each = λ n h. omega (
    arith,
    takes.each n h,
    is.taken.each n h,
    draws_add_up m.basin delivered l count amounts n below (λ i k. sited.each i (omega arith)) fits,
    early (length m.draws) count (λ j. reservoir_of m.draws j == n) (λ j. is_at (drawn_node m.basin j) n)
        (λ j. slice_index m.drawn j) (λ j. slice_index amounts j) most
        (λ j k. (sym (ap (λ o. is_at o n) (is.from j (omega (arith, most)))), is.drawn j k)) is.later,
    early (length m.draws) count (λ j. diversion_of m.draws j == n) (λ j. is_at (drawing_node m.basin j) n)
        (λ j. slice_index m.drawn j) (λ j. slice_index amounts j) most
        (λ j k. (sym (ap (λ o. is_at o n) (is.to j (omega (arith, most)))), is.drawn j k)) is.later,
  );
}
  where
    most : count ≤ length m.draws
    most = omega (arith, below, is.draws)

-- ---- a month's draws

module _ (b : Basin) (asked number : ℕ → ℕ) (delivered : List ℕ) (l : Ledger) (amounts : List ℕ) (j : ℕ)
    (s : IsSited b j)
  where
    on_it : draws_on b j s.entry.account ≡ true
    on_it =
        ap (λ o. unwrap_or (option_map (λ (d : Draw). d.account == s.entry.account) o) false) s.is_entry
        ∙ eq-eqb s.entry.account s.entry.account refl

    -- a cap is within what the account still holds
    cap_held : cap_of b asked number delivered l amounts j
        ≤ stock_of l s.entry.account - drawn_from b j amounts s.entry.account
    cap_held = omega (arith, cap_by_carried b asked number delivered l amounts j s.entry.account on_it)

    -- and that is kept at its node
    cap_kept : (taken : List ℕ) → AreTaken b delivered l j amounts taken →
        cap_of b asked number delivered l amounts j ≤ slice_index taken s.from
    cap_kept taken takes =
        omega (
          arith,
          cap_held,
          takes.each s.from s.from_node,
          term_le_total_where (length b.accounts) (λ k. is_at (storing_node b k) s.from)
              (λ k. stock_of l k - drawn_from b j amounts k) s.entry.account s.account stored,
        )
      where
        stored : is_at (storing_node b s.entry.account) s.from ≡ true
        stored =
            ap (λ o. is_at o s.from)
            (sym (ap (λ o. unwrap_or (option_map (λ (d : Draw). storing_node b d.account) o) None) s.is_entry)
            ∙ s.is_from)
            ∙ eq-eqb s.from s.from refl

pub greatest_are_drawn : GreatestAreDrawn
greatest_are_drawn b month nodes supply first held drawn asked number delivered l amounts sited size shows = record {
  one_each = size;
  each = λ j h from to is_from is_to taken takes. greatest j h from to is_from is_to taken takes;
}
  where
    cap : ℕ → ℕ
    cap j = cap_of b asked number delivered l amounts j

    greatest : (j : ℕ) → j < length b.draws → (from to : ℕ) → drawn_node b j ≡ Some from →
        drawing_node b j ≡ Some to → (taken : List ℕ) → AreTaken b delivered l j amounts taken →
        courses.IsGreatestDraw b month (slice_index held) supply taken from to (cap j) (slice_index amounts j)
    greatest j h from to is_from is_to taken takes =
        let shown = shows j h in
        let m : MonthDraws = record {
          basin = b;
          draws = nodes;
          month = month;
          supply = supply;
          taken = first;
          held = held;
          drawn = drawn j;
        } in
        let within : j < length nodes = omega (arith, h, shown.0.draws) in
        let s = sited.each j h in
        let t = months_are_alike delivered l j amounts m taken shown.0 (omega arith) sited
        (λ i k site. omega (
          arith,
          (shows i (omega arith)).1.within,
          cap_held b asked number delivered l amounts i site,
        ))
        takes in
        let at_to : diversion_of nodes j ≡ to = same (sym (shown.0.to j within) ∙ is_to) in
        let at_from : reservoir_of nodes j ≡ from = same (sym (shown.0.from j within) ∙ is_from) in
        let s_to : diversion_of nodes j ≡ s.to = same (sym (shown.0.to j within) ∙ s.is_to) in
        let s_from : reservoir_of nodes j ≡ s.from = same (sym (shown.0.from j within) ∙ s.is_from) in
        subst
        (λ (x : ℕ). courses.IsGreatestDraw b month (slice_index held) supply taken from x (cap j)
        (slice_index amounts j))
        at_to
        (subst
        (λ (x : ℕ). courses.IsGreatestDraw b month (slice_index held) supply taken x (diversion_of nodes j) (cap j)
        (slice_index amounts j))
        at_from
        ((draws_are_alike m taken j (cap j) (slice_index amounts j) t
        (record {
          drawn = shown.0.one_each;
          within = within;
          none = shown.0.later j (omega arith) within;
          to = omega (arith, s.to_node, s_to);
          from = omega (arith, s.from_node, s_from);
          kept = omega (
            arith,
            cap_kept b asked number delivered l amounts j s taken takes,
            ap (slice_index taken) s_from,
          );
        })).0
        shown.1))
      where
        same : {x y : ℕ} → Some x ≡ Some y → x ≡ y
        same e = cc

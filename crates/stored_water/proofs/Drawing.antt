-- The draws of a month, one after another.
use Rattle.std.proofs.Common.{◌≡◌, ℕ, zero, suc, ◌+◌, ◌-◌, ◌<◌, ◌≤◌, Bool, true, false, refl, sym, ◌∙◌, ap, ap₂, arith}
use Rattle.std.proofs.Common.{List, [], ◌∷◌, length, inl, inr, subst, min}
use Rattle.std.proofs.lemmas.Bool.{cases_eq, cases_lt, eq-eqb, ne_eqb}
use Rattle.std.proofs.lemmas.Bool.Decides.{nat_tests}
use Rattle.std.proofs.lemmas.Grind.{same_number_lists}
use Rattle.std.specs.Prelude.{◌==◌, ◌≢◌, ◌&&◌, not, if◌then◌else◌, slice_index, slice_get, Option, Some, None}
use Rattle.std.specs.Prelude.{unwrap_or, option_map}
use Rattle.finite_sums.specs.Sums.{total, total_where}
use Rattle.finite_sums.proofs.Totals.{total_change, term_le_total_where}
use Rattle.finite_sums.proofs.Terms.{same_where}
use Rattle.water_model.specs.Basin.{is_at, takes_at}
use Rattle.water_model.specs.declared.types.Basin.{Basin}
use Rattle.water_model.specs.declared.types.Draw.{Draw}
use Rattle.water_model.specs.Stores.{sum_at_node, is_owned, storing_node, drawn_node, drawing_node}
use Rattle.water_model.specs.Accounts.{Ledger, stock_of, drawn_from, drawn_by, draws_on, draws_for}
use Rattle.water_model.specs.Courses.{IsGreatestDraw}
use Rattle.water_model.specs.Draws.{IsSited, cap_of, taken_with}
use Rattle.stored_water.specs.DrawLaws.{DrawsMoveWater, DrawsStayWithinCarried, DrawsStayWithinNumber}
use Rattle.stored_water.specs.DrawLaws.{DrawsHaveOneOutcome, DrawsLeaveFills, AreCapped, DrawsAddUp}
use Rattle.stored_water.specs.DrawLaws.{CoursesAndStopsShowDraws, ShownDrawsAreDrawn}
use Rattle.stored_water.proofs.CourseBalance.{after_draw_at, length_after}
use Rattle.stored_water.proofs.Stopping.{greatest_draw_is_one, stops_make_draws_greatest}

-- ---- caps

module _ (b : Basin) (asked number : ℕ → ℕ) (delivered : List ℕ) (l : Ledger) (amounts : List ℕ) where
  cap_by : ℕ → Option Draw → ℕ
  cap_by j o =
      unwrap_or
      (option_map
      (λ d. min (asked j)
      (min (number d.diversion - slice_index delivered d.diversion - drawn_by b j amounts d.diversion)
      (slice_index l.carried d.account - drawn_from b j amounts d.account)))
      o)
      0

  pub cap_by_carried : (j account : ℕ) → draws_on b j account ≡ true →
      cap_of b asked number delivered l amounts j ≤ slice_index l.carried account - drawn_from b j amounts account
  unfolding cap_by
  cap_by_carried j account = of_get (slice_get b.draws j)
    where
      of_get : (o : Option Draw) → unwrap_or (option_map (λ d. d.account == account) o) false ≡ true →
          cap_by j o ≤ slice_index l.carried account - drawn_from b j amounts account
      of_get None h = cc
      of_get (Some d) h =
          let same : d.account ≡ account = grind (arith, nat_tests) in
          let held : slice_index l.carried d.account - drawn_from b j amounts d.account
          ≡ slice_index l.carried account - drawn_from b j amounts account =
          ap (λ a. slice_index l.carried a - drawn_from b j amounts a) same in
          omega arith

  cap_by_number : (j right : ℕ) → draws_for b j right ≡ true →
      cap_of b asked number delivered l amounts j
      ≤ number right - slice_index delivered right - drawn_by b j amounts right
  unfolding cap_by
  cap_by_number j right = of_get (slice_get b.draws j)
    where
      of_get : (o : Option Draw) → unwrap_or (option_map (λ d. d.diversion == right) o) false ≡ true →
          cap_by j o ≤ number right - slice_index delivered right - drawn_by b j amounts right
      of_get None h = cc
      of_get (Some d) h =
          let same : d.diversion ≡ right = grind (arith, nat_tests) in
          let asks : number d.diversion - slice_index delivered d.diversion - drawn_by b j amounts d.diversion
          ≡ number right - slice_index delivered right - drawn_by b j amounts right =
          ap (λ a. number a - slice_index delivered a - drawn_by b j amounts a) same in
          omega arith

-- a term that passes, or none
term_cases : (t : Bool) (x y most : ℕ) → y ≤ most → (t ≡ true → x ≤ most - y) → y + (if t then x else 0) ≤ most
term_cases true x y most before fits = let f = fits refl in omega arith
term_cases false x y most before fits = omega arith

module _ (b : Basin) (asked number : ℕ → ℕ) (delivered : List ℕ) (l : Ledger) (amounts : List ℕ)
    (capped : AreCapped b asked number delivered l amounts)
  where
    carried_within : (count : ℕ) → count ≤ length b.draws → (account : ℕ) →
        drawn_from b count amounts account ≤ slice_index l.carried account
    unfolding total
    carried_within zero h account = omega arith
    carried_within (suc count) h account =
        term_cases (draws_on b count account) (slice_index amounts count)
        (drawn_from b count amounts account) (slice_index l.carried account)
        (carried_within count (omega arith) account)
        (λ on. omega (
          arith,
          capped count (omega arith),
          cap_by_carried b asked number delivered l amounts count account on,
        ))

    number_within : (count : ℕ) → count ≤ length b.draws → (right : ℕ) →
        slice_index delivered right ≤ number right →
        drawn_by b count amounts right ≤ number right - slice_index delivered right
    unfolding total
    number_within zero h right within = omega arith
    number_within (suc count) h right within =
        term_cases (draws_for b count right) (slice_index amounts count)
        (drawn_by b count amounts right) (number right - slice_index delivered right)
        (number_within count (omega arith) right within)
        (λ for_it. omega (
          arith,
          capped count (omega arith),
          cap_by_number b asked number delivered l amounts count right for_it,
        ))

pub draws_stay_within_carried : DrawsStayWithinCarried
draws_stay_within_carried b asked number delivered l amounts capped =
    carried_within b asked number delivered l amounts capped (length b.draws) (omega arith)

pub draws_leave_fills : DrawsLeaveFills
draws_leave_fills b opening evaporated asked number delivered amounts l is capped = (
  λ k m. omega (arith, drawn k m),
  λ k m. omega (arith, drawn k m, is.closing k m),
)
  where
    drawn : (k : ℕ) → k < length b.accounts → slice_index l.drawn k ≤ slice_index l.carried k
    drawn k m = omega (arith, is.drawn k m, draws_stay_within_carried b asked number delivered l amounts capped k)

pub draws_stay_within_number : DrawsStayWithinNumber
draws_stay_within_number b asked number delivered l amounts capped right h =
    omega (
      arith,
      number_within b asked number delivered l amounts capped (length b.draws) (omega arith) right h,
    )

-- ---- a draw moves water

sum_next : (n : ℕ) (p : ℕ → Bool) (f : ℕ → ℕ) →
    total_where (suc n) p f ≡ total_where n p f + (if p n then f n else 0)
unfolding total
sum_next n p f = refl

-- what an account still holds, and what those at a node do
kept_by : Basin → (ℕ → ℕ) → List ℕ → ℕ → ℕ → ℕ
kept_by b stock amounts count k = stock k - drawn_from b count amounts k

kept_at : Basin → (ℕ → ℕ) → List ℕ → ℕ → ℕ → ℕ
kept_at b stock amounts count n = sum_at_node b (λ k. stock k - drawn_from b count amounts k) n

module _ (b : Basin) (stock : ℕ → ℕ) (j : ℕ) (amounts : List ℕ)
    (s : IsSited b j)
    (fits : slice_index amounts j ≤ stock s.entry.account - drawn_from b j amounts s.entry.account)
  where
    stored_at : storing_node b s.entry.account ≡ Some s.from
    stored_at =
        sym (ap (λ o. unwrap_or (option_map (λ d. storing_node b d.account) o) None) s.is_entry) ∙ s.is_from

    on_it : (k : ℕ) → draws_on b j k ≡ (s.entry.account == k)
    on_it k = ap (λ o. unwrap_or (option_map (λ d. d.account == k) o) false) s.is_entry

    kept_other : (k : ℕ) → k ≢ s.entry.account →
        kept_by b stock amounts (suc j) k ≡ kept_by b stock amounts j k
    unfolding kept_by
    kept_other k other =
        let none : (if draws_on b j k then slice_index amounts j else 0) ≡ 0 =
        ap (λ t. if t then slice_index amounts j else 0)
        (on_it k ∙ ne_eqb s.entry.account k (λ e. other (sym e))) in
        omega (arith, sum_next j (λ i. draws_on b i k) (λ i. slice_index amounts i))

    kept_own : kept_by b stock amounts (suc j) s.entry.account + slice_index amounts j
        ≡ kept_by b stock amounts j s.entry.account
    unfolding kept_by
    kept_own =
        let all : (if draws_on b j s.entry.account then slice_index amounts j else 0) ≡ slice_index amounts j =
        ap (λ t. if t then slice_index amounts j else 0)
        (on_it s.entry.account ∙ eq-eqb s.entry.account s.entry.account refl) in
        omega (arith, fits, sum_next j (λ i. draws_on b i s.entry.account) (λ i. slice_index amounts i))

    -- so the accounts at the reservoir's node hold that much less, and those at other nodes as much
    node_keeps : (n : ℕ) →
        kept_at b stock amounts (suc j) n + (if s.from == n then slice_index amounts j else 0)
        ≡ kept_at b stock amounts j n
    unfolding kept_at kept_by
    node_keeps n =
        omega (
          arith,
          total_change (length b.accounts) s.entry.account
              (λ k. if is_at (storing_node b k) n then kept_by b stock amounts (suc j) k else 0)
              (λ k. if is_at (storing_node b k) n then kept_by b stock amounts j k else 0) s.account
              (λ k m other. ap (λ y. if is_at (storing_node b k) n then y else 0) (kept_other k other)),
          own (is_at (storing_node b s.entry.account) n),
          ap (λ o. if is_at o n then slice_index amounts j else 0) stored_at,
        )
      where
        own : (t : Bool) →
            (if t then kept_by b stock amounts (suc j) s.entry.account else 0)
            + (if t then slice_index amounts j else 0)
            ≡ (if t then kept_by b stock amounts j s.entry.account else 0)
        own true = kept_own
        own false = refl

    -- the accounts at the reservoir's node hold that much
    node_holds : slice_index amounts j ≤ kept_at b stock amounts j s.from
    unfolding kept_at kept_by
    node_holds =
        omega (
          arith,
          term_le_total_where (length b.accounts) (λ k. is_at (storing_node b k) s.from)
              (kept_by b stock amounts j) s.entry.account
              s.account (ap (λ o. is_at o s.from) stored_at ∙ eq-eqb s.from s.from refl),
          kept_own,
        )

pub draws_move_water : DrawsMoveWater
unfolding kept_at
draws_move_water b delivered l j amounts taken s below fits are = record {
  one_each = length_after taken s.from s.to (slice_index amounts j) ∙ are.one_each;
  each = λ n m.
      omega (
        arith,
        are.each n m,
        after_draw_at taken s.from s.to (slice_index amounts j) n (omega (arith, s.from_node, are.one_each))
            (omega (arith, s.to_node, are.one_each)) enough,
        node_keeps b (stock_of l) j amounts s fits n,
        sum_next j (λ i. is_at (drawing_node b i) n) (λ i. slice_index amounts i),
        ap (λ o. if is_at o n then slice_index amounts j else 0) s.is_to,
      );
}
  where
    enough : slice_index amounts j ≤ slice_index taken s.from
    enough = omega (arith, are.each s.from s.from_node, node_holds b (stock_of l) j amounts s fits)

-- all draws so far together
pub draws_add_up : DrawsAddUp
unfolding total kept_at
draws_add_up b delivered l zero amounts n below sited fits = refl
draws_add_up b delivered l (suc j) amounts n below sited fits =
    step (sited j (omega arith))
    (draws_add_up b delivered l j amounts n (omega arith) (λ i m. sited i (omega arith)) (λ i m. fits i (omega arith)))
  where
    step : IsSited b j →
        taken_with b delivered l j amounts n
        + total_where j (λ i. is_at (drawn_node b i) n) (λ i. slice_index amounts i)
        ≡ taken_with b delivered l 0 amounts n
        + total_where j (λ i. is_at (drawing_node b i) n) (λ i. slice_index amounts i) →
        taken_with b delivered l (suc j) amounts n
        + total_where (suc j) (λ i. is_at (drawn_node b i) n) (λ i. slice_index amounts i)
        ≡ taken_with b delivered l 0 amounts n
        + total_where (suc j) (λ i. is_at (drawing_node b i) n) (λ i. slice_index amounts i)
    step s before =
        omega (
          arith,
          before,
          node_keeps b (stock_of l) j amounts s (fits j (omega arith) s) n,
          ap (λ o. if is_at o n then slice_index amounts j else 0) s.is_from,
          ap (λ o. if is_at o n then slice_index amounts j else 0) s.is_to,
        )

-- ---- what shows draws

pub courses_and_stops_show_draws : CoursesAndStopsShowDraws
courses_and_stops_show_draws b month held supply asked number delivered l amounts are = record {
  one_each = are.one_each;
  each = λ j h from to is_from is_to taken takes.
      let shows = are.shown j h from to is_from is_to taken takes in
      stops_make_draws_greatest b month held supply taken shows.0.flow shows.0.out from to
      (cap_of b asked number delivered l amounts j) (slice_index amounts j) (are.within j h) shows.0.is_course
      shows.1;
}

pub shown_draws_are_drawn : ShownDrawsAreDrawn
shown_draws_are_drawn b month held supply asked number delivered l amounts flow out set are = record {
  one_each = are.one_each;
  each = λ j h from to is_from is_to taken takes.
      let shows = are.each j h from to is_from is_to taken takes in
      stops_make_draws_greatest b month held supply taken (flow j) (out j) from to
      (cap_of b asked number delivered l amounts j) (slice_index amounts j) shows.within shows.course
      (elim (cases_lt (slice_index amounts j) (cap_of b asked number delivered l amounts j)) [
        | inl below ↦ (let stop = shows.stopped below in inr (stop.0, stop.2))
        | inr above ↦ (let w = shows.within in inl (omega arith))
      ]);
}

-- ---- one outcome

-- numbers by index are a list
pub listed : (n : ℕ) (f : ℕ → ℕ) → (xs : List ℕ) × (length xs ≡ n) × ((k : ℕ) → k < n → slice_index xs k ≡ f k)
listed zero f = ([], refl, λ k l. absurd (omega arith))
listed (suc n) f =
    let rest = listed n (λ k. f (suc k)) in
    (f 0 ∷ rest.0, ap suc rest.1, at rest.0 rest.2)
  where
    at : (xs : List ℕ) → ((k : ℕ) → k < n → slice_index xs k ≡ f (suc k)) → (k : ℕ) → k < suc n →
        slice_index (f 0 ∷ xs) k ≡ f k
    at xs h zero l = refl
    at xs h (suc k) l = h k (omega arith)

module _ (b : Basin) (asked number : ℕ → ℕ) (delivered : List ℕ) (l : Ledger) (amounts others : List ℕ) (j : ℕ)
    (agree : (i : ℕ) → i < j → slice_index amounts i ≡ slice_index others i)
  where
    drawn_same : (account : ℕ) → drawn_from b j amounts account ≡ drawn_from b j others account
    drawn_same account =
        same_where j (λ i. draws_on b i account) (λ i. slice_index amounts i) (λ i. slice_index others i)
        (λ i m h. agree i m)

    brought_same : (right : ℕ) → drawn_by b j amounts right ≡ drawn_by b j others right
    brought_same right =
        same_where j (λ i. draws_for b i right) (λ i. slice_index amounts i) (λ i. slice_index others i)
        (λ i m h. agree i m)

    cap_same : cap_of b asked number delivered l amounts j ≡ cap_of b asked number delivered l others j
    unfolding cap_by
    cap_same = of_get (slice_get b.draws j)
      where
        of_get : (o : Option Draw) →
            cap_by b asked number delivered l amounts j o ≡ cap_by b asked number delivered l others j o
        of_get None = refl
        of_get (Some d) =
            ap₂
            (λ x y. min (asked j)
            (min (number d.diversion - slice_index delivered d.diversion - x) (slice_index l.carried d.account - y)))
            (brought_same d.diversion) (drawn_same d.account)

    taken_same : (n : ℕ) → taken_with b delivered l j amounts n ≡ taken_with b delivered l j others n
    taken_same n =
        ap₂
        (λ x y. total_where (length b.rights) (λ r. takes_at b r n && not (is_owned b r))
        (λ r. slice_index delivered r) + x + y)
        (same_where j (λ i. is_at (drawing_node b i) n) (λ i. slice_index amounts i)
        (λ i. slice_index others i) (λ i m h. agree i m))
        (same_where (length b.accounts) (λ k. is_at (storing_node b k) n)
        (λ k. stock_of l k - drawn_from b j amounts k) (λ k. stock_of l k - drawn_from b j others k)
        (λ k m h. ap (λ y. stock_of l k - y) (drawn_same k)))

pub draws_have_one_outcome : DrawsHaveOneOutcome
draws_have_one_outcome b month held supply asked number delivered l amounts others sited drawn also =
    same_number_lists amounts others (drawn.one_each ∙ sym also.one_each)
    (λ k h. agree (length b.draws) (omega arith) k (omega (arith, drawn.one_each)))
  where
    next : (j : ℕ) → j < length b.draws → ((i : ℕ) → i < j → slice_index amounts i ≡ slice_index others i) →
        slice_index amounts j ≡ slice_index others j
    next j h before =
        let s = sited.each j h in
        let taken = listed (length b.nodes) (taken_with b delivered l j amounts) in
        greatest_draw_is_one b month held supply taken.0 s.from s.to
        (cap_of b asked number delivered l amounts j) (slice_index amounts j) (slice_index others j)
        (drawn.each j h s.from s.to s.is_from s.is_to taken.0 (record { one_each = taken.1; each = taken.2 }))
        (subst
        (λ (cap : ℕ). IsGreatestDraw b month held supply taken.0 s.from s.to cap (slice_index others j))
        (sym (cap_same b asked number delivered l amounts others j before))
        (also.each j h s.from s.to s.is_from s.is_to taken.0
        (record {
          one_each = taken.1;
          each = λ n m. taken.2 n m ∙ taken_same b asked number delivered l amounts others j before n;
        })))

    agree : (j : ℕ) → j ≤ length b.draws → (i : ℕ) → i < j → slice_index amounts i ≡ slice_index others i
    agree zero h i m = absurd (omega arith)
    agree (suc j) h i m = elim (cases_eq i j) [
      | inl same ↦
          ap (slice_index amounts) same
          ∙ (next j (omega arith) (agree j (omega arith)) ∙ ap (slice_index others) (sym same))
      | inr other ↦ agree j (omega arith) i (omega arith)
    ]

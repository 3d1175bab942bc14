-- Draws come from within the cuts of those who draw.
use Rattle.std.proofs.Common.{◌≡◌, ℕ, zero, suc, ◌+◌, ◌-◌, ◌<◌, ◌≤◌, Bool, true, false, refl, sym, ◌∙◌, ap, arith, List}
use Rattle.std.proofs.Common.{[], ◌∷◌, length, inl, inr, replicate, subst}
use Rattle.std.proofs.lemmas.Bool.{cases_Bool, cases_eq, eq-eqb, eqb-true, or_cases, or_left, or_right}
use Rattle.std.proofs.lemmas.List.{length-replicate}
use Rattle.std.specs.Prelude.{◌⊎◌, ◌&&◌, ◌||◌, ◌==◌, not, if◌then◌else◌, slice_index, slice_get, Some, None, Option}
use Rattle.std.specs.Prelude.{unwrap_or, option_map}
use Rattle.duality.specs.Laws.{AreDeliveries}
use Rattle.finite_sums.specs.Sums.{total, total_where}
use Rattle.finite_sums.proofs.Terms.{same_where}
use Rattle.finite_sums.proofs.Totals.{total_same}
use Rattle.stored_water.proofs.CourseBalance.{taken_after}
use Rattle.stored_water.proofs.Drawing.{cap_by_carried, draws_add_up, listed}
use Rattle.stored_water.proofs.FirstSteps.{first_step_is_course}
use Rattle.stored_water.proofs.Stopping.{stop_bounds}
use Rattle.stored_water.proofs.TightCuts.{cut_is_tight, own_within}
use Rattle.stored_water.proofs.United.{IsTightAround, crosses_one, tight_is_stop}
use Rattle.stored_water.specs.DrawLaws.{AddUpFills, AddsCarried, AreAtDiversions, DrawsComeFromCuts}
use Rattle.water_model.proofs.Sets.{at_some_index, grouped, total_where_add}
use Rattle.water_model.specs.Accounts.{Ledger, drawn_from, draws_on, stock_of}
use Rattle.water_model.specs.Basin.{head_of, is_at, tail_of, taking_node, takes_at}
use Rattle.water_model.specs.Courses.{IsStopWithin, held_on, taken_within}
use Rattle.water_model.specs.Cuts.{IsTight, node_within}
use Rattle.water_model.specs.Draws.{AreDrawn, AreSited, AreTaken, IsSited, taken_with}
use Rattle.water_model.specs.Lookups.{has}
use Rattle.water_model.specs.Plans.{IsPlan, carry_of}
use Rattle.water_model.specs.Stores.{drawing_node, drawn_node}
use Rattle.water_model.specs.declared.types.Basin.{Basin}
use Rattle.water_model.specs.declared.types.Draw.{Draw}
use Rattle.water_model.specs.declared.types.Plan.{Plan}
use Rattle.water_text.specs.declared.month.Month.{Month}

-- ---- all nodes of two sets

united : List Bool → List Bool → List Bool
united [] ys = ys
united (x ∷ xs) [] = x ∷ xs
united (x ∷ xs) (y ∷ ys) = (x || y) ∷ united xs ys

or_false : (t : Bool) → t ≡ (t || false)
or_false true = refl
or_false false = refl

has_united : (xs ys : List Bool) (n : ℕ) → has (united xs ys) n ≡ (has xs n || has ys n)
unfolding united
has_united [] ys n = refl
has_united (x ∷ xs) [] n = or_false (has (x ∷ xs) n)
has_united (x ∷ xs) (y ∷ ys) zero = refl
has_united (x ∷ xs) (y ∷ ys) (suc n) = has_united xs ys n

length_united : (xs ys : List Bool) → length xs ≡ length ys → length (united xs ys) ≡ length xs
unfolding united
length_united [] ys e = sym e
length_united (x ∷ xs) [] e = refl
length_united (x ∷ xs) (y ∷ ys) e = ap suc (length_united xs ys (omega arith))

has_none : (k n : ℕ) → has (replicate k false) n ≡ false
has_none zero n = refl
has_none (suc k) zero = refl
has_none (suc k) (suc n) = has_none k n

module _ (b : Basin) (carry held : ℕ → ℕ) (flow out : List ℕ) where
  tight_none : IsTightAround b carry held flow out (replicate (length b.nodes) false)
  tight_none = record {
    entering = λ e l h. absurd (edge (head_of b e) (tail_of b e) h);
    leaving = λ e l h. absurd (edge (tail_of b e) (head_of b e) h);
    inside = λ n l h. absurd (no (has_none (length b.nodes) n) h);
  }
    where
      no : {t : Bool} → t ≡ false → t ≡ true → ⊥
      no e h = cc

      edge : (m n : ℕ) → (has (replicate (length b.nodes) false) m && not (has (replicate (length b.nodes) false) n))
          ≡ true → ⊥
      edge m n h =
          no (ap (λ t. t && not (has (replicate (length b.nodes) false) n)) (has_none (length b.nodes) m)) h

  tight_united : (xs ys : List Bool) → IsTightAround b carry held flow out xs →
      IsTightAround b carry held flow out ys → IsTightAround b carry held flow out (united xs ys)
  tight_united xs ys first second = record {
    entering = λ e l h. elim (edge (head_of b e) (tail_of b e) h) [
      | inl x ↦ first.entering e l x
      | inr y ↦ second.entering e l y
    ];
    leaving = λ e l h. elim (edge (tail_of b e) (head_of b e) h) [
      | inl x ↦ first.leaving e l x
      | inr y ↦ second.leaving e l y
    ];
    inside = λ n l h. elim (or_cases (has xs n) (has ys n) (sym (has_united xs ys n) ∙ h)) [
      | inl x ↦ first.inside n l x
      | inr y ↦ second.inside n l y
    ];
  }
    where
      edge : (m n : ℕ) → (has (united xs ys) m && not (has (united xs ys) n)) ≡ true →
          ((has xs m && not (has xs n)) ≡ true) ⊎ ((has ys m && not (has ys n)) ≡ true)
      edge m n h =
          crosses_one (has xs m) (has ys m) (has xs n) (has ys n)
          (sym (ap (λ t. t && not (has (united xs ys) n)) (has_united xs ys m)
          ∙ ap (λ t. (has xs m || has ys m) && not t) (has_united xs ys n)) ∙ h)

-- ---- the cuts of those who drew

-- the cut of the diversion of a draw
cut_of_draw : Basin → (ℕ → List Bool) → ℕ → List Bool
cut_of_draw b cut i = unwrap_or (option_map (λ d. cut d.diversion) (slice_get b.draws i)) []

-- all nodes of the cuts of the first draws above 0
add_cut : ℕ → List Bool → List Bool → List Bool
add_cut zero set more = set
add_cut (suc amount) set more = united set more

cuts_by : Basin → (ℕ → List Bool) → List ℕ → ℕ → List Bool
cuts_by b cut amounts zero = replicate (length b.nodes) false
cuts_by b cut amounts (suc i) =
    add_cut (slice_index amounts i) (cuts_by b cut amounts i) (cut_of_draw b cut i)

module _ (b : Basin) (month : Month) (l : Ledger) (natural supply want delivered amounts : List ℕ) (p : Plan)
    (asked number : ℕ → ℕ) (cut : ℕ → List Bool) (sited : AreSited b) (at_home : AreAtDiversions b)
    (plan : IsPlan b month natural want p) (are : AreDeliveries b want p delivered)
    (adds : AddsCarried b l natural supply) (fills : AddUpFills b delivered l)
    (drawn : AreDrawn b month (held_on b delivered) supply asked number delivered l amounts)
    (tight : (j : ℕ) (d : Draw) → slice_get b.draws j ≡ Some d → 0 < slice_index amounts j →
    IsTight b month natural delivered d.diversion (cut d.diversion))
  where
    set_by : ℕ → List Bool
    set_by i = cuts_by b cut amounts i

    -- what is so of the cut of a draw above 0
    home : (i : ℕ) (k : i < length b.draws) →
        takes_at b (sited.each i k).entry.diversion (sited.each i k).to ≡ true
    home i k =
        let s = sited.each i k in
        let at = at_home i s.entry s.is_entry in
        let to : s.entry.node ≡ s.to =
        same (sym (ap (λ o. unwrap_or (option_map (λ (d : Draw). Some d.node) o) None) s.is_entry) ∙ s.is_to) in
        ap (λ o. is_at o s.to) at ∙ eq-eqb s.entry.node s.to to
      where
        same : {x y : ℕ} → Some x ≡ Some y → x ≡ y
        same e = cc

    cut_is : (i : ℕ) (k : i < length b.draws) → cut_of_draw b cut i ≡ cut (sited.each i k).entry.diversion
    unfolding cut_of_draw
    cut_is i k =
        ap (λ o. unwrap_or (option_map (λ (d : Draw). cut d.diversion) o) []) (sited.each i k).is_entry

    draw_tight : (i : ℕ) (k : i < length b.draws) → 0 < slice_index amounts i →
        IsTightAround b (carry_of b month) (held_on b delivered) p.flow p.out (cut_of_draw b cut i)
        × (length (cut_of_draw b cut i) ≡ length b.nodes) × (has (cut_of_draw b cut i) (sited.each i k).to ≡ true)
    draw_tight i k above =
        let s = sited.each i k in
        let t = tight i s.entry s.is_entry above in
        subst
        (λ (set : List Bool).
        IsTightAround b (carry_of b month) (held_on b delivered) p.flow p.out set
        × (length set ≡ length b.nodes) × (has set s.to ≡ true))
        (sym (cut_is i k)) (
          cut_is_tight b month natural want delivered p s.entry.diversion s.to (cut s.entry.diversion) (home i k) plan
              are t,
          t.is_cut.one_each,
          within s.entry.diversion s.to (cut s.entry.diversion) (home i k)
              (own_within b month natural want delivered p s.entry.diversion s.to (cut s.entry.diversion) (home i k)
              plan are t),
        )
      where
        within : (r n : ℕ) (set : List Bool) → takes_at b r n ≡ true → node_within (taking_node b r) set ≡ true →
            has set n ≡ true
        within r n set takes inside = of_node (taking_node b r) takes inside
          where
            of_node : (o : Option ℕ) → is_at o n ≡ true → node_within o set ≡ true → has set n ≡ true
            of_node None h i = cc
            of_node (Some m) h i = let e : m ≡ n = eqb-true m n h in sym (ap (has set) e) ∙ i

    -- so of all of them together
    sets_tight : (i : ℕ) → i ≤ length b.draws →
        IsTightAround b (carry_of b month) (held_on b delivered) p.flow p.out (set_by i)
        × (length (set_by i) ≡ length b.nodes)
    unfolding cuts_by add_cut set_by
    sets_tight zero k =
        (tight_none b (carry_of b month) (held_on b delivered) p.flow p.out, length-replicate (length b.nodes) false)
    sets_tight (suc i) k = step (slice_index amounts i) refl (sets_tight i (omega arith))
      where
        step : (x : ℕ) → slice_index amounts i ≡ x →
            IsTightAround b (carry_of b month) (held_on b delivered) p.flow p.out (set_by i)
            × (length (set_by i) ≡ length b.nodes) →
            IsTightAround b (carry_of b month) (held_on b delivered) p.flow p.out
            (add_cut x (set_by i) (cut_of_draw b cut i))
            × (length (add_cut x (set_by i) (cut_of_draw b cut i)) ≡ length b.nodes)
        step zero e before = before
        step (suc x) e before =
            let one = draw_tight i (omega arith) (omega arith) in (
              tight_united b (carry_of b month) (held_on b delivered) p.flow p.out (set_by i) (cut_of_draw b cut i)
                  before.0 one.0,
              length_united (set_by i) (cut_of_draw b cut i) (before.1 ∙ sym one.1) ∙ before.1,
            )

    -- a node stays in, and one that is in is in the cut of a draw
    stays_in : (i j n : ℕ) → i ≤ j → has (set_by i) n ≡ true → has (set_by j) n ≡ true
    unfolding cuts_by add_cut set_by
    stays_in i zero n le h =
        let e : i ≡ 0 = omega arith in sym (ap (λ x. has (set_by x) n) e) ∙ h
    stays_in i (suc j) n le h = elim (cases_eq i (suc j)) [
      | inl e ↦ sym (ap (λ x. has (set_by x) n) e) ∙ h
      | inr other ↦ step (slice_index amounts j) (stays_in i j n (omega arith) h)
    ]
      where
        step : (x : ℕ) → has (set_by j) n ≡ true →
            has (add_cut x (set_by j) (cut_of_draw b cut j)) n ≡ true
        step zero before = before
        step (suc x) before =
            has_united (set_by j) (cut_of_draw b cut j) n
            ∙ or_left (has (set_by j) n) (has (cut_of_draw b cut j) n) before

    joins : (i n : ℕ) → 0 < slice_index amounts i → has (cut_of_draw b cut i) n ≡ true →
        has (set_by (suc i)) n ≡ true
    unfolding cuts_by add_cut set_by
    joins i n above h = step (slice_index amounts i) above
      where
        step : (x : ℕ) → 0 < x → has (add_cut x (set_by i) (cut_of_draw b cut i)) n ≡ true
        step zero a = absurd (omega arith)
        step (suc x) a =
            has_united (set_by i) (cut_of_draw b cut i) n
            ∙ or_right (has (set_by i) n) (has (cut_of_draw b cut i) n) h

    found : (j n : ℕ) → j ≤ length b.draws → has (set_by j) n ≡ true →
        (i : ℕ) × (d : Draw) × (slice_get b.draws i ≡ Some d) × (i < j) × (0 < slice_index amounts i)
        × (has (cut d.diversion) n ≡ true)
    unfolding cuts_by add_cut set_by
    found zero n k h = absurd (no (has_none (length b.nodes) n) h)
      where
        no : {t : Bool} → t ≡ false → t ≡ true → ⊥
        no e i = cc
    found (suc j) n k h =
        step (slice_index amounts j) refl h
        (λ i. (let f = found j n (omega arith) i in (f.0, f.1, f.2, omega (arith, f.3), f.4, f.5)))
      where
        step : (x : ℕ) → slice_index amounts j ≡ x → has (add_cut x (set_by j) (cut_of_draw b cut j)) n ≡ true →
            (has (set_by j) n ≡ true →
            (i : ℕ) × (d : Draw) × (slice_get b.draws i ≡ Some d) × (i < suc j) × (0 < slice_index amounts i)
            × (has (cut d.diversion) n ≡ true)) →
            (i : ℕ) × (d : Draw) × (slice_get b.draws i ≡ Some d) × (i < suc j) × (0 < slice_index amounts i)
            × (has (cut d.diversion) n ≡ true)
        step zero e i before = before i
        step (suc x) e i before =
            elim (or_cases (has (set_by j) n) (has (cut_of_draw b cut j) n)
            (sym (has_united (set_by j) (cut_of_draw b cut j) n) ∙ i)) [
              | inl old ↦ before old
              | inr new ↦
                  (let s = sited.each j (omega arith) in (
                    j,
                    s.entry,
                    s.is_entry,
                    omega arith,
                    omega arith,
                    sym (ap (λ set. has set n) (cut_is j (omega arith))) ∙ new,
                  ))
            ]

    -- what is taken with the first draws, as a list
    takes_of : (j : ℕ) → (taken : List ℕ) × AreTaken b delivered l j amounts taken
    takes_of j =
        let taken = listed (length b.nodes) (taken_with b delivered l j amounts) in
        (taken.0, record { one_each = taken.1; each = taken.2 })

    -- draws are within what their accounts hold
    fits : (i : ℕ) → i < length b.draws → (s : IsSited b i) →
        slice_index amounts i ≤ stock_of l s.entry.account - drawn_from b i amounts s.entry.account
    fits i k s =
        omega (
          arith,
          (drawn.each i k s.from s.to s.is_from s.is_to (takes_of i).0 (takes_of i).1).within,
          cap_by_carried b asked number delivered l amounts i s.entry.account on_it,
        )
      where
        on_it : draws_on b i s.entry.account ≡ true
        on_it =
            ap (λ o. unwrap_or (option_map (λ (d : Draw). d.account == s.entry.account) o) false) s.is_entry
            ∙ eq-eqb s.entry.account s.entry.account refl

    -- where the first draws move water within a set, as much is taken in it as before them
    moved_within : (j : ℕ) (set : List Bool) → j ≤ length b.draws → length set ≡ length b.nodes →
        ((i n : ℕ) → i < j → 0 < slice_index amounts i → drawn_node b i ≡ Some n → has set n ≡ true) →
        ((i n : ℕ) → i < j → 0 < slice_index amounts i → drawing_node b i ≡ Some n → has set n ≡ true) →
        taken_within b (takes_of j).0 set ≡ taken_within b (takes_of 0).0 set
    moved_within j set k len sources sinks =
        omega (
          arith,
          total_where_add (length b.nodes) (λ n. has set n) (slice_index (takes_of j).0)
              (λ n. at_nodes (drawn_node b) n),
          total_where_add (length b.nodes) (λ n. has set n) (slice_index (takes_of 0).0)
              (λ n. at_nodes (drawing_node b) n),
          same_where (length b.nodes) (λ n. has set n)
              (λ n. slice_index (takes_of j).0 n + at_nodes (drawn_node b) n)
              (λ n. slice_index (takes_of 0).0 n + at_nodes (drawing_node b) n) (λ n m h. same n m),
          all_in (drawn_node b) (λ i h. (let s = sited.each i (omega arith) in
              (s.from, s.is_from, (λ above. sources i s.from h above s.is_from)))),
          all_in (drawing_node b) (λ i h. (let s = sited.each i (omega arith) in
              (s.to, s.is_to, (λ above. sinks i s.to h above s.is_to)))),
        )
      where
        at_nodes : (ℕ → Option ℕ) → ℕ → ℕ
        at_nodes pos n = total_where j (λ i. is_at (pos i) n) (λ i. slice_index amounts i)

        same : (n : ℕ) → n < length b.nodes →
            slice_index (takes_of j).0 n + at_nodes (drawn_node b) n
            ≡ slice_index (takes_of 0).0 n + at_nodes (drawing_node b) n
        same n m =
            omega (
              arith,
              (takes_of j).1.each n m,
              (takes_of 0).1.each n m,
              draws_add_up b delivered l j amounts n k (λ i h. sited.each i (omega arith))
                  (λ i h s. fits i (omega arith) s),
            )

        term : (o : Option ℕ) (n x : ℕ) → o ≡ Some n → (0 < x → has set n ≡ true) →
            (if node_within o set then x else 0) ≡ x
        term o n zero e h = nothing (node_within o set)
          where
            nothing : (t : Bool) → ◌≡◌ {A = ℕ} (if t then 0 else 0) 0
            nothing true = refl
            nothing false = refl
        term o n (suc x) e h =
            ap (λ q. if node_within q set then suc x else 0) e
            ∙ ap (λ t. if t then suc x else 0) (h (omega arith))

        all_in : (pos : ℕ → Option ℕ) →
            ((i : ℕ) → i < j → (n : ℕ) × (pos i ≡ Some n) × (0 < slice_index amounts i → has set n ≡ true)) →
            total_where (length b.nodes) (λ n. has set n) (λ n. at_nodes pos n)
            ≡ total j (λ i. slice_index amounts i)
        all_in pos placed =
            grouped (length b.nodes) j (λ n. has set n) (λ i n. is_at (pos i) n) (λ i. node_within (pos i) set)
            (λ i. slice_index amounts i) (λ i x. at_some_index (length b.nodes) set len (pos i) x)
            ∙ total_same j (λ i. if node_within (pos i) set then slice_index amounts i else 0)
            (λ i. slice_index amounts i)
            (λ i h. (let at = placed i h in term (pos i) at.0 (slice_index amounts i) at.1 at.2))

    -- where water is taken is in the cuts by then
    to_in : (j i to : ℕ) → i < j → j ≤ length b.draws → 0 < slice_index amounts i → drawing_node b i ≡ Some to →
        has (set_by j) to ≡ true
    to_in j i to h k above at =
        let s = sited.each i (omega arith) in
        let e : s.to ≡ to = same (sym s.is_to ∙ at) in
        stays_in (suc i) j to (omega arith)
        (joins i to above (sym (ap (has (cut_of_draw b cut i)) e) ∙ (draw_tight i (omega arith) above).2))
      where
        same : {x y : ℕ} → Some x ≡ Some y → x ≡ y
        same e = cc

    -- and so is where it comes from: else these cuts would stop the draw
    step : (j from : ℕ) → j < length b.draws →
        ((i n : ℕ) → i < j → 0 < slice_index amounts i → drawn_node b i ≡ Some n → has (set_by j) n ≡ true) →
        0 < slice_index amounts j → drawn_node b j ≡ Some from → has (set_by (suc j)) from ≡ true
    step j from k before above is_from = elim (cases_Bool (has (set_by (suc j)) from)) [
      | inl inside ↦ inside
      | inr outside ↦ absurd (stopped outside)
    ]
      where
        s : IsSited b j
        s = sited.each j k

        to_inside : has (set_by (suc j)) s.to ≡ true
        to_inside = to_in (suc j) j s.to (omega arith) (omega arith) above s.is_to

        first : has (set_by (suc j)) from ≡ false →
            IsStopWithin b (carry_of b month) (held_on b delivered) supply (takes_of 0).0 from s.to (set_by (suc j))
        first outside =
            tight_is_stop b (carry_of b month) (held_on b delivered) supply (takes_of 0).0 p.flow p.out
            (first_step_is_course b month l natural supply want delivered amounts (takes_of 0).0 p plan are adds fills
            (takes_of 0).1)
            from s.to (set_by (suc j)) (sets_tight (suc j) (omega arith)).1 to_inside outside
            (sets_tight (suc j) (omega arith)).0

        stopped : has (set_by (suc j)) from ≡ false → ⊥
        stopped outside =
            let len : length (set_by (suc j)) ≡ length b.nodes = (sets_tight (suc j) (omega arith)).1 in
            let most : slice_index amounts j ≤ 0 =
            stop_bounds b (carry_of b month) (held_on b delivered) supply (takes_of j).0 from s.to 0 (set_by (suc j))
            (slice_index amounts j)
            (record {
              one_each = len;
              drawing = to_inside;
              storing = outside;
              full = omega (
                arith,
                (first outside).full,
                taken_after b (takes_of j).0 from s.to 0 (set_by (suc j)) (takes_of j).1.one_each s.to_node to_inside
                    outside,
                moved_within j (set_by (suc j)) (omega arith) len
                    (λ i n h a at. stays_in j (suc j) n (omega arith) (before i n h a at))
                    (λ i n h a at. to_in (suc j) i n (omega arith) (omega arith) a at),
              );
            })
            (drawn.each j k from s.to is_from s.is_to (takes_of j).0 (takes_of j).1).course in
            omega (arith, above)

    from_in : (c : ℕ) → c ≤ length b.draws → (i from : ℕ) → i < c → 0 < slice_index amounts i →
        drawn_node b i ≡ Some from → has (set_by c) from ≡ true
    from_in zero k i from h above at = absurd (omega arith)
    from_in (suc j) k i from h above at = elim (cases_eq i j) [
      | inl e ↦
          step j from (omega arith) (from_in j (omega arith))
          (omega (arith, above, ap (slice_index amounts) e)) (sym (ap (drawn_node b) e) ∙ at)
      | inr other ↦ stays_in j (suc j) from (omega arith) (from_in j (omega arith) i from (omega arith) above at)
    ]

pub draws_come_from_cuts : DrawsComeFromCuts
draws_come_from_cuts b month l natural supply want delivered amounts p asked number cut sited at_home plan are adds
    fills drawn tight j from k above at =
    let inside = from_in b month l natural supply want delivered amounts p asked number cut sited at_home plan are adds
    fills drawn tight (suc j) (omega arith) j from (omega arith) above at in
    let f = found b month l natural supply want delivered amounts p asked number cut sited at_home plan are adds fills
    drawn tight (suc j) from (omega arith) inside in
    (f.0, f.1, f.2, omega (arith, f.3), f.4, f.5)

-- One node more sends its water on.
use Rattle.std.proofs.Common.{◌≡◌, ◌≢◌, ℕ, ◌+◌, ◌<◌, Bool, true, false, refl, sym, ◌∙◌, ap, subst, arith, List, length}
use Rattle.std.proofs.Common.{inl, inr}
use Rattle.std.proofs.lemmas.Bool.{cases_lt, cases_eq, eqb-true}
use Rattle.std.proofs.lemmas.Bool.Decides.{nat_tests}
use Rattle.std.specs.Prelude.{◌==◌, ◌^◌, slice_index, slice_index_or, Option, Some, None, IfSome, IfNone, All}
use Rattle.std.specs.Prelude.{if◌then◌else◌}
use Rattle.finite_sums.specs.Sums.{total, total_where}
use Rattle.finite_sums.proofs.Totals.{total_same, total_zero, total_add, total_at, total_change, total_pick}
use Rattle.finite_sums.proofs.Totals.{term_le_total}
use Rattle.finite_sums.proofs.Counts.{at_inside}
use Rattle.water_model.specs.Network.{tail_in, head_in, is_outlet_in, HasNodes, IsSoundNetwork}
use Rattle.water_model.specs.RunOfRiver.{IsFirstRiver, RunsNaturally}
use Rattle.water_model.specs.declared.types.Link.{Link}
use Rattle.water_model.specs.declared.types.Node.{Node}
use Rattle.river_net.specs.Net.{IsNet, IsRiverOf, IsRunningOrder}
use Rattle.river_net.specs.NetView.{NetView}
use Rattle.river_net.specs.Running.{IsRunning, IsSent, CanSend}
use Rattle.river_net.proofs.Entries.{ends_in}
use Rattle.river_net.proofs.RiverPlan.{same_river, no_value, own_value}

-- at the start no water runs
pub running_start : {nodes : List Node} {links : List Link} {supply position : ℕ → ℕ} {flow out : ℕ → ℕ} →
    ((e : ℕ) → e < length links → flow e ≡ 0) →
    ((v : ℕ) → v < length nodes → out v ≡ supply v) → IsRunning nodes links supply position 0 flow out
running_start {nodes} {links} {supply} {position} {flow} {out} dry here = record {
  balance = λ v l. omega (
    arith,
    total_zero (length links) (λ e. if head_in links e == v then flow e else 0)
        (λ e k. no_value (head_in links e == v) (flow e) (λ _. dry e k)),
    total_zero (length links) (λ e. if tail_in links e == v then flow e else 0)
        (λ e k. no_value (tail_in links e == v) (flow e) (λ _. dry e k)),
    here v l,
  );
  all = total_same (length nodes) out supply here;
  empty = λ v l below h. absurd (omega arith);
  quiet = λ e l. inl (dry e l);
  small = λ e l. (let d = dry e l in omega arith);
}

-- another node that is up to a position in the order is before it
at_index : {nodes : List Node} {links : List Link} {order : List ℕ} (run : IsRunningOrder nodes links order) (i u : ℕ) →
    i < length nodes → u < length nodes → u ≢ slice_index order i → run.position u < i + 1 → run.position u < i
at_index {nodes} {links} {order} run i u l k ne below = elim (cases_lt (run.position u) i) [
  | inl before ↦ before
  | inr after ↦
      absurd (ne (let same : run.position u ≡ i = omega arith in sym (run.each u k) ∙ ap (slice_index order) same))
]

-- an outlet keeps its water
pub running_outlet : {nodes : List Node} {links : List Link} {supply : ℕ →
    ℕ} {order : List ℕ} (run : IsRunningOrder nodes links order) {i : ℕ} {flow out : ℕ → ℕ} →
    i < length nodes → is_outlet_in nodes (slice_index order i) ≡ true →
    IsRunning nodes links supply run.position i flow out → IsRunning nodes links supply run.position (i + 1) flow out
running_outlet {nodes} run {i} l outlet now = record {
  balance = now.balance;
  all = now.all;
  empty = λ v k below h. now.empty v k (at_index run i v l k (λ e. let o : is_outlet_in nodes v ≡ true =
      ap (is_outlet_in nodes) e ∙ outlet in cc) below) h;
  quiet = λ e k. elim (now.quiet e k) [ inl none ↦ inl none | inr some ↦ inr (some.0, let s = some.1 in omega arith) ];
  small = now.small;
}

-- any other node sends its water down its first river
pub running_next : {nodes : List Node} {links : List Link} {supply : ℕ →
    ℕ} {order : List ℕ} (run : IsRunningOrder nodes links order) {i e : ℕ} {flow flow' out out' : ℕ → ℕ} →
    All (λ l. HasNodes nodes l) links → i < length nodes → IsFirstRiver links e →
    tail_in links e ≡ slice_index order i → IsSent e (slice_index order i) (head_in links e) flow flow' out out' →
    IsRunning nodes links supply run.position i flow out → IsRunning nodes links supply run.position (i + 1) flow' out'
running_next {nodes} {links} {supply} {order} run {i} {e} {flow} {flow'} {out} {out'} ends l first at sent
    now = record {
      balance = λ u k. omega (arith, now.balance u k, ins u, outs u, moved u);
      all = omega (
        arith,
        now.all,
        total_same (length nodes) (λ u. out' u + (if v == u then out v else 0))
            (λ u. out u + (if head_in links e == u then out v else 0)) (λ u k. moved u),
        total_add (length nodes) out' (λ u. if v == u then out v else 0),
        total_add (length nodes) out (λ u. if head_in links e == u then out v else 0),
        total_at (length nodes) v (out v),
        total_at (length nodes) (head_in links e) (out v),
        at_inside v (length nodes) (out v) v_in,
        at_inside (head_in links e) (length nodes) (out v) head_below,
      );
      empty = λ u k below inner. elim (cases_eq u v) [
        | inl here ↦ ap out' here ∙ sent.left
        | inr other ↦ (let before : run.position u < i = at_index run i u l k other below in
            sent.others u other (λ at. let p = ap run.position at in absurd (omega (arith, forward)))
            ∙ now.empty u k before inner)
      ];
      quiet = λ f k. elim (cases_eq f e) [
        | inl here ↦
            inr (
              subst (IsFirstRiver links) (sym here) first,
              let p = ap (λ x. run.position (tail_in links x)) here in
                  omega (arith, v_index, tail_index),
            )
        | inr other ↦ elim (now.quiet f k) [
          | inl none ↦ inl (sent.off f other ∙ none)
          | inr some ↦ inr (some.0, let s = some.1 in omega arith)
        ]
      ];
      small = λ f k. elim (cases_eq f e) [
        | inl here ↦ (let same = ap flow' here in
            omega (arith, sent.on, now.all, term_le_total (length nodes) out v v_in))
        | inr other ↦ omega (arith, sent.off f other, now.small f k)
      ];
    }
  where
    v : ℕ
    v = slice_index order i

    v_in : v < length nodes
    v_in = run.below i l

    e_in : e < length links
    e_in = first.in_range

    head_below : head_in links e < length nodes
    head_below = (ends_in nodes links ends e e_in).1

    v_index : run.position v ≡ i
    v_index = run.placed i l

    tail_index : run.position (tail_in links e) ≡ run.position v
    tail_index = ap run.position at

    forward : i < run.position (head_in links e)
    forward = let up = run.forward.runs e e_in in omega (arith, v_index, tail_index)

    dry : flow e ≡ 0
    dry = elim (now.quiet e e_in) [
      | inl none ↦ none
      | inr some ↦ (let s = some.1 in absurd (omega (arith, v_index, tail_index)))
    ]

    one : (t : Bool) (x y p q : ℕ) → x ≡ 0 → p + (if t then x else 0) ≡ q + (if t then y else 0) →
        p ≡ q + (if t then y else 0)
    one true x y p q h j = omega arith
    one false x y p q h j = omega arith

    ins : (u : ℕ) → total_where (length links) (λ f. head_in links f == u) flow' ≡ total_where (length links)
        (λ f. head_in links f == u) flow + (if head_in links e == u then out v else 0)
    ins u = one (head_in links e == u) (flow e) (out v) _ _ dry
        (subst (λ x. total_where (length links) (λ f. head_in links f == u)
        flow' + (if head_in links e == u then flow e else 0)
        ≡ total_where (length links) (λ f. head_in links f == u) flow + (if head_in links e == u then x else 0)) sent.on
        (total_change (length links) e (λ f. if head_in links f == u then flow' f else 0)
        (λ f. if head_in links f == u then flow f else 0) e_in
        (λ f k ne. ap (λ x. if head_in links f == u then x else 0) (sent.off f ne))))

    outs : (u : ℕ) → total_where (length links) (λ f. tail_in links f == u) flow' ≡ total_where (length links)
        (λ f. tail_in links f == u) flow + (if v == u then out v else 0)
    outs u = subst (λ x. total_where (length links) (λ f. tail_in links f == u) flow' ≡ total_where (length links)
        (λ f. tail_in links f == u) flow + (if x == u then out v else 0)) at
        (one (tail_in links e == u) (flow e) (out v) _ _ dry
        (subst (λ x. total_where (length links) (λ f. tail_in links f == u)
        flow' + (if tail_in links e == u then flow e else 0)
        ≡ total_where (length links) (λ f. tail_in links f == u) flow + (if tail_in links e == u then x else 0)) sent.on
        (total_change (length links) e (λ f. if tail_in links f == u then flow' f else 0)
        (λ f. if tail_in links f == u then flow f else 0) e_in
        (λ f k ne. ap (λ x. if tail_in links f == u then x else 0) (sent.off f ne)))))

    apart : v ≢ head_in links e
    apart h = let p = ap run.position h in absurd (omega (arith, forward, v_index))

    -- the water that left v stands at the head
    moved : (u : ℕ) → out' u + (if v == u then out v else 0) ≡ out u + (if head_in links e == u then out v else 0)
    moved u =
        by_index v (head_in links e) u (out v) (out u) (out' u) (out' v) (out' (head_in links e))
        (out (head_in links e)) apart sent.left sent.reached (sent.others u)
        (λ h. ap out' h) (λ h. ap out' h) (λ h. ap out h) (λ h. ap out h)
      where
        by_index : (v h u x o o' ov oh ph : ℕ) → v ≢ h → ov ≡ 0 → oh ≡ ph + x → (u ≢ v → u ≢ h → o' ≡ o) →
            (u ≡ v → o' ≡ ov) → (u ≡ h → o' ≡ oh) → (u ≡ v → o ≡ x) → (u ≡ h → o ≡ ph) →
            o' + (if v == u then x else 0) ≡ o + (if h == u then x else 0)
        by_index v h u x o o' ov oh ph ne left reached others a c d f = grind (arith, nat_tests)

-- where all nodes sent their water on, what runs down a first river is what came to its node
pub run_sends : {nodes : List Node} {links : List Link} {supply : ℕ →
    ℕ} {order : List ℕ} (run : IsRunningOrder nodes links order) {flow out : ℕ → ℕ} →
    All (λ l. HasNodes nodes l) links → IsSoundNetwork nodes links →
    IsRunning nodes links supply run.position (length nodes) flow out → (e : ℕ) → IsFirstRiver links e →
    flow e ≡ supply (tail_in links e) + total_where (length links) (λ f. head_in links f == tail_in links e) flow
run_sends {nodes} {links} run {flow} ends sound now e first =
    omega (
      arith,
      now.balance (tail_in links e) tail_below,
      now.empty (tail_in links e) tail_below (run.in_range (tail_in links e) tail_below)
          (sound.outlets_end e first.in_range),
      total_pick (length links) e (λ f. if tail_in links f == tail_in links e then flow f else 0) first.in_range
          (λ f k ne. other f k ne),
      own_value (tail_in links e) (tail_in links e) (flow e) refl,
    )
  where
    tail_below : tail_in links e < length nodes
    tail_below = (ends_in nodes links ends e first.in_range).0

    other : (f : ℕ) → f < length links → f ≢ e → (if tail_in links f == tail_in links e then flow f else 0) ≡ 0
    other f k ne = no_value (tail_in links f == tail_in links e) (flow f) (λ t. elim (now.quiet f k) [
      | inl none ↦ none
      | inr some ↦ absurd (ne (same_river some.0 first (eqb-true (tail_in links f) (tail_in links e) t)))
    ])

-- the run of the river is what is left where all nodes sent their water on
pub runs_naturally : {nodes : List Node} {links : List Link} {supply order : List ℕ}
    (run : IsRunningOrder nodes links order) {flow out : List ℕ} →
    All (λ l. HasNodes nodes l) links → IsSoundNetwork nodes links → length flow ≡ length links →
    length out ≡ length nodes →
    IsRunning nodes links (λ v. slice_index supply v) run.position (length nodes) (λ e. slice_index flow e)
    (λ v. slice_index out v) → RunsNaturally nodes links supply flow out
runs_naturally {nodes} {links} run {flow} ends sound flow_len out_len now = record {
  flow_len = flow_len;
  out_len = out_len;
  rivers = λ e first. run_sends run ends sound now e first;
  others = λ e l other. elim (now.quiet e l) [ inl none ↦ none | inr some ↦ absurd (other some.0) ];
  outlets = λ n l outlet. (let b = now.balance n l in let none = dry n outlet in omega arith);
  inner = λ n l inner. now.empty n l (run.in_range n l) inner;
}
  where
    -- no water leaves an outlet by a link
    dry : (n : ℕ) → is_outlet_in nodes n ≡ true →
        total_where (length links) (λ e. tail_in links e == n) (λ e. slice_index flow e) ≡ 0
    dry n outlet = total_zero (length links) (λ e. if tail_in links e == n then slice_index flow e else 0) (λ e l.
        no_value (tail_in links e == n) (slice_index flow e) (λ at. let no = sound.outlets_end e l in
        let yes : is_outlet_in nodes (tail_in links e) ≡ true =
        ap (is_outlet_in nodes) (eqb-true (tail_in links e) n at) ∙ outlet in cc))

-- what a node needs to send its water on, where others have sent theirs
pub send_fits : {nodes : List Node} {links : List Link} {net : NetView} (is : IsNet nodes links net) {supply : ℕ →
    ℕ} {i : ℕ} (heads flow out : List ℕ) {f : ℕ → ℕ} →
    total (length nodes) supply < 10 ^ 15 → i < length nodes → heads ≡ net.heads → length flow ≡ length links →
    length out ≡ length nodes → IsRunning nodes links supply is.run.position i f (λ v. slice_index out v) →
    CanSend (slice_index_or net.rivers (slice_index net.order i) None) (slice_index net.order i) heads flow out
send_fits {nodes} {links} {net} is {supply} {i} heads flow out bounded l same lf lo now =
    of_river (slice_index_or net.rivers v None) (is.river v v_in)
  where
    v : ℕ
    v = slice_index net.order i

    v_in : v < length nodes
    v_in = is.run.below i l

    of_river : (o : Option ℕ) → IsRiverOf nodes links v o → CanSend o v heads flow out
    of_river None h = tt
    of_river (Some e) h =
        let e_in : e < length links = h.1.in_range in
        let head : slice_index heads e ≡ head_in links e =
        ap (λ (xs : List ℕ). slice_index xs e) same ∙ is.head e e_in in
        let below = (ends_in nodes links is.ends e e_in).1 in
        let up = is.run.forward.runs e e_in in
        let count : length heads ≡ length links = ap length same ∙ is.head_count in (
          omega arith,
          (
            omega arith,
            (
              omega arith,
              (
                (λ back. let p = ap is.run.position (sym head ∙ back) in let q = ap is.run.position h.2 in
                    absurd (omega arith)),
                (let x = ap (λ u. slice_index out u) head in
                    omega (
                      arith,
                      x,
                      now.all,
                      v_in,
                      term_le_total (length nodes) (λ u. slice_index out u) (head_in links e) below,
                      term_le_total (length nodes) (λ u. slice_index out u) v v_in,
                    )),
              ),
            ),
          ),
        )

-- what is left where a node has sent its water on
pub send_done : {nodes : List Node} {links : List Link} {net : NetView} (is : IsNet nodes links net) {supply : ℕ →
    ℕ} {i : ℕ} (heads flow flow' out out' : List ℕ) → i < length nodes → heads ≡ net.heads →
    IfNone (slice_index_or net.rivers (slice_index net.order i) None) ((flow' ≡ flow) × (out' ≡ out)) →
    IfSome (slice_index_or net.rivers (slice_index net.order i) None)
    (λ e. IsSent e (slice_index net.order i) (slice_index heads e) (λ x. slice_index flow x)
    (λ x. slice_index flow' x) (λ x. slice_index out x) (λ x. slice_index out' x)) →
    IsRunning nodes links supply is.run.position i (λ e. slice_index flow e) (λ v. slice_index out v) →
    IsRunning nodes links supply is.run.position (i + 1) (λ e. slice_index flow' e) (λ v. slice_index out' v)
send_done {nodes} {links} {net} is {supply} {i} heads flow flow' out out' l same none some now =
    of_river (slice_index_or net.rivers v None) (is.river v (is.run.below i l)) none some
  where
    v : ℕ
    v = slice_index net.order i

    of_river : (o : Option ℕ) → IsRiverOf nodes links v o → IfNone o ((flow' ≡ flow) × (out' ≡ out)) →
        IfSome o (λ e. IsSent e v (slice_index heads e) (λ x. slice_index flow x) (λ x. slice_index flow' x)
        (λ x. slice_index out x) (λ x. slice_index out' x)) →
        IsRunning nodes links supply is.run.position (i + 1) (λ e. slice_index flow' e) (λ v. slice_index out' v)
    of_river None h none some =
        subst (λ (xs : List ℕ). IsRunning nodes links supply is.run.position (i + 1) (λ e. slice_index xs e)
        (λ v. slice_index out' v)) (sym none.0)
        (subst (λ (xs : List ℕ). IsRunning nodes links supply is.run.position (i + 1) (λ e. slice_index flow e)
        (λ v. slice_index xs v)) (sym none.1) (running_outlet is.run l h now))
    of_river (Some e) h none some =
        let head : slice_index heads e ≡ head_in links e =
        ap (λ (xs : List ℕ). slice_index xs e) same ∙ is.head e h.1.in_range in
        running_next is.run is.ends l h.1 h.2
        (subst (λ k. IsSent e v k (λ x. slice_index flow x) (λ x. slice_index flow' x) (λ x. slice_index out x)
        (λ x. slice_index out' x)) head some) now

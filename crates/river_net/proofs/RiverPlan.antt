-- The run of the river is a plan.
use Rattle.std.proofs.Common.{◌≡◌, ℕ, ◌+◌, ◌<◌, ◌≤◌, Bool, true, false, refl, sym, ◌∙◌, ap, arith, List}
use Rattle.std.proofs.Common.{length, inl, inr}
use Rattle.std.proofs.lemmas.Bool.{cases_lt, cases_order, cases_Bool, false_from_ne_true, and_parts, and_from}
use Rattle.std.proofs.lemmas.Bool.{eqb-true, eq-eqb, false≢true}
use Rattle.std.proofs.lemmas.Bool.Decides.{nat_tests}
use Rattle.std.specs.Prelude.{◌==◌, ◌&&◌, nat_lt, nat_le, if◌then◌else◌, slice_index}
use Rattle.finite_sums.specs.Sums.{total, total_where}
use Rattle.finite_sums.proofs.Totals.{total_same, total_zero, total_add, total_at, total_pick, total_le}
use Rattle.finite_sums.proofs.Totals.{count_less, index_counted}
use Rattle.water_model.specs.Network.{tail_in, head_in, is_outlet_in, is_river_in, IsForward}
use Rattle.water_model.specs.Network.{IsSoundNetwork, HasRiverOut}
use Rattle.water_model.specs.RunOfRiver.{IsFirstRiver, RunsNaturally, water_at}
use Rattle.water_model.specs.declared.types.Link.{Link}
use Rattle.water_model.specs.declared.types.Node.{Node}
use Rattle.water_model.specs.Basin.{takes_at}
use Rattle.water_model.specs.Plans.{carry_of}
use Rattle.water_model.proofs.Carries.{river_carry}
use Rattle.water_model.proofs.Valid.{ends}
use Rattle.water_model.proofs.Sets.{grouped, total_where_add}
use Rattle.river_net.specs.Firsts.{IsWithin}
use Rattle.river_net.specs.Laws.{RunOfRiverIsPlan}
use Rattle.finite_sums.proofs.Counts.{at_inside, none_passes}
use Rattle.river_net.proofs.Ranks.{forward_numbers}

-- a node that a river leaves has a first river
first_river : (links : List Link) (v : ℕ) → HasRiverOut links v → (e : ℕ) × IsFirstRiver links e × (tail_in links e ≡ v)
first_river links v out =
    let some = index_counted (length links) 0 test (let more = count_less out.link (length links) test out.in_range
    (and_from (tail_in links out.link == v) (is_river_in links out.link)
    (eq-eqb (tail_in links out.link) v out.tail) out.river) in omega arith) in
    let parts = and_parts (tail_in links some.place == v) (is_river_in links some.place) some.passes in
    let tail = eqb-true (tail_in links some.place) v parts.0 in (
      some.place,
      record {
        in_range = some.below;
        river = parts.1;
        first = λ other less same. false_from_ne_true (is_river_in links other)
            (λ river. false≢true (sym (none_passes some.place test some.number other less)
            ∙ and_from (tail_in links other == v) (is_river_in links other)
            (eq-eqb (tail_in links other) v (same ∙ tail)) river));
      },
      tail,
    )
  where
    test : ℕ → Bool
    test e = tail_in links e == v && is_river_in links e

-- two first rivers of one node are one
pub same_river : {links : List Link} {e f : ℕ} → IsFirstRiver links e → IsFirstRiver links f →
    tail_in links e ≡ tail_in links f → e ≡ f
same_river {links} {e} {f} a b at = elim (cases_order e f) [
  | inl same ↦ same
  | inr o ↦ elim o [
    | inl less ↦ absurd (false≢true (sym (b.first e less at) ∙ a.river))
    | inr more ↦ absurd (false≢true (sym (a.first f more (sym at)) ∙ b.river))
  ]
]

-- a term of a sum that counts only where a test holds
pub no_value : (t : Bool) (x : ℕ) → (t ≡ true → x ≡ 0) → (if t then x else 0) ≡ 0
no_value true x h = h refl
no_value false x h = refl

pub own_value : (u v x : ℕ) → u ≡ v → (if u == v then x else 0) ≡ x
own_value u v x e = grind (arith, nat_tests)

-- what leaves a node by links, and what leaves the basin there, is the water that stands there
pub river_balance : (nodes : List Node) (links : List Link) (supply flow out : List ℕ) → IsSoundNetwork nodes links →
    RunsNaturally nodes links supply flow out → (v : ℕ) → v < length nodes →
    water_at links supply flow v ≡ total_where (length links) (λ e. tail_in links e == v)
    (λ e. slice_index flow e) + slice_index out v
river_balance nodes links supply flow out sound run v l = elim (cases_Bool (is_outlet_in nodes v)) [
  | inl outlet ↦ (let at_outlet = run.outlets v l outlet in
      let none = total_zero (length links) (λ e. if tail_in links e == v then slice_index flow e else 0) (λ e m.
      no_value (tail_in links e == v) (slice_index flow e) (λ at. let no = sound.outlets_end e m in
      absurd (false≢true (sym no ∙ (ap (is_outlet_in nodes) (eqb-true (tail_in links e) v at) ∙ outlet))))) in
      omega arith)
  | inr inner ↦ (let river = first_river links v (sound.rivers v l inner) in
      let dry = run.inner v l inner in
      let flows = run.rivers river.0 river.1 in
      let here = ap (water_at links supply flow) river.2 in
      let one = total_pick (length links) river.0 (λ e. if tail_in links e == v then slice_index flow e else 0)
      river.1.in_range (λ e m ne. no_value (tail_in links e == v) (slice_index flow e) (λ at. run.others e m (λ first.
      ne (same_river first river.1 (eqb-true (tail_in links e) v at ∙ sym river.2))))) in
      let own = own_value (tail_in links river.0) v (slice_index flow river.0) river.2 in omega arith)
]

-- no link carries more than all nodes are supplied with: no water comes to the nodes up to its tail from those after it
pub river_small : (nodes : List Node) (links : List Link) (rank : ℕ → ℕ) (supply flow out : List ℕ) →
    IsWithin (length nodes) links → IsSoundNetwork nodes links →
    IsForward links rank → RunsNaturally nodes links supply flow out → (e : ℕ) → e < length links →
    slice_index flow e ≤ total (length nodes) (λ v. slice_index supply v)
river_small nodes links rank supply flow out within sound forward run e below =
    omega (arith, sums, ins, outs, heads, tails, crosses, one, some)
  where
    n : ℕ
    n = length nodes

    m : ℕ
    m = length links

    f : ℕ → ℕ
    f x = slice_index flow x

    up : ℕ → Bool
    up v = nat_lt v n && nat_le (rank v) (rank (tail_in links e))

    sums : total_where n up (λ v. water_at links supply flow v)
        ≡ total_where n up (λ v. total_where m (λ x. tail_in links x == v) f + slice_index out v)
    sums = total_same n (λ v. if up v then water_at links supply flow v else 0)
        (λ v. if up v then total_where m (λ x. tail_in links x == v) f + slice_index out v else 0)
        (λ v l. ap (λ x. if up v then x else 0) (river_balance nodes links supply flow out sound run v l))

    ins : total_where n up (λ v. water_at links supply flow v) ≡ total_where n up
        (λ v. slice_index supply v) + total_where n up (λ v. total_where m (λ x. head_in links x == v) f)
    ins = total_where_add n up (λ v. slice_index supply v) (λ v. total_where m (λ x. head_in links x == v) f)

    outs : total_where n up (λ v. total_where m (λ x. tail_in links x == v) f + slice_index out v)
        ≡ total_where n up (λ v. total_where m (λ x. tail_in links x == v) f) + total_where n up
        (λ v. slice_index out v)
    outs = total_where_add n up (λ v. total_where m (λ x. tail_in links x == v) f) (λ v. slice_index out v)

    -- one node among those up to the tail
    at_node : (k x : ℕ) → total n (λ v. if up v then (if k == v then x else 0) else 0) ≡ (if up k then x else 0)
    at_node k x =
        total_same n (λ v. if up v then (if k == v then x else 0) else 0)
        (λ v. if k == v then (if up k then x else 0) else 0) (λ v l. swap_tests up k v x)
        ∙ (total_at n k (if up k then x else 0) ∙ drop_test k n (nat_le (rank k) (rank (tail_in links e))) x)
      where
        swap_tests : (y : ℕ → Bool) (k v x : ℕ) →
            (if y v then (if k == v then x else 0) else 0) ≡ (if k == v then (if y k then x else 0) else 0)
        swap_tests y k v x = grind (arith, nat_tests)

        drop_test : (k n : ℕ) (t : Bool) (x : ℕ) →
            (if nat_lt k n then (if nat_lt k n && t then x else 0) else 0) ≡ (if nat_lt k n && t then x else 0)
        drop_test k n t x = grind (arith, nat_tests)

    heads : total_where n up (λ v. total_where m (λ x. head_in links x == v) f) ≡ total_where m
        (λ x. up (head_in links x)) f
    heads = grouped n m up (λ x v. head_in links x == v) (λ x. up (head_in links x)) f
        (λ x y. at_node (head_in links x) y)

    tails : total_where n up (λ v. total_where m (λ x. tail_in links x == v) f) ≡ total_where m
        (λ x. up (tail_in links x)) f
    tails = grouped n m up (λ x v. tail_in links x == v) (λ x. up (tail_in links x)) f
        (λ x y. at_node (tail_in links x) y)

    -- a link into these nodes leaves one of them, and the link at hand leaves them
    crosses : total m (λ x. (if up (head_in links x) then f x else 0) + (if e == x then f e else 0)) ≤ total_where m
        (λ x. up (tail_in links x)) f
    crosses =
        total_le m (λ x. (if up (head_in links x) then f x else 0) + (if e == x then f e else 0))
        (λ x. if up (tail_in links x) then f x else 0)
        (λ x l. cross (rank (tail_in links x)) (rank (head_in links x)) (rank (tail_in links e)) (tail_in links x)
        (head_in links x) n e x (f x) (f e)
        (forward.runs x l) (within.ends x l).0 (ap f) (ap (λ y. rank (tail_in links y))))
      where
        cross : (p q r t h n e x a b : ℕ) → p < q → t < n → (e ≡ x → b ≡ a) → (e ≡ x → r ≡ p) →
            (if nat_lt h n && nat_le q r then a else 0) + (if e == x then b else 0) ≤ (if nat_lt t n && nat_le p r
            then a else 0)
        cross p q r t h n e x a b o l same rank_same = grind (arith, nat_tests)

    one : total m (λ x. (if up (head_in links x) then f x else 0) + (if e == x then f e else 0)) ≡ total_where m
        (λ x. up (head_in links x)) f + f e
    one = total_add m (λ x. if up (head_in links x) then f x else 0) (λ x. if e == x then f e else 0)
        ∙ ap (λ y. total_where m (λ x. up (head_in links x)) f + y) (total_at m e (f e) ∙ at_inside e m (f e) below)

    some : total_where n up (λ v. slice_index supply v) ≤ total n (λ v. slice_index supply v)
    some = total_le n (λ v. if up v then slice_index supply v else 0) (λ v. slice_index supply v)
        (λ v l. at_most (up v) (slice_index supply v))
      where
        at_most : (t : Bool) (x : ℕ) → (if t then x else 0) ≤ x
        at_most true x = omega arith
        at_most false x = omega arith

-- the run of the river keeps the balance, carries and wants of a plan
pub river_is_plan : RunOfRiverIsPlan
river_is_plan b month supply want p valid bounded natural = record {
  flow_len = natural.run.flow_len;
  take_len = natural.take_len;
  out_len = natural.run.out_len;
  carries = λ e l. carried e l (natural.run.others e l);
  wants = λ r l. (let t = natural.takes r l in omega arith);
  instream = λ r l _. natural.takes r l;
  outlets = λ n l inner. natural.run.inner n l inner;
  balance = λ n l. (let bal = river_balance b.nodes b.links supply p.flow p.out valid.network natural.run n l in
      let none = total_zero (length b.rights) (λ r. if takes_at b r n then slice_index p.take r else 0)
      (λ r k. no_value (takes_at b r n) (slice_index p.take r) (λ _. natural.takes r k)) in omega arith);
}
  where
    within : IsWithin (length b.nodes) b.links
    within = record { ends = ends b valid }

    carried : (e : ℕ) → e < length b.links → ((IsFirstRiver b.links e → ⊥) → slice_index p.flow e ≡ 0) →
        slice_index p.flow e ≤ carry_of b month e
    carried e l dry = elim (cases_lt (carry_of b month e) (slice_index p.flow e)) [
      | inr fits ↦ fits
      | inl more ↦ (let some = dry (λ first. let numbers = forward_numbers b.nodes b.links within valid.network in
          let small = river_small b.nodes b.links numbers.rank supply p.flow p.out within valid.network numbers.forward
          natural.run e l in
          let carry = river_carry b month e first.river in absurd (omega arith)) in absurd (omega arith))
    ]

-- What a right gets in a month depends on its seniors, and on no junior.
use Rattle.std.proofs.Common.{◌≡◌, ℕ, ◌<◌, ◌≤◌, Bool, true, false, refl, sym, ◌∙◌, ap, ap₂, subst, arith, List, []}
use Rattle.std.proofs.Common.{length, inl, inr}
use Rattle.std.proofs.Math.Nat.{le_of_eq}
use Rattle.std.proofs.lemmas.Bool.{and_parts, and_from, or_cases, or_left, or_right, cases_order, eqb-true}
use Rattle.std.proofs.lemmas.Bool.Decides.{nat_tests}
use Rattle.std.proofs.lemmas.Option.{slice_get_within}
use Rattle.std.specs.Prelude.{◌==◌, ◌&&◌, ◌||◌, not, slice_index, slice_get, Option, Some, None, unwrap_or, option_map}
use Rattle.std.specs.Prelude.{IsTrue, ◌⊎◌}
use Rattle.finite_sums.proofs.Totals.{total_where_le, greatest_where_le, term_le_greatest}
use Rattle.water_model.specs.Lookups.{of_entry}
use Rattle.water_model.specs.Rights.{is_lower, priority, priority_in, AreStrict}
use Rattle.water_model.specs.Basin.{taking_node, taking_node_of_kind, instream_link, link_of_kind, is_at, is_on_link}
use Rattle.water_model.specs.Basin.{is_senior, HasStrictPriority}
use Rattle.water_model.specs.Plans.{IsPlan, IsGreatest, delivery, carry_of}
use Rattle.water_model.specs.Cuts.{IsCut, separates, cut_kept, kept_on, leaves, node_within, takes_within}
use Rattle.water_model.specs.History.{Follows}
use Rattle.duality.specs.Laws.{AreDeliveries, IsMetOrCut}
use Rattle.duality.specs.Alike.{HaveOneNetwork, IsUpTo, HasSameSeniors, IsCertified, WantSame}
use Rattle.duality.specs.Alike.{JuniorsChangeNothing, GreatestPlansIgnoreJuniors}
use Rattle.water_text.specs.declared.month.Month.{Month}
use Rattle.water_model.specs.declared.types.Basin.{Basin}
use Rattle.water_model.specs.declared.types.Series.{Series}
use Rattle.water_model.specs.declared.types.MonthRecord.{MonthRecord}
use Rattle.water_model.specs.declared.types.Plan.{Plan}
use Rattle.water_model.specs.declared.types.Right.{Right}
use Rattle.water_model.specs.declared.types.RightKind.{RightKind}
use Rattle.water_model.specs.declared.types.RightKind.TheVariants.{Diversion, Instream, Zone}
use Rattle.water_model.proofs.Valid.{entry_at}
use Rattle.duality.proofs.Duality.{cut_slack}
use Rattle.duality.proofs.Greatest.{delivery_le_want, cuts_make_plan_greatest, greatest_same, met_or_cut}
use Rattle.water_model.proofs.Seniority.{first_where, IsFirst, senior_trans}
use Rattle.water_model.proofs.Sets.{Into, total_where_into}

-- the second basin on the network of the first
abbrev pub on_network : Basin → Basin → Basin
on_network b c = record c { nodes = b.nodes; links = b.links; reservoirs = b.reservoirs }

-- the same right stands in both basins, in the first at s and in the second at u
pub record IsSame (b c : Basin) (s u : ℕ) : Type 0 where
  pub here : s < length b.rights
  pub entry : slice_get c.rights u ≡ slice_get b.rights s

pub same_there : (b c : Basin) (s u : ℕ) → IsSame b c s u → u < length c.rights
same_there b c s u same =
    let x = entry_at b.rights s same.here in slice_get_within c.rights u x.0 (same.entry ∙ x.1)

pub of_same : {Y : Type 0} (b c : Basin) (f : Right → Y) (d : Y) (s u : ℕ) → IsSame b c s u →
    of_entry c.rights u f d ≡ of_entry b.rights s f d
of_same b c f d s u same = ap (λ o. unwrap_or (option_map f o) d) same.entry

same_priority : (b c : Basin) (s u : ℕ) → IsSame b c s u → priority_in c.rights u ≡ priority_in b.rights s
same_priority b c s u same = of_same b c priority [] s u same

pub same_senior : (b c : Basin) (s t u v : ℕ) → IsSame b c s u → IsSame b c t v → is_senior c u v ≡ is_senior b s t
same_senior b c s t u v one two = ap₂ is_lower (same_priority b c s u one) (same_priority b c t v two)

-- in a basin with strict priorities a right of another basin stands at one index
same_index : (b c : Basin) (s t u v : ℕ) → AreStrict b.rights → IsSame b c s u → IsSame b c t v → u ≡ v → s ≡ t
same_index b c s t u v strict one two e = elim (cases_order s t) [
  | inl same ↦ same
  | inr o ↦ elim o [
    | inl below ↦ absurd (strict s t below two.here equal)
    | inr above ↦ absurd (strict t s above one.here (sym equal))
  ]
]
  where
    equal : priority_in b.rights s ≡ priority_in b.rights t
    equal = sym (same_priority b c s u one) ∙ (ap (priority_in c.rights) e ∙ same_priority b c t v two)

module _ (b c : Basin) (s u : ℕ) (same : IsSame b c s u) where
  -- it takes at the same node and is on the same link, if the second basin has the network of the first
  pub same_link : instream_link (on_network b c) u ≡ instream_link b s
  same_link = of_same b c (λ y. link_of_kind y.kind) None s u same

  pub same_node : taking_node (on_network b c) u ≡ taking_node b s
  same_node = of_same b c (λ y. taking_node_of_kind (on_network b c) y.kind) None s u same
      ∙ of_get (slice_get b.rights s)
    where
      of_kind : (k : RightKind) → taking_node_of_kind (on_network b c) k ≡ taking_node_of_kind b k
      of_kind (Diversion node) = refl
      of_kind (Instream link) = refl
      of_kind (Zone reservoir level) = refl

      of_get : (o : Option Right) →
          unwrap_or (option_map (λ y. taking_node_of_kind (on_network b c) y.kind) o) None
          ≡ unwrap_or (option_map (λ y. taking_node_of_kind b y.kind) o) None
      of_get None = refl
      of_get (Some y) = of_kind y.kind

  same_on_link : (e : ℕ) → is_on_link (on_network b c) u e ≡ is_on_link b s e
  same_on_link e = ap (λ o. is_at o e) same_link

  same_within : (cut : List Bool) → takes_within (on_network b c) cut u ≡ takes_within b cut s
  same_within cut = ap (λ o. node_within o cut) same_node

  same_cut : (cut : List Bool) → IsCut b s cut → IsCut (on_network b c) u cut
  same_cut cut is = record {
    one_each = is.one_each;
    separates = ap₂ (λ x y. separates (on_network b c) x y cut) same_node same_link
        ∙ (by_link (taking_node b s) (instream_link b s) ∙ is.separates);
  }
    where
      by_link : (x y : Option ℕ) → separates (on_network b c) x y cut ≡ separates b x y cut
      by_link x None = refl
      by_link x (Some link) = refl

-- each senior of a right in the first basin is a right of the second, and is delivered no less there
abbrev pub AreServed : Basin → Basin → ℕ → List ℕ → List ℕ → Type 0
AreServed b c r delivered given =
    (s : ℕ) → s < length b.rights → is_senior b s r ≡ true →
    (u : ℕ) × IsSame b c s u × (slice_index delivered s ≤ slice_index given u)

-- what is kept for them there is no less
kept_there : (b c : Basin) (r t : ℕ) (delivered given : List ℕ) (cut : List Bool) → AreStrict b.rights →
    IsSame b c r t → AreServed b c r delivered given →
    cut_kept b delivered r cut ≤ cut_kept (on_network b c) given t cut
kept_there b c r t delivered given cut strict same served =
    omega (
      arith,
      total_where_le (length b.links) (λ e. leaves b cut e && not (is_on_link b r e))
          (λ e. leaves b cut e && not (is_on_link (on_network b c) t e)) (λ e. kept_on b delivered r e)
          (λ e. kept_on (on_network b c) given t e)
          (λ e l h. (ap (λ x. leaves b cut e && not x) (same_on_link b c r t same e) ∙ h, on_one e)),
      total_where_into (length b.rights) (length c.rights) (λ s. takes_within b cut s && is_senior b s r)
          (λ u. takes_within (on_network b c) cut u && is_senior c u t) (λ s. slice_index delivered s)
          (λ u. slice_index given u) into (λ i k a d h w e. same_index b c i k _ _ strict
          (served i a (senior i h)).1 (served k d (senior k w)).1 e),
    )
  where
    on_one : (e : ℕ) → kept_on b delivered r e ≤ kept_on (on_network b c) given t e
    on_one e = greatest_where_le _ _ _ _ each
      where
        each : (s : ℕ) → s < length b.rights → is_on_link b s e && is_senior b s r ≡ true →
            slice_index delivered s ≤ kept_on (on_network b c) given t e
        each s l h =
            let tests = and_parts (is_on_link b s e) (is_senior b s r) h in
            let x : (u : ℕ) × IsSame b c s u × (slice_index delivered s ≤ slice_index given u) = served s l tests.1 in
            omega (
              arith,
              x.2,
              term_le_greatest (length c.rights) (λ u. is_on_link (on_network b c) u e && is_senior c u t)
                  (λ u. slice_index given u) x.0 (same_there b c s x.0 x.1)
                  (and_from _ _ (same_on_link b c s x.0 x.1 e ∙ tests.0)
                  (same_senior b c s r x.0 t x.1 same ∙ tests.1)),
            )

    senior : (s : ℕ) → takes_within b cut s && is_senior b s r ≡ true → is_senior b s r ≡ true
    senior s h = (and_parts (takes_within b cut s) (is_senior b s r) h).1

    into : Into (length b.rights) (length c.rights) (λ s. takes_within b cut s && is_senior b s r)
        (λ u. takes_within (on_network b c) cut u && is_senior c u t) (λ s. slice_index delivered s)
        (λ u. slice_index given u)
    into s l h =
        let tests = and_parts (takes_within b cut s) (is_senior b s r) h in
        let x : (u : ℕ) × IsSame b c s u × (slice_index delivered s ≤ slice_index given u) =
        served s l (senior s h) in (
          x.0,
          same_there b c s x.0 x.1,
          and_from _ _ (same_within b c s x.0 x.1 cut ∙ tests.0) (same_senior b c s r x.0 t x.1 same ∙ tests.1),
          x.2,
        )

-- In the second basin a right gets no more than in the first, where it is met or has a tight cut, if each of its
-- seniors there is a right of the second, too, and gets no less: whatever other rights the second basin has.
pub no_more_there : (b c : Basin) (month : Month) (supply want other delivered given : List ℕ) (q : Plan) (r t : ℕ) →
    AreStrict b.rights → IsSame b c r t → IsMetOrCut b (carry_of b month) supply want delivered r →
    slice_index other t ≤ slice_index want r → IsPlan (on_network b c) month supply other q →
    AreDeliveries (on_network b c) other q given → AreServed b c r delivered given →
    slice_index given t ≤ slice_index delivered r
no_more_there b c month supply want other delivered given q r t strict same (inl met) wants plan are served =
    omega (
      arith,
      are.each t (same_there b c r t same),
      delivery_le_want (on_network b c) (carry_of b month) supply other q t (same_there b c r t same) plan,
    )
no_more_there b c month supply want other delivered given q r t strict same (inr cut) wants plan are served =
    omega (
      arith,
      cut.1.tight,
      are.each t (same_there b c r t same),
      kept_there b c r t delivered given cut.0 strict same served,
      cut_slack (on_network b c) (carry_of b month) supply given t cut.0 supply other q (same_there b c r t same)
          (same_cut b c r t same cut.0 cut.1.is_cut) plan (λ n l h. refl) (λ s l h. le_of_eq (are.each s l)),
    )

-- whether a right, up to another one, is delivered another amount in the second basin
abbrev differs : Basin → (ℕ → ℕ) → ℕ → List ℕ → List ℕ → ℕ → Bool
differs b at right delivered given s =
    (s == right || is_senior b s right) && not (slice_index delivered s == slice_index given (at s))

-- the law, of a second basin on the network of the first
same_delivery : (b c : Basin) (at : ℕ → ℕ) (right : ℕ) (month : Month)
    (supply want other delivered given : List ℕ) (p q : Plan) → HasStrictPriority b → HasStrictPriority c →
    HasSameSeniors b (on_network b c) at right → WantSame b at right want other →
    IsCertified b month supply want delivered p → IsCertified (on_network b c) month supply other given q →
    slice_index delivered right ≡ slice_index given (at right)
same_delivery b c at right month supply want other delivered given p q strict strict' seniors wants cp cq =
    by_first (first_where b (differs b at right delivered given) (length b.rights))
  where
    settled : (t : Bool) (x y : ℕ) → t ≡ true → t && not (x == y) ≡ false → x ≡ y
    settled t x y h i = grind (arith, nat_tests)

    as_same : (s : ℕ) → s < length b.rights → IsUpTo b s right → IsSame b c s (at s)
    as_same s l up = record { here = l; entry = seniors.same s l up }

    clash : (k : ℕ) → IsFirst b (differs b at right delivered given) (length b.rights) k → ⊥
    clash k first =
        let equal : slice_index delivered k ≡ slice_index given (at k) = omega (arith, one, two) in
        let differ = tests.1 in grind (arith, nat_tests)
      where
        tests : (k == right || is_senior b k right ≡ true)
            × (not (slice_index delivered k == slice_index given (at k)) ≡ true)
        tests = and_parts (k == right || is_senior b k right)
            (not (slice_index delivered k == slice_index given (at k))) first.holds

        up : IsUpTo b k right
        up = elim (or_cases (k == right) (is_senior b k right) tests.0) [
          | inl same ↦ inl (eqb-true k right same)
          | inr senior ↦ inr senior
        ]

        same_k : IsSame b c k (at k)
        same_k = as_same k first.below up

        above : (s : ℕ) → is_senior b s k ≡ true → is_senior b s right ≡ true
        above s h = elim up [
          | inl same ↦ ap (λ x. is_senior b s x) (sym same) ∙ h
          | inr senior ↦ senior_trans b.rights s k right h senior
        ]

        equal : (s : ℕ) → s < length b.rights → is_senior b s k ≡ true →
            slice_index delivered s ≡ slice_index given (at s)
        equal s l h = settled (s == right || is_senior b s right) (slice_index delivered s) (slice_index given (at s))
            (or_right (s == right) (is_senior b s right) (above s h)) (first.none_senior s l h)

        one : slice_index given (at k) ≤ slice_index delivered k
        one = no_more_there b c month supply want other delivered given q k (at k) strict same_k
            (cp.cuts k first.below) (le_of_eq (wants.each k first.below up)) cq.plan cq.deliveries
            (λ s l h. (at s, as_same s l (inr (above s h)), le_of_eq (equal s l h)))

        above_there : (u : ℕ) → is_senior c u (at k) ≡ true → is_senior c u (at right) ≡ true
        above_there u h = elim up [
          | inl same ↦ ap (λ x. is_senior c u (at x)) (sym same) ∙ h
          | inr senior ↦ senior_trans c.rights u (at k) (at right) h
              (same_senior b c k right (at k) (at right) same_k (as_same right seniors.in_range (inl refl)) ∙ senior)
        ]

        served : AreServed (on_network b c) b (at k) given delivered
        served u l h = of_other (seniors.no_other u l (above_there u h))
          where
            of_other : (s : ℕ) × (s < length b.rights) × IsTrue (is_senior b s right) × (at s ≡ u) →
                (s : ℕ) × IsSame (on_network b c) b u s × (slice_index given u ≤ slice_index delivered s)
            of_other x = (
              x.0,
              record { here = l; entry = sym same.entry },
              le_of_eq (sym (equal x.0 x.1 (sym (same_senior b c x.0 k u (at k) same same_k) ∙ h)
                  ∙ ap (slice_index given) x.3)),
            )
              where
                same : IsSame b c x.0 u
                same = record { here = x.1; entry = ap (slice_get c.rights) (sym x.3) ∙ seniors.same x.0 x.1 (inr x.2) }

        two : slice_index delivered k ≤ slice_index given (at k)
        two = no_more_there (on_network b c) b month supply other want given delivered p (at k) k strict'
            (record { here = same_there b c k (at k) same_k; entry = sym same_k.entry })
            (cq.cuts (at k) (same_there b c k (at k) same_k)) (le_of_eq (sym (wants.each k first.below up))) cp.plan
            cp.deliveries served

    by_first : ((k : ℕ) → k < length b.rights → differs b at right delivered given k ≡ false)
        ⊎ ((k : ℕ) × IsFirst b (differs b at right delivered given) (length b.rights) k) →
        slice_index delivered right ≡ slice_index given (at right)
    by_first (inl none) = settled (right == right || is_senior b right right) (slice_index delivered right)
        (slice_index given (at right)) (or_left (right == right) (is_senior b right right) (grind (arith, nat_tests)))
        (none right seniors.in_range)
    by_first (inr first) = absurd (clash first.0 first.1)

-- a basin with the network of the first is itself on it
network_is : (first second : Basin) → HaveOneNetwork first second → second ≡ on_network first second
network_is first second net = rw (← net.nodes, ← net.links, ← net.reservoirs) refl

pub juniors_change_nothing : JuniorsChangeNothing
juniors_change_nothing first second at right month supply want other delivered given p q strict strict' net seniors
    wants cp cq =
    same_delivery first second at right month supply want other delivered given p q strict strict'
    (subst (λ c. HasSameSeniors first c at right) (network_is first second net) seniors) wants cp
    (subst (λ c. IsCertified c month supply other given q) (network_is first second net) cq)

-- the plan of a record is certified by its sets
pub record_is_certified : (b : Basin) (series : Series) (before : List MonthRecord) (m : MonthRecord) →
    Follows b series before m → IsCertified b m.month m.supply m.want m.delivered m.plan
record_is_certified b series before m follows = record {
  plan = follows.after.plan;
  deliveries = record { each = follows.after.delivered };
  cuts = met_or_cut b series before m follows;
}

-- what a certified plan has is what any greatest plan delivers
certified_is : {b : Basin} {month : Month} {supply want delivered : List ℕ} {p p' : Plan} → HasStrictPriority b →
    IsCertified b month supply want delivered p → IsGreatest b month supply want p' → (r : ℕ) → r < length b.rights →
    delivery b want p' r ≡ slice_index delivered r
certified_is {b} {month} {supply} {want} {delivered} {p} {p'} strict cp gp r l =
    greatest_same b month supply want p' p strict gp
    (cuts_make_plan_greatest b (carry_of b month) supply want delivered p cp.plan cp.deliveries cp.cuts) r l
    ∙ sym (cp.deliveries.each r l)

pub greatest_plans_ignore_juniors : GreatestPlansIgnoreJuniors
greatest_plans_ignore_juniors first second at right month supply want other delivered given p q p' q' strict strict'
    net seniors wants cp cq gp gq =
    certified_is strict cp gp right seniors.in_range
    ∙ (juniors_change_nothing first second at right month supply want other delivered given p q strict strict' net
    seniors wants cp cq
    ∙ sym (certified_is strict' cq gq (at right)
    (same_there first second right (at right)
    (record { here = seniors.in_range; entry = seniors.same right seniors.in_range (inl refl) }))))

-- Whose the next unit of water is.
use Rattle.std.proofs.Common.{◌≡◌, ◌≢◌, ℕ, ◌+◌, ◌<◌, ◌≤◌, Bool, true, false, refl, sym, ◌∙◌, ap, arith, subst, List}
use Rattle.std.proofs.Common.{length, inl, inr, ap₂}
use Rattle.std.proofs.lemmas.Bool.{and_parts, both_ways, cases_eq, cases_lt}
use Rattle.std.proofs.lemmas.Bool.{and_from, lt-ltb, ltb-true}
use Rattle.std.proofs.lemmas.List.{get_or-set_same, get_or-set_other}
use Rattle.std.specs.Prelude.{◌&&◌, if◌then◌else◌, slice_index, Option, Some, None, ◌⊎◌, ◌↔◌, nat_lt}
use Rattle.std.specs.Option.{option_map_or}
use Rattle.finite_sums.proofs.Totals.{total_change}
use Rattle.water_model.specs.Lookups.{has}
use Rattle.water_model.specs.Basin.{is_senior, instream_link, taking_node_of_kind, link_of_kind}
use Rattle.water_model.specs.Plans.{IsPlan, IsGreatest, delivery, carry_of}
use Rattle.water_model.specs.Cuts.{IsTight, takes_within, node_within}
use Rattle.water_model.specs.History.{IsShort, calls, cut_of}
use Rattle.duality.specs.Laws.{AreDeliveries}
use Rattle.water_model.specs.declared.types.Basin.{Basin}
use Rattle.water_model.specs.declared.types.MonthRecord.{MonthRecord}
use Rattle.water_model.specs.declared.types.Plan.{Plan}
use Rattle.water_model.specs.declared.types.RightKind.{RightKind}
use Rattle.water_model.specs.declared.types.RightKind.TheVariants.{Diversion, Instream, Zone}
use Rattle.water_model.proofs.Valid.{kind_is}
use Rattle.duality.proofs.Duality.{cut_slack, delivery_by_take, taking_on_no_link}
use Rattle.water_model.proofs.Seniority.{first_where, senior_trans, senior_total}
use Rattle.duality.proofs.Greatest.{delivery_le_want, tight_leaves_nothing}
use Rattle.water_model.proofs.Sets.{has_below}
use Rattle.plan_residual.specs.Residual.{HasPlan}
use Rattle.plan_residual.specs.Core.{IsCore, node_by_link}
use Rattle.next_unit.specs.Core.{one_more}
use Rattle.plan_residual.specs.FirstCores.{HasCoreAt, IsFirstCoreAt, IsInNoCore, IsFirstCoreOrNone}
use Rattle.next_unit.specs.Helped.{HasRoomForAll}
use Rattle.next_unit.specs.Next.{HelpsRight, IsNextAt, IsFreeAt, IsNextOrFree, GivesOneMore, IsCurtailedFor}
use Rattle.next_unit.specs.Laws.{FirstCoreIsDecided, ShortTakersHaveFirstCores}
use Rattle.next_unit.proofs.Least.{core_is_least_tight_cut}
use Rattle.next_unit.proofs.Helps.{supply_in_core_helps}
use Rattle.next_unit.proofs.Exact.{rights_have_cores, helps_within}
use Rattle.next_unit.proofs.Changed.{ServesAll}

-- each short right has a tight cut
abbrev pub HaveTightCuts : Basin → MonthRecord → Type 0
HaveTightCuts b m = (r : ℕ) → r < length b.rights → IsShort m r →
    (cut : List Bool) × IsTight b m.month m.supply m.delivered r cut

-- A month in which each short right has a tight cut, and a node: as any tight cut bounds what the unit gives, a plan
-- with it gives a right at most one unit more, if it gives its seniors as much.
module _ (b : Basin) (m : MonthRecord) (node s : ℕ) (p : Plan) (cuts : HaveTightCuts b m)
    (below : node < length b.nodes) (sized : length m.supply ≡ length b.nodes) (l : s < length b.rights)
    (plan : IsPlan b m.month (one_more m.supply node) m.want p)
    (serves : (t : ℕ) → t < length b.rights → is_senior b t s ≡ true →
    slice_index m.delivered t ≤ delivery b m.want p t) where
  one_more_most : IsShort m s → delivery b m.want p s ≤ slice_index m.delivered s + 1
  one_more_most short =
      omega (
        arith,
        tight.tight,
        cut_slack b (carry_of b m.month) (one_more m.supply node) m.delivered s cut (one_more m.supply node) m.want
            p l tight.is_cut plan (λ n k h. refl) serves,
        total_change (length b.nodes) node (λ n. if has cut n then slice_index m.supply n else 0)
            (λ n. if has cut n then slice_index (one_more m.supply node) n else 0) below (λ k c ne.
            ap (λ x. if has cut k then x else 0)
            (sym (get_or-set_other m.supply node k (slice_index m.supply node + 1) 0 ne))),
        at_node (has cut node) (slice_index m.supply node) (slice_index (one_more m.supply node) node)
            (get_or-set_same m.supply node (slice_index m.supply node + 1) 0 (omega (arith, below, sized))),
      )
    where
      cut : List Bool
      cut = (cuts s l short).0

      tight : IsTight b m.month m.supply m.delivered s cut
      tight = (cuts s l short).1

      at_node : (t : Bool) (x y : ℕ) → y ≡ x + 1 → (if t then y else 0) ≤ (if t then x else 0) + 1
      at_node true x y h = omega arith
      at_node false x y h = omega arith

  -- and one that the unit would not help no more
  no_more_unhelped : (HelpsRight b m (one_more m.supply node) s → ⊥) →
      delivery b m.want p s ≤ slice_index m.delivered s
  no_more_unhelped none = elim (cases_lt (slice_index m.delivered s) (delivery b m.want p s)) [
    | inl more ↦ absurd (none record {
      plan = p;
      is_plan = plan;
      serves = record { each = serves };
      more = omega (
        arith,
        more,
        one_more_most (omega (
          arith,
          more,
          delivery_le_want b (carry_of b m.month) (one_more m.supply node) m.want p s l plan,
        )),
      );
    })
    | inr least ↦ least
  ]

-- a right that could get more is short
helped_short : (b : Basin) (m : MonthRecord) (supply : List ℕ) (r : ℕ) → r < length b.rights →
    HelpsRight b m supply r → IsShort m r
helped_short b m supply r l helps =
    omega (
      arith,
      helps.more,
      delivery_le_want b (carry_of b m.month) supply m.want helps.plan r l helps.is_plan,
    )

-- A greatest plan with the unit, and a plan with it that serves some rights and their seniors. None of these is helped.
module _ (b : Basin) (m : MonthRecord) (node : ℕ) (q h : Plan) (given : HasPlan b m) (cuts : HaveTightCuts b m)
    (below : node < length b.nodes) (gq : IsGreatest b m.month (one_more m.supply node) m.want q)
    (plan : IsPlan b m.month (one_more m.supply node) m.want h) (up : ℕ → Type 0)
    (closed : (s t : ℕ) → is_senior b s t ≡ true → up t → up s)
    (serves : (s : ℕ) → s < length b.rights → up s → slice_index m.delivered s ≤ delivery b m.want h s)
    (none : (s : ℕ) → s < length b.rights → up s → HelpsRight b m (one_more m.supply node) s → ⊥) where
  no_more : (s : ℕ) → s < length b.rights → up s → ((t : ℕ) → t < length b.rights → is_senior b t s ≡ true →
      delivery b m.want h t ≤ delivery b m.want q t) → delivery b m.want q s ≤ slice_index m.delivered s
  no_more s l here more = no_more_unhelped b m node s q cuts below given.fits.supply l gq.plan
      (λ t k above. omega (arith, serves t k (closed t s above here), more t k above)) (none s l here)

  -- the greatest plan delivers as much to them, and to a right of which all seniors are among them
  pub as_much : (s : ℕ) → s < length b.rights → ((t : ℕ) → is_senior b t s ≡ true → up t) →
      delivery b m.want h s ≤ delivery b m.want q s
  as_much s l above = elim (gq.greatest h plan) [
    | inl same ↦ omega (arith, same s l)
    | inr more ↦ elim (cases_eq more.right s) [
      | inl equal ↦
          subst (λ k. delivery b m.want h k ≤ delivery b m.want q k) equal (let d = more.more in omega arith)
      | inr differ ↦ elim (senior_total b.rights given.valid.roll.strict more.right s more.in_range l differ) [
        | inl senior ↦ absurd (omega (
          arith,
          more.more,
          serves more.right more.in_range (above more.right senior),
          no_more more.right more.in_range (above more.right senior)
              (λ t k is. omega (arith, more.same_to_seniors t k is)),
        ))
        | inr junior ↦ omega (arith, more.same_to_seniors s l junior)
      ]
    ]
  ]

  -- so they get what they got
  pub unchanged : (s : ℕ) → s < length b.rights → up s → delivery b m.want q s ≡ slice_index m.delivered s
  unchanged s l here = omega (
    arith,
    serves s l here,
    as_much s l (λ t above. closed t s above here),
    no_more s l here (λ t k above. as_much t k (λ v over. closed v t over (closed t s above here))),
  )

pub goes_to_one : (b : Basin) (m : MonthRecord) (node right : ℕ) (q : Plan) → HasPlan b m → HaveTightCuts b m →
    IsNextAt b m node right → IsGreatest b m.month (one_more m.supply node) m.want q → GivesOneMore b m q right
goes_to_one b m node right q given cuts next gq = record {
  seniors = same;
  more = omega (
    arith,
    next.helps.more,
    as_much b m node q next.helps.plan given cuts below gq next.helps.is_plan up closed next.helps.serves.each
        next.first right next.in_range (λ t senior. senior),
    one_more_most b m node right q cuts below given.fits.supply next.in_range gq.plan
        (λ t k senior. omega (arith, same t k senior)) short,
  );
}
  where
    up : ℕ → Type 0
    up s = is_senior b s right ≡ true

    closed : (s t : ℕ) → is_senior b s t ≡ true → up t → up s
    closed s t senior above = senior_trans b.rights s t right senior above

    short : IsShort m right
    short = helped_short b m (one_more m.supply node) right next.in_range next.helps

    below : node < length b.nodes
    below =
        let cut = cuts right next.in_range short in
        omega (
          arith,
          has_below cut.0 node (helps_within b m right node cut.0 next.in_range cut.1 next.helps),
          cut.1.is_cut.one_each,
        )

    same : (s : ℕ) → s < length b.rights → up s → delivery b m.want q s ≡ slice_index m.delivered s
    same = unchanged b m node q next.helps.plan given cuts below gq next.helps.is_plan up closed
        next.helps.serves.each next.first

pub goes_to_nobody : (b : Basin) (m : MonthRecord) (node : ℕ) (q : Plan) → HasPlan b m → HaveTightCuts b m →
    node < length b.nodes → ServesAll b m (one_more m.supply node) → IsFreeAt b m node →
    IsGreatest b m.month (one_more m.supply node) m.want q → AreDeliveries b m.want q m.delivered
goes_to_nobody b m node q given cuts below down free gq = record {
  each = λ r l. sym (unchanged b m node q down.plan given cuts below gq down.is_plan (λ s. Unit {0})
      (λ s t senior h. tt) (λ s k h. down.serves s k) (λ s k h. free s k) r l tt);
}

-- a tight cut of the senior for which a right is curtailed holds the node where that right takes
pub caller_holds : (b : Basin) (m : MonthRecord) (right caller : ℕ) (cut : List Bool) →
    IsCurtailedFor b m right caller → IsTight b m.month m.supply m.delivered caller cut →
    takes_within b cut right ≡ true
caller_holds b m right caller cut curtailed tight =
    ap (λ o. node_within o cut) curtailed.at
    ∙ helps_within b m caller curtailed.node cut curtailed.next.in_range tight curtailed.next.helps

pub caller_short : (b : Basin) (m : MonthRecord) (right caller : ℕ) → IsCurtailedFor b m right caller → IsShort m caller
caller_short b m right caller curtailed =
    helped_short b m (one_more m.supply curtailed.node) caller curtailed.next.in_range curtailed.next.helps

-- so who is curtailed got nothing
pub got_nothing : (b : Basin) (m : MonthRecord) (right caller : ℕ) → HasPlan b m → HaveTightCuts b m →
    IsCurtailedFor b m right caller → slice_index m.delivered right ≡ 0
got_nothing b m right caller given cuts curtailed =
    given.delivered.each right curtailed.in_range
    ∙ (delivery_by_take b m.want m.plan right (taking_on_no_link b cut.0 right within)
    ∙ (tight_leaves_nothing b m.month m.supply m.want m.delivered m.plan caller cut.0 l given.plan given.delivered
    cut.1).juniors right curtailed.in_range within curtailed.senior)
  where
    l : caller < length b.rights
    l = curtailed.next.in_range

    cut : (set : List Bool) × IsTight b m.month m.supply m.delivered caller set
    cut = cuts caller l (caller_short b m right caller curtailed)

    within : takes_within b cut.0 right ≡ true
    within = caller_holds b m right caller cut.0 curtailed cut.1

-- Where there is room too, a unit helps a right exactly in its core, so whose the unit is the first core shows.
module _ (b : Basin) (m : MonthRecord) (node : ℕ) (given : HasPlan b m) (cuts : HaveTightCuts b m)
    (room : HasRoomForAll b m) where
  in_core : (s : ℕ) → s < length b.rights → HelpsRight b m (one_more m.supply node) s → HasCoreAt b m node s
  in_core s l helps =
      let short = helped_short b m (one_more m.supply node) s l helps in
      let cut = cuts s l short in
      let core = rights_have_cores b m s given l in
      record {
        in_range = l;
        short = short;
        core = core.0;
        is_core = core.1;
        here = helps_within b m s node core.0 l
            (core_is_least_tight_cut b m s core.0 cut.0 given l short cut.1 core.1).is_tight helps;
      }

  helped : (s : ℕ) → HasCoreAt b m node s → HelpsRight b m (one_more m.supply node) s
  helped s at =
      let cut = cuts s at.in_range at.short in
      supply_in_core_helps b m s at.core cut.0 node given at.in_range at.short cut.1
      (room.each s at.in_range at.short) at.is_core at.here

  first_core : (o : Option ℕ) → IsNextOrFree b m node o → IsFirstCoreOrNone b m node o
  first_core None free = λ s at. free s at.in_range (helped s at)
  first_core (Some r) next = record {
    has_core = in_core r next.in_range next.helps;
    first = λ s senior at. next.first s at.in_range senior (helped s at);
  }

  next_or_free : (o : Option ℕ) → IsFirstCoreOrNone b m node o → IsNextOrFree b m node o
  next_or_free None none = λ s l helps. none s (in_core s l helps)
  next_or_free (Some r) first = record {
    in_range = first.has_core.in_range;
    helps = helped r first.has_core;
    first = λ s l senior helps. first.first s senior (in_core s l helps);
  }

  pub shown_by_core : (o : Option ℕ) → IsNextOrFree b m node o ↔ IsFirstCoreOrNone b m node o
  shown_by_core o = (first_core o, next_or_free o)

-- a right has one core
same_core : (b : Basin) (m : MonthRecord) (r : ℕ) (core other : List Bool) → IsCore b m r core → IsCore b m r other →
    (n : ℕ) → has core n ≡ true → has other n ≡ true
same_core b m r core other one two n h =
    one.upstream.least other two.upstream.closed
    (subst (λ v. has other v ≡ true) (cc (two.at, one.at)) two.upstream.holds) n h

-- so it can be tested which cores hold a node
module _ (b : Basin) (m : MonthRecord) (node : ℕ) (given : HasPlan b m) where
  abbrev is_short_at : ℕ → Bool
  is_short_at s = nat_lt (slice_index m.delivered s) (slice_index m.want s)

  abbrev is_held : (s : ℕ) → s < length b.rights → Bool
  is_held s l = is_short_at s && has (rights_have_cores b m s given l).0 node

  abbrev test_by : (s : ℕ) → (s < length b.rights) ⊎ (length b.rights ≤ s) → Bool
  test_by s (inl l) = is_held s l
  test_by s (inr above) = false

  abbrev test : ℕ → Bool
  test s = test_by s (cases_lt s (length b.rights))

  held : (s : ℕ) (o : (s < length b.rights) ⊎ (length b.rights ≤ s)) → test_by s o ≡ true → HasCoreAt b m node s
  held s (inl l) h =
      let core = rights_have_cores b m s given l in
      let parts = and_parts _ _ h in
      record {
        in_range = l;
        short = ltb-true _ _ parts.0;
        core = core.0;
        is_core = core.1;
        here = parts.1;
      }
  held s (inr above) h = cc

  not_held : (s : ℕ) (o : (s < length b.rights) ⊎ (length b.rights ≤ s)) → test_by s o ≡ false →
      HasCoreAt b m node s → ⊥
  not_held s (inl l) h at =
      let core = rights_have_cores b m s given l in
      both_ways _ h (and_from _ _ (lt-ltb _ _ at.short)
      (same_core b m s at.core core.0 at.is_core core.1 node at.here))
  not_held s (inr above) h at = absurd (omega (arith, above, at.in_range))

  decided : IsInNoCore b m node ⊎ ((right : ℕ) × IsFirstCoreAt b m node right)
  decided = elim (first_where b test (length b.rights)) [
    | inl none ↦ inl (λ s at. not_held s (cases_lt s (length b.rights)) (none s at.in_range) at)
    | inr first ↦ inr (
      first.0,
      record {
        has_core = held first.0 (cases_lt first.0 (length b.rights)) first.1.holds;
        first = λ s senior at.
            not_held s (cases_lt s (length b.rights)) (first.1.none_senior s at.in_range senior) at;
      },
    )
  ]

pub first_core_is_decided : FirstCoreIsDecided
first_core_is_decided b m node given = decided b m node given

pub short_takers_have_first_cores : ShortTakersHaveFirstCores
short_takers_have_first_cores b m right node given l short at = elim (decided b m node given) [
  | inl none ↦ absurd (none right own)
  | inr first ↦ by_order first.0 first.1 (cases_eq first.0 right)
]
  where
    no_link : instream_link b right ≡ None
    no_link = let k = kind_is b given.valid right l in k.link ∙ of_kind k.kind (sym k.node ∙ at)
      where
        of_kind : (k : RightKind) → taking_node_of_kind b k ≡ Some node → link_of_kind k ≡ None
        of_kind (Diversion node) h = refl
        of_kind (Instream link) h = cc
        of_kind (Zone reservoir level) h = refl

    own : HasCoreAt b m node right
    own =
        let core = rights_have_cores b m right given l in
        record {
          in_range = l;
          short = short;
          core = core.0;
          is_core = core.1;
          here = subst (λ v. has core.0 v ≡ true) (cc (core.1.at, ap₂ (λ t o. node_by_link b t o) at no_link))
              core.1.upstream.holds;
        }

    by_order : (r : ℕ) → IsFirstCoreAt b m node r → (r ≡ right) ⊎ (r ≢ right) →
        ((caller : ℕ) × (is_senior b caller right ≡ true) × IsFirstCoreAt b m node caller)
        ⊎ IsFirstCoreAt b m node right
    by_order r first (inl same) = inr (subst (λ k. IsFirstCoreAt b m node k) same first)
    by_order r first (inr differ) =
        elim (senior_total b.rights given.valid.roll.strict r right first.has_core.in_range l differ) [
          | inl senior ↦ inl (r, senior, first)
          | inr junior ↦ absurd (first.first right junior own)
        ]

-- a right calls another one that is in its set
pub called : (b : Basin) (m : MonthRecord) (right caller : ℕ) (cut : List Bool) → IsShort m caller →
    is_senior b caller right ≡ true → 0 < slice_index m.want right → cut_of m caller ≡ Some cut →
    takes_within b cut right ≡ true → calls b m right caller ≡ true
unfolding calls
called b m right caller cut short senior wants is within =
    four (nat_lt (slice_index m.delivered caller) (slice_index m.want caller)) (is_senior b caller right)
    (nat_lt 0 (slice_index m.want right)) (option_map_or (λ cut. takes_within b cut right) (cut_of m caller) false)
    (lt-ltb _ _ short) senior (lt-ltb _ _ wants)
    (ap (λ o. option_map_or (λ cut. takes_within b cut right) o false) is ∙ within)
  where
    four : (p q s t : Bool) → p ≡ true → q ≡ true → s ≡ true → t ≡ true → p && q && s && t ≡ true
    four true true true true h i j k = refl
    four true true true false h i j k = cc
    four true true false t h i j k = cc
    four true false s t h i j k = cc
    four false q s t h i j k = cc

-- What a turn of the sweep needs.
use Rattle.std.proofs.Common.{◌≡◌, ℕ, ◌+◌, ◌<◌, ◌≤◌, true, refl, sym, ◌∙◌, ap, subst, arith, List, length, get_or}
use Rattle.std.specs.Prelude.{◌*◌, ◌^◌, slice_index, None, is_some, unwrap_or}
use Rattle.std.proofs.lemmas.Option.{slice_get_read}
use Rattle.finite_sums.specs.Sums.{when}
use Rattle.water_model.specs.CutSets.{CutSets, set_of}
use Rattle.circulation.specs.Contents.{Contents, network, arcs}
use Rattle.augment.specs.Raised.{HasPathOut}
use Rattle.residual_tree.specs.Raised.{IsExit}
use Rattle.water_model.specs.Basin.{head_of}
use Rattle.water_model.specs.Indices.{by_seniority}
use Rattle.water_model.specs.Rights.{AreStrict}
use Rattle.water_model.specs.declared.types.Right.{Right}
use Rattle.water_model.specs.Valid.{IsValidBasin}
use Rattle.water_model.specs.declared.types.Basin.{Basin}
use Rattle.water_model.proofs.Valid.{ends as link_ends}
use Rattle.senior_hold.specs.MonthNetwork.{takes, take_arc, spill_arc, right_arc, arc_by_link, right_exit, exit_by_link}
use Rattle.senior_hold.specs.MonthNetwork.{HasBasinEnds, IsMonthNetwork}
use Rattle.senior_hold.specs.Arcs.{ArePositions, position_of}
use Rattle.senior_hold.specs.Serving.{IsClaim}
use Rattle.senior_hold.specs.declared.arcs.Position.{Position}
use Rattle.senior_hold.specs.declared.serving.Claim.{Claim}
use Rattle.senior_hold.proofs.MonthArcs.{IsKind, on_link, at_node, right_kind}
use Rattle.senior_hold.proofs.Plans.{right_arc_in, want_fits}
use Rattle.senior_hold.proofs.PathOut.{path_out}
use Rattle.senior_hold.proofs.Solves.{IsStanding}
use Rattle.rights_roll.specs.SeniorityOrder.{IsSeniorityOrder}
use Rattle.senior_hold.specs.Givens.{IsGivens}
use Rattle.senior_hold.specs.Spilled.{spilled, SpillsAreOf}
use Rattle.senior_hold.specs.declared.sweep.Givens.{Givens}
use Rattle.senior_hold.specs.declared.sweep.Method.{Method}
use Rattle.senior_hold.proofs.SpilledArcs.{spilled_count, spilled_kinds}
use Rattle.senior_hold.proofs.Spilled.{HasSpills, has_spills, spilled_wants}
use Rattle.rights_roll.proofs.Seniors.{by_seniority_order}

-- how a month stands after its first k rights
abbrev pub StandsAt : Givens → ℕ → Contents → CutSets → Type 0
StandsAt g k c cuts =
    IsStanding (spilled g.basin.now) g.month g.supply.now g.want.now g.layout.now.roll.order k c cuts

-- the order of the roll has each right at its index
pub order_of : {g : Givens} → IsGivens g → IsSeniorityOrder g.basin.now.rights g.layout.now.roll.order
order_of {g} givens =
    subst (IsSeniorityOrder g.basin.now.rights) (sym givens.layout.is_roll.order)
    (by_seniority_order g.basin.now.rights givens.valid.roll.strict)

-- what the order of the roll has are rights
pub order_below : (rights : List Right) (items : List ℕ) → AreStrict rights → items ≡ by_seniority rights → (k : ℕ) →
    k < length items → slice_index items k < length rights
order_below rights items strict is k l =
    let o = by_seniority_order rights strict in
    omega (arith, ap (λ (xs : List ℕ). slice_index xs k) is, o.below k (omega (arith, ap length is, o.count, l)))

-- there are as many turns as rights
pub turn_count : {g : Givens} → IsGivens g → g.layout.now.positions.len ≡ length g.basin.now.rights
turn_count {g} givens = omega (
  arith,
  g.layout.now.positions.ok.0,
  givens.layout.are_positions.count,
  (order_of givens).count,
)

-- a position that is read
pub position_read : (b : Basin) (order : List ℕ) (positions : List Position) (k : ℕ) (x : Position) →
    ArePositions b order positions → k < length order → x ≡ get_or positions k x →
    x ≡ position_of b (slice_index order k)
position_read b order positions k x are l read =
    let at = slice_get_read positions (length positions) k x refl (omega (arith, l, are.count)) read in
    ap (λ o. unwrap_or o x) (sym at ∙ are.position k l)

-- the turn of a right
pub record IsTurn (g : Givens) (k : ℕ) (cuts : CutSets) : Type 0 where
  pub below : k < length g.basin.now.rights
  pub in_range : slice_index g.layout.now.roll.order k < length g.basin.now.rights
  pub free : set_of cuts (slice_index g.layout.now.roll.order k) ≡ None

pub at_turn : {g : Givens} {k n : ℕ} {c : Contents} {cuts : CutSets} → IsGivens g → n ≡ g.layout.now.positions.len →
    k < n → StandsAt g k c cuts → IsTurn g k cuts
at_turn {g} {k} {n} {c} {cuts} givens is l now = record {
  below = below;
  in_range = o.below k below;
  free = (now.swept o).others (slice_index g.layout.now.roll.order k) (o.below k below)
      (let p = o.placed k below in omega arith);
}
  where
    o : IsSeniorityOrder g.basin.now.rights g.layout.now.roll.order
    o = order_of givens

    below : k < length g.basin.now.rights
    below = omega (arith, is, l, turn_count givens)

-- the arc of a right, in the network with a spill at each node
pub record IsOwn (g : Givens) (c : Contents) (r : ℕ) : Type 0 where
  pub inside : right_arc g.basin.now r < arcs c
  pub fits : slice_index g.want.now r ≤ slice_index c.upper (right_arc g.basin.now r)

pub own_arc : {g : Givens} (c : Contents) (r : ℕ) → IsGivens g →
    IsMonthNetwork (spilled g.basin.now) g.month g.supply.now g.want.now (network c) → r < length g.basin.now.rights →
    IsOwn g c r
own_arc {g} c r givens net l =
    let b = g.basin.now in
    let kind = spilled_kinds b (right_kind b givens.valid) r l in
    record {
      inside = omega (arith, right_arc_in (spilled b) r l kind, net.ends.arcs);
      fits = want_fits (spilled b) g.month g.supply.now g.want.now (network c) r net
          (spilled_wants b g.month g.want.now givens.wants) l kind;
    }

-- the exit of a right, which is one of the spills
pub record IsOwnExit (b : Basin) (c : Contents) (r x : ℕ) : Type 0 where
  pub inside : x < arcs c
  pub exit : IsExit c (right_arc b r) x
  pub first : spill_arc b 0 ≤ x
  pub spill : x < spill_arc b 0 + c.nodes

pub own_exit : (b : Basin) (c : Contents) (r : ℕ) → IsValidBasin b → HasBasinEnds (spilled b) (network c) →
    r < length b.rights → IsOwnExit b c r (right_exit b r)
own_exit b c r valid ends l = of_kind (right_kind b valid r l)
  where
    spills : HasSpills c (spill_arc b 0)
    spills = has_spills b c (spill_arc b 0) refl ends

    nodes : c.nodes ≡ length b.nodes
    nodes = ends.nodes ∙ spilled_count b

    at_node_spill : (n : ℕ) → spill_arc b 0 + n ≡ spill_arc b n
    at_node_spill n = omega arith

    at_head : (e : ℕ) → e < length b.links → right_arc b r ≡ e → IsOwnExit b c r (spill_arc b 0 + head_of b e)
    at_head e k is =
        let n : head_of b e < c.nodes = omega (arith, (link_ends b valid e k).1, nodes) in
        record {
          inside = spills.arc _ n;
          exit = λ _. (
            spills.arc _ n,
            spills.from _ n ∙ sym (ap (slice_index c.to) is ∙ ends.link_to e k),
            spills.to _ n,
          );
          first = omega arith;
          spill = omega (arith, n);
        }

    at_outside : right_arc b r ≡ take_arc b r → takes b r ≡ true → IsOwnExit b c r (spill_arc b 0)
    at_outside is h =
        let some : 0 < c.nodes = omega (arith, nodes, valid.bounded.some_node) in
        record {
          inside = omega (arith, spills.arc 0 some);
          exit = λ apart. absurd (apart (ap (slice_index c.to) is ∙ (ends.take_to r l h ∙ sym ends.nodes)));
          first = omega arith;
          spill = omega (arith, some);
        }

    of_kind : IsKind b r → IsOwnExit b c r (right_exit b r)
    of_kind (on_link e k i t) =
        let is : spill_arc b 0 + head_of b e ≡ right_exit b r =
        at_node_spill (head_of b e) ∙ sym (ap (exit_by_link b) i) in
        subst (IsOwnExit b c r) is (at_head e k (ap (arc_by_link b r) i))
    of_kind (at_node v k i t) =
        subst (IsOwnExit b c r) (sym (ap (exit_by_link b) i)) (at_outside (ap (arc_by_link b r) i) (ap is_some t))

-- what a right claims, in the network with a spill at each node
pub record IsOwnClaim (b : Basin) (c : Contents) (x : Claim) : Type 0 where
  pub claim : IsClaim c x
  pub first : spill_arc b 0 ≤ x.exit
  pub spill : x.exit < spill_arc b 0 + c.nodes

pub own_claim : {g : Givens} (c : Contents) (x : Claim) → IsGivens g →
    IsMonthNetwork (spilled g.basin.now) g.month g.supply.now g.want.now (network c) →
    x.right < length g.basin.now.rights → x.arc ≡ right_arc g.basin.now x.right →
    x.exit ≡ right_exit g.basin.now x.right → x.want ≡ slice_index g.want.now x.right → IsOwnClaim g.basin.now c x
own_claim {g} c x givens net l arc_is exit_is want_is =
    let arc = own_arc c x.right givens net l in
    let exit = own_exit g.basin.now c x.right givens.valid net.ends l in
    record {
      claim = record {
        arc = omega (arith, arc_is, arc.inside);
        want = omega (arith, want_is, arc.fits, ap (slice_index c.upper) arc_is);
        limit = omega (arith, want_is, givens.wants.small x.right l);
        exit_arc = omega (arith, exit_is, exit.inside);
        exit = subst (λ a. IsExit c a x.exit) (sym arc_is)
            (subst (λ e. IsExit c (right_arc g.basin.now x.right) e) (sym exit_is) exit.exit);
      };
      first = omega (arith, exit_is, exit.first);
      spill = omega (arith, exit_is, exit.spill);
    }

pub turn_path_out : {g : Givens} (c : Contents) {r arc : ℕ} → IsGivens g → r < length g.basin.now.rights →
    arc ≡ right_arc g.basin.now r →
    IsMonthNetwork (spilled g.basin.now) g.month g.supply.now g.want.now (network c) →
    SpillsAreOf g.basin.now Method.Searches c → HasPathOut (network c) arc
turn_path_out {g} c {r} {arc} givens l is net outlets =
    subst (λ a. HasPathOut (network c) a) (sym is)
    (path_out g.basin.now g.month g.supply.now g.want.now (network c) r givens.valid net
    (λ n k h. outlets n k ∙ ap (λ o. when o (10 ^ 15)) h) (let small = givens.supplies.small in omega arith) l
    (right_kind g.basin.now givens.valid r l))

-- the cost of one more turn
pub one_more : (a arcs k before now after : ℕ) → arcs ≤ a → now ≤ before + k * (30 * (2 * a + 1)) →
    after ≤ now + 30 * (2 * arcs + 1) → after ≤ before + (k + 1) * (30 * (2 * a + 1))
one_more a arcs k before now after bounded so_far turn =
    sum before k (30 * (2 * a + 1)) now after so_far (omega (arith, bounded, turn))
  where
    sum : (before k c now after : ℕ) → now ≤ before + k * c → after ≤ now + c → after ≤ before + (k + 1) * c
    sum before k c now after h i = grind arith

-- no more turns than rights
pub within_all : (k n c before now : ℕ) → k ≤ n → now ≤ before + k * c → now ≤ before + n * c
within_all k n c before now l h = grind arith

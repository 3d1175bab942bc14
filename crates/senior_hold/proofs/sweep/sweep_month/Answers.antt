use Rattle.std.proofs.Common.{◌≡◌, ◌⊎◌, ◌∙◌, ◌+◌, ◌*◌, true, false, length, slice_index, arith}
use Rattle.std.proofs.Common.{refl, sym, ap, subst, inl, inr}
use denote.Enum.Bare.{sameb}
use Rattle.senior_hold.specs.declared.sweep.Method.{Method}
use Rattle.senior_hold.specs.declared.serving.Turn.{Turn}
use Rattle.senior_hold.specs.contracts.serving.Turn.{the_type}
use Rattle.water_model.specs.CutSets.{set_of}
use Rattle.circulation.specs.Contents.{Contents, network}
use Rattle.augment.specs.Raised.{open_arcs}
use Rattle.residual_tree.specs.TreeWords.{tree_words}
use Rattle.senior_hold.specs.MonthNetwork.{arc_count, spill_arc}
use Rattle.senior_hold.specs.Spilled.{IsSpilledStart, SpillsAreOf}
use Rattle.senior_hold.proofs.Begins.{standing_begun}
use Rattle.senior_hold.proofs.Budget.{never_full}
use Rattle.senior_hold.proofs.MonthArcs.{right_kind}
use Rattle.senior_hold.proofs.ShutStarts.{open_bounded}
use Rattle.senior_hold.proofs.Solves.{standing_next}
use Rattle.senior_hold.proofs.SettledPlans.{spills_bounded, settled_plan, sweep_solved}
use Rattle.senior_hold.proofs.SpilledArcs.{spilled_count, spilled_kinds}
use Rattle.senior_hold.proofs.TreeServes.{raised_net}
use Rattle.senior_hold.proofs.Turns.{StandsAt, order_of, turn_count, at_turn, own_claim, turn_path_out, one_more}
use Rattle.senior_hold.proofs.Turns.{within_all}
use Rattle.senior_hold.proofs.sweep.sweep_month.Goals as goal

served : (t : Turn) → sameb the_type t Turn.GaveUp ≡ false → t ≡ Turn.Served
served Turn.Served h = refl
served Turn.GaveUp h = cc

gave_up : (t : Turn) → sameb the_type t Turn.GaveUp ≡ true → t ≡ Turn.GaveUp
gave_up Turn.GaveUp h = refl
gave_up Turn.Served h = cc

cases : (m : Method) → (m ≡ Method.Tree) ⊎ (m ≡ Method.Searches)
cases Method.Tree = inl refl
cases Method.Searches = inr refl

apart : (t : Turn) → t ≡ Turn.GaveUp → t ≡ Turn.Served → ⊥
apart t h i = let both : Turn.GaveUp ≡ Turn.Served = sym h ∙ i in cc (both)

pub overflow_cast-left : goal.overflow_cast-left
overflow_cast-left g c =
    omega (arith, c.len-turns.ensures, turn_count c.requires.givens, c.requires.givens.valid.bounded.rights)

pub overflow_mul-left : goal.overflow_mul-left
overflow_mul-left g c =
    omega (arith, c.len-turns.ensures, turn_count c.requires.givens, c.requires.givens.valid.bounded.rights)

pub loop-turn-init : goal.loop-turn-init
loop-turn-init g c =
    record {
      standing = standing_begun c.begin-circ.ensures.begun c.requires.begin.given.fits_cuts
          c.requires.begin.given.no_sets;
      tree = λ h. c.plant-tree.ensures;
      first = λ e. refl;
      cost = λ h. omega (arith, c.len-turns.ensures, turn_count c.requires.givens);
      spills = c.begin-circ.ensures.begun.spills;
      used = λ h. omega (arith, c.len-turns.ensures, turn_count c.requires.givens);
      search_cost = λ h. omega arith;
      room = c.begin-circ.ensures.room;
      plan = c.requires.begin.given.fits_plan;
    }

pub claim_of-claim-requires-clause-turn : goal.claim_of-claim-requires-clause-turn
claim_of-claim-requires-clause-turn g c =
    (at_turn c.requires.givens c.len-turns.ensures c.loop-turn-test.true c.loop-turn.invariant.standing).below

pub serve_by-turn-requires-clause-path_out : goal.serve_by-turn-requires-clause-path_out
serve_by-turn-requires-clause-path_out g c = λ h.
    let t = at_turn c.requires.givens c.len-turns.ensures c.loop-turn-test.true
    c.loop-turn.invariant.standing in
    turn_path_out c.loop-turn.circ c.requires.givens (omega (arith, c.claim_of-claim.ensures.right, t.in_range))
    c.claim_of-claim.ensures.arc c.loop-turn.invariant.standing.net
    (subst (λ m. SpillsAreOf c.args.givens.now.basin.now m c.loop-turn.circ) h c.loop-turn.invariant.spills)

pub serve_by-turn-requires-clause-set : goal.serve_by-turn-requires-clause-set
serve_by-turn-requires-clause-set g c =
    let now = c.loop-turn.invariant.standing in
    let t = at_turn c.requires.givens c.len-turns.ensures c.loop-turn-test.true now in
    let is = c.claim_of-claim.ensures.right in
    record {
      right = omega (arith, is, t.in_range, now.cut_rights);
      nodes = now.cut_nodes ∙ sym now.net.ends.nodes;
      free = ap (set_of c.loop-turn.cuts) is ∙ t.free;
    }

pub loop-turn-preserved : goal.loop-turn-preserved
loop-turn-preserved g c =
    let t = at_turn c.requires.givens c.len-turns.ensures c.loop-turn-test.true
    c.loop-turn.invariant.standing in
    let b = c.args.givens.now.basin.now in
    let inv = c.loop-turn.invariant in
    let claim = c.claim_of-claim.ensures in
    let own = own_claim c.loop-turn.circ c.claim_of-claim.result c.requires.givens inv.standing.net
    (omega (arith, claim.right, t.in_range)) claim.arc claim.exit claim.want in
    let done = c.serve_by-turn.ensures in
    let is = served c.serve_by-turn.result (sym c.eq.ensures ∙ c.if-eq.false) in
    record {
      standing = standing_next (spilled_kinds b (right_kind b c.requires.givens.valid)) t.below
          claim.right (order_of c.requires.givens) inv.standing claim.arc claim.want (done.served is) done.kept;
      tree = λ h. done.tree h is;
      first = λ e. absurd (omega arith);
      cost = λ h. omega (arith, inv.cost h, done.cost h);
      spills = λ n l. ap (λ (x : Contents). slice_index x.upper (spill_arc b n)) (done.served is).held ∙ inv.spills n l;
      used = λ h. elim (done.used h) [
        | inl each ↦ omega (arith, each, inv.used h)
        | inr fills ↦ absurd (never_full fills c.requires.givens.valid c.requires.givens.supplies inv.standing.net
            (subst (λ m. SpillsAreOf b m c.loop-turn.circ) h inv.spills) own.first own.spill)
      ];
      search_cost = λ h. one_more (arc_count b) (open_arcs (network c.loop-turn.circ)) c.loop-turn.turn
          _ _ _ (open_bounded b c.loop-turn.circ inv.standing.net.ends
          (subst (λ m. SpillsAreOf b m c.loop-turn.circ) h inv.spills))
          (inv.search_cost h) (done.search_cost h);
      room = inv.room;
      plan = inv.plan;
    }

pub settle_plan-requires-clause-ends : goal.settle_plan-requires-clause-ends
settle_plan-requires-clause-ends g c =
    let is = gave_up c.serve_by-turn.result (sym c.eq.ensures ∙ c.if-eq.true) in
    (raised_net (c.serve_by-turn.ensures.raised is) c.loop-turn.invariant.standing.net).ends

pub settle_plan-requires-clause-small : goal.settle_plan-requires-clause-small
settle_plan-requires-clause-small g c =
    let is = gave_up c.serve_by-turn.result (sym c.eq.ensures ∙ c.if-eq.true) in
    spills_bounded c.requires.givens.valid
    (raised_net (c.serve_by-turn.ensures.raised is) c.loop-turn.invariant.standing.net)
    c.serve_by-turn.ensures.kept.flow (let bounded = c.requires.givens.supplies.small in omega arith)

pub returns-then-eq-clause-swept : goal.returns-then-eq-clause-swept
returns-then-eq-clause-swept g c =
    let b = c.args.givens.now.basin.now in
    let inv = c.loop-turn.invariant in
    let t = at_turn c.requires.givens c.len-turns.ensures c.loop-turn-test.true inv.standing in
    let claim = c.claim_of-claim.ensures in
    let own = own_claim c.loop-turn.circ c.claim_of-claim.result c.requires.givens inv.standing.net
    (omega (arith, claim.right, t.in_range)) claim.arc claim.exit claim.want in
    let done = c.serve_by-turn.ensures in
    let is = gave_up c.serve_by-turn.result (sym c.eq.ensures ∙ c.if-eq.true) in
    record {
      fits = c.settle_plan.ensures.fits;
      cuts = record {
        nodes = done.shape.nodes ∙ (inv.standing.cut_nodes ∙ spilled_count b);
        rights = done.shape.sets ∙ inv.standing.cut_rights;
      };
      plan = settled_plan c.requires.givens.valid (raised_net (done.raised is) inv.standing.net) done.kept.flow
          (let bounded = c.requires.givens.supplies.small in omega arith) c.settle_plan.ensures.settled;
      solved = λ s. cc (s);
      pushes = λ h. omega (arith, inv.cost h, done.cost h);
      gave_up = λ _. elim (cases c.args.givens.now.method) [
        | inr h ↦ absurd (apart c.serve_by-turn.result is (done.searched h))
        | inl h ↦ elim (done.gave_up is) [
          | inl all ↦ omega (
            arith,
            all,
            inv.used h,
            c.loop-turn-test.true,
            c.len-turns.ensures,
            turn_count c.requires.givens,
          )
          | inr fills ↦ absurd (never_full fills c.requires.givens.valid c.requires.givens.supplies inv.standing.net
              (subst (λ m. SpillsAreOf b m c.loop-turn.circ) h inv.spills) own.first own.spill)
        ]
      ];
      searched = λ h. absurd (apart c.serve_by-turn.result is (done.searched h));
      search_pushes = λ h. absurd (apart c.serve_by-turn.result is (done.searched h));
    }

pub settle_plan-requires-2-clause-small : goal.settle_plan-requires-2-clause-small
settle_plan-requires-2-clause-small g c =
    spills_bounded c.requires.givens.valid c.loop-turn.invariant.standing.net
    (c.loop-turn.invariant.standing.swept (order_of c.requires.givens)).flow
    (let bounded = c.requires.givens.supplies.small in omega arith)

pub returns-clause-swept : goal.returns-clause-swept
returns-clause-swept g c =
    let b = c.args.givens.now.basin.now in
    let o = order_of c.requires.givens in
    let inv = c.loop-turn.invariant in
    let all : c.loop-turn.turn ≡ length b.rights =
    omega (
      arith,
      c.loop-turn-test.false,
      c.loop-turn.auto.turn-end,
      c.len-turns.ensures,
      turn_count c.requires.givens,
    ) in
    record {
      fits = c.settle_plan-2.ensures.fits;
      cuts = record { nodes = inv.standing.cut_nodes ∙ spilled_count b; rights = inv.standing.cut_rights };
      plan = settled_plan c.requires.givens.valid inv.standing.net (inv.standing.swept o).flow
          (let bounded = c.requires.givens.supplies.small in omega arith) c.settle_plan-2.ensures.settled;
      solved = λ _. sweep_solved c.requires.givens.valid o
          (let bounded = c.requires.givens.supplies.small in omega arith)
          (subst (λ n. StandsAt c.args.givens.now n c.loop-turn.circ c.loop-turn.cuts) all inv.standing)
          c.settle_plan-2.ensures.settled
          (λ none. elim (cases c.args.givens.now.method) [
            | inl h ↦ subst (IsSpilledStart b c.args.givens.now.supply.now) (sym (inv.first (all ∙ none)))
                (c.begin-circ.ensures.start h)
            | inr h ↦ absurd (let some = c.requires.givens.some h in omega (arith, none))
          ]);
      pushes = λ h. omega (arith, inv.cost h);
      gave_up = λ s. cc (s);
      searched = λ _. refl;
      search_pushes = λ h. within_all c.loop-turn.turn (length b.rights) (30 * (2 * arc_count b + 1)) _ _
          (omega (arith, all)) (inv.search_cost h);
    }

pub begin-circ-requires-clause-givens : goal.begin-circ-requires-clause-givens
begin-circ-requires-clause-givens g c = c.requires.givens

pub begin-circ-requires-clause-room : goal.begin-circ-requires-clause-room
begin-circ-requires-clause-room g c = c.requires.room

pub begin-circ-requires-clause-arcs : goal.begin-circ-requires-clause-arcs
begin-circ-requires-clause-arcs g c = c.requires.arcs

pub begin-circ-requires-clause-plan : goal.begin-circ-requires-clause-plan
begin-circ-requires-clause-plan g c = c.requires.begin.plan

pub plant-tree-requires-clause-words : goal.plant-tree-requires-clause-words
plant-tree-requires-clause-words g c =
    c.requires.size ∙ ap tree_words (sym (c.begin-circ.ensures.begun.net.ends.nodes
    ∙ spilled_count c.args.givens.now.basin.now))

pub claim_of-claim-requires-clause-givens : goal.claim_of-claim-requires-clause-givens
claim_of-claim-requires-clause-givens g c = c.requires.givens

pub serve_by-turn-requires-clause-claim : goal.serve_by-turn-requires-clause-claim
serve_by-turn-requires-clause-claim g c =
    let now = c.loop-turn.invariant.standing in
    let t = at_turn c.requires.givens c.len-turns.ensures c.loop-turn-test.true now in
    let claim = c.claim_of-claim.ensures in
    (own_claim c.loop-turn.circ c.claim_of-claim.result c.requires.givens now.net
    (omega (arith, claim.right, t.in_range)) claim.arc claim.exit claim.want).claim

pub serve_by-turn-requires-clause-tree : goal.serve_by-turn-requires-clause-tree
serve_by-turn-requires-clause-tree g c = c.loop-turn.invariant.tree

pub settle_plan-requires-clause-givens : goal.settle_plan-requires-clause-givens
settle_plan-requires-clause-givens g c = c.requires.givens

pub settle_plan-requires-clause-room : goal.settle_plan-requires-clause-room
settle_plan-requires-clause-room g c = c.loop-turn.invariant.room

pub settle_plan-requires-clause-plan : goal.settle_plan-requires-clause-plan
settle_plan-requires-clause-plan g c = c.loop-turn.invariant.plan

pub returns-then-eq-clause-room : goal.returns-then-eq-clause-room
returns-then-eq-clause-room g c = c.settle_plan.ensures.room

pub settle_plan-requires-2-clause-givens : goal.settle_plan-requires-2-clause-givens
settle_plan-requires-2-clause-givens g c = c.requires.givens

pub settle_plan-requires-2-clause-room : goal.settle_plan-requires-2-clause-room
settle_plan-requires-2-clause-room g c = c.loop-turn.invariant.room

pub settle_plan-requires-2-clause-ends : goal.settle_plan-requires-2-clause-ends
settle_plan-requires-2-clause-ends g c = c.loop-turn.invariant.standing.net.ends

pub settle_plan-requires-2-clause-plan : goal.settle_plan-requires-2-clause-plan
settle_plan-requires-2-clause-plan g c = c.loop-turn.invariant.plan

pub returns-clause-room : goal.returns-clause-room
returns-clause-room g c = c.settle_plan-2.ensures.room

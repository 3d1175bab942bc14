-- A basin with an outlet at each node.
use Rattle.std.proofs.Common.{◌≡◌, ℕ, ◌+◌, ◌<◌, Bool, true, false, refl, sym, ◌∙◌, ap, arith}
use Rattle.std.proofs.Common.{List, length, replicate}
use Rattle.std.proofs.lemmas.List.{length-map, length-replicate, get_or-replicate}
use Rattle.std.proofs.lemmas.Bool.{false≢true}
use Rattle.std.specs.Prelude.{◌==◌, slice_index, Option, Some, None, if◌then◌else◌}
use Rattle.finite_sums.specs.Sums.{when}
use Rattle.finite_sums.proofs.Totals.{total_where_start, total_zero}
use Rattle.water_model.specs.Basin.{is_outlet, tail_of, head_of, takes_at}
use Rattle.water_model.specs.declared.types.Basin.{Basin}
use Rattle.circulation.specs.Contents.{Contents, arcs, network}
use Rattle.senior_hold.specs.MonthNetwork.{out_arc, spill_arc, HasBasinEnds}
use Rattle.senior_hold.specs.Arcs.{AreEndsOf}
use Rattle.senior_hold.specs.Spilled.{spilled}
use Rattle.senior_hold.proofs.Laid.{end_at}
use Rattle.water_model.specs.declared.types.Plan.{Plan}
use Rattle.water_model.specs.Plans.{IsPlan}
use Rattle.water_text.specs.declared.month.Month.{Month}
use Rattle.senior_hold.proofs.Rivers.{made}
use Rattle.senior_hold.specs.Solved.{AreWants, FitsPlan, IsGiven, FitsCuts}
use Rattle.water_model.specs.CutSets.{CutSets, set_of, without_sets}
use Rattle.circulation.specs.declared.Ends.{Ends}
use Rattle.senior_hold.proofs.SpilledArcs.{spilled_count, spilled_outlet, spill_is, spilled_arcs}
use Rattle.water_model.proofs.SetEntries.{emptied}

-- the spills are arcs from the nodes to the outside, in the order of the nodes
pub record HasSpills (c : Contents) (first : ℕ) : Type 0 where
  pub arc : (n : ℕ) → n < c.nodes → first + n < arcs c
  pub from : (n : ℕ) → n < c.nodes → slice_index c.from (first + n) ≡ n
  pub to : (n : ℕ) → n < c.nodes → slice_index c.to (first + n) ≡ c.nodes

-- the spills of a circulation
pub has_spills : (b : Basin) (c : Contents) (first : ℕ) → first ≡ spill_arc b 0 → HasBasinEnds (spilled b) (network c) →
    HasSpills c first
has_spills b c first is ends = record {
  arc = λ n l. omega (arith, is, inside n l, spilled_arcs b, ends.arcs);
  from = λ n l. ap (slice_index c.from) (place n l) ∙ ends.out_from n (below n l) (spilled_outlet b n (inside n l));
  to = λ n l. ap (slice_index c.to) (place n l)
      ∙ (ends.out_to n (below n l) (spilled_outlet b n (inside n l)) ∙ sym ends.nodes);
}
  where
    below : (n : ℕ) → n < c.nodes → n < length (spilled b).nodes
    below n l = let e = ends.nodes in omega arith

    inside : (n : ℕ) → n < c.nodes → n < length b.nodes
    inside n l = let e = ends.nodes in omega (arith, spilled_count b)

    place : (n : ℕ) → n < c.nodes → first + n ≡ out_arc (spilled b) n
    place n l = let k = inside n l in omega (arith, is, spill_is b n (omega arith))

-- before any spill is laid
pub spilled_ends : (b : Basin) (es : List Ends) → AreEndsOf b es (length b.links) (length b.rights) 0 →
    AreEndsOf (spilled b) es (length b.links) (length b.rights) 0
spilled_ends b es laid = record {
  count = omega (
    arith,
    laid.count,
    total_where_start (λ n. is_outlet b n) (λ k. 1),
    total_where_start (λ n. is_outlet (spilled b) n) (λ k. 1),
  );
  link = laid.link;
  take = λ r v l h. laid.take r v l h ∙ ap (λ n. Some (end_at v n)) (sym (spilled_count b));
  out = λ n l h. absurd (omega arith);
}

-- what a node spills
pub spill_read : (b : Basin) (g : ℕ → ℕ) (n : ℕ) → n < length b.nodes →
    when (is_outlet (spilled b) n) (g (out_arc (spilled b) n)) ≡ g (spill_arc b n)
spill_read b g n l = ap (λ t. when t (g (out_arc (spilled b) n))) (spilled_outlet b n l)
    ∙ ap g (spill_is b n (omega arith))

-- all supply may be spilled where it comes in
pub spilled_plan : (b : Basin) (month : Month) (supply want f t o : List ℕ) (n m : ℕ) → f ≡ replicate n 0 →
    n ≡ length b.links → t ≡ replicate m 0 → m ≡ length b.rights → o ≡ supply → length supply ≡ length b.nodes →
    IsPlan (spilled b) month supply want (made f t o)
spilled_plan b month supply want f t o n m fs fn ts tn os count = record {
  flow_len = ap length fs ∙ (length-replicate {A = ℕ} n 0 ∙ fn);
  take_len = ap length ts ∙ (length-replicate {A = ℕ} m 0 ∙ tn);
  out_len = ap length os ∙ (count ∙ sym (spilled_count b));
  carries = λ e l. omega (arith, no_flow e l);
  wants = λ r l. omega (arith, no_take r l);
  instream = λ r l h. no_take r l;
  outlets = λ v l h. absurd (let yes = spilled_outlet b v (omega (arith, spilled_count b)) in false≢true (sym h ∙ yes));
  balance = λ v l. omega (
    arith,
    ap (λ (xs : List ℕ). slice_index xs v) os,
    total_zero (length b.links) (λ e. if head_of b e == v then slice_index f e else 0)
        (λ e k. none (head_of b e == v) (slice_index f e) (no_flow e k)),
    total_zero (length b.links) (λ e. if tail_of b e == v then slice_index f e else 0)
        (λ e k. none (tail_of b e == v) (slice_index f e) (no_flow e k)),
    total_zero (length b.rights) (λ r. if takes_at b r v then slice_index t r else 0)
        (λ r k. none (takes_at b r v) (slice_index t r) (no_take r k)),
  );
}
  where
    no_flow : (e : ℕ) → e < length b.links → slice_index f e ≡ 0
    no_flow e l = ap (λ (xs : List ℕ). slice_index xs e) fs ∙ get_or-replicate {A = ℕ} n e 0 0 (omega arith)

    no_take : (r : ℕ) → r < length b.rights → slice_index t r ≡ 0
    no_take r l = ap (λ (xs : List ℕ). slice_index xs r) ts ∙ get_or-replicate {A = ℕ} m r 0 0 (omega arith)

    none : (p : Bool) (x : ℕ) → x ≡ 0 → (if p then x else 0) ≡ 0
    none true x h = h
    none false x h = refl

-- the wants are wants of it as well
pub spilled_wants : (b : Basin) (month : Month) (want : List ℕ) → AreWants b month want →
    AreWants (spilled b) month want
spilled_wants b month want w = record { count = w.count; small = w.small; instream = w.instream }

-- a month may be given again after a sweep gave up, once its sets are given up
pub given_again : (b : Basin) (month : Month) (supply want : List ℕ) (p q : Plan) (cuts swept cleared : CutSets) →
    IsGiven b month supply want p cuts → FitsPlan b q → FitsCuts b swept → cleared ≡ without_sets swept →
    IsGiven b month supply want q cleared
given_again b month supply want p q cuts swept cleared given fits_plan fits_cuts is = record {
  supplies = given.supplies;
  wants = given.wants;
  fits_plan = fits_plan;
  fits_cuts = record {
    nodes = ap (λ (d : CutSets). d.nodes) is ∙ fits_cuts.nodes;
    rights = ap (λ (d : CutSets). length d.sets) is ∙ (length-map swept.sets (λ _. nothing) ∙ fits_cuts.rights);
  };
  no_sets = λ r l. ap (λ (d : CutSets). set_of d r) is ∙ emptied swept.sets r;
}
  where
    nothing : Option (List Bool)
    nothing = None

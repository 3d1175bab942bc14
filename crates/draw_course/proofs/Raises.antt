-- What a draw's arc has after it was raised and fixed.
use Rattle.std.proofs.Common.{◌≡◌, ℕ, ◌^◌, ◌<◌, ◌≤◌, Bool, true, false, refl, sym, ◌∙◌, ap, subst, arith, List, length}
use Rattle.std.proofs.Common.{[], ◌∷◌, zero, suc}
use Rattle.std.proofs.Common.{inl, inr}
use Rattle.std.proofs.lemmas.Bool.{cases_lt}
use Rattle.std.proofs.lemmas.List.{get_or-set_same}
use Rattle.std.specs.Prelude.{slice_index, slice_set, max, Some}
use Rattle.finite_sums.specs.Sums.{when}
use Rattle.finite_sums.proofs.Totals.{total_most}
use Rattle.std.specs.Prelude.{nat_lt}
use Rattle.water_model.specs.CutSets.{CutSets, with_set}
use Rattle.water_model.specs.Lookups.{has}
use Rattle.circulation.specs.Contents.{Contents, arcs, network, flow_of, held_contents, bounded_contents, IsCirculation}
use Rattle.circulation.specs.Contents.{SameButFlow}
use Rattle.circulation.specs.Network.{IsFlow, IsTight, IsGreatestCut}
use Rattle.augment.specs.Raised.{open_arcs, not_reached, CarriesAtMost}
use Rattle.draw_course.specs.Raising.{IsRaisedDraw, fixed_contents}
use Rattle.unreached_sets.specs.Sets.{set_where}
use Rattle.unreached_sets.proofs.Marks.{with_twice, set_size, unreached_set}

-- no flow is above what an arc may have at most
pub bounded_small : {c : Contents} (arc : ℕ) → IsCirculation c → arc < arcs c → flow_of c arc ≤ 10 ^ 15
bounded_small arc kept l = omega (arith, kept.flow.high arc l, kept.shape.small arc l)

-- an arc that is held at its flow and bounded by it
pub fixed_is : {c held new : Contents} (arc amount : ℕ) → IsCirculation c → arc < arcs c → amount ≡ flow_of c arc →
    held ≡ held_contents c arc amount → new ≡ bounded_contents held arc amount →
    new ≡ record c { lower = slice_set c.lower arc amount; upper = slice_set c.upper arc amount }
fixed_is {c} {held} {new} arc amount kept l is held_is bounded =
    let most : max (slice_index c.lower arc) amount ≡ amount = omega (arith, kept.flow.low arc l, is) in
    bounded ∙ ap (λ (d : Contents). bounded_contents d arc amount) held_is
    ∙ ap (λ (x : ℕ). record c { lower = slice_set c.lower arc x; upper = slice_set c.upper arc amount }) most

-- a raise that was met has what was wanted
pub met_is : (old new want : ℕ) → (want ≤ old → new ≡ old) → (old < want → new ≡ want) → old ≤ want → new ≡ want
met_is old new want idle met le = elim (cases_lt old want) [
  | inl less ↦ met less
  | inr more ↦ (let same = idle more in omega arith)
]

-- no more arcs may carry anything than there are
pub open_few : (c : Contents) → open_arcs (network c) ≤ arcs c
open_few c =
    let all = total_most (length c.from) 1 (λ a. when (nat_lt 0 (slice_index c.upper a)) 1)
    (λ a l. one (nat_lt 0 (slice_index c.upper a))) in
    omega (arith, all)
  where
    one : (t : Bool) → when t 1 ≤ 1
    one t = elim t as (λ t. when t 1 ≤ 1) [ true ↦ omega arith | false ↦ omega arith ]

-- the contents of the arc opened, raised and fixed
abbrev done : Contents → ℕ → ℕ → ℕ → List ℕ → List ℕ → Contents
done c arc cap amount flow scratch = record c {
  flow = flow;
  scratch = scratch;
  lower = slice_set c.lower arc amount;
  upper = slice_set (slice_set c.upper arc cap) arc amount;
}

-- what was opened, raised and fixed
pub record IsDone (c opened raised new : Contents) (arc cap amount : ℕ) : Type 0 where
  pub inside : arc < arcs c
  pub kept : IsCirculation c
  pub opened_is : opened ≡ bounded_contents c arc cap
  pub raised_is : SameButFlow opened raised
  pub amount_is : amount ≡ flow_of raised arc
  pub fixed_is : new ≡ record raised { lower = slice_set raised.lower arc amount; upper = slice_set raised.upper arc amount }

set_twice : (xs : List ℕ) (k x y : ℕ) → slice_set (slice_set xs k x) k y ≡ slice_set xs k y
set_twice [] k x y = refl
set_twice (z ∷ xs) zero x y = refl
set_twice (z ∷ xs) (suc k) x y = ap (λ ys. z ∷ ys) (set_twice xs k x y)

pub done_is : {c opened raised new : Contents} {arc cap amount : ℕ} → IsDone c opened raised new arc cap amount →
    new ≡ fixed_contents c new arc amount
done_is {c} {opened} {raised} {new} {arc} {cap} {amount} d =
    let one : raised ≡ record c { flow = raised.flow; scratch = raised.scratch; upper = slice_set c.upper arc cap } =
    d.raised_is ∙ ap (λ (x : Contents). record x { flow = raised.flow; scratch = raised.scratch }) d.opened_is in
    let two : new ≡ done c arc cap amount raised.flow raised.scratch = d.fixed_is
    ∙ ap (λ (x : Contents). record x { lower = slice_set x.lower arc amount; upper = slice_set x.upper arc amount }) one in
    let flow : raised.flow ≡ new.flow = sym (ap (λ (x : Contents). x.flow) two) in
    let scratch : raised.scratch ≡ new.scratch = sym (ap (λ (x : Contents). x.scratch) two) in
    two ∙ ap (λ (f : List ℕ). done c arc cap amount f raised.scratch) flow
    ∙ ap (λ (s : List ℕ). done c arc cap amount new.flow s) scratch
    ∙ ap (λ (u : List ℕ). record (fixed_contents c new arc amount) { upper = u }) (set_twice c.upper arc cap amount)

pub done_flow : {c opened raised new : Contents} {arc cap amount : ℕ} → IsDone c opened raised new arc cap amount →
    flow_of raised ≡ flow_of new
done_flow {raised = raised} d = sym (ap (λ (x : Contents). flow_of x) d.fixed_is)

-- a raise that was met
pub raised_full : {c opened raised new : Contents} {arc cap amount : ℕ} (draw : ℕ) (before after : CutSets) →
    IsDone c opened raised new arc cap amount → flow_of raised arc ≡ cap → after ≡ before →
    IsRaisedDraw c new arc draw cap amount before after
raised_full {c} {opened} {raised} {new} {arc} {cap} {amount} draw before after d met same = record {
  fixed = done_is d;
  carried = sym (ap (λ (f : ℕ → ℕ). f arc) (done_flow d)) ∙ sym d.amount_is;
  within = omega (arith, d.amount_is, met);
  greatest = λ h flow. omega (
    arith,
    flow.high arc d.inside,
    get_or-set_same c.upper arc cap 0 (let s = d.kept.shape.upper in let i = d.inside in omega arith),
    d.amount_is,
    met,
  );
  outcome = inl (d.amount_is ∙ met, same);
}

-- and one that was stopped
pub raised_short : {c opened raised new : Contents} {arc cap amount : ℕ} (draw : ℕ) (before begun after : CutSets)
    (empty : List Bool) → IsDone c opened raised new arc cap amount → flow_of raised arc < cap →
    CarriesAtMost (network opened) arc (flow_of raised arc) → begun ≡ with_set before draw (Some empty) →
    after ≡ with_set begun draw (Some (set_where raised.nodes (not_reached raised))) →
    IsGreatestCut (network opened) (flow_of raised) arc (not_reached raised) →
    IsRaisedDraw c new arc draw cap amount before after
raised_short {c} {opened} {raised} {new} {arc} {cap} {amount} draw before begun after empty d less most begin added cut =
    let set = set_where raised.nodes (not_reached raised) in
    let flow = done_flow d in
    let nodes : raised.nodes ≡ c.nodes = ap (λ (x : Contents). x.nodes) d.raised_is
    ∙ ap (λ (x : Contents). x.nodes) d.opened_is in
    record {
      fixed = done_is d;
      carried = sym (ap (λ (f : ℕ → ℕ). f arc) flow) ∙ sym d.amount_is;
      within = omega (arith, d.amount_is, less);
      greatest = λ h is_flow. omega (
        arith,
        most h (subst (λ (x : Contents). IsFlow (network x) h) (sym d.opened_is) is_flow),
        d.amount_is,
      );
      outcome = inr (
        omega (arith, d.amount_is, less),
        (
          set,
          (
            added ∙ ap (λ (x : CutSets). with_set x draw (Some set)) begin
                ∙ with_twice before draw (Some empty) (Some set),
            (
              set_size raised.nodes (not_reached raised) ∙ nodes,
              subst (λ (x : Contents). IsTight (network x) (flow_of new) arc (has set)) d.opened_is
                  (subst (λ (f : ℕ → ℕ). IsTight (network opened) f arc (has set)) flow
                  (subst (λ (y : ℕ → Bool). IsTight (network opened) (flow_of raised) arc y)
                  (sym (unreached_set raised)) cut.tight)),
            ),
          ),
        ),
      );
    }

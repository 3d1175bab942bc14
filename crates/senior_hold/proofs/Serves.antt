-- What serving one right leaves.
use Rattle.std.proofs.Common.{◌≡◌, ℕ, ◌<◌, ◌≤◌, Bool, false, sym, ◌∙◌, ap, ap₂, subst, arith, List, inl, inr}
use Rattle.std.proofs.lemmas.Bool.{cases_lt}
use Rattle.std.specs.Prelude.{slice_index, slice_set, max, min, nat_lt, ◌==◌, ◌&&◌, Some}
use Rattle.std.proofs.lemmas.Bool.Decides.{nat_tests}
use mathlib.Core.Path.{fun_ext}
use Rattle.water_model.specs.CutSets.{CutSets, with_set}
use Rattle.circulation.specs.Network.{IsGreatestCut}
use Rattle.circulation.specs.Contents.{Contents, network, flow_of, SameButFlow}
use Rattle.augment.specs.Raised.{not_reached, position_of}
use Rattle.senior_hold.specs.MonthNetwork.{list_of}
use Rattle.unreached_sets.proofs.Marks.{set_size, unreached_set, with_twice}
use Rattle.water_model.specs.Lookups.{has}
use Rattle.senior_hold.specs.Serving.{IsServed}
use Rattle.senior_hold.specs.declared.serving.Claim.{Claim}

abbrev changed : Contents → List ℕ → List ℕ → List ℕ → Contents
changed old f s lower = record old { flow = f; scratch = s; lower = lower }

abbrev held_at : Contents → ℕ → ℕ → Contents
held_at c arc got = record c { lower = slice_set c.lower arc (max (slice_index c.lower arc) got) }

-- a raise and a hold change flows, scratch words and one lower
pub held_is : (old raised new : Contents) (arc want got : ℕ) → SameButFlow old raised → new ≡ held_at raised arc got →
    got ≡ min want (flow_of raised arc) →
    new ≡ changed old new.flow new.scratch
    (slice_set old.lower arc (max (slice_index old.lower arc) (min want (flow_of new arc))))
held_is old raised new arc want got rest held is =
    let one : new ≡ changed old raised.flow raised.scratch
    (slice_set old.lower arc (max (slice_index old.lower arc) got)) =
    held ∙ ap (λ (x : Contents). held_at x arc got) rest in
    let f : raised.flow ≡ new.flow = sym (ap (λ (x : Contents). x.flow) one) in
    let s : raised.scratch ≡ new.scratch = sym (ap (λ (x : Contents). x.scratch) one) in
    let amount : got ≡ min want (flow_of new arc) = is ∙ ap (λ (x : List ℕ). min want (slice_index x arc)) f in
    one ∙ (ap₂ (λ (a c : List ℕ). changed old a c (slice_set old.lower arc (max (slice_index old.lower arc) got))) f s
    ∙ ap (λ (x : ℕ). changed old new.flow new.scratch (slice_set old.lower arc (max (slice_index old.lower arc) x)))
    amount)

-- the flow is that of the raise
pub held_flow : (raised new : Contents) (arc got : ℕ) → new ≡ held_at raised arc got → flow_of new ≡ flow_of raised
held_flow raised new arc got held = ap (λ (x : Contents). flow_of x) held

pub served_met : (old raised new : Contents) (x : Claim) (got : ℕ) (cuts after : CutSets) → SameButFlow old raised →
    new ≡ held_at raised x.arc got → got ≡ min x.want (flow_of raised x.arc) → x.want ≤ flow_of raised x.arc →
    after ≡ cuts → IsServed old new x cuts after
served_met old raised new x got cuts after rest held is met same = record {
  held = held_is old raised new x.arc x.want got rest held is;
  outcome = inl (let e = ap (λ (f : ℕ → ℕ). f x.arc) (held_flow raised new x.arc got held) in omega arith, same);
}

pub served_short : (old raised new : Contents) (x : Claim) (got : ℕ) (cuts begun after : CutSets) (empty : List Bool) →
    SameButFlow old raised → new ≡ held_at raised x.arc got → got ≡ min x.want (flow_of raised x.arc) →
    flow_of raised x.arc < x.want → begun ≡ with_set cuts x.right (Some empty) →
    after ≡ with_set begun x.right (Some (list_of raised.nodes (not_reached raised))) →
    IsGreatestCut (network old) (flow_of raised) x.arc (not_reached raised) → IsServed old new x cuts after
served_short old raised new x got cuts begun after empty rest held is less begin done greatest =
    let cut = list_of raised.nodes (not_reached raised) in
    let flow = held_flow raised new x.arc got held in
    record {
      held = held_is old raised new x.arc x.want got rest held is;
      outcome = inr (
        let e = ap (λ (f : ℕ → ℕ). f x.arc) flow in omega arith,
        (
          cut,
          (
            done ∙ (ap (λ (d : CutSets). with_set d x.right (Some cut)) begin
                ∙ with_twice cuts x.right (Some empty) (Some cut)),
            (
              set_size raised.nodes (not_reached raised) ∙ ap (λ (c : Contents). c.nodes) rest,
              subst (λ (g : ℕ → ℕ). IsGreatestCut (network old) g x.arc (has cut)) (sym flow)
                  (subst (λ (y : ℕ → Bool). IsGreatestCut (network old) (flow_of raised) x.arc y)
                  (sym (unreached_set raised)) greatest),
            ),
          ),
        ),
      );
    }

-- where a raise did not stop, the arc has what is wanted
pub raise_met : (before after want : ℕ) → (want ≤ before → after ≡ before) → (before < want → after ≡ want) →
    want ≤ after
raise_met before after want idle met =
    elim (cases_lt before want) [
      | inl less ↦ (let e = met less in omega arith)
      | inr more ↦
          (let e = idle more in omega arith)
    ]

-- What a round and a hold leave.
use Rattle.std.proofs.Common.{ℕ, max, ◌≡◌, ◌+◌, ◌*◌, ◌<◌, ◌≤◌, List, length, slice_index, slice_set, refl, arith}
use Rattle.std.proofs.Common.{ap, sym, subst, inl, inr, ◌∙◌}
use Rattle.std.proofs.lemmas.Bool.{cases_eq}
use Rattle.std.proofs.lemmas.List.{get_or-set_other, get_or-set_same, length-set}
use Rattle.std.proofs.lemmas.Grind.{same_number_lists}
use Rattle.circulation.specs.Contents.{Contents, flow_of, arcs, step_of, held_contents, IsCirculation, SameButScratch}
use Rattle.circulation.specs.Residual.{arc_of, IsPushed}
use Rattle.circulation.proofs.Pushing.{pushed_first}
use Rattle.residual_tree.specs.Repair.{IsSaturatedTree, HasSomeArtificial}
use Rattle.residual_tree.specs.Raised.{IsGathered, IsTraced, IsRaisedOver}
use Rattle.residual_tree.proofs.Pushes.{but_over, pushed_saturated, saturated_written}

-- nothing changed but scratch words
pub raised_scratch : (c : Contents) {d : Contents} (r : ℕ) → d ≡ record c { scratch = d.scratch } → IsRaisedOver c d r
raised_scratch c r rest = record {
  rest = subst (λ (x : Contents). x ≡ record c { lower = x.lower; flow = x.flow; scratch = x.scratch }) (sym rest) refl;
  lowers = λ a ne. ap (λ (x : Contents). slice_index x.lower a) rest;
}

-- one raise after another
pub raised_more : (c d e : Contents) (r : ℕ) → IsRaisedOver c d r → IsRaisedOver d e r → IsRaisedOver c e r
raised_more c d e r first second = record {
  rest = second.rest ∙ ap (λ (x : Contents). record x { lower = e.lower; flow = e.flow; scratch = e.scratch })
      first.rest;
  lowers = λ a ne. second.lowers a ne ∙ first.lowers a ne;
}

-- the contents after a walk was written, a push and a hold
abbrev pub raised_contents : Contents → List ℕ → List ℕ → ℕ → ℕ → Contents
raised_contents c scratch flow r amount =
    record c { scratch = scratch; flow = flow; lower = slice_set c.lower r (max (slice_index c.lower r) amount) }

raised_is : (c : Contents) {d e f : Contents} (r amount : ℕ) → d ≡ record c { scratch = d.scratch } →
    e ≡ record d { flow = e.flow } → f ≡ held_contents e r amount → f ≡ raised_contents c d.scratch e.flow r amount
raised_is c {e} r amount written pushed held =
    held ∙ ap (λ (x : Contents). held_contents x r amount) pushed
    ∙ ap (λ (x : Contents). held_contents (record x { flow = e.flow }) r amount) written

-- the tree after a walk was written, a push, a hold, and the artificial step after those that are listed
pub record IsRoundTree (c g : Contents) (labels : List ℕ) (last : ℕ) : Type 0 where
  pub fits : last ≤ 4 * g.nodes + 8
  pub saturated : IsSaturatedTree g labels 0 last
  pub arcs : (i : ℕ) → 0 ≤ i → i < last → arc_of (step_of g i) < arcs g

pub round_saturated : {c d e f g : Contents} {labels : List ℕ} {r most first full last : ℕ} (last' : ℕ)
    {amount : ℕ} (flow : ℕ) → IsCirculation d → (t : HasSomeArtificial c labels r) → arc_of t.step < arcs c →
    flow_of c r ≡ slice_index c.lower r →
    IsTraced c d labels r most first amount full → 0 < amount → e ≡ record d { flow = e.flow } →
    last ≡ 4 * c.nodes + 8 →
    IsPushed (flow_of d) (flow_of e) (step_of d) first last amount → f ≡ held_contents e r flow →
    g ≡ record f { scratch = slice_set f.scratch full t.step } → last' ≡ full + 1 →
    IsRoundTree c g labels last'
round_saturated {c} {d} {e} {f} {labels} {r} {first = first} {full = full} {last = last} last' {amount} flow k t b held
    traced positive pushed is p made written more =
    let rest = traced.rest in
    let kept = subst IsCirculation rest k in
    let gathered = subst (λ (x : Contents). IsGathered x first full amount) rest traced.gathered in
    let now = raised_is c r flow rest pushed made in
    let moved = subst (λ (x : Contents). IsPushed (flow_of x) (flow_of e) (step_of d) first last amount) rest p in
    let whole = subst (λ (n : ℕ). IsPushed (flow_of c) (flow_of e) (step_of d) first n amount) is moved in
    let after = written ∙ ap (λ (x : Contents). record x { scratch = slice_set x.scratch full t.step }) now in
    let over : HasSomeArtificial (record c { scratch = d.scratch }) labels r = record {
      step = t.step;
      enters = t.enters;
      tree = but_over d.scratch t.tree;
    } in
    let long : full < length d.scratch = omega (arith, kept.shape.scratch, gathered.fits, traced.prefix) in
    rw (more, after) record {
      fits = omega (arith, gathered.fits, traced.prefix);
      saturated = saturated_written full t.step long
          (pushed_saturated (slice_set c.lower r (max (slice_index c.lower r) flow))
          e.flow full kept over (traced.walk positive) whole traced.forward traced.ends gathered.all
          (omega (arith, held)) (λ a ne. get_or-set_other c.lower r a (max (slice_index c.lower r) flow) 0 ne));
      arcs = λ i h j. elim (cases_eq i full) [
        | inl f ↦ omega (
          arith,
          ap (λ (n : ℕ). arc_of (slice_index (slice_set d.scratch full t.step) n)) f,
          ap arc_of (get_or-set_same d.scratch full t.step 0 long),
          b,
        )
        | inr ne ↦ omega (
          arith,
          ap arc_of (get_or-set_other d.scratch full i t.step 0 ne),
          gathered.arc i (omega (arith, ne, j)),
        )
      ];
    }

-- what the round leaves of the contents
pub record IsRound (c f : Contents) (r amount : ℕ) : Type 0 where
  pub rest : IsRaisedOver c f r
  pub raised : flow_of f r ≡ flow_of c r + amount
  pub held : flow_of f r ≡ slice_index f.lower r

pub round_is : {c d e f : Contents} {labels : List ℕ} {r most first last amount full flow : ℕ} → IsCirculation d →
    r < arcs c → flow_of c r ≡ slice_index c.lower r → IsTraced c d labels r most first amount full → 0 < amount →
    e ≡ record d { flow = e.flow } → last ≡ 4 * c.nodes + 8 → IsPushed (flow_of d) (flow_of e)
    (step_of d) first last amount → flow ≡ flow_of e r → f ≡ held_contents e r flow → IsRound c f r amount
round_is {c} {d} {e} {r} {first} {last} {amount} {flow} k b held traced positive pushed is p seen made =
    let rest = traced.rest in
    let now = raised_is c r flow rest pushed made in
    let more = max (slice_index c.lower r) flow in
    let kept = subst IsCirculation rest k in
    let long : r < length c.lower = omega (arith, kept.shape.lower, b) in
    let own = pushed_first r p (omega (arith, traced.some, is)) traced.forward in
    let before = ap (λ (x : Contents). flow_of x r) rest in
    let here = get_or-set_same c.lower r more 0 long in
    subst (λ (x : Contents). IsRound c x r amount) (sym now) record {
      rest = record { rest = refl; lowers = λ a ne. get_or-set_other c.lower r a more 0 ne };
      raised = omega (arith, own, before);
      held = omega (arith, here, own, before, seen, held);
    }

-- what a hold leaves of the contents
pub hold_is : {c d : Contents} (r : ℕ) {amount : ℕ} → IsCirculation c → r < arcs c → amount ≡ flow_of c r →
    d ≡ record (held_contents c r amount) { scratch = d.scratch } → IsRound c d r 0
hold_is {c} r {amount} k b is made =
    let more = max (slice_index c.lower r) amount in
    let long : r < length c.lower = omega (arith, k.shape.lower, b) in
    let here = get_or-set_same c.lower r more 0 long in
    subst (λ (x : Contents). IsRound c x r 0) (sym made) record {
      rest = record { rest = refl; lowers = λ a ne. get_or-set_other c.lower r a more 0 ne };
      raised = omega arith;
      held = omega (arith, here, is, k.flow.low r b);
    }

-- a round after which scratch words were written
pub round_written : {c f g : Contents} {r amount : ℕ} (scratch : List ℕ) → IsRound c f r amount →
    g ≡ record f { scratch = scratch } → IsRound c g r amount
round_written {c} {r = r} {amount = amount} scratch round e = subst (λ (x : Contents). IsRound c x r amount) (sym e)
    record {
      rest = record {
        rest = ap (λ (x : Contents). record x { scratch = scratch }) round.rest.rest;
        lowers = round.rest.lowers;
      };
      raised = round.raised;
      held = round.held;
    }

-- a hold of an arc that was held at its flow
pub hold_still : {c d : Contents} (r : ℕ) {amount : ℕ} → IsCirculation c → r < arcs c → amount ≡ flow_of c r →
    flow_of c r ≡ slice_index c.lower r → d ≡ record (held_contents c r amount) { scratch = d.scratch } →
    SameButScratch c d
hold_still {c} {d} r {amount} k b is held made =
    let more = max (slice_index c.lower r) amount in
    let long : r < length c.lower = omega (arith, k.shape.lower, b) in
    made ∙ ap (λ (xs : List ℕ). record c { lower = xs; scratch = d.scratch })
    (same_number_lists (slice_set c.lower r more) c.lower (length-set c.lower r more) (λ a m. elim (cases_eq a r) [
      | inl e ↦ ap (slice_index (slice_set c.lower r more)) e ∙ get_or-set_same c.lower r more 0 long
          ∙ omega (arith, is, held) ∙ sym (ap (slice_index c.lower) e)
      | inr ne ↦ get_or-set_other c.lower r a more 0 ne
    ]))

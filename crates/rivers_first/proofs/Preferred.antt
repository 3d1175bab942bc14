-- A plan whose water was sent down rivers.
use Rattle.std.proofs.Common.{ℕ, ◌≡◌, ◌<◌, ◌≤◌, Bool, true, false, List, length, slice_index, arith, ◌∙◌}
use Rattle.std.proofs.Common.{inl, inr, subst, sym, refl}
use Rattle.std.specs.Prelude.{Option, Some, None}
use Rattle.water_model.specs.Basin.{instream_link, is_river}
use Rattle.water_model.specs.Plans.{IsPlan, IsGreatest, DeliversSame, carry_of, delivery}
use Rattle.water_model.specs.Plans.{delivery_by_link}
use Rattle.water_text.specs.declared.month.Month.{Month}
use Rattle.water_model.specs.declared.types.Basin.{Basin}
use Rattle.water_model.specs.declared.types.Plan.{Plan}
use Rattle.water_model.specs.Valid.{IsValidBasin}
use Rattle.water_model.proofs.Carries.{river_carry}
use Rattle.rivers_first.specs.Sent.{IsSent, KeepsInstream}
use Rattle.rivers_first.proofs.Kept.{keeps_right, link_in}

abbrev pub with_flow : Plan → List ℕ → Plan
with_flow p flow = record p { flow = flow }

-- it is a plan
pub sent_plan : (b : Basin) (month : Month) (supply want kept flow : List ℕ) (p : Plan) →
    IsPlan b month supply want p → IsSent b kept p.flow flow → IsPlan b month supply want (with_flow p flow)
sent_plan b month supply want kept flow p plan sent = record {
  flow_len = sent.within.count;
  take_len = plan.take_len;
  out_len = plan.out_len;
  carries = λ e l. carries e l (is_river b e) refl;
  wants = plan.wants;
  instream = plan.instream;
  outlets = plan.outlets;
  balance = λ n l. omega (arith, plan.balance n l, sent.nodes n);
}
  where
    carries : (e : ℕ) → e < length b.links → (t : Bool) → is_river b e ≡ t → slice_index flow e ≤ carry_of b month e
    carries e l true river = omega (arith, sent.within.high e l, river_carry b month e river)
    carries e l false canal = omega (arith, sent.canals e l canal, plan.carries e l)

-- it delivers no less
pub sent_delivers : (b : Basin) (want kept flow : List ℕ) (p : Plan) (count r : ℕ) →
    KeepsInstream b want p.flow count kept → IsSent b kept p.flow flow → r < count →
    ((e : ℕ) → instream_link b r ≡ Some e → e < length b.links) →
    delivery b want p r ≤ delivery b want (with_flow p flow) r
sent_delivers b want kept flow p count r keeps sent l within = by_link (instream_link b r) refl
  where
    by_link : (o : Option ℕ) → instream_link b r ≡ o →
        delivery_by_link o (slice_index want r) p r ≤ delivery_by_link o (slice_index want r) (with_flow p flow) r
    by_link None h = omega arith
    by_link (Some e) h =
        let kept_there = keeps_right b want p.flow kept count r e keeps l (within e h) h in
        let low = sent.within.low e (within e h) in
        omega arith

-- as much as the greatest plan, and so as much
pub no_less_same : (b : Basin) (month : Month) (supply want : List ℕ) (p q : Plan) →
    IsGreatest b month supply want p → IsPlan b month supply want q →
    ((r : ℕ) → r < length b.rights → delivery b want p r ≤ delivery b want q r) → DeliversSame b want p q
no_less_same b month supply want p q best plan less = elim (best.greatest q plan) [
  | inl same ↦ same
  | inr more ↦ let most = more.more in let least = less more.right more.in_range in absurd (omega arith)
]

-- and so it is greatest too
pub same_greatest : (b : Basin) (month : Month) (supply want : List ℕ) (p q : Plan) →
    IsGreatest b month supply want p → IsPlan b month supply want q → DeliversSame b want p q →
    IsGreatest b month supply want q
same_greatest b month supply want p q best plan same = record {
  plan = plan;
  greatest = λ x is. elim (best.greatest x is) [
    | inl h ↦ inl (λ r l. sym (same r l) ∙ h r l)
    | inr h ↦ inr record {
      right = h.right;
      in_range = h.in_range;
      more = subst (λ (n : ℕ). delivery b want x h.right < n) (same h.right h.in_range) h.more;
      same_to_seniors = λ s l senior. sym (same s l) ∙ h.same_to_seniors s l senior;
    }
  ];
}

-- what was sent down rivers leaves all deliveries, and the plan stays greatest
pub preferred : (b : Basin) (month : Month) (supply want kept flow : List ℕ) (p : Plan) → IsValidBasin b →
    IsGreatest b month supply want p → KeepsInstream b want p.flow (length b.rights) kept →
    IsSent b kept p.flow flow →
    DeliversSame b want p (with_flow p flow) × IsGreatest b month supply want (with_flow p flow)
preferred b month supply want kept flow p valid best keeps sent =
    let plan = sent_plan b month supply want kept flow p best.plan sent in
    let same = no_less_same b month supply want p (with_flow p flow) best plan
    (λ r l. sent_delivers b want kept flow p (length b.rights) r keeps sent l (λ e. link_in b r e valid l)) in
    (same, same_greatest b month supply want p (with_flow p flow) best plan same)

-- the same of a plan into which the flow was written, and whose flow went into it
pub preferred_written : (b : Basin) (month : Month) (supply want kept old flow written : List ℕ) (p : Plan) →
    IsValidBasin b → old ≡ p.flow → written ≡ flow → KeepsInstream b want old (length b.rights) kept →
    IsSent b kept old flow → IsGreatest b month supply want p →
    DeliversSame b want p (with_flow p written) × IsGreatest b month supply want (with_flow p written)
preferred_written b month supply want kept old flow written p valid from into keeps sent best =
    subst (λ (f : List ℕ). DeliversSame b want p (with_flow p f) × IsGreatest b month supply want (with_flow p f))
    (sym into)
    (preferred b month supply want kept flow p valid best
    (subst (λ (f : List ℕ). KeepsInstream b want f (length b.rights) kept) from keeps)
    (subst (λ (f : List ℕ). IsSent b kept f flow) from sent))

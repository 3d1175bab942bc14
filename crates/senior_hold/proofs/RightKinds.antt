-- What the kind of a right says of its arc.
use Rattle.std.proofs.Common.{◌≡◌, ℕ, ◌+◌, ◌<◌, true, false, refl, sym, ◌∙◌, ap, arith, length}
use Rattle.std.specs.Prelude.{slice_get, Some, None, is_some, unwrap_or, option_map, if◌then◌else◌}
use Rattle.finite_sums.proofs.Totals.{total_where_more}
use Rattle.water_model.specs.Basin.{taking_node_of_kind, instream_link, link_of_kind, is_outlet}
use Rattle.water_model.specs.Valid.{IsValidBasin}
use Rattle.water_model.specs.declared.types.Basin.{Basin}
use Rattle.water_model.specs.declared.types.Right.{Right}
use Rattle.water_model.specs.declared.types.RightKind.{RightKind}
use Rattle.water_model.specs.declared.types.RightKind.TheVariants.{Diversion, Instream, Zone}
use Rattle.senior_hold.specs.MonthNetwork.{takes, take_arc, out_arc, right_arc, arc_by_link}
use Rattle.senior_hold.proofs.MonthArcs.{IsKind, on_link, at_node, right_kind}

pub take_arc_more : (b : Basin) (r : ℕ) → take_arc b (r + 1) ≡ take_arc b r + (if takes b r then 1 else 0)
take_arc_more b r = omega (arith, total_where_more r (λ r. takes b r) (λ k. 1))

pub out_arc_more : (b : Basin) (n : ℕ) → out_arc b (n + 1) ≡ out_arc b n + (if is_outlet b n then 1 else 0)
out_arc_more b n = omega (arith, total_where_more n (λ n. is_outlet b n) (λ k. 1))

pub take_arc_skip : (b : Basin) (r : ℕ) → takes b r ≡ false → take_arc b r ≡ take_arc b (r + 1)
take_arc_skip b r h = let t : (if takes b r then 1 else 0) ≡ 0 + 0 = ap (λ t. if t then 1 else 0) h in
    omega (arith, take_arc_more b r)

pub take_arc_step : (b : Basin) (r : ℕ) → takes b r ≡ true → take_arc b r + 1 ≡ take_arc b (r + 1)
take_arc_step b r h = let t : (if takes b r then 1 else 0) ≡ 0 + 1 = ap (λ t. if t then 1 else 0) h in
    omega (arith, take_arc_more b r)

-- an instream right has its link as its arc, and takes nothing
pub record IsOnLink (b : Basin) (r e : ℕ) : Type 0 where
  pub arc : right_arc b r ≡ e
  pub none : takes b r ≡ false

pub instream_arc : (b : Basin) (r e : ℕ) (x : Right) → slice_get b.rights r ≡ Some x → x.kind ≡ Instream e →
    IsOnLink b r e
instream_arc b r e x at is = record {
  arc = ap (arc_by_link b r) (ap (λ o. unwrap_or (option_map (λ x. link_of_kind x.kind) o) None) at
      ∙ ap link_of_kind is);
  none = ap is_some (ap (λ o. unwrap_or (option_map (λ x. taking_node_of_kind b x.kind) o) None) at
      ∙ ap (taking_node_of_kind b) is);
}

-- any other right has the arc of its take
pub record IsAtNode (b : Basin) (r : ℕ) : Type 0 where
  pub arc : right_arc b r ≡ take_arc b r
  pub takes_here : takes b r ≡ true

pub taker_arc : (b : Basin) (r : ℕ) (x : Right) → IsValidBasin b → r < length b.rights → slice_get b.rights r ≡ Some x →
    ((e : ℕ) → x.kind ≡ Instream e → ⊥) → IsAtNode b r
taker_arc b r x valid l at not = of_kind (right_kind b valid r l)
  where
    no_link : (k : RightKind) → x.kind ≡ k → link_of_kind k ≡ None
    no_link (Diversion node) h = refl
    no_link (Instream e) h = absurd (not e h)
    no_link (Zone reservoir level) h = refl

    none : instream_link b r ≡ None
    none = ap (λ o. unwrap_or (option_map (λ x. link_of_kind x.kind) o) None) at ∙ no_link x.kind refl

    of_kind : IsKind b r → IsAtNode b r
    of_kind (on_link e k i t) = absurd (let s = sym none ∙ i in cc (s))
    of_kind (at_node v k i t) = record { arc = ap (arc_by_link b r) i; takes_here = ap is_some t }

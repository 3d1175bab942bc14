-- What a turn by the residual tree leaves.
use Rattle.std.proofs.Common.{◌≡◌, ◌≢◌, ℕ, ◌<◌, ◌≤◌, Bool, false, refl, sym, ◌∙◌, ap, subst, arith, List, length}
use Rattle.std.proofs.Common.{inl, inr, get_or-set_same, get_or-set_other}
use Rattle.std.proofs.lemmas.Bool.{cases_eq}
use Rattle.std.proofs.lemmas.Bool.Decides.{nat_tests}
use Rattle.std.proofs.lemmas.List.{length-set}
use Rattle.std.proofs.lemmas.Grind.{same_number_lists}
use Rattle.std.specs.Prelude.{slice_index, max, min, nat_lt, ◌==◌, ◌&&◌, Some}
use mathlib.Core.Path.{fun_ext}
use Rattle.water_model.specs.CutSets.{CutSets, with_set}
use Rattle.water_model.specs.Lookups.{has}
use Rattle.circulation.specs.Contents.{Contents, network, flow_of, arcs, IsCirculation, SameButScratch}
use Rattle.circulation.specs.Network.{IsGreatestCut}
use Rattle.residual_tree.specs.Raised.{IsRaisedOver}
use Rattle.residual_tree.specs.Tree.{label_of, unlabeled}
use Rattle.residual_tree.proofs.Reaches.{cut_stays_when_held_lem}
use Rattle.senior_hold.specs.MonthNetwork.{list_of, IsMonthNetwork}
use Rattle.senior_hold.specs.Serving.{IsServed, IsTreeRaise, held_lower}
use Rattle.senior_hold.specs.declared.serving.Claim.{Claim}
use Rattle.unreached_sets.proofs.Marks.{has_where, set_size}
use Rattle.senior_hold.proofs.Solves.{changed, net_kept}
use Rattle.water_model.specs.declared.types.Basin.{Basin}
use Rattle.water_text.specs.declared.month.Month.{Month}

-- a raise leaves the network of a month one of the month
pub raised_net : {b : Basin} {month : Month} {supply want : List ℕ} {old new : Contents} {r : ℕ} →
    IsRaisedOver old new r → IsMonthNetwork b month supply want (network old) →
    IsMonthNetwork b month supply want (network new)
raised_net {b} {month} {supply} {want} {old} {new} {r} raised net =
    subst (λ (x : Contents). IsMonthNetwork b month supply want (network x)) (sym raised.rest)
    (net_kept b month supply want old new.flow new.scratch new.lower net)

-- a raise holds what the arc has then
raised_lower : (old mid : Contents) (x : Claim) → IsCirculation old → IsTreeRaise old mid x → x.arc < arcs old →
    mid.lower ≡ held_lower old x (flow_of mid)
raised_lower old mid x kept raised l =
    same_number_lists mid.lower (held_lower old x (flow_of mid)) (size ∙ sym (length-set old.lower x.arc y))
    (λ a m. elim (cases_eq a x.arc) [
      | inl e ↦ ap (slice_index mid.lower) e
          ∙ (here ∙ (sym (get_or-set_same old.lower x.arc y 0 inside)
          ∙ sym (ap (slice_index (held_lower old x (flow_of mid))) e)))
      | inr ne ↦ raised.rest.lowers a ne ∙ sym (get_or-set_other old.lower x.arc a y 0 ne)
    ])
  where
    y : ℕ
    y = max (slice_index old.lower x.arc) (min x.want (flow_of mid x.arc))

    inside : x.arc < length old.lower
    inside = let n = kept.shape.lower in omega arith

    size : length mid.lower ≡ length old.lower
    size = raised.kept.shape.lower ∙ (ap (λ (c : Contents). length c.from) raised.rest.rest ∙ sym kept.shape.lower)

    here : slice_index mid.lower x.arc ≡ y
    here = let low = kept.flow.low x.arc l in omega (arith, raised.held, raised.rises, raised.limit)

-- the contents after a raise, and after scratch words changed
raised_held : (old mid new : Contents) (x : Claim) → IsCirculation old → IsTreeRaise old mid x → x.arc < arcs old →
    SameButScratch mid new → new ≡ changed old new.flow new.scratch (held_lower old x (flow_of new))
raised_held old mid new x kept raised l scratch =
    scratch ∙ (ap (λ (c : Contents). let d : Contents = record c { scratch = new.scratch } in d) raised.rest.rest
    ∙ (ap (λ (xs : List ℕ). changed old mid.flow new.scratch xs) (raised_lower old mid x kept raised l)
    ∙ ap (λ (f : List ℕ). changed old f new.scratch (held_lower old x (slice_index f))) flow))
  where
    flow : mid.flow ≡ new.flow
    flow = sym (ap (λ (c : Contents). c.flow) scratch)

pub served_full : {old mid : Contents} {x : Claim} {cuts : CutSets} → IsCirculation old → IsTreeRaise old mid x →
    x.arc < arcs old → flow_of mid x.arc ≡ x.want → IsServed old mid x cuts cuts
served_full {old} {mid} {x} {cuts} kept raised l met = record {
  held = raised_held old mid mid x kept raised l refl;
  outcome = inl (omega arith, refl);
}

unlabeled_list : (c : Contents) (labels : List ℕ) → has (list_of c.nodes (unlabeled c labels)) ≡ unlabeled c labels
unlabeled_list c labels = fun_ext
    (has_where c.nodes (unlabeled c labels) (λ v l. outside v c.nodes (label_of labels v) l))
  where
    outside : (v n p : ℕ) → n ≤ v → nat_lt v n && (p == 0) ≡ false
    outside v n p l = grind (arith, nat_tests)

pub served_unlabeled : {old mid new : Contents} (labels : List ℕ) {x : Claim} {cuts after : CutSets} →
    IsCirculation old → IsTreeRaise old mid x → x.arc < arcs old → flow_of mid x.arc ≢ x.want → SameButScratch mid new →
    IsGreatestCut (network mid) (flow_of mid) x.arc (unlabeled mid labels) →
    after ≡ with_set cuts x.right (Some (list_of mid.nodes (unlabeled mid labels))) → IsServed old new x cuts after
served_unlabeled {old} {mid} {new} labels {x} {cuts} {after} kept raised l short scratch greatest done =
    let cut = list_of mid.nodes (unlabeled mid labels) in
    let flow : flow_of new ≡ flow_of mid = ap (λ (c : Contents). flow_of c) scratch in
    record {
      held = raised_held old mid new x kept raised l scratch;
      outcome = inr (
        let e = ap (λ (f : ℕ → ℕ). f x.arc) flow in omega (arith, raised.limit),
        (
          cut,
          (
            done,
            (
              set_size mid.nodes (unlabeled mid labels) ∙ ap (λ (c : Contents). c.nodes) raised.rest.rest,
              subst (λ (g : ℕ → ℕ). IsGreatestCut (network old) g x.arc (has cut)) (sym flow)
                  (subst (λ (y : ℕ → Bool). IsGreatestCut (network old) (flow_of mid) x.arc y)
                  (sym (unlabeled_list mid labels))
                  (cut_stays_when_held_lem old mid x.arc (unlabeled mid labels) raised.rest greatest)),
            ),
          ),
        ),
      );
    }

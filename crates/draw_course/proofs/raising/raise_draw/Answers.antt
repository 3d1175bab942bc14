use Rattle.std.proofs.Common.{◌≡◌, ◌<◌, ◌∙◌, true, false, refl, ap, sym, subst, arith}
use Rattle.std.specs.Prelude.{slice_index}
use Rattle.circulation.specs.Contents.{Contents, arcs, flow_of, network}
use Rattle.augment.specs.Raised.{HasPathOut}
use Rattle.augment.specs.declared.Raised.{Raised}
use Rattle.augment.specs.contracts.Raised.{the_type}
use denote.Enum.Bare.{sameb}
use Rattle.std.proofs.lemmas.List.{get_or-set_same}
use Rattle.draw_course.proofs.Raises.{open_few, IsDone, raised_full, raised_short, met_is}
use Rattle.draw_course.proofs.raising.raise_draw.Goals as goal
use Rattle.draw_course.proofs.raising.raise_draw.Goals.{then-eq, else-eq}

stopped : (r : Raised) → sameb the_type r Raised.Stopped ≡ true → r ≡ Raised.Stopped
stopped Raised.Met h = cc
stopped Raised.Stopped h = refl

met : (r : Raised) → sameb the_type r Raised.Stopped ≡ false → r ≡ Raised.Met
met Raised.Met h = refl
met Raised.Stopped h = cc

pub bound-requires-clause-kept : goal.bound-requires-clause-kept
bound-requires-clause-kept g c =
    omega (arith, c.nodes-nodes.ensures.kept.flow.high c.args.arc c.requires.arc, c.requires.shut)

pub bound-requires-clause-small : goal.bound-requires-clause-small
bound-requires-clause-small g c = omega (arith, c.requires.cap)

pub raise-requires-clause-arc : goal.raise-requires-clause-arc
raise-requires-clause-arc g c = subst (λ (x : Contents). c.args.arc < arcs x) (sym c.bound.ensures.bounded) c.requires.arc

pub raise-requires-clause-want : goal.raise-requires-clause-want
raise-requires-clause-want g c =
    omega (
      arith,
      ap (λ (x : Contents). slice_index x.upper c.args.arc) c.bound.ensures.bounded,
      get_or-set_same c.args.circ.now.upper c.args.arc c.args.cap 0
          (let s = c.nodes-nodes.ensures.kept.shape.upper in let l = c.requires.arc in omega arith),
    )

pub raise-requires-clause-path_out : goal.raise-requires-clause-path_out
raise-requires-clause-path_out g c =
    subst (λ (x : Contents). HasPathOut (network x) c.args.arc) (sym c.bound.ensures.bounded) c.requires.path_out

pub returns-clause-raised : goal.returns-clause-raised
returns-clause-raised g c =
    let kept = c.nodes-nodes.ensures.kept in
    let done : IsDone c.args.circ.now c.bound.new.self c.raise.new.circ c.fix.new.circ c.args.arc c.args.cap
    c.fix.result = record {
      inside = c.requires.arc;
      kept = kept;
      opened_is = c.bound.ensures.bounded;
      raised_is = c.raise.ensures.rest;
      amount_is = c.fix.ensures.amount;
      fixed_is = c.fix.ensures.fixed;
    } in
    elim c.if-eq.branch [
      | then-eq w ↦ (let is = stopped c.raise.result (sym c.eq.ensures ∙ w.if-eq.true) in
          raised_short c.args.draw c.args.stops.now w.begin.new.self c.if-eq.stops _ done (c.raise.ensures.less is)
          (c.raise.ensures.greatest is) w.begin.ensures (w.stops-is ∙ w.mark.ensures) (c.raise.ensures.cut is))
      | else-eq w ↦ (let is = met c.raise.result (sym c.eq.ensures ∙ w.if-eq.false) in
          raised_full c.args.draw c.args.stops.now c.if-eq.stops done
          (met_is (flow_of c.bound.new.self c.args.arc) (flow_of c.raise.new.circ c.args.arc) c.args.cap
          (λ h. ap (λ (x : Contents). flow_of x c.args.arc) (c.raise.ensures.idle h).1)
          (λ h. c.raise.ensures.met h is)
          (omega (
            arith,
            ap (λ (x : Contents). flow_of x c.args.arc) c.bound.ensures.bounded,
            kept.flow.high c.args.arc c.requires.arc,
            c.requires.shut,
          ))) w.stops-is)
    ]

pub returns-clause-cost : goal.returns-clause-cost
returns-clause-cost g c =
    omega (
      arith,
      c.raise.ensures.cost (omega (arith, c.requires.cap)),
      open_few c.bound.new.self,
      ap arcs c.bound.ensures.bounded,
    )

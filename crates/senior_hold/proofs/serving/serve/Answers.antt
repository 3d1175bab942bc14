use Rattle.std.proofs.Common.{◌≡◌, ◌∙◌, true, false, ap, sym, refl}
use Rattle.std.specs.Prelude.{min}
use Rattle.circulation.specs.Contents.{Contents, flow_of}
use Rattle.augment.specs.declared.Raised.{Raised}
use Rattle.augment.specs.contracts.Raised.{the_type}
use denote.Enum.Bare.{sameb}
use Rattle.senior_hold.proofs.Serves.{served_met, served_short, raise_met}
use Rattle.senior_hold.proofs.serving.serve.Goals as goal
use Rattle.senior_hold.proofs.serving.serve.Goals.{then-eq, else-eq}

stopped : (r : Raised) → sameb the_type r Raised.Stopped ≡ true → r ≡ Raised.Stopped
stopped Raised.Met h = cc
stopped Raised.Stopped h = refl

met : (r : Raised) → sameb the_type r Raised.Stopped ≡ false → r ≡ Raised.Met
met Raised.Met h = refl
met Raised.Stopped h = cc

pub returns-clause-served : goal.returns-clause-served
returns-clause-served g c = elim c.if-eq.branch [
  | then-eq w ↦ (let is = stopped c.raise-raised.result (sym c.eq.ensures ∙ w.if-eq.true) in
      served_short c.args.circ.now c.raise-raised.new.circ c.hold.new.self c.args.claim c.min-got.result c.args.cuts.now
      w.begin.new.self c.if-eq.cuts _
      c.raise-raised.ensures.rest c.hold.ensures.held
      (c.min-got.ensures ∙ ap (min c.args.claim.want) c.flow.ensures.amount)
      (c.raise-raised.ensures.less is)
      w.begin.ensures (w.cuts-is ∙ w.mark.ensures) (c.raise-raised.ensures.cut is))
  | else-eq w ↦ (let is = met c.raise-raised.result (sym c.eq.ensures ∙ w.if-eq.false) in
      served_met c.args.circ.now c.raise-raised.new.circ c.hold.new.self c.args.claim c.min-got.result c.args.cuts.now
      c.if-eq.cuts
      c.raise-raised.ensures.rest c.hold.ensures.held
      (c.min-got.ensures ∙ ap (min c.args.claim.want) c.flow.ensures.amount)
      (raise_met (flow_of c.args.circ.now c.args.claim.arc) (flow_of c.raise-raised.new.circ c.args.claim.arc)
      c.args.claim.want
      (λ h. ap (λ (x : Contents). flow_of x c.args.claim.arc) (c.raise-raised.ensures.idle h).1)
      (λ h. c.raise-raised.ensures.met h is)) w.cuts-is)
]

pub raise-raised-requires-clause-arc : goal.raise-raised-requires-clause-arc
raise-raised-requires-clause-arc g c = c.requires.claim.arc

pub raise-raised-requires-clause-path_out : goal.raise-raised-requires-clause-path_out
raise-raised-requires-clause-path_out g c = c.requires.path_out

pub begin-requires-clause-right : goal.begin-requires-clause-right
begin-requires-clause-right g c = c.requires.set.right

pub begin-requires-clause-free : goal.begin-requires-clause-free
begin-requires-clause-free g c = c.requires.set.free

pub returns-clause-kept : goal.returns-clause-kept
returns-clause-kept g c = c.hold.ensures.kept

pub returns-clause-cost : goal.returns-clause-cost
returns-clause-cost g c = c.raise-raised.ensures.cost c.requires.claim.limit

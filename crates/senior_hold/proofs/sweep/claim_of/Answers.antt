use Rattle.std.proofs.Common.{◌∙◌, sym, ap, arith}
use Rattle.senior_hold.specs.MonthNetwork.{right_arc, right_exit}
use Rattle.senior_hold.specs.declared.arcs.Position.{Position}
use Rattle.senior_hold.proofs.Turns.{order_of, turn_count, position_read}
use Rattle.senior_hold.proofs.sweep.claim_of.Goals as goal

pub index-requires : goal.index-requires
index-requires c = omega (arith, c.requires.turn, turn_count c.requires.givens)

pub bounds-givens-right : goal.bounds-givens-right
bounds-givens-right c =
    let o = order_of c.requires.givens in
    let is = position_read _ _ _ _ _ c.requires.givens.layout.are_positions (omega (arith, c.requires.turn, o.count))
    c.index.ensures in
    omega (
      arith,
      ap (λ (x : Position). x.right) is,
      o.below c.args.turn c.requires.turn,
      c.requires.givens.wants.count,
    )

pub returns-clause-right : goal.returns-clause-right
returns-clause-right c =
    let o = order_of c.requires.givens in
    ap (λ (x : Position). x.right) (position_read _ _ _ _ _ c.requires.givens.layout.are_positions
    (omega (arith, c.requires.turn, o.count)) c.index.ensures)

pub returns-clause-arc : goal.returns-clause-arc
returns-clause-arc c =
    let o = order_of c.requires.givens in
    let is = position_read _ _ _ _ _ c.requires.givens.layout.are_positions (omega (arith, c.requires.turn, o.count))
    c.index.ensures in
    ap (λ (x : Position). x.arc) is
    ∙ ap (right_arc c.args.givens.now.basin.now) (sym (ap (λ (x : Position). x.right) is))

pub returns-clause-exit : goal.returns-clause-exit
returns-clause-exit c =
    let o = order_of c.requires.givens in
    let is = position_read _ _ _ _ _ c.requires.givens.layout.are_positions (omega (arith, c.requires.turn, o.count))
    c.index.ensures in
    ap (λ (x : Position). x.exit) is
    ∙ ap (right_exit c.args.givens.now.basin.now) (sym (ap (λ (x : Position). x.right) is))

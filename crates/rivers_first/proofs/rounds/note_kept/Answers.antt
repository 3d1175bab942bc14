use Rattle.std.proofs.Common.{ℕ, ◌≡◌, List, ap, arith, ◌∙◌, length, slice_index, inl, inr}
use Rattle.std.specs.Prelude.{Some}
use Rattle.water_model.specs.Basin.{instream_link, link_of_kind}
use Rattle.water_model.proofs.Lists.{no_numbers}
use Rattle.rivers_first.proofs.Kept.{link_is, link_in, no_link, noting_start, noting_to, noting_on, noting_off}
use Rattle.rivers_first.proofs.rounds.note_kept.Goals as goal
use Rattle.rivers_first.proofs.rounds.note_kept.Goals.{in-Instream, in_default}

pub loop-right-init : goal.loop-right-init
loop-right-init c =
    let span = c.requires.span in
    noting_to c.args.basin.now _ _ c.fill.new.self 0 c.args.span.first (omega arith)
    (λ r low high. span.others r (omega (arith, high, span.order, span.within)) (inl high))
    (noting_start _ _ _ c.fill.new.self (c.fill.ensures.len ∙ c.requires.kept) (λ e.
    ap (λ (xs : List ℕ). slice_index xs e) (c.fill.ensures.after (λ y h. h)) ∙ no_numbers (length c.args.kept.now) e))

pub bounds-flow-link : goal.bounds-flow-link
bounds-flow-link c =
    let within = link_in c.args.basin.now c.loop-right.right c.in-Instream.link c.requires.valid
    (omega (arith, c.loop-right-test.true, c.requires.span.within))
    (link_is c.args.basin.now c.loop-right.right c.index.result.now c.index.ensures
    ∙ ap link_of_kind c.in-Instream.is) in
    omega (arith, within, c.requires.flows)

pub bounds-kept-link : goal.bounds-kept-link
bounds-kept-link c =
    let within = link_in c.args.basin.now c.loop-right.right c.in-Instream.link c.requires.valid
    (omega (arith, c.loop-right-test.true, c.requires.span.within))
    (link_is c.args.basin.now c.loop-right.right c.index.result.now c.index.ensures
    ∙ ap link_of_kind c.in-Instream.is) in
    omega (arith, within, c.loop-right.invariant.size)

pub bounds-kept-link-in-Instream : goal.bounds-kept-link-in-Instream
bounds-kept-link-in-Instream c =
    let within = link_in c.args.basin.now c.loop-right.right c.in-Instream.link c.requires.valid
    (omega (arith, c.loop-right-test.true, c.requires.span.within))
    (link_is c.args.basin.now c.loop-right.right c.index.result.now c.index.ensures
    ∙ ap link_of_kind c.in-Instream.is) in
    omega (arith, within, c.loop-right.invariant.size)

pub loop-right-preserved : goal.loop-right-preserved
loop-right-preserved c = elim c.match-index.branch [
  | in-Instream w ↦
      (let b = c.args.basin.now in
      let on : instream_link b c.loop-right.right ≡ Some w.in-Instream.link =
      link_is b c.loop-right.right c.index.result.now c.index.ensures ∙ ap link_of_kind w.in-Instream.is in
      let within = link_in b c.loop-right.right w.in-Instream.link c.requires.valid
      (omega (arith, c.loop-right-test.true, c.requires.span.within)) on in
      rw (w.kept-is, w.max.ensures, w.min-has.ensures)
      (noting_on b _ _ c.loop-right.kept c.loop-right.right w.in-Instream.link on within c.loop-right.invariant))
  | in_default w ↦
      rw w.kept-is (noting_off c.args.basin.now _ _ c.loop-right.kept c.loop-right.right
      (link_is c.args.basin.now c.loop-right.right c.index.result.now c.index.ensures
      ∙ no_link c.index.result.now.kind w.in_default.not-Instream) c.loop-right.invariant)
]

pub returns-clause-kept : goal.returns-clause-kept
returns-clause-kept c =
    let b = c.args.basin.now in
    let span = c.requires.span in
    let all = noting_to b _ _ c.loop-right.kept c.loop-right.right (length b.rights)
    (omega (arith, c.loop-right.auto.right-end span.order, span.within))
    (λ r low high. span.others r high (inr (omega (arith, low, c.loop-right-test.false)))) c.loop-right.invariant in
    record { each = all.each }

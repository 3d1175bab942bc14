use Rattle.std.proofs.Common.{◌≡◌, ◌∙◌, length, arith, ap, sym}
use Rattle.std.proofs.lemmas.List.{with_items_is}
use Rattle.circulation.specs.Contents.{Contents}
use Rattle.senior_hold.specs.MonthNetwork.{arc_count}
use Rattle.senior_hold.specs.Spilled.{spilled}
use Rattle.senior_hold.proofs.Begins.{begins, begun, bounds_over, amounts_over}
use Rattle.senior_hold.proofs.ShutStarts.{shut_starts}
use Rattle.senior_hold.proofs.SpilledStarts.{held_arcs, last_all, length-on_last, supplies_bounded, spilled_starts}
use Rattle.senior_hold.proofs.SpilledStarts.{spilled_begun}
use Rattle.senior_hold.proofs.sweep.begin.Goals as goal

pub lend_month-requires-clause-bounded : goal.lend_month-requires-clause-bounded
lend_month-requires-clause-bounded c = supplies_bounded (held_arcs c.requires.arcs) c.requires.givens.supplies

pub lend_month-requires-clause-start : goal.lend_month-requires-clause-start
lend_month-requires-clause-start c =
    let h = c.requires.arcs in
    let arcs = held_arcs h in (
      h.contents,
      (
        h.fixed,
        begins h.contents c.requires.givens.valid c.requires.givens.month h.ends c.requires.givens.supplies
            c.requires.givens.wants
            (ap length c.deref.ensures.value ∙ c.write_uppers.ensures.room.uppers)
            (length-on_last _ _ (supplies_bounded arcs c.requires.givens.supplies) ∙ arcs)
            (bounds_over c.deref.ensures.value c.write_uppers.ensures.bounds)
            (spilled_starts c.in-Tree.is arcs c.requires.givens.supplies),
      ),
    )

pub returns-in-Tree-clause-begun : goal.returns-in-Tree-clause-begun
returns-in-Tree-clause-begun c =
    let h = c.requires.arcs in
    begun h.contents h.ends (bounds_over c.deref.ensures.value c.write_uppers.ensures.bounds)
    (spilled_starts c.in-Tree.is (held_arcs h) c.requires.givens.supplies) (c.lend_month.ensures h.contents h.fixed)

pub returns-in-Tree-clause-start : goal.returns-in-Tree-clause-start
returns-in-Tree-clause-start c = λ _.
    let h = c.requires.arcs in
    spilled_begun (held_arcs h) c.requires.givens.supplies
    (ap (λ (x : Contents). x.flow) (c.lend_month.ensures h.contents h.fixed))

pub lend_month-requires-in-Searches-clause-start : goal.lend_month-requires-in-Searches-clause-start
lend_month-requires-in-Searches-clause-start c =
    let h = c.requires.arcs in
    let room = c.write_uppers.new.room in
    let start = c.deref-in-Searches-2.result.now in
    let size : length c.lay.new.into ≡ length room.start.items = c.lay.auto.into
    ∙ ap length c.deref_mut.ensures.value in
    let is : start ≡ c.lay.new.into = c.deref-in-Searches-2.ensures.value
    ∙ with_items_is room.start c.lay.new.into (omega (arith, size, room.start.ok.0)) in
    let long : length start ≡ arc_count (spilled c.args.givens.now.basin.now) = ap length is
    ∙ (size ∙ c.write_uppers.ensures.room.starts) in
    let all = last_all (long ∙ sym (held_arcs h)) in (
      h.contents,
      (
        h.fixed,
        begins h.contents c.requires.givens.valid c.requires.givens.month h.ends c.requires.givens.supplies
            c.requires.givens.wants
            (ap length c.deref-in-Searches.ensures.value ∙ c.write_uppers.ensures.room.uppers) (ap length all ∙ long)
            (bounds_over c.deref-in-Searches.ensures.value c.write_uppers.ensures.bounds)
            (shut_starts c.in-Searches.is c.requires.givens.valid c.requires.givens.supplies
            (c.requires.plan c.in-Searches.is)
            (amounts_over (all ∙ is) c.lay.ensures)),
      ),
    )

pub returns-in-Searches-clause-begun : goal.returns-in-Searches-clause-begun
returns-in-Searches-clause-begun c =
    let h = c.requires.arcs in
    let room = c.write_uppers.new.room in
    let size : length c.lay.new.into ≡ length room.start.items = c.lay.auto.into
    ∙ ap length c.deref_mut.ensures.value in
    let is : c.deref-in-Searches-2.result.now ≡ c.lay.new.into = c.deref-in-Searches-2.ensures.value
    ∙ with_items_is room.start c.lay.new.into (omega (arith, size, room.start.ok.0)) in
    let all = last_all (ap length is ∙ (size ∙ c.write_uppers.ensures.room.starts) ∙ sym (held_arcs h)) in
    begun h.contents h.ends (bounds_over c.deref-in-Searches.ensures.value c.write_uppers.ensures.bounds)
    (shut_starts c.in-Searches.is c.requires.givens.valid c.requires.givens.supplies (c.requires.plan c.in-Searches.is)
    (amounts_over (all ∙ is) c.lay.ensures)) (c.lend_month-in-Searches.ensures h.contents h.fixed)

use Rattle.std.proofs.Common.{◌≡◌, ◌+◌, ◌≤◌, length, refl, arith, ap, sym, subst, ◌∙◌}
use Rattle.word_region.specs.Words.{Words, words_at}
use Rattle.word_region.specs.declared.Place.{Place}
use Rattle.circulation.specs.declared.Circulation.{Circulation}
use Rattle.circulation.specs.Contents.{empty_contents}
use Rattle.circulation.specs.Places.{tails, heads, HasWords}
use Rattle.circulation.proofs.Opened.{laid-words}
use Rattle.word_region.proofs.Words.{length-zeroed}
use Rattle.circulation.proofs.Lends.{written_place, written_other, zeroed_other}
use Rattle.circulation.proofs.Circulation.open.Goals as goal

pub returns-clause-held : goal.returns-clause-held
returns-clause-held c =
    let arcs = length c.args.ends.now in
    let place = c.in_ok-place.place in
    let at = c.in_ok-place.ensures.place in
    let from = ap (λ (p : Place). p.from) at in
    let len = ap (λ (p : Place). p.len) at ∙ c.words.ensures in
    let used = ap (λ (r : Words). r.used) c.in_ok-place.ensures.taken in
    let size = ap (λ (r : Words). length r.words) c.in_ok-place.ensures.taken
    ∙ length-zeroed c.args.region.now.words c.args.region.now.used c.words.result c.in_ok-place.ensures.fitted in
    let circ : Circulation = record { place = place; nodes = c.args.nodes; arcs = arcs } in
    let has = laid-words circ c.lay.new.words refl c.ranges.nodes.fits c.requires.bounded c.requires.ends
    c.lay.ensures.fixed c.lay.ensures.moving in
    let fits : place.from + place.len ≤ length c.take.new.self.words = omega
    (arith, from, ap (λ (p : Place). p.len) at, size, c.in_ok-place.ensures.fitted) in (
      has.0,
      record {
        used = omega (arith, from, ap (λ (p : Place). p.len) at, used);
        size = len;
        words = subst (HasWords circ
            (empty_contents c.args.nodes (tails c.args.ends.now) (heads c.args.ends.now) has.0))
            (sym (written_place c.take.new.self.words c.lay.new.words place (c.lay.ensures.count ∙ sym len) fits))
            has.1;
      },
    )

pub returns-clause-others : goal.returns-clause-others
returns-clause-others c = λ other before.
    let place = c.in_ok-place.place in
    let at = c.in_ok-place.ensures.place in
    let from = ap (λ (p : Place). p.from) at in
    let len = ap (λ (p : Place). p.len) at in
    let count : length c.lay.new.words ≡ c.words.result = c.lay.ensures.count ∙ sym c.words.ensures in
    let size = ap (λ (r : Words). length r.words) c.in_ok-place.ensures.taken
    ∙ length-zeroed c.args.region.now.words c.args.region.now.used c.words.result c.in_ok-place.ensures.fitted in
    written_other c.take.new.self.words c.lay.new.words place.from other
    (omega (arith, from, count, size, c.in_ok-place.ensures.fitted)) (omega (arith, from, before))
    ∙ ap (λ (r : Words). words_at r.words other) c.in_ok-place.ensures.taken
    ∙ zeroed_other c.args.region.now.words c.args.region.now.used c.words.result other c.in_ok-place.ensures.fitted
    before

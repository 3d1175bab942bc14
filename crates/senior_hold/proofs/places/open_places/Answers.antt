use Rattle.std.proofs.Common.{ℕ, ◌≡◌, ◌+◌, ◌≤◌, length, arith, ap, sym, subst, ◌∙◌}
use Rattle.word_region.specs.Words.{Words, zeroed}
use Rattle.word_region.specs.declared.Place.{Place}
use Rattle.circulation.specs.declared.Circulation.{Circulation}
use Rattle.residual_tree.specs.TreeWords.{tree_words}
use Rattle.senior_hold.specs.Places.{HasPlaces}
use Rattle.senior_hold.proofs.Placing.{bounded_arcs, ends_fit, places_opened}
use Rattle.senior_hold.proofs.places.open_places.Goals as goal

pub open-requires-clause-bounded : goal.open-requires-clause-bounded
open-requires-clause-bounded c = omega (arith, bounded_arcs c.args.basin.now c.requires.valid, c.requires.ends.count)

pub open-requires-clause-ends : goal.open-requires-clause-ends
open-requires-clause-ends c =
    ends_fit c.args.basin.now c.args.ends.now _ c.requires.valid c.len-nodes.ensures c.requires.ends

pub returns-clause-places : goal.returns-clause-places
returns-clause-places c =
    let nodes = c.len-nodes.result in
    let before = c.open.new.region in
    let held = c.in-Ok.ensures.held in
    let count = c.tree_words.ensures in
    let fits : before.used + tree_words nodes ≤ length before.words = omega
    (arith, c.in-Ok-take.ensures.fitted, count) in
    let from = ap (λ (x : Circulation). x.place.from) c.in-Ok.ensures.numbers in
    let len = ap (λ (x : Circulation). x.place.len) c.in-Ok.ensures.numbers in
    let next : before.used ≡ c.in-Ok.circ.place.from + c.in-Ok.circ.place.len = omega
    (arith, from, len, c.in-Ok.ensures.used) in
    let at : c.in-Ok-take.tree ≡ record { from = before.used; len = tree_words nodes } = c.in-Ok-take.ensures.place
    ∙ ap place_at count in
    let taken : c.take.new.self ≡ record {
      words = zeroed before.words before.used (tree_words nodes);
      used = before.used + tree_words nodes;
    } = c.in-Ok-take.ensures.taken ∙ ap words_with count in
    subst (λ (r : Words). HasPlaces c.args.basin.now r (record { circ = c.in-Ok.circ; tree = c.in-Ok-take.tree }))
    (sym taken)
    (places_opened c.args.basin.now c.args.ends.now before c.in-Ok.circ c.in-Ok-take.tree nodes held.0 c.requires.ends
    c.len-nodes.ensures held.1 fits at next)
  where
    place_at : ℕ → Place
    place_at n = record { from = c.open.new.region.used; len = n }

    words_with : ℕ → Words
    words_with n = record {
      words = zeroed c.open.new.region.words c.open.new.region.used n;
      used = c.open.new.region.used + n;
    }

-- The places of the circulation and the tree, and their words while they are lent.
use Rattle.std.proofs.Common.{ℕ, ◌≡◌, ◌≢◌, ◌+◌, ◌-◌, ◌^◌, ◌<◌, ◌≤◌, List, ◌++◌, length, take, drop, refl, arith, ap}
use Rattle.std.proofs.Common.{sym, subst, ◌∙◌}
use Rattle.std.specs.Prelude.{All}
use Rattle.std.proofs.lemmas.List.{take_at, take_all, take-take, length-append}
use Rattle.word_region.specs.Words.{Words, words_at, with_words, zeroed}
use Rattle.word_region.specs.declared.Place.{Place}
use Rattle.word_region.proofs.Words.{length-with_words, length-zeroed}
use Rattle.finite_sums.proofs.Totals.{count_at_most}
use Rattle.water_model.specs.declared.types.Basin.{Basin}
use Rattle.water_model.specs.Valid.{IsValidBasin}
use Rattle.water_model.proofs.Valid.{ends}
use Rattle.circulation.specs.declared.Circulation.{Circulation}
use Rattle.circulation.specs.declared.Ends.{Ends}
use Rattle.circulation.specs.Rows.{Rows}
use Rattle.circulation.specs.Contents.{empty_contents}
use Rattle.circulation.specs.Places.{tails, heads, fixed_count, AreFixedOf, Holds}
use Rattle.circulation.proofs.Lends.{written_place}
use Rattle.circulation.proofs.Holding.{held_when_taken, holds_arcs}
use Rattle.residual_tree.specs.TreeWords.{tree_words}
use Rattle.senior_hold.specs.MonthNetwork.{arc_count, takes}
use Rattle.senior_hold.specs.Arcs.{AreEnds}
use Rattle.senior_hold.specs.Spilled.{spilled}
use Rattle.senior_hold.specs.Places.{HasPlaces}
use Rattle.senior_hold.specs.declared.places.Places.{Places}
use Rattle.senior_hold.proofs.Laid.{laid_ends, laid_fits, links_apart}
use Rattle.senior_hold.proofs.MonthArcs.{right_kind}
use Rattle.senior_hold.proofs.SpilledArcs.{spilled_arcs, spilled_count, spilled_kinds}

-- a place and what lies after it
abbrev pub both_of : Places → Place
both_of p = record { from = p.circ.place.from; len = p.circ.place.len + p.tree.len }

-- the prefix of a place
place_prefix : (ws : List ℕ) (p : Place) (more : ℕ) →
    take p.len (words_at ws record { from = p.from; len = p.len + more }) ≡ words_at ws p
place_prefix ws p more =
    let short : p.from + p.len - p.from ≡ p.len = omega arith in
    let long : p.from + (p.len + more) - p.from ≡ p.len + more = omega arith in
    ap (λ (n : ℕ). take p.len (take n (drop p.from ws))) long
    ∙ take-take p.len (p.len + more) (drop p.from ws) (omega arith)
    ∙ ap (λ (n : ℕ). take n (drop p.from ws)) (sym short)

-- the places of a solver that is opened
pub places_opened : (b : Basin) (es : List Ends) (r : Words) (circ : Circulation) (tree : Place) (nodes : ℕ)
    (rows : Rows) → AreEnds (spilled b) es → nodes ≡ length b.nodes →
    Holds r circ (empty_contents nodes (tails es) (heads es) rows) → r.used + tree_words nodes ≤ length r.words →
    tree ≡ record { from = r.used; len = tree_words nodes } → r.used ≡ circ.place.from + circ.place.len →
    HasPlaces b (record { words = zeroed r.words r.used (tree_words nodes); used = r.used + tree_words nodes })
    (record { circ = circ; tree = tree })
places_opened b es r circ tree nodes rows laid count held fits at next =
    let from = ap (λ (p : Place). p.from) at in
    let len = ap (λ (p : Place). p.len) at in
    record {
      contents = empty_contents nodes (tails es) (heads es) rows;
      held = holds_arcs _ circ (empty_contents nodes (tails es) (heads es) rows)
          (held_when_taken r (tree_words nodes) circ (empty_contents nodes (tails es) (heads es) rows) fits held);
      ends = laid_ends (spilled b) es (empty_contents nodes (tails es) (heads es) rows) laid
          (count ∙ sym (spilled_count b)) refl refl;
      next = from ∙ next;
      size = len ∙ ap tree_words count;
      used = omega (arith, from, len);
      fits = omega (arith, fits, length-zeroed r.words r.used (tree_words nodes) fits);
    }

-- of the words of both places, those that never change are those of the same arcs
pub fixed_lent : {b : Basin} {r : Words} {p : Places} {words held fixed : List ℕ} {mid : ℕ} (h : HasPlaces b r p) →
    words ≡ words_at r.words (both_of p) → held ≡ take p.circ.place.len words → fixed ≡ take mid held →
    mid ≡ fixed_count p.circ.nodes p.circ.arcs → AreFixedOf p.circ h.contents fixed
fixed_lent {b} {r} {p} {words} {held} {fixed} {mid} h is front first at =
    subst (λ (xs : List ℕ). AreFixedOf p.circ h.contents xs) (sym (first ∙ ap (λ (n : ℕ). take n held) at
    ∙ ap (take (fixed_count p.circ.nodes p.circ.arcs)) (front ∙ ap (take p.circ.place.len) is
    ∙ place_prefix r.words p.circ.place p.tree.len))) h.held.fixed

-- the places hold the same when the words that change were written
pub places_again : {b : Basin} {r : Words} {p : Places} {fixed : List ℕ} (new grown : List ℕ) (h : HasPlaces b r p) →
    AreFixedOf p.circ h.contents fixed → length fixed ≡ fixed_count p.circ.nodes p.circ.arcs →
    length fixed + length new ≡ p.circ.place.len → length grown ≡ p.tree.len →
    HasPlaces b (record {
      words = take (length r.words) (with_words r.words (both_of p).from ((fixed ++ new) ++ grown));
      used = r.used;
    }) p
places_again {b} {r} {p} {fixed} new grown h kept prefix all size =
    let n = fixed_count p.circ.nodes p.circ.arcs in
    let held = fixed ++ new in
    let long : length held ≡ p.circ.place.len = length-append fixed new ∙ all in
    let whole : length (held ++ grown) ≡ (both_of p).len = omega (arith, length-append held grown, long, size) in
    let fits : (both_of p).from + (both_of p).len ≤ length r.words = omega (arith, h.next, h.used, h.fits) in
    let words = take (length r.words) (with_words r.words (both_of p).from (held ++ grown)) in
    let count : length words ≡ length r.words = ap length (take_all (length r.words)
    (with_words r.words (both_of p).from (held ++ grown))
    (omega (arith, length-with_words r.words (both_of p).from (held ++ grown) (omega (arith, whole, fits)))))
    ∙ length-with_words r.words (both_of p).from (held ++ grown) (omega (arith, whole, fits)) in
    let place : words_at words p.circ.place ≡ held = sym (place_prefix words p.circ.place p.tree.len)
    ∙ ap (take p.circ.place.len) (written_place r.words (held ++ grown) (both_of p) whole fits)
    ∙ take_at held grown p.circ.place.len long in
    let first : take n (words_at words p.circ.place) ≡ fixed = ap (take n) place ∙ take_at fixed new n prefix in
    record {
      contents = h.contents;
      held = record {
        used = h.held.used;
        size = h.held.size;
        fixed = subst (λ (xs : List ℕ). AreFixedOf p.circ h.contents xs) (sym first) kept;
      };
      ends = h.ends;
      next = h.next;
      size = h.size;
      used = h.used;
      fits = omega (arith, h.fits, count);
    }

-- the arcs of a basin are few
pub bounded_arcs : (b : Basin) → IsValidBasin b → arc_count (spilled b) < 2 ^ 32
bounded_arcs b valid =
    omega (
      arith,
      spilled_arcs b,
      count_at_most (length b.rights) (λ r. takes b r),
      valid.bounded.nodes,
      valid.bounded.links,
      valid.bounded.rights,
    )

-- and their ends are nodes that differ
pub ends_fit : (b : Basin) (es : List Ends) (nodes : ℕ) → IsValidBasin b → nodes ≡ length b.nodes →
    AreEnds (spilled b) es → All (λ e. (e.from ≤ nodes) × (e.to ≤ nodes) × (e.from ≢ e.to)) es
ends_fit b es nodes valid is laid =
    let count = spilled_count b in
    laid_fits (spilled b) es nodes (is ∙ sym count)
    (λ e l. let at = ends b valid e l in let t = at.0 in let h = at.1 in (omega (arith, count), omega (arith, count)))
    (links_apart b valid) (spilled_kinds b (right_kind b valid)) laid

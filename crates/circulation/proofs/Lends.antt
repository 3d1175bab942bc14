-- The parts of the words of a circulation.
use Rattle.std.proofs.Common.{ℕ, ◌≡◌, ◌+◌, ◌*◌, ◌≤◌, List, ◌++◌, length, take, drop, map, replicate, arith, ap, sym}
use Rattle.std.proofs.Common.{◌∙◌, inl, refl}
use Rattle.std.proofs.lemmas.List.{take_at, take_all, drop_at, length-append, length-map, length-replicate}
use Rattle.word_region.specs.Words.{words_at, with_words, zeroed}
use Rattle.word_region.specs.declared.Place.{Place}
use Rattle.word_region.proofs.Words.{length-with_words, words_at-with_words, words_at-with_words_other}
use Rattle.circulation.specs.declared.Circulation.{Circulation}
use Rattle.circulation.specs.Contents.{Contents}
use Rattle.circulation.specs.Places.{tail_of, head_of, AreWordsOf}
use Rattle.circulation.specs.Rooms.{flows_over, uppers_over, AreRooms}
use Rattle.circulation.proofs.RoomLists.{flows_are, uppers_are}

-- contents by their lists
abbrev pub contents_of : ℕ → (a b s l u f x p q r : List ℕ) → Contents
contents_of n a b s l u f x p q r = record {
  nodes = n;
  from = a;
  to = b;
  supply = s;
  lower = l;
  upper = u;
  flow = f;
  scratch = x;
  rows = record { first = p; step = q; end = r };
}

-- contents are the same where all their lists are
pub lists_same : {n n' : ℕ} {a a' b b' s s' l l' u u' f f' x x' p p' q q' r r' : List ℕ} → n ≡ n' → a ≡ a' → b ≡ b' →
    s ≡ s' → l ≡ l' → u ≡ u' → f ≡ f' → x ≡ x' → p ≡ p' → q ≡ q' → r ≡ r' →
    contents_of n a b s l u f x p q r ≡ contents_of n' a' b' s' l' u' f' x' p' q' r'
lists_same e₁ e₂ e₃ e₄ e₅ e₆ e₇ e₈ e₉ e₁₀ e₁₁ = rw (e₁, e₂, e₃, e₄, e₅, e₆, e₇, e₈, e₉, e₁₀, e₁₁) refl

-- the prefix and the rest
cut : {xs : List ℕ} (ps qs : List ℕ) {prefix back : List ℕ} (n : ℕ) → xs ≡ ps ++ qs → length ps ≡ n →
    prefix ≡ take n xs → back ≡ drop n xs → (prefix ≡ ps) × (back ≡ qs)
cut ps qs n is count f b = (f ∙ ap (take n) is ∙ take_at ps qs n count, b ∙ ap (drop n) is ∙ drop_at ps qs n count)

-- there are words enough for all parts
pub lent_lengths : {circ : Circulation} {c : Contents} {kept moved : List ℕ} → AreWordsOf circ c kept moved →
    (5 * circ.arcs ≤ length kept) × (3 * circ.arcs + (circ.nodes + (4 * circ.nodes + 8)) ≤ length moved)
lent_lengths {circ} {c} w =
    let k = w.fixed in
    let shape = k.circulation.shape in
    let from = ap length k.from ∙ (length-map k.pairs tail_of ∙ k.arcs) in (
      omega (
        arith,
        ap length k.fixed,
        length-append k.pairs (c.rows.step ++ (c.rows.end ++ c.rows.first)),
        length-append c.rows.step (c.rows.end ++ c.rows.first),
        length-append c.rows.end c.rows.first,
        k.arcs,
        k.steps,
        k.circulation.rows.ends,
      ),
      omega (
        arith,
        ap length w.moving,
        length-append w.rooms (c.lower ++ (c.supply ++ (c.scratch ++ w.unused))),
        length-append c.lower (c.supply ++ (c.scratch ++ w.unused)),
        length-append c.supply (c.scratch ++ w.unused),
        length-append c.scratch w.unused,
        w.of_steps.size,
        shape.lower,
        shape.supply,
        shape.scratch,
        from,
        k.nodes,
      ),
    )

-- the parts of the words are the lists of the contents
pub lent_is : {circ : Circulation} {c : Contents}
    {kept moved ends k₁ step k₂ end first rooms m₁ lower m₂ supply m₃ scratch : List ℕ} →
    AreWordsOf circ c kept moved → ends ≡ take circ.arcs kept → k₁ ≡ drop circ.arcs kept →
    step ≡ take (2 * circ.arcs) k₁ → k₂ ≡ drop (2 * circ.arcs) k₁ →
    end ≡ take (2 * circ.arcs) k₂ → first ≡ drop (2 * circ.arcs) k₂ →
    rooms ≡ take (2 * circ.arcs) moved → m₁ ≡ drop (2 * circ.arcs) moved →
    lower ≡ take circ.arcs m₁ → m₂ ≡ drop circ.arcs m₁ → supply ≡ take circ.nodes m₂ → m₃ ≡ drop circ.nodes m₂ →
    scratch ≡ take (4 * circ.nodes + 8) m₃ →
    (contents_of circ.nodes (map tail_of ends) (map head_of ends) supply lower (uppers_over lower rooms)
    (flows_over lower rooms) scratch first step end ≡ c) × (length rooms ≡ 2 * length lower)
lent_is {circ} {c} {ends} {rooms} {lower} {scratch} w e₁ e₂ e₃ e₄ e₅ e₆ e₇ e₈ e₉ e₁₀ e₁₁ e₁₂ e₁₃ =
    let k = w.fixed in
    let shape = k.circulation.shape in
    let from = ap length k.from ∙ (length-map k.pairs tail_of ∙ k.arcs) in
    let at_ends = cut k.pairs _ circ.arcs k.fixed k.arcs e₁ e₂ in
    let at_step = cut c.rows.step _ (2 * circ.arcs) at_ends.1 k.steps e₃ e₄ in
    let at_end = cut c.rows.end c.rows.first (2 * circ.arcs) at_step.1 (k.circulation.rows.ends ∙ k.steps) e₅ e₆ in
    let at_rooms = cut w.rooms _ (2 * circ.arcs) w.moving
    (w.of_steps.size ∙ ap (λ (n : ℕ). 2 * n) (shape.lower ∙ from)) e₇ e₈ in
    let at_lower = cut c.lower _ circ.arcs at_rooms.1 (shape.lower ∙ from) e₉ e₁₀ in
    let at_supply = cut c.supply _ circ.nodes at_lower.1 (shape.supply ∙ k.nodes) e₁₁ e₁₂ in
    let at_scratch : scratch ≡ c.scratch = e₁₃ ∙ ap (take (4 * circ.nodes + 8)) at_supply.1
    ∙ take_at c.scratch w.unused (4 * circ.nodes + 8) (shape.scratch ∙ ap (λ (n : ℕ). 4 * n + 8) k.nodes) in
    let tails : map tail_of ends ≡ c.from = ap (map tail_of) at_ends.0 ∙ sym k.from in
    let heads : map head_of ends ≡ c.to = ap (map head_of) at_ends.0 ∙ sym k.to in
    let nodes = k.nodes in
    let of_steps : AreRooms lower c.upper c.flow rooms =
    rw (at_lower.0, at_rooms.0) w.of_steps in (
      lists_same (sym nodes) tails heads at_supply.0 at_lower.0
          (uppers_are of_steps) (flows_are of_steps) at_scratch at_end.1 at_step.0 at_end.0,
      of_steps.size,
    )

-- words that were lent hold what was left in them
pub written_place : (words new : List ℕ) (place : Place) → length new ≡ place.len →
    place.from + place.len ≤ length words → words_at (take (length words) (with_words words place.from new)) place ≡ new
written_place words new place same fits =
    ap (λ (ws : List ℕ). words_at ws place) (take_all (length words) (with_words words place.from new)
    (omega (arith, length-with_words words place.from new (omega (arith, same)))))
    ∙ words_at-with_words words new place (omega arith) same

-- and all places before them stay
pub written_other : (words new : List ℕ) (from : ℕ) (other : Place) → from + length new ≤ length words →
    other.from + other.len ≤ from →
    words_at (take (length words) (with_words words from new)) other ≡ words_at words other
written_other words new from other fits before =
    ap (λ (ws : List ℕ). words_at ws other)
    (take_all (length words) (with_words words from new) (omega (arith, length-with_words words from new fits)))
    ∙ words_at-with_words_other words from new other fits (inl before)

pub zeroed_other : (words : List ℕ) (from len : ℕ) (other : Place) → from + len ≤ length words →
    other.from + other.len ≤ from → words_at (zeroed words from len) other ≡ words_at words other
zeroed_other words from len other fits before =
    words_at-with_words_other words from (replicate len 0) other (omega (arith, length-replicate {A = ℕ} len 0))
    (inl before)

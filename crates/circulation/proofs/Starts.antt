-- The words of a circulation at the start of a month.
use Rattle.std.proofs.Common.{ℕ, ◌≡◌, ◌+◌, ◌-◌, ◌*◌, List, ◌++◌, length, take, drop, map, replicate, arith, ap}
use Rattle.std.proofs.Common.{refl, sym, subst, ◌∙◌, take-append-drop, length-drop, length-take-le}
use Rattle.std.proofs.lemmas.List.{take_at, drop_at, drop-drop, length-map}
use Rattle.circulation.specs.declared.Circulation.{Circulation}
use Rattle.circulation.specs.Contents.{Contents, IsStart, month_contents}
use Rattle.circulation.specs.Places.{tail_of, head_of, word_count, fixed_count, AreFixedOf, AreWordsOf}
use Rattle.circulation.specs.Rooms.{AreRooms}
use Rattle.circulation.proofs.Kept.{scratch-kept, month-kept}
use Rattle.circulation.proofs.Lends.{contents_of, lists_same}

-- the words after the rooms, the lower bounds and the supplies
pub words_after : (arcs nodes : ℕ) (words : List ℕ) {after last : List ℕ} → after ≡ drop (2 * arcs) words →
    last ≡ drop arcs after → drop nodes last ≡ drop (3 * arcs + nodes) words
words_after arcs nodes words is last_is =
    ap (drop nodes) (last_is ∙ ap (drop arcs) is)
    ∙ ap (drop nodes) (drop-drop arcs (2 * arcs) words) ∙ drop-drop nodes (2 * arcs + arcs) words
    ∙ ap (λ (n : ℕ). drop n words) (omega arith)

-- the words of a month that starts
pub month-words : {circ : Circulation} {c : Contents} {kept : List ℕ}
    (old : List ℕ) {new rooms supply upper start : List ℕ} →
    AreFixedOf circ c kept → length old ≡ word_count circ.nodes circ.arcs - fixed_count circ.nodes circ.arcs →
    IsStart c supply upper start →
    AreRooms (replicate circ.arcs 0) upper start rooms →
    new ≡ rooms ++ (replicate circ.arcs 0 ++ (supply ++ drop (3 * circ.arcs + length supply) old)) →
    (scratch : List ℕ) × AreWordsOf circ (record (month_contents c supply upper start) { scratch = scratch }) kept new
month-words {circ} {c} old {rooms = rooms} {supply} {upper} {start} w count s of_steps is =
    let arcs : length c.from ≡ circ.arcs = ap length w.from ∙ (length-map w.pairs tail_of ∙ w.arcs) in
    let rest = drop (3 * circ.arcs + length supply) old in
    let scratch = take (4 * c.nodes + 8) rest in
    let long : length scratch ≡ 4 * c.nodes + 8 = length-take-le (4 * c.nodes + 8) rest
    (omega (arith, length-drop (3 * circ.arcs + length supply) old, count, s.supplies, w.nodes)) in (
      scratch,
      record {
        fixed = record {
          pairs = w.pairs;
          nodes = w.nodes;
          arcs = w.arcs;
          from = w.from;
          to = w.to;
          steps = w.steps;
          small = w.small;
          fixed = w.fixed;
          circulation = scratch-kept scratch long (month-kept w.circulation s);
        };
        rooms = rooms;
        unused = drop (4 * c.nodes + 8) rest;
        of_steps = subst (λ (n : ℕ). AreRooms (replicate n 0) upper start rooms) (sym arcs) of_steps;
        moving = is ∙ ap (λ (n : ℕ). rooms ++ (replicate n 0 ++ (supply ++ rest))) (sym arcs)
            ∙ ap (λ (xs : List ℕ). rooms ++ (replicate (length c.from) 0 ++ (supply ++ xs)))
            (sym (take-append-drop (4 * c.nodes + 8) rest));
      },
    )

-- are known from the words
frame_holds : {circ : Circulation} {c : Contents} {kept : List ℕ} (s l u f x : List ℕ) → AreFixedOf circ c kept →
    let after = drop circ.arcs kept in let last = drop (2 * circ.arcs) after in
    contents_of c.nodes c.from c.to s l u f x c.rows.first c.rows.step c.rows.end
    ≡ contents_of circ.nodes (map tail_of (take circ.arcs kept)) (map head_of (take circ.arcs kept)) s l u f x
    (drop (2 * circ.arcs) last) (take (2 * circ.arcs) after) (take (2 * circ.arcs) last)
frame_holds {circ} {c} {kept} s l u f x w =
    let n = circ.arcs in
    let pairs : take n kept ≡ w.pairs = ap (take n) w.fixed ∙ take_at w.pairs _ n w.arcs in
    let after : drop n kept ≡ c.rows.step ++ (c.rows.end ++ c.rows.first) = ap (drop n) w.fixed
    ∙ drop_at w.pairs _ n w.arcs in
    let step : take (2 * n) (drop n kept) ≡ c.rows.step = ap (take (2 * n)) after
    ∙ take_at c.rows.step _ (2 * n) w.steps in
    let last : drop (2 * n) (drop n kept) ≡ c.rows.end ++ c.rows.first = ap (drop (2 * n)) after
    ∙ drop_at c.rows.step _ (2 * n) w.steps in
    let ends : length c.rows.end ≡ 2 * n = w.circulation.rows.ends ∙ w.steps in
    let end : take (2 * n) (drop (2 * n) (drop n kept)) ≡ c.rows.end = ap (take (2 * n)) last
    ∙ take_at c.rows.end c.rows.first (2 * n) ends in
    let first : drop (2 * n) (drop (2 * n) (drop n kept)) ≡ c.rows.first = ap (drop (2 * n)) last
    ∙ drop_at c.rows.end c.rows.first (2 * n) ends in
    let from : c.from ≡ map tail_of (take n kept) = w.from ∙ ap (map tail_of) (sym pairs) in
    let to : c.to ≡ map head_of (take n kept) = w.to ∙ ap (map head_of) (sym pairs) in
    lists_same w.nodes from to refl refl refl refl refl (sym first) (sym step) (sym end)

-- and so are the same in all contents whose words these may be
pub frame_same : {circ : Circulation} {c d : Contents} {kept : List ℕ} (s l u f x : List ℕ) → AreFixedOf circ c kept →
    AreFixedOf circ d kept → contents_of c.nodes c.from c.to s l u f x c.rows.first c.rows.step c.rows.end
    ≡ contents_of d.nodes d.from d.to s l u f x d.rows.first d.rows.step d.rows.end
frame_same s l u f x w v = frame_holds s l u f x w ∙ sym (frame_holds s l u f x v)

-- a month starts with the same contents, whichever contents its words were of
pub month_same : {circ : Circulation} {c d m : Contents} {kept : List ℕ} (supply upper start scratch : List ℕ) →
    AreFixedOf circ c kept → AreFixedOf circ d kept →
    m ≡ record (month_contents c supply upper start) { scratch = scratch } →
    m ≡ record (month_contents d supply upper start) { scratch = m.scratch }
month_same {c} {d} supply upper start scratch w v is =
    let count : length c.from ≡ length d.from = ap (λ (e : Contents). length e.from)
    (frame_same supply supply upper start scratch w v) in
    is ∙ frame_same supply (replicate (length c.from) 0) upper start scratch w v
    ∙ ap (λ (n : ℕ). record (month_contents d supply upper start) { lower = replicate n 0; scratch = scratch }) count
    ∙ ap (λ (x : List ℕ). record (month_contents d supply upper start) { scratch = x })
    (sym (ap (λ (e : Contents). e.scratch) is))

-- the contents have as many arcs as the words say
pub frame_arcs : (circ : Circulation) (c : Contents) (kept : List ℕ) → AreFixedOf circ c kept →
    length c.from ≡ circ.arcs
frame_arcs circ c kept w = ap length w.from ∙ (length-map w.pairs tail_of ∙ w.arcs)

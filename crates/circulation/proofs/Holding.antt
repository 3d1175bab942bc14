-- A region that holds a circulation keeps it when other words are taken or written.
use Rattle.std.proofs.Common.{ℕ, ◌≡◌, ◌+◌, ◌≤◌, length, arith, sym, subst}
use Rattle.word_region.specs.Words.{Words, words_at, zeroed}
use Rattle.circulation.specs.declared.Circulation.{Circulation}
use Rattle.circulation.specs.Contents.{Contents}
use Rattle.circulation.specs.Places.{HasWords, Holds, HoldsArcs}
use Rattle.circulation.proofs.Lends.{zeroed_other}

-- what it holds depends on the words of its place alone
pub held_as : {r : Words} (s : Words) {circ : Circulation} {c : Contents} → circ.place.from + circ.place.len ≤ s.used →
    words_at s.words circ.place ≡ words_at r.words circ.place → Holds r circ c → Holds s circ c
held_as s {circ} {c} used same h = record {
  used = used;
  size = h.size;
  words = subst (HasWords circ c) (sym same) h.words;
}

-- a further place is taken
pub held_when_taken : (r : Words) (len : ℕ) (circ : Circulation) (c : Contents) → r.used + len ≤ length r.words →
    Holds r circ c → Holds (record { words = zeroed r.words r.used len; used = r.used + len }) circ c
held_when_taken r len circ c fits h =
    held_as (record { words = zeroed r.words r.used len; used = r.used + len }) (omega (arith, h.used))
    (zeroed_other r.words r.used len circ.place fits h.used) h

-- a region that holds a circulation holds its arcs
pub holds_arcs : (r : Words) (circ : Circulation) (c : Contents) → Holds r circ c → HoldsArcs r circ c
holds_arcs r circ c h = record { used = h.used; size = h.size; fixed = h.words.fixed }

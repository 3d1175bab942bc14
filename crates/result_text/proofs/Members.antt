-- The lines of a right's set.
use Rattle.std.proofs.Common.{◌≡◌, ℕ, zero, suc, ◌+◌, ◌-◌, ◌<◌, ◌≤◌, Bool, true, false, List, [], ◌∷◌, length, refl}
use Rattle.std.proofs.Common.{sym, ap, ◌∙◌, arith, map, Option, Some, ◌&&◌, subst}
use Rattle.std.specs.Prelude.{if◌then◌else◌}
use Rattle.std.specs.List.{flat_map}
use Rattle.water_edge.specs.Edge.{Extends, Output}
use Rattle.water_edge.proofs.Outputs.{Extends-nil}
use Rattle.bit_words.specs.Marks.{is_marked, in_both, marks, IsNextInBoth}
use Rattle.bit_words.proofs.Marks.{get_or-marks, length-marks}
use Rattle.water_model.specs.Lookups.{has}
use Rattle.water_model.specs.Indices.{numbers_from, members_from}
use Rattle.result_lines.specs.Spelling.{whole_line}
use Rattle.result_lines.specs.Text.{call_items}
use Rattle.result_lines.specs.declared.item.Item.{Item}
use Rattle.result_lines.specs.declared.item.Item.TheVariants as line
use Rattle.water_model.specs.declared.types.Basin.{Basin}
use Rattle.water_model.proofs.Order.{length-numbers_from, numbers_from-get}
use Rattle.result_text.specs.Members.{member_at, members_of}
use Rattle.water_edge.proofs.Puts.{SoFar, SoFar-next, SoFar-whole}

-- a line for each index that a set has, index by index
members : (g : ℕ → Bool) (set : List Bool) (from : ℕ) → ((k : ℕ) → k < length set → g (from + k) ≡ has set k) →
    flat_map (λ n. if g n then line.Member n ∷ [] else []) (numbers_from from (length set)) ≡ map (λ n. line.Member n)
    (members_from from set)
unfolding numbers_from members_from
members g [] from h = refl
members g (held ∷ set) from h =
    by_test held (ap g at_first ∙ h 0 (omega arith))
    (members g set (suc from) (λ k l. ap g (further k) ∙ h (suc k) (omega (arith, l))))
  where
    at_first : from ≡ from + 0
    at_first = omega arith

    further : (k : ℕ) → suc from + k ≡ from + suc k
    further k = omega arith

    by_test : (t : Bool) → g from ≡ t →
        flat_map (λ n. if g n then line.Member n ∷ [] else []) (numbers_from (suc from) (length set)) ≡ map
        (λ n. line.Member n) (members_from (suc from) set) →
        flat_map (λ n. if g n then line.Member n ∷ [] else []) (from ∷ numbers_from (suc from) (length set)) ≡ map
        (λ n. line.Member n) (members_from from (t ∷ set))
    by_test true e rest = rw (e, rest) refl
    by_test false e rest = rw (e, rest) refl

-- a right's lines are its call and then those of the nodes that its words mark
pub call_lines : (right nodes : ℕ) (words : List ℕ) (set : Option (List Bool)) → Some (marks nodes words) ≡ set →
    line.Call right ∷ members_of nodes words ≡ call_items right set
call_lines right nodes words set is =
    ap (λ lines. line.Call right ∷ lines) (ap (λ n. flat_map (member_at words) (numbers_from 0 n)) (sym sized)
    ∙ members (is_marked words) (marks nodes words) 0 held)
    ∙ ap (call_items right) is
  where
    sized : length (marks nodes words) ≡ nodes
    sized = length-marks nodes words

    held : (k : ℕ) → k < length (marks nodes words) → is_marked words (0 + k) ≡ has (marks nodes words) k
    held k l =
        ap (is_marked words) (let same : 0 + k ≡ k = omega arith in same)
        ∙ sym (get_or-marks nodes words k false (omega (arith, sized, l)))

-- a node that isn't marked in both of one list isn't marked
unmarked : (words : List ℕ) (n : ℕ) → in_both words words n ≡ false → member_at words n ≡ []
unmarked words n h = by_mark (is_marked words n) h
  where
    by_mark : (t : Bool) → t && t ≡ false → (if t then line.Member n ∷ [] else []) ≡ []
    by_mark true h = cc
    by_mark false h = refl

-- nodes that aren't marked have no lines
skip : (b : Basin) (words : List ℕ) (nodes from count : ℕ) {old now : Output} {before after : ℕ} →
    SoFar (whole_line b) (member_at words) (numbers_from 0 nodes) from old now before after → from + count ≤ nodes →
    ((n : ℕ) → from ≤ n → n < from + count → in_both words words n ≡ false) →
    SoFar (whole_line b) (member_at words) (numbers_from 0 nodes) (from + count) old now before after
skip b words nodes from zero {old} {now} {before} {after} s l h =
    subst (λ (k : ℕ). SoFar (whole_line b) (member_at words) (numbers_from 0 nodes) k old now before after)
    (let same : from ≡ from + 0 = omega arith in same) s
skip b words nodes from (suc count) {old} {now} {before} {after} s l h =
    subst (λ (k : ℕ). SoFar (whole_line b) (member_at words) (numbers_from 0 nodes) k old now before after)
    (let same : from + count + 1 ≡ from + suc count = omega arith in same)
    (SoFar-next (from + count)
    (skip b words nodes from count s (omega (arith, l)) (λ n above below. h n above (omega (arith, below))))
    (numbers_from-get 0 nodes (from + count) (from + count) (omega (arith, l)) (omega arith))
    (subst (λ (items : List Item). Extends now now (flat_map (whole_line b) items))
    (sym (unmarked words (from + count) (h (from + count) (omega arith) (omega arith)))) (Extends-nil now))
    (omega arith))

-- all lines before the next node that is marked
pub SoFar-at : (b : Basin) (words : List ℕ) (nodes from node : ℕ) {old now : Output} {before after : ℕ} →
    SoFar (whole_line b) (member_at words) (numbers_from 0 nodes) from old now before after →
    IsNextInBoth words words from nodes node →
    SoFar (whole_line b) (member_at words) (numbers_from 0 nodes) node old now before after
SoFar-at b words nodes from node {old} {now} {before} {after} s next =
    subst (λ (k : ℕ). SoFar (whole_line b) (member_at words) (numbers_from 0 nodes) k old now before after)
    (let same : from + (node - from) ≡ node = omega (arith, next.after) in same)
    (skip b words nodes from (node - from) s (omega (arith, next.after, next.below))
    (λ n above below. next.least n above (omega (arith, below, next.after))))

-- its line
pub line_of_next : (words : List ℕ) (from nodes node : ℕ) → IsNextInBoth words words from nodes node →
    member_at words node ≡ line.Member node ∷ []
line_of_next words from nodes node next = by_mark (is_marked words node) next.marked
  where
    by_mark : (t : Bool) → t && t ≡ true → (if t then line.Member node ∷ [] else []) ≡ line.Member node ∷ []
    by_mark true h = refl
    by_mark false h = cc

-- where no further node is marked these are all lines
pub SoFar-rest : (b : Basin) (words : List ℕ) (nodes from : ℕ) {old now : Output} {before after : ℕ} →
    SoFar (whole_line b) (member_at words) (numbers_from 0 nodes) from old now before after → from ≤ nodes →
    ((n : ℕ) → from ≤ n → n < nodes → in_both words words n ≡ false) →
    Extends old now (flat_map (whole_line b) (members_of nodes words))
SoFar-rest b words nodes from s l h =
    SoFar-whole
    (skip b words nodes from (nodes - from) s (omega (arith, l)) (λ n above below. h n above (omega (arith, below, l))))
    (omega (arith, l, length-numbers_from 0 nodes))

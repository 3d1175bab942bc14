-- A circulation that was just opened keeps its invariant.
use Rattle.std.proofs.Common.{ℕ, Bool, true, false, ◌==◌, replicate, ◌≡◌, ◌≢◌, ◌+◌, ◌-◌, ◌*◌, ◌^◌, ◌<◌, ◌≤◌, List, ◌++◌}
use Rattle.std.proofs.Common.{length, take, drop, slice_index, get_or, map, refl, arith, ap, sym, subst, ◌∙◌}
use Rattle.std.specs.Prelude.{All}
use Rattle.std.proofs.lemmas.Grind.{common_steps}
use Rattle.std.proofs.lemmas.List.{get_or-map, length-map, get_or-replicate, replicate-append-replicate}
use Rattle.circulation.specs.declared.Ends.{Ends}
use Rattle.finite_sums.specs.Sums.{when}
use Rattle.circulation.specs.Network.{HasEnds, inflow, outflow}
use Rattle.circulation.specs.Rows.{Rows, AreRows}
use Rattle.circulation.specs.Contents.{Contents, network, flow_of, IsCirculation, empty_contents}
use Rattle.circulation.specs.declared.Circulation.{Circulation}
use Rattle.circulation.specs.Places.{tail_of, head_of, tails, heads, word_count, fixed_count, AreWordsOf, HasWords}
use Rattle.circulation.specs.Chains.{tails_of}
use Rattle.circulation.specs.Laid.{IsLaid}
use Rattle.finite_sums.proofs.Totals.{total_zero}
use Rattle.circulation.proofs.Pairs.{no_ends}
use Rattle.circulation.specs.Rooms.{AreRooms}
use Rattle.circulation.proofs.RoomLists.{rooms_none}

-- each end is a node, and no arc goes from a node to itself
abbrev pub AreWithin : ℕ → List Ends → Type 0
AreWithin nodes es = All (λ e. (e.from ≤ nodes) × (e.to ≤ nodes) × (e.from ≢ e.to)) es

-- each tail is a node
pub from_within : (nodes : ℕ) (es : List Ends) {keys : List ℕ} → keys ≡ map (λ e. e.from) es → AreWithin nodes es →
    (a : ℕ) → a < length keys → get_or keys a 0 ≤ nodes
from_within nodes es is h a b =
    let c : a < length es = omega (arith, ap length is, length-map es (λ e. e.from)) in
    subst (λ (ks : List ℕ). get_or ks a 0 ≤ nodes) (sym is)
    (subst (λ (x : ℕ). x ≤ nodes) (sym (get_or-map (λ e. e.from) es a no_ends 0 c)) (h a no_ends c).0)

-- each head is a node
pub to_within : (nodes : ℕ) (es : List Ends) {keys : List ℕ} → keys ≡ map (λ e. e.to) es → AreWithin nodes es →
    (a : ℕ) → a < length keys → get_or keys a 0 ≤ nodes
to_within nodes es is h a b =
    let c : a < length es = omega (arith, ap length is, length-map es (λ e. e.to)) in
    subst (λ (ks : List ℕ). get_or ks a 0 ≤ nodes) (sym is)
    (subst (λ (x : ℕ). x ≤ nodes) (sym (get_or-map (λ e. e.to) es a no_ends 0 c)) (h a no_ends c).1)

-- no arc goes from a node to itself
pub ends_apart : (nodes : ℕ) (es : List Ends) {from to : List ℕ} → from ≡ map (λ e. e.from) es →
    to ≡ map (λ e. e.to) es → AreWithin nodes es → (a : ℕ) → a < length from → get_or from a 0 ≢ get_or to a 0
ends_apart nodes es is_from is_to h a b same =
    let c : a < length es = omega (arith, ap length is_from, length-map es (λ e. e.from)) in
    (h a no_ends c).2
    (sym (get_or-map (λ e. e.from) es a no_ends 0 c) ∙ ap (λ (ks : List ℕ). get_or ks a 0) (sym is_from) ∙ same
    ∙ ap (λ (ks : List ℕ). get_or ks a 0) is_to ∙ get_or-map (λ e. e.to) es a no_ends 0 c)

-- there are as many heads as tails
pub lengths_agree : (es : List Ends) {from to : List ℕ} → from ≡ map (λ e. e.from) es → to ≡ map (λ e. e.to) es →
    length to ≡ length from
lengths_agree es is_from is_to =
    omega (arith, ap length is_from, ap length is_to, length-map es (λ e. e.from), length-map es (λ e. e.to))

-- nothing, tested or not
when-zero : (t : Bool) (x : ℕ) → x ≡ 0 → when t x ≡ 0
when-zero true x h = h
when-zero false x h = refl

-- all amounts 0 are a flow
pub empty-circulation : {nodes : ℕ} {from to : List ℕ} {rows : Rows} → nodes < 2 ^ 32 → length from < 2 ^ 32 →
    length to ≡ length from → HasEnds (network (empty_contents nodes from to rows)) →
    AreRows nodes from to rows → IsCirculation (empty_contents nodes from to rows)
empty-circulation {nodes} {from} {to} {rows} bounded_nodes bounded_arcs same ends are_rows = record {
  shape = record {
    bounded_nodes = bounded_nodes;
    bounded_arcs = bounded_arcs;
    to = same;
    supply = grind (arith, common_steps);
    lower = grind (arith, common_steps);
    upper = grind (arith, common_steps);
    flow = grind (arith, common_steps);
    scratch = grind (arith, common_steps);
    small = λ a b. grind (arith, common_steps);
  };
  ends = ends;
  flow = record {
    low = λ a b. grind (arith, common_steps);
    high = λ a b. grind (arith, common_steps);
    balanced = λ v b.
        let none = get_or-replicate {A = ℕ} nodes v 0 0 b in
        let into : inflow (network (empty_contents nodes from to rows))
        (flow_of (empty_contents nodes from to rows)) v ≡ 0 = total_zero (length from) _
        (λ a c. when-zero (get_or to a 0 == v) _ (get_or-replicate {A = ℕ} (length from) a 0 0 c)) in
        let out : outflow (network (empty_contents nodes from to rows))
        (flow_of (empty_contents nodes from to rows)) v ≡ 0 = total_zero (length from) _
        (λ a c. when-zero (get_or from a 0 == v) _ (get_or-replicate {A = ℕ} (length from) a 0 0 c)) in
        omega (arith, none, into, out);
  };
  rows = are_rows;
}

-- a row of zeros in parts
zeros_in_parts : (arcs nodes : ℕ) {count : ℕ} →
    count ≡ 2 * arcs + (arcs + (nodes + (4 * nodes + 8 + (2 * nodes + 6)))) →
    replicate {A = ℕ} count 0 ≡ replicate (2 * arcs) 0
    ++ (replicate arcs 0 ++ (replicate nodes 0 ++ (replicate (4 * nodes + 8) 0 ++ replicate (2 * nodes + 6) 0)))
zeros_in_parts arcs nodes is =
    ap (λ (n : ℕ). replicate {A = ℕ} n 0) is
    ∙ sym (replicate-append-replicate {A = ℕ} (2 * arcs) (arcs + (nodes + (4 * nodes + 8 + (2 * nodes + 6)))) 0)
    ∙ ap (λ (xs : List ℕ). replicate (2 * arcs) 0 ++ xs)
    (sym (replicate-append-replicate {A = ℕ} arcs (nodes + (4 * nodes + 8 + (2 * nodes + 6))) 0)
    ∙ ap (λ (xs : List ℕ). replicate arcs 0 ++ xs)
    (sym (replicate-append-replicate {A = ℕ} nodes (4 * nodes + 8 + (2 * nodes + 6)) 0)
    ∙ ap (λ (xs : List ℕ). replicate nodes 0 ++ xs)
    (sym (replicate-append-replicate {A = ℕ} (4 * nodes + 8) (2 * nodes + 6) 0))))

-- the words of a circulation that is empty
pub empty-words : (circ : Circulation) {c : Contents} {kept moved : List ℕ} → c.nodes ≡ circ.nodes →
    length c.from ≡ circ.arcs → IsCirculation c → c ≡ empty_contents c.nodes c.from c.to c.rows →
    moved ≡ replicate (word_count circ.nodes circ.arcs - fixed_count circ.nodes circ.arcs) 0 →
    (pairs : List ℕ) → length pairs ≡ circ.arcs → c.from ≡ map tail_of pairs → c.to ≡ map head_of pairs →
    length c.rows.step ≡ 2 * circ.arcs → ((p : ℕ) → slice_index c.rows.end p < 2 ^ 32) →
    kept ≡ pairs ++ (c.rows.step ++ (c.rows.end ++ c.rows.first)) → AreWordsOf circ c kept moved
empty-words circ {c} nodes arcs k is none pairs count from to steps small fixed = record {
  fixed = record {
    pairs = pairs;
    nodes = nodes;
    arcs = count;
    from = from;
    to = to;
    steps = steps;
    small = small;
    fixed = fixed;
    circulation = k;
  };
  rooms = replicate (2 * length c.from) 0;
  unused = replicate (2 * c.nodes + 6) 0;
  of_steps = subst (λ (e : Contents). AreRooms e.lower e.upper e.flow (replicate (2 * length c.from) 0)) (sym is)
      (rooms_none (length c.from));
  moving = none ∙ zeros_in_parts (length c.from) c.nodes (omega (arith, nodes, arcs)) ∙ ap (λ (e : Contents).
      replicate (2 * length c.from) 0 ++ (e.lower ++ (e.supply ++ (e.scratch ++ replicate (2 * c.nodes + 6) 0))))
      (sym is);
}

-- the words of a circulation that was just opened
pub laid-words : (circ : Circulation) {es : List Ends} (words : List ℕ) → circ.arcs ≡ length es →
    circ.nodes < 2 ^ 32 → length es < 2 ^ 32 → AreWithin circ.nodes es →
    IsLaid circ.nodes es (take (fixed_count circ.nodes circ.arcs) words) →
    drop (fixed_count circ.nodes circ.arcs) words ≡ replicate
    (word_count circ.nodes circ.arcs - fixed_count circ.nodes circ.arcs) 0 →
    (rows : Rows) × HasWords circ (empty_contents circ.nodes (tails es) (heads es) rows) words
laid-words circ {es} words arcs bounded_nodes bounded_arcs within laid none =
    let count = length-map es (λ (e : Ends). e.from) in
    let same = lengths_agree es refl refl in
    let rows : AreRows circ.nodes (tails es) (heads es) laid.rows =
    subst (λ (xs : List ℕ). AreRows circ.nodes xs (heads es) laid.rows) laid.from
    (subst (λ (xs : List ℕ). AreRows circ.nodes (tails_of laid.pairs) xs laid.rows) laid.to laid.laid.rows) in
    let kept = empty-circulation bounded_nodes (omega (arith, count)) same
    record {
      from_in = from_within circ.nodes es refl within;
      to_in = λ a b. to_within circ.nodes es refl within a (omega (arith, same));
      apart = ends_apart circ.nodes es refl refl within;
    } rows in (
      laid.rows,
      empty-words circ
          refl (omega (arith, count, arcs)) kept refl none laid.pairs (omega (arith, laid.count, arcs)) (sym laid.from)
          (sym laid.to) (omega (arith, laid.laid.steps, laid.count, arcs)) laid.laid.small
          (laid.words ∙ ap (λ (xs : List ℕ). laid.pairs ++ xs) laid.laid.is),
    )

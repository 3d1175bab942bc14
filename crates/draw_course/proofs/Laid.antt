-- The ends of the arcs of a month's network, laid one after another.
use Rattle.std.proofs.Common.{◌≡◌, ◌≢◌, ℕ, ◌+◌, ◌<◌, ◌≤◌, Bool, true, false, refl, sym, ◌∙◌, ap, subst, arith, List, [], ◌∷◌}
use Rattle.std.proofs.Common.{ap₂, ◌++◌, length, inl, inr, get_or, zero, suc}
use Rattle.std.proofs.lemmas.Bool.{cases_lt}
use Rattle.std.proofs.lemmas.Bool.Decides.{eqb_tells}
use Rattle.std.proofs.lemmas.Grind.{common_steps}
use Rattle.std.proofs.lemmas.Option.{slice_get-map, get_or_from_slice_get}
use Rattle.std.proofs.lemmas.List.{length-map}
use Rattle.std.specs.Prelude.{All, ◌==◌, slice_get, slice_index, Some, option_map, if◌then◌else◌}
use Rattle.water_model.specs.Basin.{tail_of, head_of}
use Rattle.water_model.specs.Valid.{IsValidBasin}
use Rattle.water_model.specs.declared.types.Basin.{Basin}
use Rattle.water_model.proofs.Valid.{ends}
use Rattle.circulation.specs.declared.Ends.{Ends}
use Rattle.circulation.specs.Contents.{Contents, network}
use Rattle.circulation.specs.Places.{tails, heads}
use Rattle.draw_course.specs.Draws.{AreDraws, diversion_of, reservoir_of}
use Rattle.draw_course.specs.Arcs.{AreEnds, AreFirstEnds, arc_count, take_arc, out_arc, draw_arc, draw_head}
use Rattle.draw_course.specs.Arcs.{part_of, part_tail, part_head}
use Rattle.draw_course.specs.MonthNetwork.{HasCourseEnds}
use Rattle.draw_course.specs.declared.arcs.Part.{Part}
use Rattle.draw_course.specs.declared.draws.DrawNodes.{DrawNodes}
use Rattle.draw_course.proofs.Parts.{part_link, part_take, part_out, part_draw}
use Rattle.draw_course.proofs.Parts.{IsArc, is_link, is_take, is_out, is_draw, arc_is}
use Rattle.river_net.proofs.Ranks.{ranks}

-- the ends of an arc by its number
abbrev pub ends_at : Basin → List DrawNodes → ℕ → Ends
ends_at b draws a = record {
  from = part_tail b draws (part_of (length b.links) (length b.nodes) a);
  to = part_head b draws (part_of (length b.links) (length b.nodes) a);
}

get_last : (xs : List Ends) (k : ℕ) (x : Ends) → k ≡ length xs → slice_get (xs ++ x ∷ []) k ≡ Some x
get_last [] zero x h = refl
get_last [] (suc k) x h = absurd (omega arith)
get_last (y ∷ xs) zero x h = absurd (omega arith)
get_last (y ∷ xs) (suc k) x h = get_last xs k x (omega arith)

get_before : (xs : List Ends) (y : Ends) (k : ℕ) → k < length xs → slice_get (xs ++ y ∷ []) k ≡ slice_get xs k
get_before [] y k l = absurd (omega arith)
get_before (x ∷ xs) y zero l = refl
get_before (x ∷ xs) y (suc k) l = get_before xs y k (omega arith)

-- the ends of an arc, by one and the other
pub ends_are : (b : Basin) (draws : List DrawNodes) (a : ℕ) (x : Ends) → x.from ≡ (ends_at b draws a).from →
    x.to ≡ (ends_at b draws a).to → x ≡ ends_at b draws a
ends_are b draws a x from to = ap₂ ends from to
  where
    ends : ℕ → ℕ → Ends
    ends from to = record { from = from; to = to }

-- one more arc
pub laid_more : (b : Basin) (draws : List DrawNodes) (count : ℕ) (es new : List Ends) (x : Ends) →
    new ≡ es ++ x ∷ [] → x ≡ ends_at b draws count → AreFirstEnds b draws count es →
    AreFirstEnds b draws (count + 1) new
laid_more b draws count es new x is at now = record {
  size = ap length is ∙ longer es x now.size;
  each = λ a l. elim (cases_lt a count) [
    | inl below ↦ ap (λ (xs : List Ends). slice_get xs a) is
        ∙ get_before es x a (let s = now.size in omega arith) ∙ now.each a below
    | inr above ↦ (let e : a ≡ count = omega (arith, above, l) in
        ap (λ (xs : List Ends). slice_get xs a) is
        ∙ get_last es a x (let s = now.size in omega arith) ∙ ap Some (at ∙ sym (ap (ends_at b draws) e)))
  ];
}
  where
    longer : (xs : List Ends) (y : Ends) → {n : ℕ} → length xs ≡ n → length (xs ++ y ∷ []) ≡ n + 1
    longer xs y h = grind (arith, common_steps)

from_at : (es : List Ends) (a : ℕ) (x : Ends) → slice_get es a ≡ Some x → slice_index (tails es) a ≡ x.from
from_at es a x h =
    get_or_from_slice_get (tails es) a x.from 0 (slice_get-map (λ (e : Ends). e.from) es a
    ∙ ap (option_map (λ (e : Ends). e.from)) h)

to_at : (es : List Ends) (a : ℕ) (x : Ends) → slice_get es a ≡ Some x → slice_index (heads es) a ≡ x.to
to_at es a x h = get_or_from_slice_get (heads es) a x.to 0 (slice_get-map (λ (e : Ends). e.to) es a
    ∙ ap (option_map (λ (e : Ends). e.to)) h)

-- the ends of a network
pub laid_ends : (b : Basin) (draws : List DrawNodes) (es : List Ends) (c : Contents) → AreEnds b draws es →
    c.nodes ≡ length b.nodes → c.from ≡ tails es → c.to ≡ heads es → HasCourseEnds b draws (network c)
laid_ends b draws es c laid nodes from to = record {
  nodes = nodes;
  arcs = omega (arith, ap length from, length-map es (λ (e : Ends). e.from), laid.size);
  link_from = λ e l. tail e (omega arith) ∙ ap (part_tail b draws) (part_link (length b.links) (length b.nodes) e l);
  link_to = λ e l. head e (omega arith) ∙ ap (part_head b draws) (part_link (length b.links) (length b.nodes) e l);
  take_from = λ n l. tail (take_arc b n) (omega arith)
      ∙ ap (part_tail b draws) (part_take (length b.links) (length b.nodes) n l);
  take_to = λ n l. head (take_arc b n) (omega arith)
      ∙ ap (part_head b draws) (part_take (length b.links) (length b.nodes) n l);
  out_from = λ n l. tail (out_arc b n) (omega arith)
      ∙ ap (part_tail b draws) (part_out (length b.links) (length b.nodes) n l);
  out_to = λ n l. head (out_arc b n) (omega arith)
      ∙ ap (part_head b draws) (part_out (length b.links) (length b.nodes) n l);
  draw_from = λ k l. tail (draw_arc b k) (omega arith)
      ∙ ap (part_tail b draws) (part_draw (length b.links) (length b.nodes) k);
  draw_to = λ k l. head (draw_arc b k) (omega arith)
      ∙ ap (part_head b draws) (part_draw (length b.links) (length b.nodes) k);
}
  where
    tail : (a : ℕ) → a < arc_count b (length draws) →
        slice_index c.from a ≡ part_tail b draws (part_of (length b.links) (length b.nodes) a)
    tail a l = ap (λ (xs : List ℕ). slice_index xs a) from ∙ from_at es a (ends_at b draws a) (laid.each a l)

    head : (a : ℕ) → a < arc_count b (length draws) →
        slice_index c.to a ≡ part_head b draws (part_of (length b.links) (length b.nodes) a)
    head a l = ap (λ (xs : List ℕ). slice_index xs a) to ∙ to_at es a (ends_at b draws a) (laid.each a l)

-- the ends are nodes and differ
pub laid_fits : (b : Basin) (draws : List DrawNodes) (es : List Ends) (nodes : ℕ) → IsValidBasin b → AreDraws b draws →
    nodes ≡ length b.nodes → AreEnds b draws es → All (λ e. (e.from ≤ nodes) × (e.to ≤ nodes) × (e.from ≢ e.to)) es
laid_fits b draws es nodes valid are is laid a d l =
    of_arc a (arc_is b (length draws) a (let s = laid.size in omega arith))
    (laid.each a (let s = laid.size in omega arith))
  where
    fits : (a from to : ℕ) → slice_get es a ≡ Some (record { from = from; to = to }) → from < length b.nodes →
        to ≤ length b.nodes → from ≢ to →
        (get_or es a d).from ≤ nodes × (get_or es a d).to ≤ nodes × ((get_or es a d).from ≢ (get_or es a d).to)
    fits a from to h f t ne =
        let e = get_or_from_slice_get es a (record { from = from; to = to }) d h in
        subst (λ (x : Ends). (x.from ≤ nodes) × (x.to ≤ nodes) × (x.from ≢ x.to)) (sym e)
        (omega arith, omega arith, ne)

    as_part : (a : ℕ) (p : Part) → part_of (length b.links) (length b.nodes) a ≡ p →
        slice_get es a ≡ Some (ends_at b draws a) →
        slice_get es a ≡ Some (record { from = part_tail b draws p; to = part_head b draws p })
    as_part a p e h = h ∙ ap (λ (p : Part). let x : Ends = record {
      from = part_tail b draws p;
      to = part_head b draws p;
    } in Some x) e

    of_arc : (a : ℕ) → IsArc b (length draws) a → slice_get es a ≡ Some (ends_at b draws a) →
        (get_or es a d).from ≤ nodes × (get_or es a d).to ≤ nodes × ((get_or es a d).from ≢ (get_or es a d).to)
    of_arc a (is_link k) h =
        let e = ends b valid a k in
        let up = (ranks b valid).forward.runs a k in
        fits a (tail_of b a) (head_of b a) (as_part a _ (part_link (length b.links) (length b.nodes) a k) h) e.0
        (let to = e.1 in omega arith)
        (λ s. let q = ap (ranks b valid).rank s in absurd (omega arith))
    of_arc a (is_take n k e) h =
        fits a n (length b.nodes)
        (as_part a _ (ap (part_of (length b.links) (length b.nodes)) (sym e)
        ∙ part_take (length b.links) (length b.nodes) n k) h) k (omega arith) (λ s. absurd (omega arith))
    of_arc a (is_out n k e) h =
        fits a n (length b.nodes)
        (as_part a _ (ap (part_of (length b.links) (length b.nodes)) (sym e)
        ∙ part_out (length b.links) (length b.nodes) n k) h) k (omega arith) (λ s. absurd (omega arith))
    of_arc a (is_draw j k e) h =
        fits a (diversion_of draws j) (draw_head b draws j)
        (as_part a _ (ap (part_of (length b.links) (length b.nodes)) (sym e)
        ∙ part_draw (length b.links) (length b.nodes) j) h) (are.diversions j k)
        (head_within (diversion_of draws j) (reservoir_of draws j) (are.reservoirs j k))
        (head_differs (diversion_of draws j) (reservoir_of draws j) (are.diversions j k))
      where
        head_within : (x y : ℕ) → y < length b.nodes → (if x == y then length b.nodes else y) ≤ length b.nodes
        head_within x y l = of_test (x == y)
          where
            of_test : (t : Bool) → (if t then length b.nodes else y) ≤ length b.nodes
            of_test true = omega arith
            of_test false = omega arith

        head_differs : (x y : ℕ) → x < length b.nodes → x ≢ (if x == y then length b.nodes else y)
        head_differs x y l = elim (eqb_tells x y) [
          | inl same ↦ rw same.0 (λ s. absurd (omega arith))
          | inr apart ↦ rw apart.0 apart.1
        ]

-- The ends of a month's arcs, laid one after another.
use Rattle.std.proofs.Common.{◌≡◌, ◌≢◌, ℕ, ◌+◌, ◌<◌, ◌≤◌, true, refl, sym, ◌∙◌, ap, subst, arith, List, [], ◌∷◌}
use Rattle.std.proofs.Common.{◌++◌, length, map, inl, inr, get_or}
use Rattle.std.proofs.lemmas.Bool.{cases_lt}
use Rattle.std.proofs.lemmas.Option.{slice_get-map, get_or_from_slice_get}
use Rattle.std.proofs.lemmas.List.{length-map}
use Rattle.std.specs.Prelude.{All, slice_get, slice_index, Option, Some, None, is_some, option_map, if◌then◌else◌}
use Rattle.finite_sums.proofs.Totals.{total_where_start}
use Rattle.water_model.specs.Basin.{tail_of, head_of, is_outlet, taking_node}
use Rattle.water_model.specs.Valid.{IsValidBasin}
use Rattle.water_model.specs.declared.types.Basin.{Basin}
use Rattle.circulation.specs.declared.Ends.{Ends}
use Rattle.circulation.specs.Contents.{Contents, network}
use Rattle.senior_hold.specs.MonthNetwork.{takes, take_arc, out_arc, HasBasinEnds}
use Rattle.senior_hold.proofs.MonthArcs.{IsKind, on_link, at_node, AreKinds, IsArc, is_link, is_take, is_out, arc_is}
use Rattle.senior_hold.specs.Arcs.{AreEnds, AreEndsOf}
use Rattle.river_net.proofs.Ranks.{ranks}
use Rattle.senior_hold.proofs.Lists.{get_last, pushed_count}
use Rattle.senior_hold.proofs.RightKinds.{take_arc_more, out_arc_more}
use Rattle.water_model.proofs.Lists.{get_before}

abbrev pub froms : List Ends → List ℕ
froms es = map (λ e. e.from) es

abbrev pub tos : List Ends → List ℕ
tos es = map (λ e. e.to) es

abbrev pub end_at : ℕ → ℕ → Ends
end_at from to = record { from = from; to = to }

pub laid_start : (b : Basin) (es : List Ends) → es ≡ [] → AreEndsOf b es 0 0 0
laid_start b es is = record {
  count = omega (
    arith,
    ap length is,
    total_where_start (λ r. takes b r) (λ k. 1),
    total_where_start (λ n. is_outlet b n) (λ k. 1),
  );
  link = λ e l. absurd (omega arith);
  take = λ r v l at. absurd (omega arith);
  out = λ n l h. absurd (omega arith);
}

pub laid_link : (b : Basin) (es new : List Ends) (e from to : ℕ) → from ≡ tail_of b e → to ≡ head_of b e →
    new ≡ es ++ end_at from to ∷ [] → AreEndsOf b es e 0 0 → AreEndsOf b new (e + 1) 0 0
laid_link b es new e from to f t is now = record {
  count = omega (arith, pushed_count es new (end_at from to) (length es) is refl, now.count);
  link = λ k l. elim (cases_lt k e) [
    | inl below ↦ ap (λ (xs : List Ends). slice_get xs k) is
        ∙ get_before es (end_at from to ∷ []) k _ (now.link k below)
    | inr above ↦ (let same : k ≡ e = omega arith in
        ap (λ (xs : List Ends). slice_get xs k) is
        ∙ get_last es k (end_at from to)
        (omega (
          arith,
          now.count,
          total_where_start (λ r. takes b r) (λ k. 1),
          total_where_start (λ n. is_outlet b n) (λ k. 1),
        ))
        ∙ ap Some (ap (λ x. end_at x to) (f ∙ sym (ap (tail_of b) same))
        ∙ ap (λ x. end_at (tail_of b k) x) (t ∙ sym (ap (head_of b) same))))
  ];
  take = λ r v l at. absurd (omega arith);
  out = λ n l h. absurd (omega arith);
}

pub laid_take : (b : Basin) (es new : List Ends) (r v to : ℕ) → taking_node b r ≡ Some v → to ≡ length b.nodes →
    new ≡ es ++ end_at v to ∷ [] → AreEndsOf b es (length b.links) r 0 → AreEndsOf b new (length b.links) (r + 1) 0
laid_take b es new r v to at t is now = record {
  count = omega (arith, pushed_count es new (end_at v to) (length es) is refl, now.count, take_arc_more b r, one);
  link = λ k l. ap (λ (xs : List Ends). slice_get xs k) is ∙ get_before es (end_at v to ∷ []) k _ (now.link k l);
  take = λ s u l here. elim (cases_lt s r) [
    | inl below ↦ ap (λ (xs : List Ends). slice_get xs (take_arc b s)) is
        ∙ get_before es (end_at v to ∷ []) (take_arc b s) _ (now.take s u below here)
    | inr above ↦ (let same : s ≡ r = omega arith in
        let places : take_arc b s ≡ length es = ap (take_arc b) same
        ∙ omega (arith, now.count, total_where_start (λ n. is_outlet b n) (λ k. 1)) in
        let both : Some v ≡ Some u = sym at ∙ (sym (ap (taking_node b) same) ∙ here) in
        let one : v ≡ u = cc (both) in
        ap (λ (xs : List Ends). slice_get xs (take_arc b s)) is ∙ get_last es (take_arc b s) (end_at v to) places
        ∙ ap Some (ap (λ x. end_at x to) one ∙ ap (λ x. end_at u x) t))
  ];
  out = λ n l h. absurd (omega arith);
}
  where
    one : (if takes b r then 1 else 0) ≡ 0 + 1
    one = ap (λ o. if is_some o then 1 else 0) at

pub laid_skip : (b : Basin) (es : List Ends) (r : ℕ) → taking_node b r ≡ None → AreEndsOf b es (length b.links) r 0 →
    AreEndsOf b es (length b.links) (r + 1) 0
laid_skip b es r at now = record {
  count = omega (arith, now.count, take_arc_more b r, none);
  link = now.link;
  take = λ s u l here. elim (cases_lt s r) [
    | inl below ↦ now.take s u below here
    | inr above ↦ (let same : s ≡ r = omega arith in let both : None ≡ Some u = sym at ∙ (sym (ap (taking_node b) same)
        ∙ here) in absurd (cc (both)))
  ];
  out = λ n l h. absurd (omega arith);
}
  where
    none : (if takes b r then 1 else 0) ≡ 0 + 0
    none = ap (λ o. if is_some o then 1 else 0) at

pub laid_out : (b : Basin) (es new : List Ends) (n from to : ℕ) → is_outlet b n ≡ true → from ≡ n →
    to ≡ length b.nodes → new ≡ es ++ end_at from to ∷ [] → AreEndsOf b es (length b.links) (length b.rights) n →
    AreEndsOf b new (length b.links) (length b.rights) (n + 1)
laid_out b es new n from to outlet f t is now = record {
  count = omega (arith, pushed_count es new (end_at from to) (length es) is refl, now.count, out_arc_more b n, one);
  link = λ k l. ap (λ (xs : List Ends). slice_get xs k) is ∙ get_before es (end_at from to ∷ []) k _ (now.link k l);
  take = λ s u l here. ap (λ (xs : List Ends). slice_get xs (take_arc b s)) is
      ∙ get_before es (end_at from to ∷ []) (take_arc b s) _ (now.take s u l here);
  out = λ m l h. elim (cases_lt m n) [
    | inl below ↦ ap (λ (xs : List Ends). slice_get xs (out_arc b m)) is
        ∙ get_before es (end_at from to ∷ []) (out_arc b m) _ (now.out m below h)
    | inr above ↦ (let same : m ≡ n = omega arith in
        let places : out_arc b m ≡ length es = ap (out_arc b) same ∙ omega (arith, now.count) in
        ap (λ (xs : List Ends). slice_get xs (out_arc b m)) is ∙ get_last es (out_arc b m) (end_at from to) places
        ∙ ap Some (ap (λ x. end_at x to) (f ∙ sym same) ∙ ap (λ x. end_at m x) t))
  ];
}
  where
    one : (if is_outlet b n then 1 else 0) ≡ 0 + 1
    one = ap (λ t. if t then 1 else 0) outlet

from_at : (es : List Ends) (a from to : ℕ) → slice_get es a ≡ Some (end_at from to) → slice_index (froms es) a ≡ from
from_at es a from to h =
    get_or_from_slice_get (froms es) a from 0 (slice_get-map (λ (e : Ends). e.from) es a
    ∙ ap (option_map (λ (e : Ends). e.from)) h)

to_at : (es : List Ends) (a from to : ℕ) → slice_get es a ≡ Some (end_at from to) → slice_index (tos es) a ≡ to
to_at es a from to h = get_or_from_slice_get (tos es) a to 0 (slice_get-map (λ (e : Ends). e.to) es a
    ∙ ap (option_map (λ (e : Ends). e.to)) h)

-- the ends of a basin
pub laid_ends : (b : Basin) (es : List Ends) (c : Contents) → AreEnds b es →
    c.nodes ≡ length b.nodes → c.from ≡ froms es → c.to ≡ tos es → HasBasinEnds b (network c)
laid_ends b es c laid nodes from to = record {
  nodes = nodes;
  arcs = omega (arith, ap length from, length-map es (λ (e : Ends). e.from), laid.count);
  link_from = λ e l. ap (λ (xs : List ℕ). slice_index xs e) from ∙ from_at es e _ _ (laid.link e l);
  link_to = λ e l. ap (λ (xs : List ℕ). slice_index xs e) to ∙ to_at es e _ _ (laid.link e l);
  take_from = λ r l h. of_node r l (taking_node b r) refl h;
  take_to = λ r l h. to_outside r l (taking_node b r) refl h;
  out_from = λ n l h. ap (λ (xs : List ℕ). slice_index xs (out_arc b n)) from
      ∙ from_at es (out_arc b n) _ _ (laid.out n l h);
  out_to = λ n l h. ap (λ (xs : List ℕ). slice_index xs (out_arc b n)) to ∙ to_at es (out_arc b n) _ _ (laid.out n l h);
}
  where
    of_node : (r : ℕ) → r < length b.rights → (o : Option ℕ) → taking_node b r ≡ o → is_some o ≡ true →
        taking_node b r ≡ Some (slice_index c.from (take_arc b r))
    of_node r l None e h = cc
    of_node r l (Some v) e h = e
        ∙ ap Some (sym (ap (λ (xs : List ℕ). slice_index xs (take_arc b r)) from
        ∙ from_at es (take_arc b r) _ _ (laid.take r v l e)))

    to_outside : (r : ℕ) → r < length b.rights → (o : Option ℕ) → taking_node b r ≡ o → is_some o ≡ true →
        slice_index c.to (take_arc b r) ≡ length b.nodes
    to_outside r l None e h = cc
    to_outside r l (Some v) e h = ap (λ (xs : List ℕ). slice_index xs (take_arc b r)) to
        ∙ to_at es (take_arc b r) _ _ (laid.take r v l e)

-- the ends are nodes and differ
pub laid_fits : (b : Basin) (es : List Ends) (nodes : ℕ) → nodes ≡ length b.nodes →
    ((e : ℕ) → e < length b.links → (tail_of b e < length b.nodes) × (head_of b e < length b.nodes)) →
    ((e : ℕ) → e < length b.links → tail_of b e ≢ head_of b e) → AreKinds b → AreEnds b es →
    All (λ e. (e.from ≤ nodes) × (e.to ≤ nodes) × (e.from ≢ e.to)) es
laid_fits b es nodes is within apart kinds laid a d l = of_arc a d (arc_is b a (let s = laid.count in omega arith))
  where
    at : (a : ℕ) (d : Ends) (from to : ℕ) → slice_get es a ≡ Some (end_at from to) → from < nodes → to ≤ nodes →
        from ≢ to →
        (get_or es a d).from ≤ nodes × (get_or es a d).to ≤ nodes × ((get_or es a d).from ≢ (get_or es a d).to)
    at a d from to h f t ne =
        let e = get_or_from_slice_get es a (end_at from to) d h in
        subst (λ (x : Ends). (x.from ≤ nodes) × (x.to ≤ nodes) × (x.from ≢ x.to)) (sym e) (omega arith, t, ne)

    of_arc : (a : ℕ) (d : Ends) → IsArc b a →
        (get_or es a d).from ≤ nodes × (get_or es a d).to ≤ nodes × ((get_or es a d).from ≢ (get_or es a d).to)
    of_arc a d (is_link k) =
        let e = within a k in
        at a d (tail_of b a) (head_of b a) (laid.link a k) (let t = e.0 in omega arith) (let h = e.1 in
        omega arith) (apart a k)
    of_arc a d (is_take r k h e) =
        subst (λ a. (get_or es a d).from ≤ nodes × (get_or es a d).to ≤ nodes
        × ((get_or es a d).from ≢ (get_or es a d).to)) e (of_kind (kinds r k))
      where
        of_kind : IsKind b r →
            (get_or es (take_arc b r) d).from ≤ nodes × (get_or es (take_arc b r) d).to ≤ nodes
            × ((get_or es (take_arc b r) d).from ≢ (get_or es (take_arc b r) d).to)
        of_kind (on_link f m i t) = absurd (let s = sym (ap is_some t) ∙ h in cc (s))
        of_kind (at_node v m i t) =
            at (take_arc b r) d v (length b.nodes) (laid.take r v k t) (omega arith) (omega arith)
            (λ s. absurd (omega arith))
    of_arc a d (is_out n k h e) =
        subst (λ a. (get_or es a d).from ≤ nodes × (get_or es a d).to ≤ nodes
        × ((get_or es a d).from ≢ (get_or es a d).to)) e
        (at (out_arc b n) d n (length b.nodes) (laid.out n k h) (omega arith) (omega arith) (λ s. absurd (omega arith)))

-- no link leads back to its tail
pub links_apart : (b : Basin) → IsValidBasin b → (e : ℕ) → e < length b.links → tail_of b e ≢ head_of b e
links_apart b valid e l = λ s. let up = (ranks b valid).forward.runs e l in let q = ap (ranks b valid).rank s in
    absurd (omega arith)

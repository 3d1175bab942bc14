-- The sums over a set's nodes and their rows are those of its bound.
use Rattle.std.proofs.Common.{◌≡◌, ℕ, ◌+◌, ◌*◌, ◌^◌, ◌<◌, ◌≤◌, Bool, true, false, refl, sym, ap, ap₂, ◌∙◌, arith, List}
use Rattle.std.proofs.Common.{length, subst}
use Rattle.std.specs.Prelude.{slice_index, slice_index_or, Option, Some, None, is_some, unwrap_or, option_map, All}
use Rattle.std.specs.Prelude.{not, ◌&&◌, ◌==◌, if◌then◌else◌}
use Rattle.std.proofs.lemmas.Bool.{eq-eqb, ne_eqb}
use Rattle.finite_sums.specs.Sums.{total, total_where, when}
use Rattle.finite_sums.proofs.Totals.{total_same, total_zero, total_add, total_exchange, total_pick, total_where_most}
use Rattle.water_text.specs.Months.{IsMonth}
use Rattle.water_text.specs.declared.month.Month.{Month}
use Rattle.water_model.specs.Basin.{is_at, is_on_link, is_senior, tail_of, head_of, taking_node}
use Rattle.water_model.specs.Basin.{node_of_reservoir, taking_node_of_kind}
use Rattle.water_model.specs.Cuts.{enters, leaves, kept_on, node_within, takes_within, cut_capacity, cut_kept}
use Rattle.water_model.specs.Cuts.{supply_within, carry_into, kept_leaving, kept_within}
use Rattle.water_model.specs.Lookups.{has}
use Rattle.water_model.specs.Plans.{carry_of}
use Rattle.water_model.specs.Valid.{IsValidBasin, IsValidReservoir, HasValidSite}
use Rattle.water_model.specs.declared.types.RightKind.{RightKind}
use Rattle.water_model.specs.declared.types.RightKind.TheVariants.{Diversion, Instream, Zone}
use Rattle.water_model.specs.declared.types.Basin.{Basin}
use Rattle.water_model.proofs.Carries.{carry_most}
use Rattle.water_model.proofs.Valid.{ends, entry_holds, kind_is}
use Rattle.water_model.proofs.Wants.{entry_most}
use Rattle.rights_roll.specs.RollView.{RollView}
use Rattle.rights_roll.specs.Rolls.{IsRollOf, IsNextOn}
use Rattle.cut_cert.specs.Rows.{begins_at, brought_to, carry_in, ends_at, held_at, kept_from, kept_out}
use Rattle.cut_cert.specs.Rows.{node_capacity, node_kept, senior_take, taken_at}
use Rattle.cut_cert.specs.Sets.{AreAmounts}
use Rattle.cut_cert.proofs.Bounds.{kept_most, some_of_all}
use Rattle.cut_cert.proofs.Chain.{kept_start, kept_all}
use Rattle.cut_cert.proofs.RowSums.{when_most}

-- Sums over rows.

when-total : (t : Bool) (m : ℕ) (f : ℕ → ℕ) → when t (total m f) ≡ total m (λ e. when t (f e))
when-total true m f = refl
when-total false m f = sym (total_zero m (λ e. 0) (λ k l. refl))

when-zero : (t : Bool) → when t 0 ≡ 0
when-zero true = refl
when-zero false = refl

-- over the nodes in a set, the one to which an index belongs
at_index : (n x : ℕ) (cut : List Bool) (o : Option ℕ) → ((v : ℕ) → o ≡ Some v → v < n) →
    total n (λ v. when (has cut v) (when (is_at o v) x)) ≡ when (node_within o cut) x
at_index n x cut None within = total_zero n (λ v. when (has cut v) 0) (λ v l. when-zero (has cut v))
at_index n x cut (Some k) within =
    total_pick n k (λ v. when (has cut v) (when (k == v) x)) (within k refl)
    (λ v c ne. ap (λ (t : Bool). when (has cut v) (when t x)) (ne_eqb k v (λ e. ne (sym e))) ∙ when-zero (has cut v))
    ∙ ap (λ (t : Bool). when (has cut k) (when t x)) (eq-eqb k k refl)

-- the sums over the rows of a set's nodes are a sum over the indices that belong to a node of the set
pub by_rows : (n m : ℕ) (cut : List Bool) (node_of : ℕ → Option ℕ) (f : ℕ → ℕ) →
    ((e v : ℕ) → e < m → node_of e ≡ Some v → v < n) →
    total_where n (λ v. has cut v) (λ v. total_where m (λ e. is_at (node_of e) v) f)
    ≡ total_where m (λ e. node_within (node_of e) cut) f
by_rows n m cut node_of f within =
    total_same n _ _ (λ v l. when-total (has cut v) m (λ e. when (is_at (node_of e) v) (f e)))
    ∙ total_exchange n m (λ v e. when (has cut v) (when (is_at (node_of e) v) (f e)))
    ∙ total_same m _ _ (λ e l. at_index n (f e) cut (node_of e) (λ v h. within e v l h))

-- two tests, one after the other
both_tests : (p q : Bool) (x : ℕ) → when p (when q x) ≡ when (p && q) x
both_tests true q x = refl
both_tests false q x = refl

-- a sum of two parts
pub two_parts : (n : ℕ) (p : ℕ → Bool) (f g : ℕ → ℕ) →
    total_where n p (λ k. f k + g k) ≡ total_where n p f + total_where n p g
two_parts n p f g =
    total_same n _ _ (λ k l. parts (p k) (f k) (g k)) ∙ total_add n (λ k. when (p k) (f k)) (λ k. when (p k) (g k))
  where
    parts : (t : Bool) (x y : ℕ) → when t (x + y) ≡ when t x + when t y
    parts true x y = refl
    parts false x y = refl

-- The ends of links, and the nodes at which rights take.

same_some : (x y : ℕ) → Some x ≡ Some y → x ≡ y
same_some x y e = cc

tail_inside : (b : Basin) → IsValidBasin b → (e v : ℕ) → e < length b.links → Some (tail_of b e) ≡ Some v →
    v < length b.nodes
tail_inside b valid e v l is = subst (λ u. u < length b.nodes) (same_some (tail_of b e) v is) (ends b valid e l).0

head_inside : (b : Basin) → IsValidBasin b → (e v : ℕ) → e < length b.links → Some (head_of b e) ≡ Some v →
    v < length b.nodes
head_inside b valid e v l is = subst (λ u. u < length b.nodes) (same_some (head_of b e) v is) (ends b valid e l).1

taker_inside : (b : Basin) → IsValidBasin b → (s v : ℕ) → s < length b.rights → taking_node b s ≡ Some v →
    v < length b.nodes
taker_inside b valid s v l is = let k = kind_is b valid s l in by_kind k.kind (sym k.node ∙ is) k.site
  where
    by_kind : (kind : RightKind) → taking_node_of_kind b kind ≡ Some v → HasValidSite b kind → v < length b.nodes
    by_kind (Diversion node) e site = subst (λ u. u < length b.nodes) (same_some node v e) site
    by_kind (Instream link) e site = let none : None ≡ Some v = e in cc
    by_kind (Zone reservoir level) e site =
        let entry = entry_holds (λ r. IsValidReservoir b r) b.reservoirs reservoir valid.reservoirs site.0 in
        let at : node_of_reservoir b reservoir ≡ Some entry.0.node =
        ap (λ o. unwrap_or (option_map (λ x. Some x.node) o) None) entry.1 in
        subst (λ u. u < length b.nodes) (same_some entry.0.node v (sym at ∙ e)) entry.2.node

-- What can come in.

pub carried : (b : Basin) (month : Month) (cut : List Bool) → IsValidBasin b →
    total_where (length b.nodes) (λ n. has cut n) (brought_to b month cut)
    ≡ carry_into b (carry_of b month) cut
carried b month cut valid =
    by_rows (length b.nodes) (length b.links) cut (ends_at b) (carry_in b month cut)
    (head_inside b valid)
    ∙ total_same (length b.links) _ _
    (λ e l. both_tests (has cut (head_of b e)) (not (has cut (tail_of b e))) (carry_of b month e))

pub capacity_by_node : (b : Basin) (month : Month) (supply : List ℕ) (cut : List Bool) → IsValidBasin b →
    total_where (length b.nodes) (λ n. has cut n) (node_capacity b month supply cut)
    ≡ cut_capacity b (carry_of b month) supply cut
capacity_by_node b month supply cut valid =
    two_parts (length b.nodes) (λ n. has cut n) (λ n. slice_index supply n) (brought_to b month cut)
    ∙ ap (λ t. supply_within b supply cut + t) (carried b month cut valid)

pub capacity_small : (b : Basin) (month : Month) (supply delivered : List ℕ) (cut : List Bool) → IsValidBasin b →
    IsMonth month → AreAmounts b supply delivered → cut_capacity b (carry_of b month) supply cut < 4001 * 10 ^ 15
capacity_small b month supply delivered cut valid is amounts =
    omega (
      arith,
      valid.bounded.links,
      amounts.small,
      some_of_all (length b.nodes) (λ n. has cut n) (λ n. slice_index supply n),
      total_where_most (length b.links) (10 ^ 15) (λ e. enters b cut e) (λ e. carry_of b month e)
          (λ e l. carry_most b month e valid is l),
    )

-- What is kept.

pub held_out : (b : Basin) (delivered : List ℕ) (right : ℕ) (cut : List Bool) → IsValidBasin b →
    total_where (length b.nodes) (λ n. has cut n) (kept_from b delivered right cut)
    ≡ kept_leaving b delivered right cut
held_out b delivered right cut valid =
    by_rows (length b.nodes) (length b.links) cut (begins_at b) (kept_out b delivered right cut)
    (tail_inside b valid)
    ∙ total_same (length b.links) _ _
    (λ e l. three_tests (has cut (tail_of b e)) (not (has cut (head_of b e))) (not (is_on_link b right e))
    (kept_on b delivered right e))
  where
    three_tests : (p q r : Bool) (x : ℕ) → when p (when (q && r) x) ≡ when ((p && q) && r) x
    three_tests true q r x = refl
    three_tests false q r x = refl

pub taken_within : (b : Basin) (delivered : List ℕ) (right : ℕ) (cut : List Bool) → IsValidBasin b →
    total_where (length b.nodes) (λ n. has cut n) (taken_at b delivered right)
    ≡ kept_within b delivered right cut
taken_within b delivered right cut valid =
    by_rows (length b.nodes) (length b.rights) cut (taking_node b) (senior_take b delivered right)
    (taker_inside b valid)
    ∙ total_same (length b.rights) _ _
    (λ s l. both_tests (takes_within b cut s) (is_senior b s right) (slice_index delivered s))

pub kept_by_node : (b : Basin) (delivered : List ℕ) (right : ℕ) (cut : List Bool) → IsValidBasin b →
    total_where (length b.nodes) (λ n. has cut n) (node_kept b delivered right cut) ≡ cut_kept b delivered right cut
kept_by_node b delivered right cut valid =
    two_parts (length b.nodes) (λ n. has cut n) (kept_from b delivered right cut) (taken_at b delivered right)
    ∙ ap₂ (λ s t. s + t) (held_out b delivered right cut valid) (taken_within b delivered right cut valid)

pub kept_small : (b : Basin) (delivered : List ℕ) (right : ℕ) (cut : List Bool) → IsValidBasin b →
    All (λ d. d ≤ 10 ^ 9) delivered → cut_kept b delivered right cut ≤ 6000 * 10 ^ 9
kept_small b delivered right cut valid most =
    omega (
      arith,
      valid.bounded.links,
      valid.bounded.rights,
      total_where_most (length b.links) (10 ^ 9) (λ e. leaves b cut e && not (is_on_link b right e))
          (λ e. kept_on b delivered right e) (λ e l. kept_most b delivered right e (10 ^ 9) most),
      total_where_most (length b.rights) (10 ^ 9) (λ s. takes_within b cut s && is_senior b s right)
          (λ s. slice_index delivered s) (λ s l. entry_most delivered (10 ^ 9) s most),
    )

-- links without an instream right keep nothing
pub all_held : (b : Basin) (roll : RollView) (delivered : List ℕ) (right : ℕ) (cut : List Bool) (node : ℕ) →
    IsRollOf b.rights roll →
    total_where (length b.links) (λ e. is_at (held_at b roll e) node) (kept_out b delivered right cut)
    ≡ kept_from b delivered right cut node
all_held b roll delivered right cut node is =
    total_same (length b.links) _ _ (λ e l. by_first e (slice_index_or roll.first_on e None) (is.firsts e))
  where
    keeps_none : (e : ℕ) → IsNextOn b.rights e 0 None → 0 ≡ kept_on b delivered right e
    keeps_none e none = kept_all b delivered right e 0 (kept_start b delivered right e None none)

    nothing : (s t : Bool) (x : ℕ) → 0 ≡ x → 0 ≡ when s (when t x)
    nothing true true x h = h
    nothing true false x h = refl
    nothing false t x h = refl

    by_first : (e : ℕ) (o : Option ℕ) → IsNextOn b.rights e 0 o →
        when (is_at (if is_some o then begins_at b e else None) node) (kept_out b delivered right cut e)
        ≡ when (is_at (begins_at b e) node) (kept_out b delivered right cut e)
    by_first e None none =
        nothing (is_at (begins_at b e) node) (not (has cut (head_of b e)) && not (is_on_link b right e))
        (kept_on b delivered right e) (keeps_none e none)
    by_first e (Some holder) some = refl

-- The terms of these sums are small.

pub carry_in_most : (b : Basin) (month : Month) (cut : List Bool) (e : ℕ) → IsValidBasin b → IsMonth month →
    e < length b.links → carry_in b month cut e ≤ 10 ^ 15
carry_in_most b month cut e valid is l =
    when_most (not (has cut (tail_of b e))) (carry_of b month e) (10 ^ 15) (carry_most b month e valid is l)

pub kept_out_most : (b : Basin) (delivered : List ℕ) (right : ℕ) (cut : List Bool) (e : ℕ) →
    All (λ d. d ≤ 10 ^ 9) delivered → kept_out b delivered right cut e ≤ 10 ^ 9
kept_out_most b delivered right cut e most =
    when_most (not (has cut (head_of b e)) && not (is_on_link b right e)) (kept_on b delivered right e) (10 ^ 9)
    (kept_most b delivered right e (10 ^ 9) most)

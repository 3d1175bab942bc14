-- A cut of a short right is tight exactly where it leaves no slack.
use Rattle.std.proofs.Common.{◌≡◌, ℕ, ◌+◌, ◌<◌, ◌≤◌, Bool, true, false, refl, sym, ◌∙◌, ap, arith, List, length, inl}
use Rattle.std.proofs.Common.{inr}
use Rattle.std.proofs.lemmas.Bool.{and_from, and_parts, eq-eqb, eqb-true, ltb-true, ne_eqb}
use Rattle.std.proofs.lemmas.Bool.{false_from_ne_true, and_right, not-true, eqb-false}
use Rattle.std.specs.Prelude.{◌==◌, slice_index, ◌&&◌, not, Option, Some, None, min, if◌then◌else◌, nat_lt}
use Rattle.finite_sums.specs.Sums.{total_where}
use Rattle.finite_sums.proofs.Totals.{total_same, total_pick, total_where_le, greatest_where_le}
use Rattle.water_model.specs.Lookups.{has}
use Rattle.water_model.specs.Basin.{taking_node, instream_link, is_at, is_on_link, is_senior}
use Rattle.water_model.specs.Plans.{delivery_by_link, carry_of}
use Rattle.water_model.specs.Cuts.{enters, leaves, takes_within, kept_on, cut_kept, cut_capacity, IsCut, IsTight}
use Rattle.water_model.specs.Cuts.{separates}
use Rattle.water_model.specs.History.{IsShort}
use Rattle.water_model.specs.declared.types.Basin.{Basin}
use Rattle.water_model.specs.declared.types.MonthRecord.{MonthRecord}
use Rattle.water_model.proofs.Sets.{total_where_none_pass, total_crossing}
use Rattle.duality.proofs.CutBalance.{cut_balance}
use Rattle.duality.proofs.Duality.{delivery_by_take, delivery_le_flow, taking_on_no_link}
use Rattle.water_model.proofs.Seniority.{not_senior_to_itself, senior_total}
use Rattle.duality.proofs.Greatest.{tight_leaves_nothing}
use Rattle.plan_residual.specs.Residual.{HasPlan}
use Rattle.plan_residual.specs.Slack.{HasNoSlack}
use Rattle.plan_residual.specs.Laws.{TightMeansNoSlack}
use Rattle.finite_sums.proofs.Terms.{terms_equal_where, same_where, none_where}

-- what leaves a cut over other links than the right's own, and over its own
abbrev over_others : Basin → ℕ → List Bool → (ℕ → ℕ) → ℕ
over_others b r cut f = total_where (length b.links) (λ e. leaves b cut e && not (is_on_link b r e)) f

abbrev over_own : Basin → MonthRecord → ℕ → List Bool → ℕ
over_own b m r cut =
    total_where (length b.links) (λ e. leaves b cut e && is_on_link b r e) (λ e. slice_index m.plan.flow e)

-- what the right takes in it, and what those take that are neither the right nor senior
abbrev own_take : Basin → MonthRecord → ℕ → List Bool → ℕ
own_take b m r cut =
    total_where (length b.rights) (λ s. takes_within b cut s && s == r) (λ s. slice_index m.plan.take s)

abbrev other_takes : Basin → MonthRecord → ℕ → List Bool → ℕ
other_takes b m r cut =
    total_where (length b.rights) (λ s. (takes_within b cut s && not (s == r)) && not (is_senior b s r))
    (λ s. slice_index m.plan.take s)

abbrev let_out : Basin → MonthRecord → List Bool → ℕ
let_out b m cut = total_where (length b.nodes) (λ n. has cut n) (λ n. slice_index m.plan.out n)

abbrev entering : Basin → List Bool → (ℕ → ℕ) → ℕ
entering b cut f = total_where (length b.links) (λ e. enters b cut e) f

-- no right is senior to itself
not_itself : (b : Basin) (s r : ℕ) → is_senior b s r ≡ true → s == r ≡ false
not_itself b s r h = ne_eqb s r (λ e. let f : is_senior b r r ≡ true = ap (λ k. is_senior b k r) (sym e) ∙ h in
    cc (not_senior_to_itself b r))

-- a right that takes in the set is delivered what it takes
taken_within : (b : Basin) (m : MonthRecord) (cut : List Bool) (s : ℕ) → HasPlan b m → s < length b.rights →
    takes_within b cut s ≡ true → slice_index m.plan.take s ≡ slice_index m.delivered s
taken_within b m cut s given l within =
    sym (given.delivered.each s l ∙ delivery_by_take b m.want m.plan s (taking_on_no_link b cut s within))

-- all takes in the set
takes_split : (b : Basin) (m : MonthRecord) (r : ℕ) (cut : List Bool) → HasPlan b m →
    total_where (length b.rights) (λ s. takes_within b cut s) (λ s. slice_index m.plan.take s)
    ≡ total_where (length b.rights) (λ s. takes_within b cut s && is_senior b s r) (λ s. slice_index m.delivered s)
    + own_take b m r cut + other_takes b m r cut
takes_split b m r cut given =
    let rights : ℕ = length b.rights in
    let take : ℕ → ℕ = λ s. slice_index m.plan.take s in
    let one = total_crossing rights (λ s. takes_within b cut s) (λ s. s == r) take in
    let two =
    total_crossing rights (λ s. takes_within b cut s && not (s == r)) (λ s. is_senior b s r) take in
    let seniors = total_same rights
    (λ s. if (takes_within b cut s && not (s == r)) && is_senior b s r then take s else 0)
    (λ s. if takes_within b cut s && is_senior b s r then slice_index m.delivered s else 0)
    (λ s l. same (takes_within b cut s) (s == r) (is_senior b s r) (take s) (slice_index m.delivered s)
    (not_itself b s r) (λ w. taken_within b m cut s given l w)) in
    omega (arith, one, two, seniors)
  where
    same : (w e t : Bool) (x y : ℕ) → (t ≡ true → e ≡ false) → (w ≡ true → x ≡ y) →
        (if (w && not e) && t then x else 0) ≡ (if w && t then y else 0)
    same false e t x y h i = refl
    same true true true x y h i = let no = h refl in cc
    same true false true x y h i = i refl
    same true true false x y h i = refl
    same true false false x y h i = refl

-- the slack of a cut, part by part
slack_parts : (b : Basin) (m : MonthRecord) (r : ℕ) (cut : List Bool) → HasPlan b m → length cut ≡ length b.nodes →
    cut_capacity b (carry_of b m.month) m.supply cut + entering b cut (λ e. slice_index m.plan.flow e)
    + over_others b r cut (λ e. kept_on b m.delivered r e)
    ≡ cut_kept b m.delivered r cut + entering b cut (λ e. carry_of b m.month e)
    + over_others b r cut (λ e. slice_index m.plan.flow e)
    + over_own b m r cut + own_take b m r cut + other_takes b m r cut + let_out b m cut
slack_parts b m r cut given len =
    omega (
      arith,
      cut_balance b (λ e. carry_of b m.month e) m.supply m.want m.plan cut given.plan len,
      total_crossing (length b.links) (λ e. leaves b cut e) (λ e. is_on_link b r e) (λ e. slice_index m.plan.flow e),
      takes_split b m r cut given,
    )

-- what a short right is delivered leaves its cut
own_part : (b : Basin) (m : MonthRecord) (r : ℕ) (cut : List Bool) → HasPlan b m → r < length b.rights → IsShort m r →
    IsCut b r cut → over_own b m r cut + own_take b m r cut ≡ slice_index m.delivered r
own_part b m r cut given l short is_cut = of_link (instream_link b r) refl is_cut.separates
  where
    itself : (n : ℕ) → n == n ≡ true
    itself n = eq-eqb n n refl

    of_link : (o : Option ℕ) → instream_link b r ≡ o → separates b (taking_node b r) o cut ≡ true →
        over_own b m r cut + own_take b m r cut ≡ slice_index m.delivered r
    of_link None h within =
        let links = total_where_none_pass (length b.links) (λ e. leaves b cut e && is_on_link b r e)
        (λ e. slice_index m.plan.flow e)
        (λ e k. and_right (leaves b cut e) (is_on_link b r e) (ap (λ o. is_at o e) h)) in
        let pick = total_pick (length b.rights) r
        (λ s. if takes_within b cut s && s == r then slice_index m.plan.take s else 0) l
        (λ s k ne. ap (λ t. if t then slice_index m.plan.take s else 0)
        (and_right (takes_within b cut s) (s == r) (ne_eqb s r ne))) in
        let here : (if takes_within b cut r && r == r then slice_index m.plan.take r else 0) ≡ slice_index
        m.plan.take r =
        ap (λ t. if t then slice_index m.plan.take r else 0) (and_from (takes_within b cut r) (r == r) within
        (itself r)) in
        let got = given.delivered.each r l ∙ delivery_by_take b m.want m.plan r h in
        omega (arith, links, pick, here, got)
    of_link (Some link) h apart =
        let parts = and_parts (nat_lt link (length b.links)) (leaves b cut link) apart in
        let below : link < length b.links = ltb-true link (length b.links) parts.0 in
        let takes = total_where_none_pass (length b.rights) (λ s. takes_within b cut s && s == r)
        (λ s. slice_index m.plan.take s)
        (λ s k. false_from_ne_true (takes_within b cut s && s == r) (λ both. no_take s both)) in
        let pick = total_pick (length b.links) link
        (λ e. if leaves b cut e && is_on_link b r e then slice_index m.plan.flow e else 0) below
        (λ e k ne. ap (λ t. if t then slice_index m.plan.flow e else 0)
        (and_right (leaves b cut e) (is_on_link b r e) (ap (λ o. is_at o e) h ∙ ne_eqb link e (λ q. ne (sym q))))) in
        let here : (if leaves b cut link && is_on_link b r link then slice_index m.plan.flow link else 0)
        ≡ slice_index m.plan.flow link =
        ap (λ t. if t then slice_index m.plan.flow link else 0)
        (and_from (leaves b cut link) (is_on_link b r link) parts.1 (ap (λ o. is_at o link) h ∙ itself link)) in
        let got : slice_index m.delivered r ≡ min (slice_index m.want r) (slice_index m.plan.flow link) =
        given.delivered.each r l ∙ ap (λ o. delivery_by_link o (slice_index m.want r) m.plan r) h in
        omega (arith, takes, pick, here, got, short)
      where
        no_take : (s : ℕ) → takes_within b cut s && s == r ≡ true → ⊥
        no_take s both =
            let parts = and_parts (takes_within b cut s) (s == r) both in
            let same : s ≡ r = eqb-true s r parts.1 in
            let none : instream_link b s ≡ None = taking_on_no_link b cut s parts.0 in
            let some : instream_link b s ≡ Some link = ap (instream_link b) same ∙ h in
            cc

-- what is kept on a link flows on it
pub kept_le_flow : (b : Basin) (m : MonthRecord) (r e : ℕ) → HasPlan b m →
    kept_on b m.delivered r e ≤ slice_index m.plan.flow e
kept_le_flow b m r e given =
    greatest_where_le (length b.rights) (λ s. is_on_link b s e && is_senior b s r) (λ s. slice_index m.delivered s)
    (slice_index m.plan.flow e) one
  where
    one : (s : ℕ) → s < length b.rights → is_on_link b s e && is_senior b s r ≡ true →
        slice_index m.delivered s ≤ slice_index m.plan.flow e
    one s l h = omega (
      arith,
      given.delivered.each s l,
      delivery_le_flow b m.want m.plan s e (and_parts (is_on_link b s e) (is_senior b s r) h).0,
    )

pub no_slack : (b : Basin) (m : MonthRecord) (r : ℕ) (cut : List Bool) → HasPlan b m → r < length b.rights →
    IsShort m r → IsTight b m.month m.supply m.delivered r cut → HasNoSlack b m r cut
no_slack b m r cut given l short tight =
    let parts = slack_parts b m r cut given tight.is_cut.one_each in
    let own = own_part b m r cut given l short tight.is_cut in
    let is = tight.tight in
    let carries = total_where_le (length b.links) (λ e. enters b cut e) (λ e. enters b cut e)
    (λ e. slice_index m.plan.flow e) (λ e. carry_of b m.month e) (λ e k t. (t, given.plan.carries e k)) in
    let kepts = total_where_le (length b.links) (λ e. leaves b cut e && not (is_on_link b r e))
    (λ e. leaves b cut e && not (is_on_link b r e)) (λ e. kept_on b m.delivered r e) (λ e. slice_index m.plan.flow e)
    (λ e k t. (t, kept_le_flow b m r e given)) in
    record {
      full = terms_equal_where (length b.links) (λ e. enters b cut e) (λ e. slice_index m.plan.flow e)
          (λ e. carry_of b m.month e) (λ e k t. given.plan.carries e k) (omega (arith, parts, own, is, carries, kepts));
      held = terms_equal_where (length b.links) (λ e. leaves b cut e && not (is_on_link b r e))
          (λ e. kept_on b m.delivered r e) (λ e. slice_index m.plan.flow e) (λ e k t. kept_le_flow b m r e given)
          (omega (arith, parts, own, is, carries, kepts));
      nothing = tight_leaves_nothing b m.month m.supply m.want m.delivered m.plan r cut l given.plan given.delivered
          tight;
    }

pub tight_by_slack : (b : Basin) (m : MonthRecord) (r : ℕ) (cut : List Bool) → HasPlan b m → r < length b.rights →
    IsShort m r → IsCut b r cut → HasNoSlack b m r cut → IsTight b m.month m.supply m.delivered r cut
tight_by_slack b m r cut given l short is_cut none = record {
  is_cut = is_cut;
  tight = omega (
    arith,
    slack_parts b m r cut given is_cut.one_each,
    own_part b m r cut given l short is_cut,
    same_where (length b.links) (λ e. enters b cut e) (λ e. slice_index m.plan.flow e) (λ e. carry_of b m.month e)
        none.full,
    same_where (length b.links) (λ e. leaves b cut e && not (is_on_link b r e)) (λ e. kept_on b m.delivered r e)
        (λ e. slice_index m.plan.flow e) none.held,
    none_where (length b.rights) (λ s. (takes_within b cut s && not (s == r)) && not (is_senior b s r))
        (λ s. slice_index m.plan.take s) junior,
    none_where (length b.nodes) (λ n. has cut n) (λ n. slice_index m.plan.out n) (λ n k h. none.nothing.outlets n h),
  );
}
  where
    junior : (s : ℕ) → s < length b.rights →
        (takes_within b cut s && not (s == r)) && not (is_senior b s r) ≡ true → slice_index m.plan.take s ≡ 0
    junior s k h =
        let outer = and_parts (takes_within b cut s && not (s == r)) (not (is_senior b s r)) h in
        let inner = and_parts (takes_within b cut s) (not (s == r)) outer.0 in
        elim (senior_total b.rights given.valid.roll.strict r s l k
        (λ e. eqb-false s r (not-true (s == r) inner.1) (sym e))) [
          | inl senior ↦ none.nothing.juniors s k inner.0 senior
          | inr above ↦ absurd (let no = not-true (is_senior b s r) outer.1 in cc)
        ]

pub tight_means_no_slack : TightMeansNoSlack
tight_means_no_slack b m r cut given l short = (
  λ tight. (tight.is_cut, no_slack b m r cut given l short tight),
  λ both. tight_by_slack b m r cut given l
      short both.0 both.1,
)

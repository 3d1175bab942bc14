-- What the sets of a history say: who gets nothing in them, and that nothing outside helps.
use Rattle.std.proofs.Common.{◌≡◌, ℕ, ◌<◌, Bool, true, false, ◌∙◌, arith, List, length, inl, inr, subst}
use Rattle.std.proofs.Common.{refl}
use Rattle.std.proofs.lemmas.Bool.{cases_lt}
use Rattle.std.proofs.lemmas.Bool.Decides.{nat_tests}
use Rattle.std.specs.Prelude.{slice_index, Option, Some, None}
use Rattle.std.specs.Option.{option_map_or}
use Rattle.water_model.specs.Basin.{is_senior}
use Rattle.water_model.specs.Plans.{carry_of}
use Rattle.water_model.specs.Cuts.{IsTight, takes_within}
use Rattle.water_model.specs.History.{Follows, calls, cut_of}
use Rattle.duality.specs.Laws.{LeavesNothing, HistoriesLeaveNothing, CalledRightsGetNothing, CutsLetNothingOutsideHelp}
use Rattle.water_model.specs.declared.types.Basin.{Basin}
use Rattle.water_model.specs.declared.types.Series.{Series}
use Rattle.water_model.specs.declared.types.MonthRecord.{MonthRecord}
use Rattle.duality.proofs.Duality.{cut_slack, taking_on_no_link, delivery_by_take}
use Rattle.duality.proofs.Greatest.{tight_leaves_nothing}

-- the set that a record has of a right is a tight cut of it
pub set_is_tight : {b : Basin} {series : Series} {before : List MonthRecord} {m : MonthRecord} →
    Follows b series before m → (r : ℕ) → r < length b.rights → (cut : List Bool) → cut_of m r ≡ Some cut →
    IsTight b m.month m.supply m.delivered r cut
set_is_tight {b} {series} {before} {m} follows r l cut is =
    elim (cases_lt (slice_index m.delivered r) (slice_index m.want r)) [
      | inl short ↦ (let other = follows.short r l short in
          let same : other.0 ≡ cut = cc (other.1, is) in
          subst (λ (set : List Bool). IsTight b m.month m.supply m.delivered r set) same other.2)
      | inr met ↦ absurd (cc (follows.met r l met, is))
    ]

pub record_leaves_nothing : {b : Basin} {series : Series} {before : List MonthRecord} {m : MonthRecord} →
    Follows b series before m → (r : ℕ) → r < length b.rights → (cut : List Bool) → cut_of m r ≡ Some cut →
    LeavesNothing b m.plan r cut
record_leaves_nothing {b} {series} {before} {m} follows r l cut is =
    tight_leaves_nothing b m.month m.supply m.want m.delivered m.plan r cut l follows.after.plan
    (record { each = follows.after.delivered }) (set_is_tight follows r l cut is)

pub histories_leave_nothing : HistoriesLeaveNothing
histories_leave_nothing b series records history i m at = record_leaves_nothing (history.each i m at)

called_in_record : {b : Basin} {series : Series} {before : List MonthRecord} {m : MonthRecord} →
    Follows b series before m → (r caller : ℕ) → r < length b.rights → caller < length b.rights →
    calls b m r caller ≡ true → slice_index m.delivered r ≡ 0
unfolding calls
called_in_record {b} {series} {before} {m} follows r caller l k is_called =
    by_set (cut_of m caller) (record_leaves_nothing follows caller k) found.1
  where
    -- the caller is senior, and its set holds the right's node
    found : (is_senior b caller r ≡ true) × (option_map_or (λ cut. takes_within b cut r) (cut_of m caller) false ≡ true)
    found = (grind (arith, nat_tests), grind (arith, nat_tests))

    by_set : (o : Option (List Bool)) → ((cut : List Bool) → o ≡ Some cut → LeavesNothing b m.plan caller cut) →
        option_map_or (λ cut. takes_within b cut r) o false ≡ true → slice_index m.delivered r ≡ 0
    by_set None leaves h = cc
    by_set (Some cut) leaves h =
        follows.after.delivered r l
        ∙ (delivery_by_take b m.want m.plan r (taking_on_no_link b cut r h) ∙ (leaves cut refl).juniors r l h found.0)

pub called_rights_get_nothing : CalledRightsGetNothing
called_rights_get_nothing b series records history i m at = called_in_record (history.each i m at)

pub cuts_let_nothing_outside_help : CutsLetNothingOutsideHelp
cuts_let_nothing_outside_help b series records history i m at r l cut is supply' want' q plan agrees serves =
    let tight = set_is_tight (history.each i m at) r l cut is in
    omega (
      arith,
      tight.tight,
      cut_slack b (carry_of b m.month) m.supply m.delivered r cut supply' want' q l tight.is_cut plan
          (λ n k h. agrees.each n h) serves.each,
    )

use Rattle.std.proofs.Common.{◌≡◌, ◌<◌, ◌≤◌, ◌∙◌, ℕ, Bool, List, sym, subst, slice_index, arith, inl, inr}
use Rattle.std.specs.Prelude.{Some, None}
use Rattle.water_text.specs.declared.month.Month.{Month}
use Rattle.water_model.specs.Cuts.{IsTight, IsReach}
use Rattle.water_model.specs.CutSets.{CutSets, set_of}
use Rattle.water_model.specs.declared.types.Basin.{Basin}
use Rattle.senior_hold.specs.Laws.{SolvedMonthsFollow}
use Rattle.senior_hold.specs.Solved.{IsMetOrReached}
use Rattle.senior_hold.proofs.laws.solved_months_follow.Goals as goal

short : (b : Basin) (month : Month) (supply want delivered : List ℕ) (cuts : CutSets) (r : ℕ) →
    slice_index delivered r < slice_index want r → IsMetOrReached b month supply want delivered cuts r →
    (cut : List Bool) × (set_of cuts r ≡ Some cut) × IsTight b month supply delivered r cut
short b month supply want delivered cuts r less (inl met) = absurd (let enough = met.0 in omega arith)
short b month supply want delivered cuts r less (inr settled) = (settled.1.0, settled.1.1.0, settled.1.1.1.is_tight)

met : (b : Basin) (month : Month) (supply want delivered : List ℕ) (cuts : CutSets) (r : ℕ) →
    slice_index want r ≤ slice_index delivered r → IsMetOrReached b month supply want delivered cuts r →
    set_of cuts r ≡ None
met b month supply want delivered cuts r enough (inl settled) = settled.1
met b month supply want delivered cuts r enough (inr settled) = absurd (let less = settled.0 in omega arith)

reach : (b : Basin) (month : Month) (supply want delivered : List ℕ) (cuts : CutSets) (r : ℕ) (cut : List Bool) →
    set_of cuts r ≡ Some cut → IsMetOrReached b month supply want delivered cuts r →
    IsReach b month supply delivered r cut
reach b month supply want delivered cuts r cut held (inl settled) =
    absurd (let both = sym settled.1 ∙ held in cc (both))
reach b month supply want delivered cuts r cut held (inr settled) =
    let both : Some settled.1.0 ≡ Some cut = sym settled.1.1.0 ∙ held in
    let same : settled.1.0 ≡ cut = cc (both) in
    subst (IsReach b month supply delivered r) same settled.1.1.1

follow : SolvedMonthsFollow
follow b month supply want delivered p cuts solved are = record {
  plan = solved.greatest.plan;
  short = λ r l less. short b month supply want delivered cuts r less (solved.settled delivered are r l);
  met = λ r l enough. met b month supply want delivered cuts r enough (solved.settled delivered are r l);
  reaches = λ r cut l held. reach b month supply want delivered cuts r cut held (solved.settled delivered are r l);
}

pub returns : goal.returns
returns c = follow

-- A comparison grows month by month.
use Rattle.std.proofs.Common.{◌≡◌, ℕ, ◌+◌, ◌≤◌, ◌<◌, refl, sym, ◌∙◌, ap, ap₂, arith, List, [], ◌∷◌, ◌++◌, length}
use Rattle.std.proofs.Common.{length-append}
use Rattle.std.proofs.lemmas.Grind.{flat_map-append}
use Rattle.std.proofs.Math.Nat.{mul-le-mul}
use Rattle.std.specs.List.{flat_map}
use Rattle.water_model.specs.Valid.{IsValidBasin}
use Rattle.water_model.specs.declared.types.Basin.{Basin}
use Rattle.water_model.specs.declared.types.Series.{Series}
use Rattle.water_model.specs.declared.types.MonthRecord.{MonthRecord}
use Rattle.month_fold.specs.Runs.{RunView, RunStandsFor}
use Rattle.injury.specs.Common.{common_rights}
use Rattle.injury.specs.Injuries.{injuries, injuries_of, injured_row, compared_row, comparison_text}
use Rattle.injury.proofs.Growing.{common_bounded, injuries_more, injuries_bounded}
use Rattle.injury.proofs.Put.{injuries-count}
use Rattle.basin_cli.specs.Compared.{AreCompared, IsTextOfComparison}
use Rattle.basin_cli.proofs.Monthly.{whole_run}

-- one month more of both runs
pub compared_more : (b c : Basin) (first second first' second' : RunView) (m n : MonthRecord) (before after : List ℕ)
    (injured count : ℕ)
    (so_far : AreCompared b c first second before injured) → first'.basin ≡ b → second'.basin ≡ c →
    RunStandsFor first' (so_far.records ++ m ∷ []) → RunStandsFor second' (so_far.others ++ n ∷ []) →
    count ≡ length (injuries_of (common_rights b c) m n) →
    after ≡ before ++ flat_map (injured_row b) (injuries_of (common_rights b c) m n) →
    AreCompared b c first' second' after (injured + count)
compared_more b c first second first' second' m n before after injured count so_far same same' stands stands' number
    rows = record {
      first_basin = same;
      second_basin = same';
      records = so_far.records ++ m ∷ [];
      others = so_far.others ++ n ∷ [];
      first_stands = stands;
      second_stands = stands';
      abreast =
          (let e = so_far.abreast in
          omega (arith, length-append so_far.records (m ∷ []), length-append so_far.others (n ∷ [])));
      rows = rows
          ∙ (ap (λ t. t ++ flat_map (injured_row b) (injuries_of (common_rights b c) m n)) so_far.rows
          ∙ (sym (flat_map-append (injured_row b) (injuries b c so_far.records so_far.others)
          (injuries_of (common_rights b c) m n))
          ∙ ap (flat_map (injured_row b)) (sym more)));
      number = omega (
        arith,
        number,
        so_far.number,
        ap length more,
        length-append (injuries b c so_far.records so_far.others) (injuries_of (common_rights b c) m n),
      );
    }
  where
    more : injuries b c (so_far.records ++ m ∷ []) (so_far.others ++ n ∷ []) ≡ injuries b c so_far.records
        so_far.others ++ injuries_of (common_rights b c) m n
    more = injuries_more b c so_far.records so_far.others m n so_far.abreast

-- the two runs stay abreast
pub done_more : (first second : RunView) (records others : List MonthRecord) (m n : MonthRecord) →
    length records ≡ length others →
    RunStandsFor first (records ++ m ∷ []) → RunStandsFor second (others ++ n ∷ []) → second.done ≡ first.done
done_more first second records others m n abreast stands stands' =
    omega (arith, stands.done, stands'.done, length-append records (m ∷ []), length-append others (n ∷ []))

-- the count of injuries stays small
pub bounded_injuries : (b c : Basin) (first second : RunView) (m n : MonthRecord) (bytes : List ℕ) (injured count : ℕ) →
    IsValidBasin b →
    AreCompared b c first second bytes injured → first.done < b.months →
    count ≡ length (injuries_of (common_rights b c) m n) →
    injured + count ≤ 2402000
bounded_injuries b c first second m n bytes injured count valid so_far left number =
    let run = valid.run.months.1 in
    omega (
      arith,
      number,
      so_far.number,
      so_far.first_stands.done,
      injuries-count (common_rights b c) m n,
      injuries_bounded b c so_far.records so_far.others,
      common_bounded b c valid,
      mul-le-mul {n₁ = length so_far.records} {m₁ = length (common_rights b c)} {n₂ = 1200} {m₂ =
          2000} (omega (arith, so_far.first_stands.done)) (common_bounded b c valid),
    )

-- before the first month nobody is injured
pub none_compared : (b c : Basin) (first second : RunView) (bytes : List ℕ) → first.basin ≡ b → second.basin ≡ c →
    RunStandsFor first [] → RunStandsFor second [] → bytes ≡ [] → AreCompared b c first second bytes 0
unfolding injuries
none_compared b c first second bytes same same' stands stands' nothing = record {
  first_basin = same;
  second_basin = same';
  records = [];
  others = [];
  first_stands = stands;
  second_stands = stands';
  abreast = refl;
  rows = nothing;
  number = refl;
}

-- all months of both runs, and the counts
pub whole_comparison : (b c : Basin) (series other : Series) (first second : RunView) (before after : List ℕ)
    (injured : ℕ) →
    first.series ≡ series → second.series ≡ other →
    first.done ≡ b.months → second.done ≡ c.months → AreCompared b c first second before injured →
    after ≡ before ++ compared_row (length (common_rights b c)) injured →
    IsTextOfComparison b c series other after injured
unfolding comparison_text
whole_comparison b c series other first second before after injured fits fits' done done' all ends =
    record {
      records = all.records;
      others = all.others;
      first_keeps = whole_run b series first all.records all.first_basin fits all.first_stands done;
      second_keeps = whole_run c other second all.others all.second_basin fits' all.second_stands done';
      text = ends ∙ ap₂ (λ t n. t ++ compared_row (length (common_rights b c)) n) all.rows all.number;
      number = all.number;
    }

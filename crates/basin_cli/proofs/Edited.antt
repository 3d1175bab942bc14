-- Scripts of changes: how a call that answers one ends, and what it leaves on out.
use Rattle.std.proofs.Common.{◌≡◌, ℕ, ◌+◌, ◌≤◌, refl, sym, ◌∙◌, subst, List, [], ◌∷◌, length, inl, inr, Option}
use Rattle.std.proofs.lemmas.Option.{IfSome_then}
use Rattle.std.specs.Prelude.{IfSome, IsErr, IsOk, Ok, Err, Bool, true, false, if◌then◌else◌, Result, codes}
use Rattle.std.specs.Str.{bytes_eq}
use Rattle.water_edge.specs.Edge.{Output}
use Rattle.edit_script.specs.Lines.{edit_of, inflow_of, want_of}
use Rattle.edit_script.specs.Scripts.{Reading, ended, edits_from, edits_of_lines, in_prefix, lines_of, numbered}
use Rattle.edit_script.specs.Scripts.{script_of}
use Rattle.edit_script.specs.declared.refused.ScriptFault.{ScriptFault}
use Rattle.edit_script.specs.declared.refused.ScriptRefused.TheVariants as refused
use Rattle.water_model.specs.Valid.{IsSeriesOf}
use Rattle.water_model.specs.declared.types.Basin.{Basin}
use Rattle.water_model.specs.declared.types.Series.{Series}
use Rattle.month_fold.specs.Works.{WorkDone}
use Rattle.basin_cli.specs.declared.ending.Ending.{Ending}
use Rattle.basin_cli.specs.declared.ending.Ending.TheVariants as ending
use Rattle.basin_cli.specs.declared.ending.File.{File}
use Rattle.basin_cli.specs.declared.ending.File.TheVariants as file
use Rattle.basin_cli.specs.declared.status.Status.{Status}
use Rattle.basin_cli.specs.declared.status.Status.TheVariants as its
use Rattle.basin_cli.specs.Bytes.{AreSpelled, IsTooLong, KnownFiles, file_limit}
use Rattle.basin_cli.specs.Command.{Files}
use Rattle.basin_cli.specs.Edited.{EditLeaves, EditWork, EditWrites, EndsEditing, HasEditingCause, IsGoodScript}
use Rattle.basin_cli.specs.Edited.{IsScriptRefusedFor, LeavesScript, WorkOfScript}
use Rattle.basin_cli.specs.Series.{AreLoaded, FileEnds}
use Rattle.basin_cli.proofs.Known.{accepted, after, of_both}
use Rattle.basin_cli.proofs.OneSeries.{one_basin}

-- A script asks for the same of two series of a basin: they have their gauges and wants in the same places.
module _ (b : Basin) (series other : Series) (fits : IsSeriesOf b series) (fits' : IsSeriesOf b other) where
  gauged : series.gauged ≡ other.gauged
  gauged = fits.gauged ∙ sym fits'.gauged

  wanted : series.wanted ≡ other.wanted
  wanted = fits.wanted ∙ sym fits'.wanted

  same_edit : (line : List ℕ) → edit_of b series line ≡ edit_of b other line
  unfolding edit_of inflow_of want_of
  same_edit line = rw (gauged, wanted) refl

  same_edits : (number : ℕ) (lines : List (List ℕ)) → edits_from b series number lines ≡ edits_from b other number lines
  unfolding edits_from
  same_edits number [] = refl
  same_edits number (rest ∷ []) = refl
  same_edits number (line ∷ next ∷ lines) =
      by_end (same_edits (number + 1) (next ∷ lines)) (bytes_eq line (codes "done"))
    where
      by_end : edits_from b series (number + 1) (next ∷ lines) ≡ edits_from b other (number + 1) (next ∷ lines) →
          (t : Bool) →
          (if t then ended [] (number + 1) (next ∷ lines) else in_prefix (numbered number (edit_of b series line))
          (edits_from b series (number + 1) (next ∷ lines)))
          ≡ (if t then ended [] (number + 1) (next ∷ lines) else in_prefix (numbered number (edit_of b other line))
          (edits_from b other (number + 1) (next ∷ lines)))
      by_end after true = refl
      by_end after false = rw (same_edit line, after) refl

  same_lines : (lines : List (List ℕ)) → edits_of_lines b series lines ≡ edits_of_lines b other lines
  same_lines [] = refl
  same_lines (rest ∷ []) = refl
  same_lines (line ∷ next ∷ lines) = rw (same_edits 2 (next ∷ lines)) refl

  pub same_script : (text : List ℕ) → script_of b series text ≡ script_of b other text
  unfolding script_of
  same_script text = same_lines (lines_of text)

-- a script that is refused for one series that bytes spell is good for none of them
pub refused_not_good : (bytes s text : List ℕ) (fault : ScriptFault) (line : ℕ) →
    IsScriptRefusedFor fault line bytes s text → IsGoodScript bytes s text → ⊥
refused_not_good bytes s text fault line refusal script =
    let is = refusal.1 in
    let good = script.1 in
    let same : is.basin ≡ good.basin =
    one_basin bytes is.basin good.basin is.spelled.basin_spelled good.spelled.basin_spelled in
    let first : script_of good.basin is.series text ≡ Err (refused.Refused fault line) =
    subst (λ d. script_of d is.series text ≡ Err (refused.Refused fault line)) same is.holds in
    let alike : script_of good.basin is.series text ≡ script_of good.basin good.series text =
    same_script good.basin is.series good.series (subst (λ d. IsSeriesOf d is.series) same is.spelled.fits)
    good.spelled.fits text in
    never_ok (script_of good.basin good.series text) (refused.Refused fault line) (sym alike ∙ first) good.holds
  where
    never_ok : {X Y : Type 0} (r : Result X Y) (y : Y) → r ≡ Err y → IsOk r → ⊥
    never_ok (Ok x) y e h = cc
    never_ok (Err x) y e h = cc

-- After the files of `edit`.
module _ (known : KnownFiles) (files : Files) (b : Basin) (series : Series) (fits : IsSeriesOf b series)
    (loaded : AreLoaded known files b series) (script : List ℕ) where
  -- the cause where the script is not read: `since` says that the shelf's count of faults rose since its inputs were
  -- read
  pub script_cause : (later : Option (List ℕ)) (how : Ending) (since read write : Type 0) → later ≡ known script →
      (since → read) → FileEnds file.Script later since how → HasEditingCause files script how known read write
  script_cause later (ending.ReadFault named) since read write same rose ends =
      subst (λ (f : File). HasEditingCause files script (ending.ReadFault f) known read write) (sym ends.0)
      (rose ends.1, accepted known files b series fits loaded)
  script_cause later (ending.InputTooLong named) since read write same rose ends =
      subst (λ (f : File). HasEditingCause files script (ending.InputTooLong f) known read write) (sym ends.0)
      (after known files b series fits loaded _
      (λ _ _ _. subst (λ (o : Option (List ℕ)). IfSome o IsTooLong) same ends.1))
  script_cause later ending.OutOfMemory since read write same rose ends = tt
  script_cause later other since read write same rose ends = absurd ends

  module _ (text : List ℕ) (is : IfSome (known script) (λ bytes. text ≡ bytes)) where
    -- what is so of the script that was read is so of the known one
    is_known : (P : List ℕ → Type 0) → P text → IfSome (known script) P
    is_known P h = IfSome_then (known script) is (λ bytes same. subst P same h)

    pub editing_cause : (how : Ending) (read write : Type 0) → length text ≤ file_limit →
        EndsEditing b series text how write → HasEditingCause files script how known read write
    editing_cause ending.Done read write within ends = after known files b series fits loaded _ (λ bytes s spelled.
        is_known (IsGoodScript bytes s)
        (within, record { basin = b; series = series; spelled = spelled; holds = ends }))
    editing_cause ending.WriteFault read write within ends = (
      ends.0,
      after known files b series fits loaded _ (λ bytes s spelled. is_known (IsGoodScript bytes s)
          (within, record { basin = b; series = series; spelled = spelled; holds = ends.1 })),
    )
    editing_cause (ending.ScriptRefused fault line) read write within ends =
        after known files b series fits loaded _ (λ bytes s spelled. is_known (IsScriptRefusedFor fault line bytes s)
        (within, record { basin = b; series = series; spelled = spelled; holds = ends }))
    editing_cause ending.OutOfMemory read write within ends = tt
    editing_cause other read write within ends = absurd ends

    -- what is left on out
    pub editing_writes : (status : Status) (old new : Output) → LeavesScript status b series text old new →
        EditWrites known files script status old new
    editing_writes status old new left = of_both known files b series fits loaded _ (λ bytes s spelled.
        is_known (λ t. EditLeaves status bytes s t old new) (by_status status bytes s spelled left))
      where
        by_status : (status : Status) (bytes s : List ℕ) → AreSpelled bytes s b series →
            LeavesScript status b series text old new → EditLeaves status bytes s text old new
        by_status its.OutOfMemory bytes s spelled (inl same) = inl same
        by_status its.OutOfMemory bytes s spelled (inr shows) =
            inr (record { basin = b; series = series; spelled = spelled; holds = shows })
        by_status other bytes s spelled left =
            λ may. record { basin = b; series = series; spelled = spelled; holds = left may }

    -- and the months that were solved
    pub editing_solves : (before now : WorkDone) → WorkOfScript b series text before now →
        EditWork known files script before now
    editing_solves before now solves = of_both known files b series fits loaded _ (λ bytes s spelled.
        is_known (λ t. (c : Basin) (other : Series) → AreSpelled bytes s c other → WorkOfScript c other t before now)
        (same bytes s spelled))
      where
        same : (bytes s : List ℕ) → AreSpelled bytes s b series → (c : Basin) (other : Series) →
            AreSpelled bytes s c other → WorkOfScript c other text before now
        same bytes s spelled c other also =
            let one : b ≡ c = one_basin bytes b c spelled.basin_spelled also.basin_spelled in
            let moved : WorkOfScript c series text before now =
            subst (λ d. WorkOfScript d series text before now) one solves in
            let script : script_of c series text ≡ script_of c other text =
            same_script c series other (subst (λ d. IsSeriesOf d series) one spelled.fits) also.fits text in
            record {
              asked = λ edits reads. moved.asked edits (script ∙ reads);
              refused = λ bad. moved.refused (subst (λ (r : Reading). IsErr r) (sym script) bad);
            }

-- What is found of the bytes of a basin file, a series and a result.
use Rattle.std.proofs.Common.{◌≡◌, ℕ, List, None, refl}
use Rattle.std.specs.Prelude.{Ok, Err}
use Rattle.basin_file.specs.BasinFaults.{file_fault}
use Rattle.cert_check.specs.Standing.{IsAnswer}
use Rattle.cert_check.specs.Whole.{text_verdict}
use Rattle.cert_check.specs.declared.refuted.Refuted.{Refuted}
use Rattle.inflow_file.specs.SeriesFaults.{series_fault}
use Rattle.water_model.specs.declared.types.Basin.{Basin}
use Rattle.water_model.specs.declared.types.Series.{Series}
use Rattle.basin_cli.specs.declared.found.Found.TheVariants as found
use Rattle.basin_cli.specs.Bytes.{AreSpelled}
use Rattle.basin_cli.specs.Found.{AreFaultless, IsFound, RunsAreAccepted, RunsAreAudited}
use Rattle.basin_cli.proofs.Judged.{is_no_text, is_text}

-- what was accepted is faultless
pub faultless : (bytes s : List ℕ) (b : Basin) (series : Series) → file_fault bytes ≡ None →
    AreSpelled bytes s b series → series_fault b s ≡ None → AreFaultless bytes s
faultless bytes s b series sound spelled series_sound = record {
  basin_sound = sound;
  basin = b;
  series = series;
  spelled = spelled;
  series_sound = series_sound;
}

pub accepted_found : (bytes s text : List ℕ) (b : Basin) (series : Series) (months : ℕ) → AreFaultless bytes s →
    AreSpelled bytes s b series → IsAnswer b (Ok months) (text_verdict b series text) →
    IsFound found.Accepted bytes s text
accepted_found bytes s text b series months clean spelled h =
    (clean, is_text bytes s text b series spelled.valid spelled h.0)

pub refuted_found : (bytes s text : List ℕ) (b : Basin) (series : Series) (refuted : Refuted) → AreFaultless bytes s →
    AreSpelled bytes s b series → IsAnswer b (Err refuted) (text_verdict b series text) →
    IsFound found.Refuted bytes s text
refuted_found bytes s text b series refuted clean spelled h =
    (clean, is_no_text bytes s text b series refuted spelled.valid spelled h)

pub runs_are_accepted : RunsAreAccepted
runs_are_accepted bytes s basin records is = record {
  basin = basin;
  series = is.series;
  spelled = is.spelled;
  records = records;
  history = is.keeps.history;
  text = refl;
  greatest = is.keeps.greatest;
  greatest_in_parts = is.keeps.greatest_in_parts;
}

pub runs_are_audited : RunsAreAudited
unfolding runs_are_accepted
runs_are_audited bytes s basin records is =
    record { of_history = runs_are_accepted bytes s basin records is; reaches = is.keeps.reaches }

-- A record of two years, and the text of its traces.
use Rattle.std.proofs.Common.{◌≡◌, ◌++◌, refl, [], ◌∷◌, replicate}
use Rattle.std.specs.Prelude.{None, codes}
use Rattle.std.specs.Fmt.{digits}
use Rattle.std.specs.List.{flat_map}
use Rattle.water_model.specs.Indices.{numbers_from, by_seniority}
use Rattle.water_model.specs.declared.types.Basin.{Basin}
use Rattle.water_model.specs.declared.types.Series.{Series}
use Rattle.water_model.specs.declared.types.RightKind.TheVariants.{Diversion}
use Rattle.water_model.proofs.Worked.{gauge, outlet, river, steady}
use Rattle.index_seq.specs.Entries.{whole_line, fields_of}
use Rattle.index_seq.specs.Text.{ensemble_lines}
use Rattle.index_seq.specs.Traces.{begun_after}

-- a gauge that reads 4 in each month of one year and 12 in each month of the next
abbrev two_years : Series
two_years = record { gauged = 0 ∷ []; amount = replicate 12 4 ++ replicate 12 12; wanted = []; want = [] }

-- begun in the second year
begun_in_second : (begun_after two_years 1).amount ≡ replicate 12 12 ++ replicate 12 4
begun_in_second = refl

abbrev basin : Basin
basin = record {
  format = 1;
  unit = None;
  first = record { year = 1900; month = 1 };
  months = 24;
  year_start = 10;
  nodes = gauge (codes "top") ∷ outlet (codes "mouth") ∷ [];
  links = river (codes "a") 0 1 ∷ [];
  reservoirs = [];
  rights = steady (codes "user") 1900 (Diversion 0) 10 ∷ [];
  returns = [];
  due = [];
  accounts = [];
  draws = [];
}

-- a right that wants 10 a month gets 48 and 120 in the years of the first trace, and 120 and 48 in those of the second
text_of_two : flat_map (whole_line basin) (ensemble_lines basin (λ right. 48 ∷ 120 ∷ 120 ∷ 48 ∷ []))
    ≡ codes "ensemble 1900-01 2\nright user\nyearly 48 2\nyearly 120 2\ndone 2\n"
unfolding whole_line fields_of digits by_seniority numbers_from
text_of_two = refl

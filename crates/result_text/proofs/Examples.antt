-- Texts spelled out.
use Rattle.std.proofs.Common.{◌≡◌, [], ◌∷◌, ◌++◌, refl}
use Rattle.std.specs.Prelude.{codes}
use Rattle.std.specs.Fmt.{digits}
use Rattle.std.specs.List.{flat_map}
use Rattle.result_lines.specs.Spelling.{whole_line, line_of, fields_of}
use Rattle.result_lines.specs.Text.{items_of_tail}
use Rattle.water_model.specs.declared.types.Basin.{Basin}
use Rattle.result_text.specs.Begun.{begun_bytes}

-- the first lines of a run of three months from October 1950
head_of_run : (b : Basin) → b.first ≡ record { year = 1950; month = 10 } → b.months ≡ 3 →
    begun_bytes b [] ≡ codes "river-result 1" ++ 10 ∷ codes "run 1950-10 3" ++ 10 ∷ []
unfolding line_of fields_of digits
head_of_run b first months = rw (first, months) refl

-- and its last line
tail_of_run : (b : Basin) → b.months ≡ 3 → flat_map (whole_line b) (items_of_tail b) ≡ codes "done 3" ++ 10 ∷ []
unfolding line_of fields_of digits
tail_of_run b months = rw months refl

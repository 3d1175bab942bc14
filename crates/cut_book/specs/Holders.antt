-- For whom water is kept on a link.
use Rattle.std.specs.Prelude.{ℕ, Bool, ◌&&◌, ◌==◌, List, find, slice_index, Option, Some, None, if◌then◌else◌}
use Rattle.water_model.specs.Basin.{is_on_link, is_senior}
use Rattle.water_model.specs.Indices.{seniors_first}
use Rattle.water_model.specs.declared.types.Basin.{Basin}

-- whether a right is an instream right on a link that is delivered this amount
abbrev pub holds_amount : Basin → List ℕ → ℕ → ℕ → ℕ → Bool
holds_amount b delivered link amount right = is_on_link b right link && slice_index delivered right == amount

-- the most senior instream right on a link that is delivered this amount, or none
unfoldable pub holder_of : Basin → List ℕ → ℕ → ℕ → Option ℕ
holder_of b delivered link amount = find (holds_amount b delivered link amount) (seniors_first b)

-- the more senior of a right and the one before, if there is one
abbrev pub more_senior : Basin → Option ℕ → ℕ → Option ℕ
more_senior b None right = Some right
more_senior b (Some before) right = if is_senior b right before then Some right else Some before

-- The records of a table of text.
use Rattle.std.specs.Prelude.{◌≡◌, ◌≢◌, ℕ, List, [], ◌∷◌, length, Bool, true, false, ◌&&◌, codes, Option, Some, None}
use Rattle.std.specs.Borrow.{Bor}
use Rattle.std.specs.Str.{bytes_eq}
use Rattle.csv.specs.Reading.{default_config, records, strip_bom}

-- every record of a table by the settings that csv begins with, each as the list of its fields. One byte order mark
-- at the beginning is skipped
unfoldable pub records_of : List ℕ → List (List (List ℕ))
records_of text = records default_config (strip_bom text)

-- the record has exactly the fields `month`, `node` and `amount`
abbrev pub is_header : List (List ℕ) → Bool
is_header (month ∷ node ∷ amount ∷ []) =
    bytes_eq month (codes "month") && (bytes_eq node (codes "node") && bytes_eq amount (codes "amount"))
is_header _ = false

-- the record has exactly the fields `month`, `kind`, `name` and `amount`
abbrev pub is_kind_header : List (List ℕ) → Bool
is_kind_header (month ∷ kind ∷ name ∷ amount ∷ []) =
    (bytes_eq month (codes "month") && bytes_eq kind (codes "kind")) && (bytes_eq name (codes "name") && bytes_eq amount
    (codes "amount"))
is_kind_header _ = false

-- a record after the header of three fields is an inflow
abbrev pub as_inflow : List (List ℕ) → List (List ℕ)
as_inflow (month ∷ name ∷ amount ∷ []) = month ∷ codes "inflow" ∷ name ∷ amount ∷ []
as_inflow _ = []

-- a record after a header with kinds, or without, as one with its kind
abbrev pub with_kind : Bool → List (List ℕ) → List (List ℕ)
with_kind true row = row
with_kind false row = as_inflow row

-- the three fields of a record, or none where it has another number of fields
abbrev pub IsThree : List (List ℕ) → Option (Bor (List ℕ) × Bor (List ℕ) × Bor (List ℕ)) → Type 0
IsThree row None = length row ≢ 3
IsThree row (Some f) = row ≡ f.0.now ∷ f.1.now ∷ f.2.now ∷ []

-- the four fields of a record, or none where it has another number of fields
abbrev pub IsFour : List (List ℕ) → Option (Bor (List ℕ) × Bor (List ℕ) × Bor (List ℕ) × Bor (List ℕ)) → Type 0
IsFour row None = length row ≢ 4
IsFour row (Some f) = row ≡ f.0.now ∷ f.1.now ∷ f.2.now ∷ f.3.now ∷ []

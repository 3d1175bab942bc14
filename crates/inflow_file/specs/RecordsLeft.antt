-- What a reader of records has still to read.
use Rattle.std.specs.Prelude.{◌≡◌, ℕ, ◌+◌, List, [], ◌∷◌, length, Bool, true, false, Option, Some, None}
use Rattle.std.specs.Borrow.{Bor}
use Rattle.csv.specs.Machine.{ends_at_end}
use Rattle.csv.specs.Reading.{Ready, default_config, reader_config, reader_state, reader_trim, records_from, source_of}
use Rattle.csv.specs.declared.parser.State.{State}
use Rattle.csv.specs.declared.reader.Reader.{Reader}
use Rattle.csv.specs.declared.reader.Trim.TheVariants as trim

-- the bytes that a reader of bytes in memory has left
abbrev pub bytes_left : Reader (Bor (List ℕ)) → Option (List ℕ)
bytes_left rdr = source_of (λ s. Some s.now) rdr

abbrev pub records_in : State → Option (List ℕ) → List (List (List ℕ))
records_in state None = []
records_in state (Some bytes) = records_from default_config (length bytes + 1) state bytes

-- the records that it has left
unfoldable pub records_left : Reader (Bor (List ℕ)) → List (List (List ℕ))
records_left rdr = records_in (reader_state rdr) (bytes_left rdr)

-- a reader between two records, which reads with the settings that csv begins with and takes no record as a header
pub record IsReading (rdr : Reader (Bor (List ℕ))) : Type 0 where
  pub trim : reader_trim rdr ≡ trim.None
  pub ready : Ready rdr
  pub config : reader_config rdr ≡ default_config
  pub between : ends_at_end (reader_state rdr) ≡ false
  pub bytes : List ℕ
  pub known : bytes_left rdr ≡ Some bytes

-- what a read does to the records that are left: it takes the first, or finds that there is none
abbrev pub TakesFirst : Bool → List (List ℕ) → List (List (List ℕ)) → List (List (List ℕ)) → Type 0
TakesFirst true row old new = old ≡ row ∷ new
TakesFirst false row old new = old ≡ []

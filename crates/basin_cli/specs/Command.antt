-- The commands that words are.
use Rattle.std.specs.Prelude.{ℕ, ◌≤◌, List, [], ◌∷◌, codes, nat_le, if◌then◌else◌, Option, Some, None, ⊤, option_map}
use Rattle.std.specs.Str.{bytes_eq}
use Rattle.water_text.specs.Amounts.{read_amount}
use Rattle.water_text.specs.Months.{IsMonth, read_month}
use Rattle.water_text.specs.Names.{is_name}
use Rattle.water_text.specs.declared.month.Month.{Month}
use Rattle.basin_cli.specs.declared.actions.RunText.{RunText}
use Rattle.basin_cli.specs.declared.actions.RunText.TheVariants as text
use Rattle.basin_cli.specs.declared.checking.Question.{Question}
use Rattle.basin_cli.specs.declared.checking.Question.TheVariants as question
use Rattle.basin_cli.specs.declared.explaining.Account.{Account}
use Rattle.basin_cli.specs.declared.explaining.Account.TheVariants as account
use Rattle.basin_cli.specs.declared.command.Inputs as input
use Rattle.basin_cli.specs.declared.command.Words.{Words}
use Rattle.basin_cli.specs.declared.command.Words.TheVariants as words

-- the names of a basin file and of a series file. Without a series the table of gauged inflows is its header alone
pub record Files : Type 0 where
  pub basin : List ℕ
  pub series : Option (List ℕ)

-- a command with the names of its files, or with its numbers: `run`, `calls` and `report`, which are one command with
-- three texts, have the files of a basin and its series, `check` and `audit`, which are one with two questions, the file
-- of a result besides, `compare` the file of a second basin, `trial` the number and the size of a generated basin, `why`
-- and `where`, which are one with two accounts, a month and the name of a right beside the files, `ensemble` the files,
-- `edit` the file of a script besides, and `upgrade` the file of a basin alone
pub data Command : Type 0 where
  run : RunText → Files → Command
  check : Question → Files → List ℕ → Command
  trial : ℕ → ℕ → Command
  compare : Files → List ℕ → Command
  why : Account → Files → Month → List ℕ → Command
  ensemble : Files → Command
  edit : Files → List ℕ → Command
  upgrade : List ℕ → Command

-- the word `-` names no file
abbrev pub series_named : List ℕ → Option (List ℕ)
series_named word = if bytes_eq word (codes "-") then None else Some word

-- a number of 32 bits, and a size from 2 to 2,000
abbrev pub sized : ℕ → Option ℕ → Option Command
sized number None = None
sized number (Some size) = if nat_le 2 size then Some (trial number size) else None

abbrev pub trial_of : Option ℕ → Option ℕ → Option Command
trial_of None size = None
trial_of (Some number) size = sized number size

-- a month from 1800-01 to 2999-12, and a name
abbrev pub why_of : Account → Files → Option Month → List ℕ → Option Command
why_of asked files None right = None
why_of asked files (Some month) right = if is_name right then Some (why asked files month right) else None

abbrev pub command_of : List (List ℕ) → Option Command
command_of (word ∷ basin ∷ []) =
    if bytes_eq word (codes "run") then Some (run text.Result (record { basin = basin; series = None }))
    else (if bytes_eq word (codes "upgrade") then Some (upgrade basin) else None)
command_of (word ∷ one ∷ other ∷ []) =
    if bytes_eq word (codes "run") then Some (run text.Result (record { basin = one; series = series_named other }))
    else (if bytes_eq word (codes "report") then Some
    (run text.Report (record { basin = one; series = series_named other }))
    else (if bytes_eq word (codes "calls") then Some
    (run text.Calls (record { basin = one; series = series_named other }))
    else (if bytes_eq word (codes "ensemble") then Some (ensemble (record { basin = one; series = series_named other }))
    else (if bytes_eq word (codes "trial") then trial_of (read_amount one 4294967295) (read_amount other 2000)
    else None))))
command_of (word ∷ basin ∷ one ∷ other ∷ []) =
    if bytes_eq word (codes "check") then Some
    (check question.Check (record { basin = basin; series = series_named one }) other)
    else (if bytes_eq word (codes "audit") then Some
    (check question.Audit (record { basin = basin; series = series_named one }) other)
    else (if bytes_eq word (codes "edit") then Some (edit (record { basin = basin; series = series_named one }) other)
    else (if bytes_eq word (codes "compare") then Some
    (compare (record { basin = basin; series = series_named other }) one) else None)))
command_of (word ∷ basin ∷ series ∷ month ∷ right ∷ []) =
    if bytes_eq word (codes "why") then why_of account.Reach (record { basin = basin; series = series_named series })
    (read_month month) right
    else (if bytes_eq word (codes "where") then why_of account.Core
    (record { basin = basin; series = series_named series }) (read_month month) right else None)
command_of _ = None

-- the command that words give, as the program keeps it
abbrev pub named : input.Inputs → Files
named inputs = record { basin = inputs.basin.now; series = option_map (λ name. name.now) inputs.series }

abbrev pub command_named : Words → Command
command_named (words.Text text inputs) = run text (named inputs)
command_named (words.Check asked inputs result) = check asked (named inputs) result.now
command_named (words.Trial number size) = trial number size
command_named (words.Compare inputs second) = compare (named inputs) second.now
command_named (words.Why asked inputs month right) = why asked (named inputs) month right.now
command_named (words.Ensemble inputs) = ensemble (named inputs)
command_named (words.Edit inputs script) = edit (named inputs) script.now
command_named (words.Upgrade basin) = upgrade basin.now

-- the size of a trial is from 2 to 2,000, and the month of a `why` or a `where` is one of the calendar
abbrev pub IsInForm : Words → Type 0
IsInForm (words.Trial number size) = (2 ≤ size) × (size ≤ 2000)
IsInForm (words.Why asked inputs month right) = IsMonth month
IsInForm other = ⊤

abbrev pub ServesSeries : (List ℕ → Type 0) → Option (List ℕ) → Type 0
ServesSeries serves None = ⊤
ServesSeries serves (Some name) = serves name

-- each name that the words give for a file is served
abbrev pub ServesFiles : (List ℕ → Type 0) → Option Command → Type 0
ServesFiles serves None = ⊤
ServesFiles serves (Some (run text files)) = serves files.basin × ServesSeries serves files.series
ServesFiles serves (Some (check asked files result)) =
    serves files.basin × ServesSeries serves files.series × serves result
ServesFiles serves (Some (trial number size)) = ⊤
ServesFiles serves (Some (compare files second)) = serves files.basin × ServesSeries serves files.series × serves second
ServesFiles serves (Some (why asked files month right)) = serves files.basin × ServesSeries serves files.series
ServesFiles serves (Some (ensemble files)) = serves files.basin × ServesSeries serves files.series
ServesFiles serves (Some (edit files script)) = serves files.basin × ServesSeries serves files.series × serves script
ServesFiles serves (Some (upgrade basin)) = serves basin

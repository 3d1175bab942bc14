-- The record of a month that is asked for, and what it answers.
use Rattle.std.proofs.Common.{◌≡◌, ℕ, ◌+◌, ◌<◌, Bool, refl, sym, ◌∙◌, ap, subst, arith, List, [], ◌∷◌, ◌++◌}
use Rattle.std.proofs.Common.{length, Option, Some, length-append}
use Rattle.std.specs.Prelude.{slice_get, slice_index, unwrap_or}
use Rattle.cut_book.specs.Book.{book_bytes}
use Rattle.cut_book.proofs.Adding.{lines_make_bound, tight_books_sum_to_delivery}
use Rattle.cut_cert.specs.Sets.{cut_at}
use Rattle.water_model.specs.History.{HasReaches, Follows, IsPartialHistory, IsShort}
use Rattle.month_fold.specs.Runs.{RunView}
use Rattle.water_edge.specs.Edge.{Extends, Output}
use Rattle.water_text.specs.declared.month.Month.{Month}
use Rattle.water_model.proofs.Histories.{last_follows}
use Rattle.water_model.proofs.Lists.{get_after}
use Rattle.water_model.specs.Cuts.{IsReach}
use Rattle.water_model.specs.Hydrology.{run_month}
use Rattle.duality.specs.Laws.{HaveSameOutcome}
use Rattle.water_model.specs.Valid.{IsValidBasin}
use Rattle.water_model.specs.declared.types.Basin.{Basin}
use Rattle.water_model.specs.declared.types.Series.{Series}
use Rattle.water_model.specs.declared.types.MonthRecord.{MonthRecord}
use Rattle.duality.proofs.Outcome.{one_outcome}
use Rattle.basin_cli.specs.Ending.{status_of}
use Rattle.basin_cli.specs.Explained.{EndsExplaining, Explains, HasLast, IsAbout, IsRecordOf, ExplainsShort}
use Rattle.basin_cli.specs.Out.{Leaves}
use Rattle.basin_cli.specs.declared.ending.Ending.{Ending}
use Rattle.basin_cli.specs.declared.ending.Ending.TheVariants as ending
use Rattle.basin_cli.specs.declared.explaining.Account.{Account}
use Rattle.basin_cli.specs.declared.explaining.Account.TheVariants as account
use Rattle.basin_cli.proofs.Asked.{one_index, one_right}

-- the last record of a run is one of the month with its index
pub last_record : (b : Basin) (series : Series) (run : RunView) (index : ℕ) → run.basin ≡ b → run.series ≡ series →
    run.done ≡ index + 1 →
    (last : HasLast run) → IsRecordOf b series (run_month b index) run.last
last_record b series run index same fits done last = record {
  before = last.before;
  partial = partial;
  reaches = rw (← same) last.stands.reaches;
  is = follows.after.month
      ∙ ap (run_month b)
      (omega (arith, follows.after.index, done, last.stands.done, length-append last.before (run.last ∷ [])));
}
  where
    partial : IsPartialHistory b series (last.before ++ run.last ∷ [])
    partial = rw (← same, ← fits) last.stands.partial

    follows : Follows b series last.before run.last
    follows = last_follows b series last.before run.last partial

-- The account of a short right.

reach_at : (b : Basin) (m : MonthRecord) (right : ℕ) → HasReaches b m → right < length b.rights → IsShort m right →
    IsReach b m.month m.supply m.delivered right (cut_at m.cuts right)
reach_at b m right reaches l short =
    let own = reaches.short right l short in
    subst (λ (set : List Bool). IsReach b m.month m.supply m.delivered right set)
    (sym (ap (λ (o : Option (List Bool)). unwrap_or o []) own.1)) own.2

-- the account of a short right is its answer
pub short_explained : (asked : Account) (b : Basin) (m : MonthRecord) (right : ℕ) (text : List ℕ) → IsShort m right →
    ExplainsShort asked b m right text → Explains asked b m right text
short_explained asked b m right text is explains = record { short = λ _. explains; met = λ h. absurd (omega arith) }

-- the book of its reach
pub reach_explained : (b : Basin) (m : MonthRecord) (right : ℕ) → HasReaches b m → right < length b.rights →
    IsShort m right →
    ExplainsShort account.Reach b m right (book_bytes b m right (cut_at m.cuts right))
reach_explained b m right reaches l is = (
  cut_at m.cuts right,
  record {
    is_reach = reach;
    bound = lines_make_bound b m right (cut_at m.cuts right);
    sum = tight_books_sum_to_delivery b m right (cut_at m.cuts right) reach.is_tight;
  },
  refl,
)
  where
    reach : IsReach b m.month m.supply m.delivered right (cut_at m.cuts right)
    reach = reach_at b m right reaches l is

-- such an answer stands whole on out, unless out failed
pub explained_leaves : (m : MonthRecord) (right : ℕ) (how : Ending) (text : List ℕ) (old new : Output) →
    EndsExplaining m right how ⊥ → Extends old new text → Leaves (status_of how) text old new
explained_leaves m right ending.Done text old new ends put = put
explained_leaves m right ending.Met text old new ends put = put
explained_leaves m right other text old new ends put = absurd ends

-- Two records of a month have one outcome, so a right is short in both or in none.
pub one_answer : (b : Basin) (series : Series) (month : Month) (name : List ℕ) (right other : ℕ) (m n : MonthRecord) →
    IsValidBasin b →
    IsAbout b series month name right m → IsAbout b series month name other n → IsShort m right → IsShort n other
one_answer b series month name right other m n valid one two short =
    let same : right ≡ other = one_right b name right other valid one.named two.named in
    subst (λ r. IsShort n r) same along
  where
    first : Follows b series one.of_month.before m
    first = last_follows b series one.of_month.before m one.of_month.partial

    second : Follows b series two.of_month.before n
    second = last_follows b series two.of_month.before n two.of_month.partial

    index : m.index ≡ n.index
    index = one_index b month m.index n.index valid (sym first.after.month ∙ one.of_month.is)
        (sym second.after.month ∙ two.of_month.is)

    place : length one.of_month.before ≡ length two.of_month.before
    place = sym first.after.index ∙ (index ∙ second.after.index)

    outcome : HaveSameOutcome m n
    outcome =
        one_outcome b series (one.of_month.before ++ m ∷ []) (two.of_month.before ++ n ∷ []) valid one.of_month.partial
        two.of_month.partial
        (omega (arith, place, length-append one.of_month.before (m ∷ []), length-append two.of_month.before (n ∷ [])))
        (length one.of_month.before) m n (get_after one.of_month.before [] m)
        (subst (λ k. slice_get (two.of_month.before ++ n ∷ []) k ≡ Some n) (sym place)
        (get_after two.of_month.before [] n))

    along : IsShort n right
    along = omega
        (arith, short, ap (λ ds. slice_index ds right) outcome.delivered, ap (λ ws. slice_index ws right) outcome.want)

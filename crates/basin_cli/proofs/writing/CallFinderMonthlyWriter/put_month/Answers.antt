use Rattle.std.proofs.Common.{◌≡◌, ◌∙◌, ℕ, List, refl, subst}
use Rattle.call_list.specs.Found.{Found}
use Rattle.call_list.specs.Lists.{month_bytes}
use Rattle.water_edge.specs.Edge.{Puts}
use Rattle.water_model.specs.declared.types.Basin.{Basin}
use Rattle.water_model.specs.declared.types.MonthRecord.{MonthRecord}
use Rattle.basin_cli.proofs.Monthly.{last_month}
use Rattle.basin_cli.proofs.writing.CallFinderMonthlyWriter.put_month.Goals as goal

-- what holds of the lines of a month holds of the same
same_text : (P : List ℕ → Type 0) (b c : Basin) (m n : MonthRecord) (found same : Found) → b ≡ c → m ≡ n →
    found ≡ same → P (month_bytes b m found) → P (month_bytes c n same)
same_text P b c m n found same one two three holds =
    subst (λ (x : Basin). P (month_bytes x n same)) one
    (subst (λ (x : MonthRecord). P (month_bytes b x same)) two
    (subst (λ (x : Found). P (month_bytes b m x)) three holds))

pub find-requires-clause-plan : goal.find-requires-clause-plan
find-requires-clause-plan g c = rw (c.basin.ensures.value, c.month.ensures) (last_month _ c.args.run.now _ _ refl c.requires.last.stands).plan

pub find-requires-clause-reaches : goal.find-requires-clause-reaches
find-requires-clause-reaches g c = rw (c.basin.ensures.value, c.month.ensures) (last_month _ c.args.run.now _ _ refl c.requires.last.stands).reaches

pub find-requires-clause-room : goal.find-requires-clause-room
find-requires-clause-room g c = rw (c.basin.ensures.value, c.month.ensures) (last_month _ c.args.run.now _ _ refl c.requires.last.stands).room

pub find-requires-clause-roll : goal.find-requires-clause-roll
find-requires-clause-roll g c = rw c.basin.ensures.value c.roll.ensures

pub calls-calls-requires-clause-roll : goal.calls-calls-requires-clause-roll
calls-calls-requires-clause-roll g c = rw c.basin-2.ensures.value c.roll-2.ensures

pub calls-calls-requires-clause-month : goal.calls-calls-requires-clause-month
calls-calls-requires-clause-month g c = rw (c.basin-2.ensures.value, c.month-2.ensures) (last_month _ c.args.run.now _ _ refl c.requires.last.stands).fits

pub calls-calls-requires-clause-found : goal.calls-calls-requires-clause-found
calls-calls-requires-clause-found g c =
    rw (c.basin-2.ensures.value, c.month-2.ensures) (rw (c.basin.ensures.value, c.month.ensures) at c.find.ensures.found)

pub returns-clause-month : goal.returns-clause-month
returns-clause-month g c = record {
  entry = record { month = c.args.run.now.last; found = c.find.new.self.found };
  of_month = refl;
  is = rw (c.basin.ensures.value, c.month.ensures) at c.find.ensures.found;
  lines =
      same_text (Puts (g.K.Sink.output c.args.out.now) (g.K.Sink.output c.put_month.new.sink) c.put_month.result)
      c.calls-calls.result.basin c.args.run.now.basin c.calls-calls.result.month c.args.run.now.last
      c.calls-calls.result.found c.find.new.self.found (c.calls-calls.ensures.basin ∙ c.basin-2.ensures.value)
      (c.calls-calls.ensures.month ∙ c.month-2.ensures) c.calls-calls.ensures.found c.put_month.ensures.text;
}

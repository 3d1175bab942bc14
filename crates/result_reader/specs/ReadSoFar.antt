-- What the lines of a text say of the months' records.
use Rattle.std.specs.Prelude.{ℕ, ◌+◌, true, false, List, [], ◌∷◌, ◌++◌, map, fold, length, replicate, Option, Some}
use Rattle.std.specs.Prelude.{None, option_map, is_some, if◌then◌else◌, slice_index, slice_set}
use Rattle.water_model.specs.Basin.{taking_node}
use Rattle.water_model.specs.Blank.{blank_month}
use Rattle.water_model.specs.CutSets.{with_set}
use Rattle.water_model.specs.History.{cut_of}
use Rattle.water_model.specs.Hydrology.{inflow_at, stored_at}
use Rattle.water_model.specs.Indices.{indices_of}
use Rattle.result_lines.specs.Quantities.{amounts_of, with_amounts}
use Rattle.result_lines.specs.declared.item.Item.{Item}
use Rattle.result_lines.specs.declared.item.Item.TheVariants as line
use Rattle.water_model.specs.declared.types.Basin.{Basin}
use Rattle.water_model.specs.declared.types.Series.{Series}
use Rattle.water_model.specs.declared.types.MonthRecord.{MonthRecord}

-- What lines say: the records of the months that ended, that of the current month, the right whose `in` lines come, and
-- how many `called` lines the month has.
pub record ReadSoFar : Type 0 where
  pub months : List MonthRecord
  pub now : MonthRecord
  pub calling : Option ℕ
  pub called : ℕ

abbrev pub nothing_read : Basin → ReadSoFar
nothing_read b = record { months = []; now = blank_month b 0 b.first; calling = None; called = 0 }

-- the supply follows from the lines of the reservoirs and returns
abbrev pub with_supply : Basin → Series → MonthRecord → MonthRecord
with_supply b series m = record m {
  supply = map (λ n. inflow_at b series n m.index + slice_index m.returned n + stored_at b m.opening m.evaporated n)
      (indices_of b.nodes);
}

abbrev pub with_now : ReadSoFar → MonthRecord → ReadSoFar
with_now t m = record t { now = m; calling = None }

abbrev pub with_member : ReadSoFar → Option ℕ → ℕ → ReadSoFar
with_member t None node = t
with_member t (Some right) node =
    record t {
      now =
          record t.now {
            cuts =
                with_set t.now.cuts right (option_map (λ set. slice_set set node true) (cut_of t.now right));
          };
    }

-- what was read with one more line
abbrev pub read_item : Basin → Series → ReadSoFar → Item → ReadSoFar
read_item b series t line.Title = t
read_item b series t (line.Run first months) = t
read_item b series t (line.Month month) =
    record { months = t.months; now = blank_month b (length t.months) month; calling = None; called = 0 }
read_item b series t (line.Amount q entry amount) =
    with_now t (with_amounts q t.now (slice_set (amounts_of q t.now) entry amount))
read_item b series t (line.Deliver r amount want) = with_now t (record t.now {
  delivered = slice_set t.now.delivered r amount;
  want = slice_set t.now.want r want;
  plan = record t.now.plan { take = slice_set t.now.plan.take r (if is_some (taking_node b r) then amount else 0) };
})
read_item b series t (line.Call r) =
    record t {
      now = record t.now { cuts = with_set t.now.cuts r (Some (replicate (length b.nodes) false)) };
      calling =
          Some r;
    }
read_item b series t (line.Member n) = with_member t t.calling n
read_item b series t (line.Called r caller) = record t { calling = None; called = t.called + 1 }
read_item b series t line.End = record t { months = t.months ++ with_supply b series t.now ∷ []; calling = None }
read_item b series t (line.Done months) = t

-- what lines say
abbrev pub read_so_far : Basin → Series → List Item → ReadSoFar
read_so_far b series items = fold (read_item b series) (nothing_read b) items

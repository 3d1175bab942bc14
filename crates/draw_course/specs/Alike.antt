-- The courses, stops and draws of the network, which count what was drawn by draw, are those by which the draws of a
-- basin are defined, where what is taken at each node is a list.
use Rattle.std.specs.Prelude.{◌≡◌, ◌↔◌, ℕ, ◌+◌, ◌-◌, ◌<◌, ◌≤◌, Bool, List, length, slice_index, Some}
use Rattle.draw_course.specs.Courses.{IsCourse, IsGreatestDraw, drawn_at, left_at}
use Rattle.draw_course.specs.Draws.{MonthDraws, diversion_of, reservoir_of, with_draw}
use Rattle.draw_course.specs.Stops.{CanHaveStop, IsFullOrStopped, IsStop}
use Rattle.draw_course.specs.declared.draws.DrawNodes.{DrawNodes}
use Rattle.water_model.specs.Accounts.{Ledger, drawn_from, stock_of}
use Rattle.water_model.specs.Courses as courses
use Rattle.water_model.specs.CutSets.{CutSets, set_of}
use Rattle.water_model.specs.Draws.{AreDrawn, AreSited, AreTaken, IsSited, cap_of}
use Rattle.water_model.specs.Stores.{drawing_node, drawn_node}
use Rattle.water_model.specs.declared.types.Basin.{Basin}
use Rattle.stored_water.specs.Shown.{IsShownBy}
use Rattle.water_text.specs.declared.month.Month.{Month}

-- what is taken at each node with what was drawn in a month: more by what was drawn there, and less by what was drawn
-- on reservoirs there
pub record IsTakenAfter (m : MonthDraws) (taken : List ℕ) : Type 0 where
  pub one_each : length taken ≡ length m.basin.nodes
  pub each : (n : ℕ) → n < length m.basin.nodes →
      slice_index taken n + left_at m n ≡ slice_index m.taken n + drawn_at m n

-- Courses are alike.
abbrev pub CoursesAreAlike : Type 0
CoursesAreAlike =
    (m : MonthDraws) (taken flow out : List ℕ) → IsTakenAfter m taken → length flow ≡ length m.basin.links →
    length out ≡ length m.basin.nodes →
    IsCourse m (slice_index flow) (slice_index out)
    ↔ courses.IsCourse m.basin m.month (slice_index m.held) m.supply taken flow out

-- Stops are alike.
abbrev pub StopsAreAlike : Type 0
StopsAreAlike =
    (m : MonthDraws) (taken : List ℕ) (k : ℕ) (set : List Bool) → IsTakenAfter m taken →
    IsStop m k set
    ↔ courses.IsStop m.basin m.month (slice_index m.held) m.supply taken (reservoir_of m.draws k)
    (diversion_of m.draws k) set

-- a draw in its turn: nothing was drawn by it, and so much is kept at its reservoir
pub record IsTurnOf (m : MonthDraws) (taken : List ℕ) (k cap : ℕ) : Type 0 where
  pub drawn : length m.drawn ≡ length m.draws
  pub within : k < length m.draws
  pub none : slice_index m.drawn k ≡ 0
  pub to : diversion_of m.draws k < length m.basin.nodes
  pub from : reservoir_of m.draws k < length m.basin.nodes
  pub kept : cap ≤ slice_index taken (reservoir_of m.draws k)

-- What is taken after a draw is alike,
abbrev pub TakenAreAlike : Type 0
TakenAreAlike =
    (m : MonthDraws) (taken : List ℕ) (k cap amount : ℕ) → IsTakenAfter m taken → IsTurnOf m taken k cap →
    amount ≤ cap →
    IsTakenAfter (with_draw m k amount)
    (courses.after_draw taken (reservoir_of m.draws k) (diversion_of m.draws k) amount)

-- and so are greatest draws.
abbrev pub DrawsAreAlike : Type 0
DrawsAreAlike =
    (m : MonthDraws) (taken : List ℕ) (k cap amount : ℕ) → IsTakenAfter m taken → IsTurnOf m taken k cap →
    IsGreatestDraw m k cap amount
    ↔ courses.IsGreatestDraw m.basin m.month (slice_index m.held) m.supply taken (reservoir_of m.draws k)
    (diversion_of m.draws k) cap amount

-- What the network answers shows the draw: a course that is written after it, and its set.
abbrev pub AnswersShowDraws : Type 0
AnswersShowDraws =
    (m : MonthDraws) (taken : List ℕ) (k cap amount : ℕ) (flow out : List ℕ) (before after : CutSets) →
    IsTakenAfter m taken → IsTurnOf m taken k cap → amount ≤ cap →
    CanHaveStop (length m.basin.nodes) before k → IsFullOrStopped (with_draw m k amount) k cap amount before after →
    length flow ≡ length m.basin.links → length out ≡ length m.basin.nodes →
    IsCourse (with_draw m k amount) (slice_index flow) (slice_index out) →
    IsShownBy m.basin m.month (slice_index m.held) m.supply taken (reservoir_of m.draws k)
    (diversion_of m.draws k) cap amount flow out (set_of after k)

-- a month of the basin's own draws, of which the first `count` have these amounts, and no other has been drawn
pub record IsMonthOf (delivered : List ℕ) (l : Ledger) (count : ℕ) (amounts : List ℕ) (m : MonthDraws) : Type 0 where
  pub draws : length m.draws ≡ length m.basin.draws
  pub to : (k : ℕ) → k < length m.draws → drawing_node m.basin k ≡ Some (diversion_of m.draws k)
  pub from : (k : ℕ) → k < length m.draws → drawn_node m.basin k ≡ Some (reservoir_of m.draws k)
  pub taken : AreTaken m.basin delivered l 0 amounts m.taken
  pub one_each : length m.drawn ≡ length m.draws
  pub drawn : (k : ℕ) → k < count → slice_index m.drawn k ≡ slice_index amounts k
  pub later : (k : ℕ) → count ≤ k → k < length m.draws → slice_index m.drawn k ≡ 0

-- Its takes are those with the first draws.
abbrev pub MonthsAreAlike : Type 0
MonthsAreAlike =
    (delivered : List ℕ) (l : Ledger) (count : ℕ) (amounts : List ℕ) (m : MonthDraws) (taken : List ℕ) →
    IsMonthOf delivered l count amounts m → count ≤ length m.basin.draws → AreSited m.basin →
    ((i : ℕ) → i < count → (s : IsSited m.basin i) →
    slice_index amounts i ≤ stock_of l s.entry.account - drawn_from m.basin i amounts s.entry.account) →
    AreTaken m.basin delivered l count amounts taken → IsTakenAfter m taken

-- So where each draw of a basin in its turn is the greatest in the network, the amounts are the month's draws.
abbrev pub GreatestAreDrawn : Type 0
GreatestAreDrawn =
    (b : Basin) (month : Month) (nodes : List DrawNodes) (supply first held : List ℕ) (drawn : ℕ → List ℕ)
    (asked number : ℕ → ℕ) (delivered : List ℕ) (l : Ledger) (amounts : List ℕ) →
    AreSited b → length amounts ≡ length b.draws →
    ((j : ℕ) → j < length b.draws →
    let m : MonthDraws = record {
      basin = b;
      draws = nodes;
      month = month;
      supply = supply;
      taken = first;
      held = held;
      drawn = drawn j;
    } in
    IsMonthOf delivered l j amounts m
    × IsGreatestDraw m j (cap_of b asked number delivered l amounts j) (slice_index amounts j)) →
    AreDrawn b month (slice_index held) supply asked number delivered l amounts

-- Laws over draws.
use Rattle.std.specs.Prelude.{◌≡◌, ℕ, suc, ◌+◌, ◌-◌, ◌*◌, ◌<◌, ◌≤◌, true, false, not, ◌&&◌, ◌||◌, Bool, List}
use Rattle.std.specs.Prelude.{length, slice_index, slice_get, Option, Some, None}
use Rattle.finite_sums.specs.Sums.{total, total_where}
use Rattle.water_text.specs.declared.month.Month.{Month}
use Rattle.water_model.specs.Accounts.{Ledger, IsLedger, stock_of, closing_with, drawn_from}
use Rattle.water_model.specs.Basin.{taking_node, takes_at, instream_link, is_at, is_zone_of}
use Rattle.water_model.specs.Courses.{IsCourse, HasCourse, IsGreatestDraw, IsGreatestWithin, IsStop, IsGreatestStop}
use Rattle.water_model.specs.Courses.{IsCapOrStop, after_draw, held_on}
use Rattle.water_model.specs.Cuts.{IsTight}
use Rattle.water_model.specs.Draws.{AreTaken, AreDrawn, AreSited, IsSited, cap_of, taken_with, got_by}
use Rattle.stored_water.specs.Shown.{AreShownBy}
use Rattle.water_model.specs.Lookups.{has}
use Rattle.water_model.specs.Plans.{IsPlan, delivery, carry_of, inflow_to, outflow_from}
use Rattle.water_model.specs.Stores.{is_owned, sum_in_zone, sum_at_node, drawn_node, drawing_node}
use Rattle.water_model.specs.Valid.{IsValidBasin, is_diversion}
use Rattle.water_model.specs.declared.types.Basin.{Basin}
use Rattle.water_model.specs.declared.types.Draw.{Draw}
use Rattle.water_model.specs.declared.types.Plan.{Plan}
use Rattle.duality.specs.Laws.{AreDeliveries}
use Rattle.duality.specs.Parts.{times}
use Rattle.stored_water.specs.AccountLaws.{AreOfZones, AreSameLedgers, IsDrawnWithin}

-- A stop lets no course draw more.
abbrev pub StopsLetNoMoreBeDrawn : Type 0
StopsLetNoMoreBeDrawn =
    (b : Basin) (month : Month) (held : ℕ → ℕ) (supply taken : List ℕ) (from to amount : ℕ) (set : List Bool)
    (other : ℕ) → IsStop b month held supply (after_draw taken from to amount) from to set →
    HasCourse b (carry_of b month) held supply (after_draw taken from to other) → other ≤ amount

-- Stops make draws greatest. A draw within its cap for which there is a course, and that is its cap or has a stop, is
-- the greatest.
abbrev pub StopsMakeDrawsGreatest : Type 0
StopsMakeDrawsGreatest =
    (b : Basin) (month : Month) (held : ℕ → ℕ) (supply taken flow out : List ℕ) (from to cap amount : ℕ) →
    amount ≤ cap → IsCourse b month held supply (after_draw taken from to amount) flow out →
    IsCapOrStop b month held supply taken from to cap amount →
    IsGreatestDraw b month held supply taken from to cap amount

-- No fraction of a unit more can be drawn: no course in k-th parts of a unit draws more than k times the amount.
abbrev pub NoFractionMoreIsDrawn : Type 0
NoFractionMoreIsDrawn =
    (b : Basin) (month : Month) (held : ℕ → ℕ) (supply taken : List ℕ) (from to amount : ℕ) (set : List Bool)
    (k other : ℕ) → IsStop b month held supply (after_draw taken from to amount) from to set →
    HasCourse b (λ e. k * carry_of b month e) (λ e. k * held e) (times k supply)
    (after_draw (times k taken) from to other) →
    other ≤ k * amount

-- Whole units cost no draw anything. In k-th parts of a unit, too, such a draw is the greatest.
abbrev pub WholeDrawsAreGreatest : Type 0
WholeDrawsAreGreatest =
    (b : Basin) (month : Month) (held : ℕ → ℕ) (supply taken flow out : List ℕ) (from to cap amount : ℕ) →
    amount ≤ cap → IsCourse b month held supply (after_draw taken from to amount) flow out →
    IsCapOrStop b month held supply taken from to cap amount → (k : ℕ) →
    IsGreatestWithin b (λ e. k * carry_of b month e) (λ e. k * held e) (times k supply) (times k taken) from to
    (k * cap) (k * amount)

-- The greatest draw is one number.
abbrev pub GreatestDrawIsOne : Type 0
GreatestDrawIsOne =
    (b : Basin) (month : Month) (held : ℕ → ℕ) (supply taken : List ℕ) (from to cap amount other : ℕ) →
    IsGreatestDraw b month held supply taken from to cap amount →
    IsGreatestDraw b month held supply taken from to cap other → amount ≡ other

-- A draw that is taken at the reservoir's own node is its cap.
abbrev pub DrawAtReservoirIsCap : Type 0
DrawAtReservoirIsCap =
    (b : Basin) (month : Month) (held : ℕ → ℕ) (supply taken : List ℕ) (node cap : ℕ) → node < length b.nodes →
    cap ≤ slice_index taken node → HasCourse b (carry_of b month) held supply taken →
    IsGreatestDraw b month held supply taken node node cap cap

-- Stops unite. Where there is a course with the draw, all nodes of two of its stops are a stop; so there is a greatest
-- one where there is one at all.
abbrev pub StopsUnite : Type 0
StopsUnite =
    (b : Basin) (month : Month) (held : ℕ → ℕ) (supply taken flow out : List ℕ) (from to : ℕ)
    (set other both : List Bool) → IsCourse b month held supply taken flow out →
    IsStop b month held supply taken from to set → IsStop b month held supply taken from to other →
    length both ≡ length b.nodes → ((n : ℕ) → has both n ≡ (has set n || has other n)) →
    IsStop b month held supply taken from to both

-- The greatest stop is one set.
abbrev pub GreatestStopIsOne : Type 0
GreatestStopIsOne =
    (b : Basin) (month : Month) (held : ℕ → ℕ) (supply taken : List ℕ) (from to : ℕ) (set other : List Bool) →
    IsGreatestStop b month held supply taken from to set → IsGreatestStop b month held supply taken from to other →
    set ≡ other

-- A draw moves water. What is taken with one draw more is what was taken before, with its amount moved from the
-- reservoir's node to the draw's.
abbrev pub DrawsMoveWater : Type 0
DrawsMoveWater =
    (b : Basin) (delivered : List ℕ) (l : Ledger) (j : ℕ) (amounts taken : List ℕ) (s : IsSited b j) →
    j < length b.draws → slice_index amounts j ≤ stock_of l s.entry.account - drawn_from b j amounts s.entry.account →
    AreTaken b delivered l j amounts taken →
    AreTaken b delivered l (suc j) amounts (after_draw taken s.from s.to (slice_index amounts j))

-- Draws add up. What is taken at a node with the first draws, and what these took from accounts there, is what is taken
-- before any draw and what they bring there.
abbrev pub DrawsAddUp : Type 0
DrawsAddUp =
    (b : Basin) (delivered : List ℕ) (l : Ledger) (count : ℕ) (amounts : List ℕ) (node : ℕ) →
    count ≤ length b.draws → ((i : ℕ) → i < count → IsSited b i) →
    ((i : ℕ) → i < count → (s : IsSited b i) →
    slice_index amounts i ≤ stock_of l s.entry.account - drawn_from b i amounts s.entry.account) →
    taken_with b delivered l count amounts node
    + total_where count (λ i. is_at (drawn_node b i) node) (λ i. slice_index amounts i)
    ≡ taken_with b delivered l 0 amounts node
    + total_where count (λ i. is_at (drawing_node b i) node) (λ i. slice_index amounts i)

-- no amount is above its cap
abbrev pub AreCapped : Basin → (asked number : ℕ → ℕ) → List ℕ → Ledger → List ℕ → Type 0
AreCapped b asked number delivered l amounts =
    (j : ℕ) → j < length b.draws → slice_index amounts j ≤ cap_of b asked number delivered l amounts j

-- Draws stay within what is carried. Where no draw is above its cap, no account is drawn on for more than it carries.
abbrev pub DrawsStayWithinCarried : Type 0
DrawsStayWithinCarried =
    (b : Basin) (asked number : ℕ → ℕ) (delivered : List ℕ) (l : Ledger) (amounts : List ℕ) →
    AreCapped b asked number delivered l amounts → (account : ℕ) →
    drawn_from b (length b.draws) amounts account ≤ slice_index l.carried account

-- So draws leave what is filled: it stays until the next month.
abbrev pub DrawsLeaveFills : Type 0
DrawsLeaveFills =
    (b : Basin) (opening evaporated : List ℕ) (asked number : ℕ → ℕ) (delivered amounts : List ℕ) (l : Ledger) →
    IsLedger b opening evaporated number delivered amounts l → AreCapped b asked number delivered l amounts →
    IsDrawnWithin b l × ((k : ℕ) → k < length b.accounts → slice_index l.filled k ≤ slice_index l.closing k)

-- And no diversion gets more than its number.
abbrev pub DrawsStayWithinNumber : Type 0
DrawsStayWithinNumber =
    (b : Basin) (asked number : ℕ → ℕ) (delivered : List ℕ) (l : Ledger) (amounts : List ℕ) →
    AreCapped b asked number delivered l amounts → (right : ℕ) → slice_index delivered right ≤ number right →
    got_by b delivered amounts right ≤ number right

-- What shows a month's draws: each is within its cap, has a course with itself and those before it alone, and is its
-- cap or has a stop.
pub record AreShown (b : Basin) (month : Month) (held : ℕ → ℕ) (supply : List ℕ) (asked number : ℕ → ℕ)
    (delivered : List ℕ) (l : Ledger) (amounts : List ℕ) : Type 0
  where
    pub one_each : length amounts ≡ length b.draws
    pub within : AreCapped b asked number delivered l amounts
    pub shown : (j : ℕ) → j < length b.draws → (from to : ℕ) → drawn_node b j ≡ Some from →
        drawing_node b j ≡ Some to → (taken : List ℕ) → AreTaken b delivered l j amounts taken →
        HasCourse b (carry_of b month) held supply (after_draw taken from to (slice_index amounts j))
        × IsCapOrStop b month held supply taken from to (cap_of b asked number delivered l amounts j)
        (slice_index amounts j)

-- Courses and stops show draws. One course with all draws would not: a draw may have a course only with a later one.
abbrev pub CoursesAndStopsShowDraws : Type 0
CoursesAndStopsShowDraws =
    (b : Basin) (month : Month) (held : ℕ → ℕ) (supply : List ℕ) (asked number : ℕ → ℕ) (delivered : List ℕ)
    (l : Ledger) (amounts : List ℕ) → AreShown b month held supply asked number delivered l amounts →
    AreDrawn b month held supply asked number delivered l amounts

-- What a record shows are the month's draws.
abbrev pub ShownDrawsAreDrawn : Type 0
ShownDrawsAreDrawn =
    (b : Basin) (month : Month) (held : ℕ → ℕ) (supply : List ℕ) (asked number : ℕ → ℕ) (delivered : List ℕ)
    (l : Ledger) (amounts : List ℕ) (flow out : ℕ → List ℕ) (set : ℕ → Option (List Bool)) →
    AreShownBy b month held supply asked number delivered l amounts flow out set →
    AreDrawn b month held supply asked number delivered l amounts

-- One outcome. The amounts of a month's draws are determined.
abbrev pub DrawsHaveOneOutcome : Type 0
DrawsHaveOneOutcome =
    (b : Basin) (month : Month) (held : ℕ → ℕ) (supply : List ℕ) (asked number : ℕ → ℕ) (delivered : List ℕ)
    (l : Ledger) (amounts others : List ℕ) → AreSited b →
    AreDrawn b month held supply asked number delivered l amounts →
    AreDrawn b month held supply asked number delivered l others → amounts ≡ others

-- So are they and the ledger together, by what accounts open with and the first step delivers.
abbrev pub MonthsHaveOneOutcome : Type 0
MonthsHaveOneOutcome =
    (b : Basin) (month : Month) (held : ℕ → ℕ) (supply opening evaporated : List ℕ) (asked number : ℕ → ℕ)
    (delivered amounts others : List ℕ) (l m : Ledger) → AreSited b →
    IsLedger b opening evaporated number delivered amounts l →
    IsLedger b opening evaporated number delivered others m → l.opening ≡ m.opening →
    AreDrawn b month held supply asked number delivered l amounts →
    AreDrawn b month held supply asked number delivered m others → (amounts ≡ others) × AreSameLedgers l m

-- the whole supply of a month is that of the first step with what the accounts at each node carry
abbrev pub AddsCarried : Basin → Ledger → List ℕ → List ℕ → Type 0
AddsCarried b l natural supply =
    (n : ℕ) → n < length b.nodes → slice_index supply n
    ≡ slice_index natural n + sum_at_node b (slice_index l.carried) n

-- the accounts of each owned zone are filled with what it is delivered
abbrev pub AddUpFills : Basin → List ℕ → Ledger → Type 0
AddUpFills b delivered l =
    (zone : ℕ) → is_owned b zone ≡ true → sum_in_zone b (slice_index l.filled) zone ≡ slice_index delivered zone

-- The first step's plan is a course before any draw.
abbrev pub FirstStepIsCourse : Type 0
FirstStepIsCourse =
    (b : Basin) (month : Month) (l : Ledger) (natural supply want delivered amounts taken : List ℕ) (p : Plan) →
    IsPlan b month natural want p → AreDeliveries b want p delivered → AddsCarried b l natural supply →
    AddUpFills b delivered l → AreTaken b delivered l 0 amounts taken →
    IsCourse b month (held_on b delivered) supply taken p.flow p.out

-- each draw is for a diversion, and each is taken at the diversion's node
abbrev pub AreForDiversions : Basin → Type 0
AreForDiversions b = (j : ℕ) (d : Draw) → slice_get b.draws j ≡ Some d → is_diversion b d.diversion ≡ true

abbrev pub AreAtDiversions : Basin → Type 0
AreAtDiversions b = (j : ℕ) (d : Draw) → slice_get b.draws j ≡ Some d → taking_node b d.diversion ≡ Some d.node

-- Valid basins are sited: each draw is for a diversion, and is on an account, which is of a zone.
abbrev pub ValidBasinsAreSited : Type 0
ValidBasinsAreSited = (b : Basin) → IsValidBasin b → AreSited b × AreOfZones b × AreForDiversions b

-- Draws change no takes of the first step. In the course with all draws what comes to each node flows on, leaves, is
-- delivered there as in the first step, is drawn there, or is held there by accounts at the end; and each instream
-- right has at least the flow that it was delivered.
abbrev pub DrawsChangeNoTakes : Type 0
DrawsChangeNoTakes =
    (b : Basin) (month : Month) (opening evaporated : List ℕ) (number : ℕ → ℕ) (delivered amounts : List ℕ)
    (l : Ledger) (supply taken flow out : List ℕ) → IsLedger b opening evaporated number delivered amounts l →
    AreTaken b delivered l (length b.draws) amounts taken →
    IsCourse b month (held_on b delivered) supply taken flow out →
    ((n : ℕ) → n < length b.nodes →
    slice_index supply n + inflow_to b flow n
    ≡ outflow_from b flow n + slice_index out n
    + total_where (length b.rights) (λ r. takes_at b r n && not (is_owned b r)) (λ r. slice_index delivered r)
    + total_where (length b.draws) (λ j. is_at (drawing_node b j) n) (λ j. slice_index amounts j)
    + sum_at_node b (slice_index l.closing) n)
    × ((s link : ℕ) → s < length b.rights → link < length b.links → instream_link b s ≡ Some link →
    slice_index delivered s ≤ slice_index flow link)

-- What each right takes in a month after all draws: a zone that accounts are of what these hold, any other zone its
-- delivery, and a diversion its delivery and its draws.
pub record AreTakesAfter (b : Basin) (delivered : List ℕ) (l : Ledger) (amounts take : List ℕ) : Type 0 where
  pub one_each : length take ≡ length b.rights
  pub owned : (r : ℕ) → r < length b.rights → is_owned b r ≡ true →
      slice_index take r ≡ sum_in_zone b (λ k. stock_of l k - drawn_from b (length b.draws) amounts k) r
  pub others : (r node : ℕ) → r < length b.rights → is_owned b r ≡ false → taking_node b r ≡ Some node →
      slice_index take r ≡ got_by b delivered amounts r
  pub instream : (r : ℕ) → r < length b.rights → taking_node b r ≡ None → slice_index take r ≡ 0

-- Where each draw is taken at its diversion's node, the course with all draws is a plan of the whole supply, in which
-- each diversion takes its delivery and its draws, each zone that no account is of its delivery, and no instream right
-- is delivered less.
abbrev pub CoursesWithDrawsArePlans : Type 0
CoursesWithDrawsArePlans =
    (b : Basin) (month : Month) (l : Ledger) (supply want delivered amounts taken take flow out : List ℕ) →
    AreOfZones b → AreForDiversions b → AreAtDiversions b →
    AreTaken b delivered l (length b.draws) amounts taken → AreTakesAfter b delivered l amounts take →
    IsCourse b month (held_on b delivered) supply taken flow out →
    IsPlan b month supply take (record { flow = flow; take = take; out = out })
    × ((s link : ℕ) → s < length b.rights → link < length b.links → instream_link b s ≡ Some link →
    slice_index delivered s ≤ slice_index want s →
    slice_index delivered s ≤ delivery b want (record { flow = flow; take = take; out = out }) s)

-- What a reservoir closes with is what its zones take after all draws, as where nobody has an account.
abbrev pub ClosingIsTakes : Type 0
ClosingIsTakes =
    (b : Basin) (opening evaporated : List ℕ) (number : ℕ → ℕ) (delivered amounts take : List ℕ) (l : Ledger)
    (reservoir : ℕ) →
    IsLedger b opening evaporated number delivered amounts l → reservoir < length b.reservoirs →
    AreForDiversions b → AreTakesAfter b delivered l amounts take →
    closing_with b delivered l.closing reservoir
    ≡ total_where (length b.rights) (λ r. is_zone_of b r reservoir) (λ r. slice_index take r)

-- No water is made or lost. In a month with draws, wherever they are taken, the whole supply is what diversions got by
-- delivery and draws, what reservoirs close with, and what left the basin.
abbrev pub MonthsWithDrawsAreBalanced : Type 0
MonthsWithDrawsAreBalanced =
    (b : Basin) (month : Month) (opening evaporated : List ℕ) (number : ℕ → ℕ) (delivered amounts : List ℕ)
    (l : Ledger) (supply taken flow out : List ℕ) → IsValidBasin b →
    IsLedger b opening evaporated number delivered amounts l →
    AreTaken b delivered l (length b.draws) amounts taken →
    IsCourse b month (held_on b delivered) supply taken flow out →
    total (length b.nodes) (λ n. slice_index supply n)
    ≡ total_where (length b.rights) (λ r. is_diversion b r) (λ r. got_by b delivered amounts r)
    + total (length b.reservoirs) (λ v. closing_with b delivered l.closing v)
    + total (length b.nodes) (λ n. slice_index out n)

-- Draws come from within reaches. Where each diversion that draws in the month has a tight cut in the first step, as it
-- has where it is short there, and each draw is taken at its diversion's node, each draw above 0 is from a reservoir
-- within the cut of a diversion that drew by then. So no water from outside these cuts is needed for draws.
abbrev pub DrawsComeFromCuts : Type 0
DrawsComeFromCuts =
    (b : Basin) (month : Month) (l : Ledger) (natural supply want delivered amounts : List ℕ) (p : Plan)
    (asked number : ℕ → ℕ) (cut : ℕ → List Bool) → AreSited b → AreAtDiversions b →
    IsPlan b month natural want p → AreDeliveries b want p delivered → AddsCarried b l natural supply →
    AddUpFills b delivered l → AreDrawn b month (held_on b delivered) supply asked number delivered l amounts →
    ((j : ℕ) (d : Draw) → slice_get b.draws j ≡ Some d → 0 < slice_index amounts j →
    IsTight b month natural delivered d.diversion (cut d.diversion)) →
    (j from : ℕ) → j < length b.draws → 0 < slice_index amounts j → drawn_node b j ≡ Some from →
    (i : ℕ) × (d : Draw) × (slice_get b.draws i ≡ Some d) × (i ≤ j) × (0 < slice_index amounts i)
    × (has (cut d.diversion) from ≡ true)

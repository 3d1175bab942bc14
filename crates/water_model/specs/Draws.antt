-- The draws of a month, one after another: their caps, what is taken at each node, and how much is drawn. An amount by
-- draw has one number for each draw, in the order of the basin.
use Rattle.std.specs.Prelude.{◌≡◌, ℕ, ◌+◌, ◌-◌, ◌<◌, min, not, ◌&&◌, List, length, slice_index, slice_get, Some}
use Rattle.finite_sums.specs.Sums.{total_where}
use Rattle.water_model.specs.Lookups.{of_entry}
use Rattle.water_model.specs.Accounts.{Ledger, stock_of, drawn_from, drawn_by}
use Rattle.water_model.specs.Basin.{takes_at, is_at}
use Rattle.water_model.specs.Courses.{IsGreatestDraw}
use Rattle.water_model.specs.Hydrology.{want_by_volume, in_year}
use Rattle.water_model.specs.Stores.{is_owned, drawing_node, drawn_node, sum_at_node}
use Rattle.water_text.specs.declared.month.Month.{Month}
use Rattle.water_model.specs.declared.types.Basin.{Basin}
use Rattle.water_model.specs.declared.types.Draw.{Draw}

-- the want of a draw in month i: its amount for the calendar month, and with a volume at most what is left of it in the
-- water year
abbrev pub draw_want : Basin → ℕ → List ℕ → ℕ → ℕ
draw_want b i used draw =
    of_entry b.draws draw (λ d. want_by_volume d.volume (slice_index d.want (in_year b i)) (slice_index used draw)) 0

-- The cap of a draw: the least of its want, of its diversion's number less what this was delivered and drew by earlier
-- draws, and of what its account carries less earlier draws from it. The diversion's volume doesn't bound it, and what
-- is filled in a month can't be drawn in it.
abbrev pub cap_of : Basin → (asked number : ℕ → ℕ) → (delivered : List ℕ) → Ledger → List ℕ → ℕ → ℕ
cap_of b asked number delivered l amounts draw =
    of_entry b.draws draw
    (λ d. min (asked draw)
    (min (number d.diversion - slice_index delivered d.diversion - drawn_by b draw amounts d.diversion)
    (slice_index l.carried d.account - drawn_from b draw amounts d.account)))
    0

-- What is taken at a node where the first `count` draws are drawn: the deliveries of diversions and of zones that no
-- account is of, the draws taken there, and what the accounts there still hold.
abbrev pub taken_with : Basin → List ℕ → Ledger → ℕ → List ℕ → ℕ → ℕ
taken_with b delivered l count amounts node =
    total_where (length b.rights) (λ r. takes_at b r node && not (is_owned b r)) (λ r. slice_index delivered r)
    + total_where count (λ j. is_at (drawing_node b j) node) (λ j. slice_index amounts j)
    + sum_at_node b (λ k. stock_of l k - drawn_from b count amounts k) node

pub record AreTaken (b : Basin) (delivered : List ℕ) (l : Ledger) (count : ℕ) (amounts taken : List ℕ) : Type 0 where
  pub one_each : length taken ≡ length b.nodes
  pub each : (n : ℕ) → n < length b.nodes → slice_index taken n ≡ taken_with b delivered l count amounts n

-- a draw is on an account, which is at a node, and is taken at a node
pub record IsSited (b : Basin) (draw : ℕ) : Type 0 where
  pub entry : Draw
  pub is_entry : slice_get b.draws draw ≡ Some entry
  pub account : entry.account < length b.accounts
  pub from : ℕ
  pub from_node : from < length b.nodes
  pub is_from : drawn_node b draw ≡ Some from
  pub to : ℕ
  pub to_node : to < length b.nodes
  pub is_to : drawing_node b draw ≡ Some to

pub record AreSited (b : Basin) : Type 0 where
  pub each : (j : ℕ) → j < length b.draws → IsSited b j

-- Each draw is the greatest after those before it.
pub record AreDrawn (b : Basin) (month : Month) (held : ℕ → ℕ) (supply : List ℕ) (asked number : ℕ → ℕ)
    (delivered : List ℕ) (l : Ledger) (amounts : List ℕ) : Type 0
  where
    pub one_each : length amounts ≡ length b.draws
    pub each : (j : ℕ) → j < length b.draws → (from to : ℕ) → drawn_node b j ≡ Some from →
        drawing_node b j ≡ Some to → (taken : List ℕ) → AreTaken b delivered l j amounts taken →
        IsGreatestDraw b month held supply taken from to (cap_of b asked number delivered l amounts j)
        (slice_index amounts j)

-- what a diversion got in all in a month, by which its returns go: its delivery and its draws
abbrev pub got_by : Basin → (delivered amounts : List ℕ) → ℕ → ℕ
got_by b delivered amounts right = slice_index delivered right + drawn_by b (length b.draws) amounts right

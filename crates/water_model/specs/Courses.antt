-- The course of a month's water where what is taken at each node is given, and draws.
use Rattle.std.specs.Prelude.{◌≡◌, ℕ, ◌+◌, ◌-◌, ◌<◌, ◌≤◌, ◌⊎◌, Bool, false, List, length, slice_index, slice_set}
use Rattle.std.specs.Prelude.{IsTrue}
use Rattle.finite_sums.specs.Sums.{total_where, greatest_where}
use Rattle.water_model.specs.Lookups.{has}
use Rattle.water_model.specs.Basin.{is_outlet, is_on_link}
use Rattle.water_model.specs.Plans.{carry_of, inflow_to, outflow_from}
use Rattle.water_model.specs.Cuts.{cut_capacity, leaves}
use Rattle.water_text.specs.declared.month.Month.{Month}
use Rattle.water_model.specs.declared.types.Basin.{Basin}

-- what a link has to carry at least: the greatest delivery of an instream right on it
abbrev pub held_on : Basin → List ℕ → ℕ → ℕ
held_on b delivered link = greatest_where (length b.rights) (λ s. is_on_link b s link) (λ s. slice_index delivered s)

-- A course: a flow on each link, from what is held there up to what the link carries, and an outflow at each outlet,
-- with which the water at each node is what is taken there, flows on or leaves.
pub record IsCourseWithin (b : Basin) (carry held : ℕ → ℕ) (supply taken flow out : List ℕ) : Type 0 where
  pub taken_len : length taken ≡ length b.nodes
  pub flow_len : length flow ≡ length b.links
  pub out_len : length out ≡ length b.nodes
  pub carries : (e : ℕ) → e < length b.links → slice_index flow e ≤ carry e
  pub holds : (e : ℕ) → e < length b.links → held e ≤ slice_index flow e
  pub outlets : (n : ℕ) → n < length b.nodes → is_outlet b n ≡ false → slice_index out n ≡ 0
  pub balance : (n : ℕ) → n < length b.nodes →
      slice_index supply n + inflow_to b flow n
      ≡ outflow_from b flow n + slice_index taken n + slice_index out n

-- the same under a month's carries
abbrev pub IsCourse : Basin → Month → (ℕ → ℕ) → List ℕ → List ℕ → List ℕ → List ℕ → Type 0
IsCourse b month held supply taken flow out = IsCourseWithin b (carry_of b month) held supply taken flow out

-- there is a course
pub record HasCourse (b : Basin) (carry held : ℕ → ℕ) (supply taken : List ℕ) : Type 0 where
  pub flow : List ℕ
  pub out : List ℕ
  pub is_course : IsCourseWithin b carry held supply taken flow out

-- what is taken at each node once an amount is taken at the node `to` that was kept at the node `from`
abbrev pub with_less : List ℕ → ℕ → ℕ → List ℕ
with_less taken node amount = slice_set taken node (slice_index taken node - amount)

abbrev pub with_more : List ℕ → ℕ → ℕ → List ℕ
with_more taken node amount = slice_set taken node (slice_index taken node + amount)

abbrev pub after_draw : List ℕ → ℕ → ℕ → ℕ → List ℕ
after_draw taken from to amount = with_more (with_less taken from amount) to amount

-- the greatest amount up to a cap that can be drawn from the reservoir's node to the draw's
pub record IsGreatestWithin (b : Basin) (carry held : ℕ → ℕ) (supply taken : List ℕ) (from to cap amount : ℕ) : Type 0
  where
    pub within : amount ≤ cap
    pub course : HasCourse b carry held supply (after_draw taken from to amount)
    pub greatest : (other : ℕ) → other ≤ cap → HasCourse b carry held supply (after_draw taken from to other) →
        other ≤ amount

abbrev pub IsGreatestDraw : Basin → Month → (ℕ → ℕ) → List ℕ → List ℕ → ℕ → ℕ → ℕ → ℕ → Type 0
IsGreatestDraw b month held supply taken from to cap amount =
    IsGreatestWithin b (carry_of b month) held supply taken from to cap amount

-- what is held on the links that leave a set of nodes, and what is taken in it
abbrev pub held_leaving : Basin → (ℕ → ℕ) → List Bool → ℕ
held_leaving b held set = total_where (length b.links) (λ e. leaves b set e) held

abbrev pub taken_within : Basin → List ℕ → List Bool → ℕ
taken_within b taken set = total_where (length b.nodes) (λ n. has set n) (λ n. slice_index taken n)

-- A stop of a draw: a set with the draw's node and without the reservoir's, in which all that can come in is held for
-- instream rights or taken, where `taken` is what is taken after the draw.
pub record IsStopWithin (b : Basin) (carry held : ℕ → ℕ) (supply taken : List ℕ) (from to : ℕ) (set : List Bool) :
    Type 0
  where
    pub one_each : length set ≡ length b.nodes
    pub drawing : IsTrue (has set to)
    pub storing : has set from ≡ false
    pub full : cut_capacity b carry supply set ≡ held_leaving b held set + taken_within b taken set

abbrev pub IsStop : Basin → Month → (ℕ → ℕ) → List ℕ → List ℕ → ℕ → ℕ → List Bool → Type 0
IsStop b month held supply taken from to set = IsStopWithin b (carry_of b month) held supply taken from to set

-- the stop that contains all stops
pub record IsGreatestStop (b : Basin) (month : Month) (held : ℕ → ℕ) (supply taken : List ℕ) (from to : ℕ)
    (set : List Bool) : Type 0
  where
    pub is_stop : IsStop b month held supply taken from to set
    pub contains : (other : List Bool) → IsStop b month held supply taken from to other →
        (n : ℕ) → IsTrue (has other n) → IsTrue (has set n)

-- a draw is its cap, or it has a stop
abbrev pub IsCapOrStop : Basin → Month → (ℕ → ℕ) → List ℕ → List ℕ → ℕ → ℕ → ℕ → ℕ → Type 0
IsCapOrStop b month held supply taken from to cap amount =
    (amount ≡ cap)
    ⊎ ((set : List Bool) × IsStop b month held supply (after_draw taken from to amount) from to set)

-- Which right one more unit of carry on a link would help.
use Rattle.std.specs.Prelude.{◌≡◌, ℕ, ◌+◌, ◌<◌, ◌≤◌, ◌⊎◌, Bool, false, List, length, Option, Some, None, IsTrue}
use Rattle.std.specs.Prelude.{slice_index, slice_index_or}
use Rattle.water_model.specs.Basin.{instream_link, is_senior}
use Rattle.water_model.specs.Cuts.{enters}
use Rattle.water_model.specs.History.{HasReaches, IsShort}
use Rattle.water_model.specs.declared.types.Basin.{Basin}
use Rattle.water_model.specs.declared.types.MonthRecord.{MonthRecord}
use Rattle.cut_cert.specs.Sets.{HasCut}
use Rattle.plan_residual.specs.Core.{IsCore}
use Rattle.plan_residual.specs.Reaches.{HasReach}
use Rattle.plan_residual.specs.Residual.{HasPlan}
use Rattle.plan_residual.specs.Sweep.{right_at}
use Rattle.next_unit.specs.Core.{HasRoomDown}
use Rattle.next_unit.specs.Laws.{CarryHelpsRight}

-- the most senior right that it would help
pub record IsFirstHelped (b : Basin) (m : MonthRecord) (link right : ℕ) : Type 0 where
  pub in_range : right < length b.rights
  pub helps : CarryHelpsRight b m link right
  pub first : (s : ℕ) → s < length b.rights → IsTrue (is_senior b s right) → CarryHelpsRight b m link s → ⊥

-- that right, or none where it would help nobody
abbrev pub IsHelped : Basin → MonthRecord → ℕ → Option ℕ → Type 0
IsHelped b m link None = (s : ℕ) → s < length b.rights → CarryHelpsRight b m link s → ⊥
IsHelped b m link (Some right) = IsFirstHelped b m link right

-- and so for each link
pub record AreHelped (b : Basin) (m : MonthRecord) (helped : List (Option ℕ)) : Type 0 where
  pub count : length helped ≡ length b.links
  pub each : (e : ℕ) → e < length b.links → IsHelped b m e (slice_index_or helped e None)

-- a link whose carry would help no diversion or zone, and no right at the first indices of the order
pub record HelpsNoneTo (b : Basin) (m : MonthRecord) (indices link : ℕ) : Type 0 where
  pub before : (i : ℕ) → i < indices → CarryHelpsRight b m link (right_at b i) → ⊥
  pub instream : (s : ℕ) → s < length b.rights → instream_link b s ≡ None → CarryHelpsRight b m link s → ⊥

-- the most senior right that it would help, or none so far
abbrev pub IsHelpedTo : Basin → MonthRecord → ℕ → ℕ → Option ℕ → Type 0
IsHelpedTo b m indices link None = HelpsNoneTo b m indices link
IsHelpedTo b m indices link (Some right) = IsFirstHelped b m link right

pub record AreHelpedTo (b : Basin) (m : MonthRecord) (indices : ℕ) (helped : List (Option ℕ)) : Type 0 where
  pub count : length helped ≡ length b.links
  pub each : (e : ℕ) → e < length b.links → IsHelpedTo b m indices e (slice_index_or helped e None)

-- the first entries of a list are links
abbrev pub AreLinks : Basin → List ℕ → ℕ → Type 0
AreLinks b links count = (count ≤ length links) × ((j : ℕ) → j < count → slice_index links j < length b.links)

-- of each link the right that one more unit of carry on it would help was noted, or that there is none, or it is listed
-- as undecided
abbrev pub IsListed : List ℕ → ℕ → ℕ → Type 0
IsListed undecided count e = (j : ℕ) × (j < count) × (slice_index undecided j ≡ e)

pub record AreUndecided (b : Basin) (m : MonthRecord) (helped : List (Option ℕ)) (undecided : List ℕ) (count : ℕ) :
    Type 0
  where
    pub links : AreLinks b undecided count
    pub each : (e : ℕ) → e < length b.links →
        IsHelped b m e (slice_index_or helped e None) ⊎ IsListed undecided count e

-- none of them enters a set
abbrev pub NoneEnters : Basin → List Bool → List ℕ → ℕ → Type 0
NoneEnters b cut links count = (j : ℕ) → j < count → enters b cut (slice_index links j) ≡ false

-- one more unit of carry on one of them would not help a right
abbrev pub HelpNot : Basin → MonthRecord → List ℕ → ℕ → ℕ → Type 0
HelpNot b m links count right = (j : ℕ) → j < count → CarryHelpsRight b m (slice_index links j) right → ⊥

-- the first links are decided before any search for a core, or are listed
pub record AreDecided (b : Basin) (m : MonthRecord) (helped : List (Option ℕ)) (undecided : List ℕ) (count links : ℕ) :
    Type 0
  where
    pub for_helped : length helped ≡ length b.links
    pub for_list : length undecided ≡ length b.links
    pub bounded : count ≤ links
    pub listed : (j : ℕ) → j < count → slice_index undecided j < length b.links
    pub each : (e : ℕ) → e < links → IsHelpedTo b m 0 e (slice_index_or helped e None)
    pub decided : (e : ℕ) → e < links →
        IsHelped b m e (slice_index_or helped e None) ⊎ IsListed undecided count e

-- for the first of the undecided links one more right was gone over than for the others
pub record AreBeingHelped (b : Basin) (m : MonthRecord) (position : ℕ) (helped : List (Option ℕ)) (undecided : List ℕ)
    (done : ℕ) : Type 0 where
  pub each : AreHelpedTo b m position helped
  pub gone_over : (j : ℕ) → j < done →
      IsHelpedTo b m (position + 1) (slice_index undecided j) (slice_index_or helped (slice_index undecided j) None)

-- for each short right there is room for one more unit down the rivers
pub record HasRoomForAll (b : Basin) (m : MonthRecord) : Type 0 where
  pub each : (r : ℕ) → r < length b.rights → IsShort m r → HasRoomDown b m r

-- a month with a plan of its own, whose sets are the reaches, and with that room
pub record TakesOneMore (b : Basin) (m : MonthRecord) : Type 0 where
  pub plan : HasPlan b m
  pub reaches : HasReaches b m
  pub room : HasRoomForAll b m

-- a short right of such a month, with its core
pub record IsCandidate (b : Basin) (m : MonthRecord) (right : ℕ) (core : List Bool) : Type 0 where
  pub short : IsShort m right
  pub room : HasRoomDown b m right
  pub is_core : IsCore b m right core
  pub cut : HasCut b m.cuts right
  pub reach : HasReach b m right

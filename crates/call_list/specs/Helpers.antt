-- What contracts see of a finder of help, and of what it found.
use Rattle.std.specs.Prelude.{◌≡◌, ℕ, ◌<◌, ◌≤◌, Bool, false, List, [], length, Some}
use Rattle.cut_cert.specs.Sets.{HasCut, cut_at}
use Rattle.water_model.specs.CutSets.{CutSets, set_of}
use Rattle.water_model.specs.Lookups.{has}
use Rattle.water_model.specs.Valid.{IsValidBasin}
use Rattle.water_model.specs.declared.space.Space.{Space}
use Rattle.water_model.specs.declared.space.Space.TheVariants as space
use Rattle.water_model.specs.declared.types.Basin.{Basin}
use Rattle.water_model.specs.declared.types.MonthRecord.{MonthRecord}
use Rattle.plan_residual.specs.Core.{IsCore}
use Rattle.plan_residual.specs.Rows.{SearchSeen, IsSearchOf}
use Rattle.call_list.specs.Helping.{link_lines, node_lines}
use Rattle.call_list.specs.declared.entry.Entry.{Entry}

-- its search through the network, and the cuts in which it keeps a core
pub record HelpFinderSeen : Type 0 where
  pub search : SearchSeen
  pub cuts : CutSets

-- a finder for the months of a basin
pub record IsHelpFinderOf (b : Basin) (finder : HelpFinderSeen) : Type 0 where
  pub search : IsSearchOf b finder.search
  pub rights : length finder.cuts.sets ≡ length b.rights
  pub nodes : finder.cuts.nodes ≡ length b.nodes

-- the set of a right in these cuts is its core
pub record HoldsCore (b : Basin) (m : MonthRecord) (right : ℕ) (cuts : CutSets) : Type 0 where
  pub cut : HasCut b cuts right
  pub is_core : IsCore b m right (cut_at cuts right)

-- cuts of as many rights and nodes have this set of a right
pub record HoldsSet (before now : CutSets) (right : ℕ) (set : List Bool) : Type 0 where
  pub rights : length now.sets ≡ length before.sets
  pub nodes : now.nodes ≡ before.nodes
  pub is : set_of now right ≡ Some set

-- the set of a right has its first nodes as this set has them, and no other yet
pub record HoldsPrefix (before now : CutSets) (right : ℕ) (set : List Bool) (done : ℕ) : Type 0 where
  pub prefix : List Bool
  pub holds : HoldsSet before now right prefix
  pub sized : length prefix ≡ length set
  pub settled : (n : ℕ) → n < done → has prefix n ≡ has set n
  pub rest : (n : ℕ) → done ≤ n → has prefix n ≡ false

-- a right of a basin, with cuts that have its reach and cuts that have its core
pub record HelpSeen : Type 0 where
  pub basin : Basin
  pub reach : CutSets
  pub core : CutSets
  pub right : ℕ

abbrev pub help_seen : Basin → CutSets → CutSets → ℕ → HelpSeen
help_seen b reach core right = record { basin = b; reach = reach; core = core; right = right }

pub record IsHelpSeen (h : HelpSeen) : Type 0 where
  pub valid : IsValidBasin h.basin
  pub reach : HasCut h.basin h.reach h.right
  pub core : HasCut h.basin h.core h.right

-- the lines of its nodes and links
abbrev pub help_lines : HelpSeen → Space → ℕ → List Entry
help_lines h space.Nodes node = node_lines (cut_at h.core h.right) node
help_lines h space.Links link = link_lines h.basin (cut_at h.reach h.right) (cut_at h.core h.right) link
help_lines h space.Reservoirs entry = []
help_lines h space.Rights entry = []

-- What contracts see of a finder.
use Rattle.std.specs.Prelude.{◌≡◌, ℕ, List, length}
use Rattle.water_model.specs.declared.types.Basin.{Basin}
use Rattle.plan_residual.specs.Rows.{SearchSeen, IsSearchOf}
use Rattle.call_list.specs.Found.{Found}

-- its search through the network, its list of links, and what was found in the last month
pub record FinderSeen : Type 0 where
  pub search : SearchSeen
  pub undecided : List ℕ
  pub found : Found

-- a finder for the months of a basin
pub record IsFinderOf (b : Basin) (finder : FinderSeen) : Type 0 where
  pub search : IsSearchOf b finder.search
  pub undecided : length finder.undecided ≡ length b.links
  pub nodes : length finder.found.next ≡ length b.nodes
  pub links : length finder.found.helped ≡ length b.links

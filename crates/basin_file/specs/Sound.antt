-- What a basin keeps by its document alone, before its network, its rights and its area tables are looked at.
use Rattle.std.specs.Prelude.{◌≡◌, ◌<◌, ◌≤◌, length, All, false}
use Rattle.water_model.specs.Basin.{is_outlet}
use Rattle.water_model.specs.Valid.{IsMonthly, IsValidPoint, HasValidFormat, IsValidRun, HasBoundedEntries, IsValidNode}
use Rattle.water_model.specs.Valid.{IsValidLink, IsValidRight, AreRanked, AreDue, HasSoundStores, IsValidReturn, HasOwnNames}
use Rattle.water_model.specs.declared.types.Basin.{Basin}
use Rattle.water_model.specs.declared.types.Reservoir.{Reservoir}

-- a valid reservoir but for its area table
pub record IsSoundReservoir (b : Basin) (v : Reservoir) : Type 0 where
  pub node : v.node < length b.nodes
  pub inner : is_outlet b v.node ≡ false
  pub opening : v.opening ≤ 16000000000
  pub points : All IsValidPoint v.area
  pub bounded_points : length v.area ≤ 64
  pub rate : IsMonthly 10000 v.rate

-- a valid basin but for its network, its roll of rights and its area tables
pub record IsSoundBasin (b : Basin) : Type 0 where
  pub format : HasValidFormat b
  pub run : IsValidRun b
  pub bounded : HasBoundedEntries b
  pub nodes : All IsValidNode b.nodes
  pub links : All (λ l. IsValidLink b l) b.links
  pub reservoirs : All (λ v. IsSoundReservoir b v) b.reservoirs
  pub rights : All (λ r. IsValidRight b r) b.rights
  pub ranked : AreRanked 0 b.rights
  pub returns : All (λ row. IsValidReturn b row) b.returns
  pub due : AreDue b
  pub names : HasOwnNames b
  pub stores : HasSoundStores b

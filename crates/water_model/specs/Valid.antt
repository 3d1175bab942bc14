-- Valid basins, and the inflows that fit one.
use Rattle.std.specs.Prelude.{◌≡◌, ◌≢◌, ℕ, ◌+◌, ◌*◌, ◌^◌, ◌<◌, ◌≤◌, ◌==◌, List, [], ◌∷◌, length, All, IsTrue, replicate}
use Rattle.std.specs.Prelude.{Option, Some, None, Bool, true, false, filter, is_some, not, ◌&&◌, ◌||◌}
use Rattle.std.specs.List.{list_all}
use Rattle.finite_sums.specs.Sums.{count_where}
use Rattle.water_text.specs.Names.{is_name}
use Rattle.water_text.specs.Months.{IsMonth}
use Rattle.water_model.specs.Lookups.{of_entry}
use Rattle.water_model.specs.Network.{HasNodes, IsSoundNetwork}
use Rattle.water_model.specs.Rights.{IsSoundRoll}
use Rattle.water_model.specs.Basin.{is_outlet, node_of_reservoir, node_name, link_name, right_name}
use Rattle.water_model.specs.Indices.{indices_of}
use Rattle.water_model.specs.Stores.{is_owned, first_stored, account_name, sum_in_reservoir, draw_key}
use Rattle.water_model.specs.declared.types.Account.{Account}
use Rattle.water_model.specs.declared.types.AreaPoint.{AreaPoint}
use Rattle.water_model.specs.declared.types.Basin.{Basin}
use Rattle.water_model.specs.declared.types.Carry.{Carry}
use Rattle.water_model.specs.declared.types.Carry.TheVariants.{River, Canal}
use Rattle.water_model.specs.declared.types.Draw.{Draw}
use Rattle.water_model.specs.declared.types.Inflow.{Inflow}
use Rattle.water_model.specs.declared.types.Inflow.TheVariants.{Monthly, Gauged}
use Rattle.water_model.specs.declared.types.Series.{Series}
use Rattle.water_model.specs.declared.types.Link as link
use Rattle.water_model.specs.declared.types.Node as node
use Rattle.water_model.specs.declared.types.Reservoir as reservoir
use Rattle.water_model.specs.declared.types.ReturnRow.{ReturnRow}
use Rattle.water_model.specs.declared.types.Right.{Right}
use Rattle.water_model.specs.declared.types.RightKind.{RightKind}
use Rattle.water_model.specs.declared.types.RightKind.TheVariants as kind
use Rattle.water_model.specs.declared.types.Want.{Want}
use Rattle.water_model.specs.declared.types.Want.TheVariants as wants

-- twelve numbers, from January to December, each at most this
pub record IsMonthly (most : ℕ) (numbers : List ℕ) : Type 0 where
  pub twelve : length numbers ≡ 12
  pub each : All (λ n. n ≤ most) numbers

abbrev pub IsValidInflow : Inflow → Type 0
IsValidInflow (Monthly amounts) = IsMonthly (10 ^ 9) amounts
IsValidInflow Gauged = Unit {0}

-- a canal is open or shut in each of the twelve calendar months
abbrev pub IsValidCarry : Carry → Type 0
IsValidCarry River = Unit {0}
IsValidCarry (Canal per_day shut) = (per_day ≤ 10 ^ 9) × (length shut ≡ 12)

-- a canal that is never shut, and any river
abbrev pub IsAlwaysOpen : Carry → Type 0
IsAlwaysOpen River = Unit {0}
IsAlwaysOpen (Canal per_day shut) = shut ≡ replicate 12 false

pub record IsValidNode (n : node.Node) : Type 0 where
  pub name : IsTrue (is_name n.name)
  pub inflow : IsValidInflow n.inflow

pub record IsValidLink (b : Basin) (l : link.Link) : Type 0 where
  pub name : IsTrue (is_name l.name)
  pub ends : HasNodes b.nodes l
  pub carry : IsValidCarry l.carry

pub record IsValidPoint (p : AreaPoint) : Type 0 where
  pub storage : p.storage ≤ 16000000000
  pub area : p.area ≤ 10 ^ 9

-- after a point, each storage is above the one before, and no area below the one before
abbrev pub RisesFrom : AreaPoint → List AreaPoint → Type 0
RisesFrom before [] = Unit {0}
RisesFrom before (p ∷ points) = (before.storage < p.storage) × (before.area ≤ p.area) × RisesFrom p points

-- an area table: it begins at storage 0 and rises
abbrev pub IsAreaTable : List AreaPoint → Type 0
IsAreaTable [] = ⊥
IsAreaTable (p ∷ points) = (p.storage ≡ 0) × RisesFrom p points

pub record IsValidReservoir (b : Basin) (v : reservoir.Reservoir) : Type 0 where
  pub node : v.node < length b.nodes
  pub inner : is_outlet b v.node ≡ false
  pub opening : v.opening ≤ 16000000000
  pub points : All IsValidPoint v.area
  pub bounded_points : length v.area ≤ 64
  pub table : IsAreaTable v.area
  pub rate : IsMonthly 10000 v.rate

abbrev pub HasValidSite : Basin → RightKind → Type 0
HasValidSite b (kind.Diversion node) = node < length b.nodes
HasValidSite b (kind.Instream link) = link < length b.links
HasValidSite b (kind.Zone reservoir level) = (reservoir < length b.reservoirs) × (1 ≤ level) × (level ≤ 16)

abbrev pub is_diversion_kind : RightKind → Bool
is_diversion_kind (kind.Diversion node) = true
is_diversion_kind (kind.Instream link) = false
is_diversion_kind (kind.Zone reservoir level) = false

abbrev pub is_diversion : Basin → ℕ → Bool
is_diversion b right = of_entry b.rights right (λ r. is_diversion_kind r.kind) false

abbrev pub is_zone_kind : RightKind → Bool
is_zone_kind (kind.Diversion node) = false
is_zone_kind (kind.Instream link) = false
is_zone_kind (kind.Zone reservoir level) = true

abbrev pub is_zone : Basin → ℕ → Bool
is_zone b right = of_entry b.rights right (λ r. is_zone_kind r.kind) false

-- a diversion or zone may have a volume, and of a volume something may be used before the run
abbrev pub IsValidVolume : RightKind → Option ℕ → ℕ → Type 0
IsValidVolume kind None used = used ≡ 0
IsValidVolume kind (Some volume) used =
    (is_diversion_kind kind || is_zone_kind kind ≡ true) × (volume ≤ 16000000000) × (used ≤ volume)

-- in which calendar months a right has its want: a zone in its season, any other right in all twelve
pub record IsValidSeason (kind : RightKind) (season : List Bool) : Type 0 where
  pub twelve : length season ≡ 12
  pub others : is_zone_kind kind ≡ false → season ≡ replicate 12 true

abbrev pub is_series : Want → Bool
is_series (wants.Monthly amounts) = false
is_series wants.Series = true

abbrev pub IsValidWant : Want → Type 0
IsValidWant (wants.Monthly amounts) = IsMonthly (10 ^ 9) amounts
IsValidWant wants.Series = Unit {0}

pub record IsValidRight (b : Basin) (r : Right) : Type 0 where
  pub name : IsTrue (is_name r.name)
  pub order : r.order ≤ 1000000
  pub site : HasValidSite b r.kind
  pub want : IsValidWant r.want
  pub volume : IsValidVolume r.kind r.volume r.used
  pub season : IsValidSeason r.kind r.season

-- the order of the kinds of rights in a basin: all diversions, then all instream rights, then all zones
abbrev pub rank_of_kind : RightKind → ℕ
rank_of_kind (kind.Diversion node) = 0
rank_of_kind (kind.Instream link) = 1
rank_of_kind (kind.Zone reservoir level) = 2

abbrev pub AreRanked : ℕ → List Right → Type 0
AreRanked least [] = Unit {0}
AreRanked least (r ∷ rights) = (least ≤ rank_of_kind r.kind) × AreRanked (rank_of_kind r.kind) rights

pub record IsValidReturn (b : Basin) (row : ReturnRow) : Type 0 where
  pub right : row.right < length b.rights
  pub diversion : is_diversion b row.right ≡ true
  pub node : row.node < length b.nodes
  pub part : (1 ≤ row.part) × (row.part ≤ 10000)
  pub lag : (1 ≤ row.lag) × (row.lag ≤ 120)
  pub rest : row.rest ≤ 9999

-- how many return rows a diversion has
abbrev pub rows_of : Basin → ℕ → ℕ
rows_of b right = count_where (length b.returns) (λ k. of_entry b.returns k (λ row. row.right == right) false)

-- no two entries of one space have one name, and no two reservoirs stand at one node
pub record HasOwnNames (b : Basin) : Type 0 where
  pub nodes : (i j : ℕ) → i < j → j < length b.nodes → node_name b i ≢ node_name b j
  pub links : (i j : ℕ) → i < j → j < length b.links → link_name b i ≢ link_name b j
  pub rights : (i j : ℕ) → i < j → j < length b.rights → right_name b i ≢ right_name b j
  pub reservoirs : (i j : ℕ) → i < j → j < length b.reservoirs → node_of_reservoir b i ≢ node_of_reservoir b j

-- a run of 1 to 1,200 months that ends by 2999-12
pub record IsValidRun (b : Basin) : Type 0 where
  pub first : IsMonth b.first
  pub months : (1 ≤ b.months) × (b.months ≤ 1200)
  pub ends : 12 * b.first.year + b.first.month + b.months ≤ 36001

-- how many entries a basin may have
pub record HasBoundedEntries (b : Basin) : Type 0 where
  pub some_node : 1 ≤ length b.nodes
  pub nodes : length b.nodes ≤ 2000
  pub links : length b.links ≤ 4000
  pub rights : length b.rights ≤ 2000
  pub rows : (right : ℕ) → right < length b.rights → rows_of b right ≤ 8
  pub accounts : length b.accounts ≤ 2000
  pub draws : length b.draws ≤ 4000

-- a basin of format 1: water years begin with October, no canal is ever shut, and no right has a volume or a series
pub record IsFirstFormat (b : Basin) : Type 0 where
  pub year_start : b.year_start ≡ 10
  pub open_canals : All (λ l. IsAlwaysOpen l.carry) b.links
  pub volumes : All (λ r. r.volume ≡ None) b.rights
  pub no_series : All (λ r. is_series r.want ≡ false) b.rights

-- a right of format 1 or 2: nothing was used before the run; a zone has no volume, and fills in every month
pub record IsRightAlone (r : Right) : Type 0 where
  pub used : r.used ≡ 0
  pub volume : is_zone_kind r.kind ≡ true → r.volume ≡ None
  pub season : r.season ≡ replicate 12 true

-- a basin of format 1 or 2: no stored water is an owner's, and nothing is known of the time before the run
pub record IsWithoutStores (b : Basin) : Type 0 where
  pub unit : b.unit ≡ None
  pub accounts : b.accounts ≡ []
  pub draws : b.draws ≡ []
  pub rights : All IsRightAlone b.rights
  pub rests : All (λ row. row.rest ≡ 0) b.returns
  pub due : All (λ amounts. amounts ≡ []) b.due

-- a basin of format 1, 2 or 3
pub record HasValidFormat (b : Basin) : Type 0 where
  pub format : (1 ≤ b.format) × (b.format ≤ 3)
  pub year_start : (1 ≤ b.year_start) × (b.year_start ≤ 12)
  pub first : b.format ≡ 1 → IsFirstFormat b
  pub second : b.format ≤ 2 → IsWithoutStores b

-- an account: it names a zone, and holds no more than its space
pub record IsValidAccount (b : Basin) (a : Account) : Type 0 where
  pub name : IsTrue (is_name a.name)
  pub zone : is_zone b a.zone ≡ true
  pub space : a.space ≤ 10 ^ 9
  pub stored : a.stored ≤ a.space

-- a draw: it names a diversion, an account and a node
pub record IsValidDraw (b : Basin) (d : Draw) : Type 0 where
  pub diversion : is_diversion b d.diversion ≡ true
  pub account : d.account < length b.accounts
  pub node : d.node < length b.nodes
  pub want : IsMonthly (10 ^ 9) d.want
  pub volume : IsValidVolume (kind.Diversion d.node) d.volume d.used

-- what return rows bring from before the run: a list for each row, at most as long as its lag. A row past the end of
-- the lists brings nothing
pub record AreDue (b : Basin) : Type 0 where
  pub rows : length b.due ≤ length b.returns
  pub amounts : All (All (λ n. n ≤ 10 ^ 9)) b.due
  pub bounded : (k : ℕ) → k < length b.returns →
      length (of_entry b.due k (λ amounts. amounts) []) ≤ of_entry b.returns k (λ row. row.lag) 0

-- whether a right has what only an owned zone may have: a zone with a volume, or with a season
abbrev pub is_zone_with_rule : Right → Bool
is_zone_with_rule r = is_zone_kind r.kind && (is_some r.volume || not (list_all (λ fills. fills) r.season))

-- the accounts and draws of a basin: a zone that no account names has neither a volume nor a season, what accounts hold
-- when the run begins is in their reservoir, no two accounts have one name, and no two draws the same diversion, account
-- and node
pub record HasSoundStores (b : Basin) : Type 0 where
  pub accounts : All (λ a. IsValidAccount b a) b.accounts
  pub draws : All (λ d. IsValidDraw b d) b.draws
  pub alone : (r : ℕ) → r < length b.rights → is_owned b r ≡ false →
      of_entry b.rights r is_zone_with_rule false ≡ false
  pub stored : (v : ℕ) → v < length b.reservoirs →
      sum_in_reservoir b (first_stored b) v ≤ of_entry b.reservoirs v (λ r. r.opening) 0
  pub names : (i j : ℕ) → i < j → j < length b.accounts → account_name b i ≢ account_name b j
  pub own_draws : (i j : ℕ) → i < j → j < length b.draws → draw_key b i ≢ draw_key b j

-- a valid basin: its format, its entries by themselves, their names and numbers, its network and its rights
pub record IsValidBasin (b : Basin) : Type 0 where
  pub format : HasValidFormat b
  pub run : IsValidRun b
  pub bounded : HasBoundedEntries b
  pub nodes : All IsValidNode b.nodes
  pub links : All (λ l. IsValidLink b l) b.links
  pub reservoirs : All (λ v. IsValidReservoir b v) b.reservoirs
  pub rights : All (λ r. IsValidRight b r) b.rights
  pub ranked : AreRanked 0 b.rights
  pub returns : All (λ row. IsValidReturn b row) b.returns
  pub due : AreDue b
  pub names : HasOwnNames b
  pub network : IsSoundNetwork b.nodes b.links
  pub roll : IsSoundRoll b.rights b.returns
  pub stores : HasSoundStores b

-- the gauged nodes, and the rights whose wants stand in the series, in the order of the basin
abbrev pub is_gauged_kind : Inflow → Bool
is_gauged_kind (Monthly amounts) = false
is_gauged_kind Gauged = true

abbrev pub is_gauged : Basin → ℕ → Bool
is_gauged b node = of_entry b.nodes node (λ n. is_gauged_kind n.inflow) false

abbrev pub gauged_nodes : Basin → List ℕ
gauged_nodes b = filter (λ n. is_gauged b n) (indices_of b.nodes)

abbrev pub is_in_series : Basin → ℕ → Bool
is_in_series b right = of_entry b.rights right (λ r. is_series r.want) false

abbrev pub rights_in_series : Basin → List ℕ
rights_in_series b = filter (λ r. is_in_series b r) (indices_of b.rights)

-- for each gauged node an amount, and for each right in the series a want, for each month of the run, each at most 10^9
pub record IsSeriesOf (b : Basin) (series : Series) : Type 0 where
  pub gauged : series.gauged ≡ gauged_nodes b
  pub amounts : length series.amount ≡ b.months * length series.gauged
  pub small_amounts : All (λ n. n ≤ 10 ^ 9) series.amount
  pub wanted : series.wanted ≡ rights_in_series b
  pub wants : length series.want ≡ b.months * length series.wanted
  pub small_wants : All (λ n. n ≤ 10 ^ 9) series.want

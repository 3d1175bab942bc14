-- The basin that a number and a size make.
use Rattle.std.specs.Prelude.{ℕ, ◌+◌, ◌-◌, ◌*◌, ◌/◌, ◌%◌, ◌==◌, List, [], ◌++◌, None, if◌then◌else◌}
use Rattle.water_model.specs.declared.types.Basin.{Basin}
use Rattle.water_model.specs.declared.types.Link.{Link}
use Rattle.water_model.specs.declared.types.Node.{Node}
use Rattle.water_model.specs.declared.types.Reservoir.{Reservoir}
use Rattle.water_model.specs.declared.types.ReturnRow.{ReturnRow}
use Rattle.water_model.specs.declared.types.Right.{Right}
use Rattle.basin_gen.specs.Draws.{later, list_of}
use Rattle.basin_gen.specs.Entries.{node_at, river_at, canal_at, reservoir_at, diversion_at, instream_at, return_at}
use Rattle.basin_gen.specs.Entries.{zone_at}

-- nodes 0, 2, 4, .. take twelve draws each, and the others none
abbrev pub draws_of_node : ℕ → ℕ
draws_of_node i = if i % 2 == 0 then 12 else 0

-- how many draws the nodes before node i take
abbrev pub draws_of_nodes : ℕ → ℕ
draws_of_nodes i = 12 * ((i + 1) / 2)

unfoldable pub nodes_of : ℕ → ℕ → List Node
nodes_of size x = list_of size (λ i. node_at size i (later x (draws_of_nodes i)))

-- a river leaves each node but the last
unfoldable pub rivers_of : ℕ → ℕ → List Link
rivers_of size x = list_of (size - 1) (λ i. river_at size i (later x i))

-- a canal leaves the nodes 1, 5, 9, .. but the last
abbrev pub count_of_canals : ℕ → ℕ
count_of_canals size = (size + 1) / 4

unfoldable pub canals_of : ℕ → ℕ → List Link
canals_of size x = list_of (count_of_canals size) (λ j. canal_at size (4 * j + 1) (later x (2 * j)))

-- a reservoir stands at the nodes 20, 60, 100, .. but the last
abbrev pub count_of_reservoirs : ℕ → ℕ
count_of_reservoirs size = (size + 18) / 40

unfoldable pub reservoirs_of : ℕ → ℕ → List Reservoir
reservoirs_of size x = list_of (count_of_reservoirs size) (λ j. reservoir_at (40 * j + 20) (later x (2 * j)))

-- diversions and instream rights are made in turns. The turns 3, 7, 11, .. make an instream right, the others a
-- diversion, and the turns 0, 4, 8, .. a return row of it too. A right takes three draws, and so does a row
abbrev pub count_of_turns : ℕ → ℕ
count_of_turns size = size / 20

abbrev pub draws_of_turns : ℕ → ℕ
draws_of_turns k = 3 * k + 3 * ((k + 3) / 4)

abbrev pub turn_of_diversion : ℕ → ℕ
turn_of_diversion d = d + d / 3

abbrev pub count_of_diversions : ℕ → ℕ
count_of_diversions turns = turns - turns / 4

abbrev pub count_of_instreams : ℕ → ℕ
count_of_instreams turns = turns / 4

abbrev pub count_of_returns : ℕ → ℕ
count_of_returns turns = (turns + 3) / 4

abbrev pub diversions_in : ℕ → ℕ → ℕ → List Right
diversions_in size x turns =
    list_of (count_of_diversions turns)
    (λ d. diversion_at size (turn_of_diversion d) (later x (draws_of_turns (turn_of_diversion d))))

abbrev pub instreams_in : ℕ → ℕ → ℕ → List Right
instreams_in size x turns =
    list_of (count_of_instreams turns) (λ j. instream_at size (4 * j + 3) (later x (draws_of_turns (4 * j + 3))))

-- of four turns three make a diversion, so that of turn 4 j is diversion 3 j
abbrev pub returns_in : ℕ → ℕ → ℕ → List ReturnRow
returns_in size x turns =
    list_of (count_of_returns turns) (λ j. return_at size (3 * j) (later x (draws_of_turns (4 * j) + 3)))

unfoldable pub diversions_of : ℕ → ℕ → List Right
diversions_of size x = diversions_in size x (count_of_turns size)

unfoldable pub instreams_of : ℕ → ℕ → List Right
instreams_of size x = instreams_in size x (count_of_turns size)

unfoldable pub returns_of : ℕ → ℕ → List ReturnRow
returns_of size x = returns_in size x (count_of_turns size)

unfoldable pub zones_of : ℕ → ℕ → List Right
zones_of size x = list_of (2 * count_of_reservoirs size) (λ z. zone_at z (later x z))

-- the generator's number before the first draw of each table
abbrev pub before_nodes : ℕ → ℕ
before_nodes number = number + 1

abbrev pub before_rivers : ℕ → ℕ → ℕ
before_rivers number size = later (before_nodes number) (draws_of_nodes size)

abbrev pub before_canals : ℕ → ℕ → ℕ
before_canals number size = later (before_rivers number size) (size - 1)

abbrev pub before_reservoirs : ℕ → ℕ → ℕ
before_reservoirs number size = later (before_canals number size) (2 * count_of_canals size)

abbrev pub before_rights : ℕ → ℕ → ℕ
before_rights number size = later (before_reservoirs number size) (2 * count_of_reservoirs size)

abbrev pub before_zones : ℕ → ℕ → ℕ
before_zones number size = later (before_rights number size) (draws_of_turns (count_of_turns size))

-- a run of 60 months from October 1950. Rights stand in the order of their kinds
unfoldable pub generated : ℕ → ℕ → Basin
generated number size = record {
  format = 1;
  unit = None;
  first = record { year = 1950; month = 10 };
  months = 60;
  year_start = 10;
  nodes = nodes_of size (before_nodes number);
  links = rivers_of size (before_rivers number size) ++ canals_of size (before_canals number size);
  reservoirs = reservoirs_of size (before_reservoirs number size);
  rights = diversions_of size
      (before_rights number size) ++ (instreams_of size (before_rights number size) ++ zones_of size
      (before_zones number size));
  returns = returns_of size (before_rights number size);
  due = [];
  accounts = [];
  draws = [];
}

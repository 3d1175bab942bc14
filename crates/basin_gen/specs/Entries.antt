-- The entries of a generated basin. Each is made where the generator's number is x, by the draws that it names in turn.
-- Names begin with n (110), r (114), c (99), d (100), s (115) or z (122); those of zones end with a (97) or b (98).
use Rattle.std.specs.Prelude.{ℕ, ◌+◌, ◌-◌, ◌/◌, ◌%◌, ◌==◌, min, List, [], ◌∷◌, ◌++◌, replicate, None, false, true}
use Rattle.std.specs.Prelude.{if◌then◌else◌}
use Rattle.std.specs.Fmt.{decimal}
use Rattle.water_model.specs.declared.types.Carry.TheVariants.{River, Canal}
use Rattle.water_model.specs.declared.types.Inflow.TheVariants.{Monthly}
use Rattle.water_model.specs.declared.types.Link.{Link}
use Rattle.water_model.specs.declared.types.Node.{Node}
use Rattle.water_model.specs.declared.types.Reservoir.{Reservoir}
use Rattle.water_model.specs.declared.types.ReturnRow.{ReturnRow}
use Rattle.water_model.specs.declared.types.Right.{Right}
use Rattle.water_model.specs.declared.types.RightKind.{RightKind}
use Rattle.water_model.specs.declared.types.RightKind.TheVariants.{Diversion, Instream, Zone}
use Rattle.water_model.specs.declared.types.Want.TheVariants as wants
use Rattle.basin_gen.specs.Draws.{next, drawn, later, list_of}

-- a list of twelve, with one draw for each month
unfoldable pub twelve_drawn : ℕ → ℕ → List ℕ
twelve_drawn x k = list_of 12 (λ m. drawn (later x m) k)

-- a node of even number has an inflow for each month, and one of odd number has none; the last is the outlet
unfoldable pub inflow_at : ℕ → ℕ → List ℕ
inflow_at i x = if i % 2 == 0 then twelve_drawn x 100 else replicate 12 0

abbrev pub node_at : ℕ → ℕ → ℕ → Node
node_at size i x = record { name = 110 ∷ decimal i; outlet = i + 1 == size; inflow = Monthly (inflow_at i x) }

-- a link leads to one of the next nodes, at most `reach` further
unfoldable pub node_after : ℕ → ℕ → ℕ → ℕ → ℕ
node_after size reach i x = i + 1 + drawn x (min reach (size - 1 - i))

abbrev pub river_at : ℕ → ℕ → ℕ → Link
river_at size i x = record { name = 114 ∷ decimal i; from = i; to = node_after size 3 i x; carry = River }

abbrev pub canal_at : ℕ → ℕ → ℕ → Link
canal_at size i x = record {
  name = 99 ∷ decimal i;
  from = i;
  to = node_after size 5 i x;
  carry = Canal (drawn (next x) 20) (replicate 12 false);
}

abbrev pub reservoir_at : ℕ → ℕ → Reservoir
reservoir_at i x = record {
  node = i;
  opening = drawn x 500;
  area = record { storage = 0; area = 0 } ∷ record { storage = 1000; area = 100 } ∷ [];
  rate = replicate 12 (drawn (next x) 200);
}

-- a right of 1 January of a year, with one want for all months
abbrev pub right_of : List ℕ → RightKind → ℕ → ℕ → ℕ → Right
right_of name kind year order want = record {
  name = name;
  date = record { year = year; month = 1; day = 1 };
  order = order;
  kind = kind;
  want = wants.Monthly (replicate 12 want);
  volume = None;
  used = 0;
  season = replicate 12 true;
}

abbrev pub diversion_at : ℕ → ℕ → ℕ → Right
diversion_at size k x =
    right_of (100 ∷ decimal k) (Diversion (drawn x size)) (1850 + drawn (next x) 100) k (drawn (next (next x)) 300)

-- rivers come first in the list of links, so a river has its own number there
abbrev pub instream_at : ℕ → ℕ → ℕ → Right
instream_at size k x =
    right_of (115 ∷ decimal k) (Instream (drawn x (size - 1))) (1850 + drawn (next x) 100) k (drawn (next (next x)) 300)

abbrev pub return_at : ℕ → ℕ → ℕ → ReturnRow
return_at size right x = record {
  right = right;
  node = drawn x size;
  part = 1000 + drawn (next x) 8000;
  lag = 1 + drawn (next (next x)) 12;
  rest = 0;
}

abbrev pub lower_zone_at : ℕ → ℕ → Right
lower_zone_at j x = right_of (122 ∷ decimal j ++ 97 ∷ []) (Zone j 1) 1880 (10000 + j) (100 + drawn x 200)

abbrev pub upper_zone_at : ℕ → ℕ → Right
upper_zone_at j x = right_of (122 ∷ decimal j ++ 98 ∷ []) (Zone j 2) 1940 (20000 + j) (drawn x 400)

-- each reservoir has two zones, one after the other
unfoldable pub zone_at : ℕ → ℕ → Right
zone_at z x = if z % 2 == 0 then lower_zone_at (z / 2) x else upper_zone_at (z / 2) x

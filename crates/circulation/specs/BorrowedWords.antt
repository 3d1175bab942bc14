-- What the fields of a lent circulation mean, and what they keep.
use Rattle.std.specs.Prelude.{ℕ, ◌≡◌, ◌*◌, ◌<◌, ◌^◌, length, map, slice_index}
use Rattle.circulation.specs.Contents.{Contents, IsCirculation}
use Rattle.circulation.specs.Places.{tail_of, head_of}
use Rattle.circulation.specs.Rooms.{flows_over, uppers_over}
use Rattle.circulation.specs.declared.circulation_mut.CirculationMut.TheInside.{Inside}

-- the contents that its fields hold
abbrev pub contents : Inside → Contents
contents i = record {
  nodes = i.nodes;
  from = map tail_of i.ends.now;
  to = map head_of i.ends.now;
  supply = i.supply.now;
  lower = i.lower.now;
  upper = uppers_over i.lower.now i.rooms.now;
  flow = flows_over i.lower.now i.rooms.now;
  scratch = i.scratch.now;
  rows = record { first = i.first.now; step = i.step.now; end = i.end.now };
}

-- a network with a flow, the rows of its steps, and a room for each step
pub record IsValidCirculation (i : Inside) : Type 0 where
  pub circulation : IsCirculation (contents i)
  pub small : (p : ℕ) → slice_index i.end.now p < 2 ^ 32
  pub rooms : length i.rooms.now ≡ 2 * length i.lower.now

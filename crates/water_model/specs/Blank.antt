-- What a record begins with.
use Rattle.std.specs.Prelude.{ℕ, length, replicate, None}
use Rattle.water_text.specs.declared.month.Month.{Month}
use Rattle.water_model.specs.declared.types.Basin.{Basin}
use Rattle.water_model.specs.declared.types.MonthRecord.{MonthRecord}
use Rattle.water_model.specs.declared.types.Plan.{Plan}

-- nothing flows, and nobody takes
abbrev pub blank_plan : Basin → Plan
blank_plan b = record {
  flow = replicate (length b.links) 0;
  take = replicate (length b.rights) 0;
  out = replicate (length b.nodes) 0;
}

-- a month of which nothing is known: all numbers are 0, and no right has a set
abbrev pub blank_month : Basin → ℕ → Month → MonthRecord
blank_month b index month = record {
  index = index;
  month = month;
  opening = replicate (length b.reservoirs) 0;
  evaporated = replicate (length b.reservoirs) 0;
  returned = replicate (length b.nodes) 0;
  used = replicate (length b.rights) 0;
  supply = replicate (length b.nodes) 0;
  want = replicate (length b.rights) 0;
  plan = blank_plan b;
  delivered = replicate (length b.rights) 0;
  cuts = record { nodes = length b.nodes; sets = replicate (length b.rights) None };
  closing = replicate (length b.reservoirs) 0;
}

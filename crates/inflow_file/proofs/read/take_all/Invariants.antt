use Rattle.inflow_file.proofs.Words.{◌≡◌, ℕ, ◌+◌, ◌++◌, [], List, length, map, with_kind, given_by, first_fault}
use Rattle.inflow_file.specs.RecordsLeft.{IsReading, records_left}
use Rattle.inflow_file.proofs.read.take_all.Given as goal

abbrev pub invariant-rows : goal.invariant-rows
invariant-rows l = record {
  reading : IsReading l.reader;
  before : List (List (List ℕ));
  all : before ++ map (with_kind l.kinds) (records_left l.reader) ≡ map (with_kind l.kinds)
      (records_left l.initial.reader);
  amounts : l.amounts ≡ given_by l.columns.basin.now before;
  faults : first_fault l.columns.basin.now before (l.number + 1) (map (with_kind l.kinds) (records_left l.reader))
      ≡ first_fault l.columns.basin.now [] 2 (map (with_kind l.kinds) (records_left l.initial.reader));
  numbered : l.number + length (records_left l.reader) ≡ 1 + length (records_left l.initial.reader);
}

abbrev pub decreases-rows : goal.decreases-rows
decreases-rows l = length (records_left l.reader)

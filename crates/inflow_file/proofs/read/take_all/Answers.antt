use Rattle.inflow_file.proofs.Words.{◌∙◌, ◌∷◌, [], ◌++◌, ◌+◌, ap, sym, arith, length, map, fields_of, with_kind}
use Rattle.inflow_file.proofs.Words.{given_by, entries_of}
use Rattle.inflow_file.proofs.DueLaws.{length-given}
use Rattle.inflow_file.proofs.TableLaws.{fault_here, fault_later, no_fault_left, one_further, none_further}
use Rattle.inflow_file.proofs.read.take_all.Goals as goal

pub take-requires-clause-count : goal.take-requires-clause-count
take-requires-clause-count c =
    ap length c.rows.invariant.amounts
    ∙ length-given c.args.columns.now.basin.now (entries_of c.args.columns.now.basin.now c.rows.invariant.before)

pub returns-in-Err : goal.returns-in-Err
returns-in-Err c =
    let took = ap (map (with_kind c.args.kinds)) (rw c.if-branch.true at c.in_ok-read_row.ensures.takes) in
    sym c.rows.invariant.faults
    ∙ fault_here _ _ _ _ _ _ _ took (c.in-Err.ensures c.rows.invariant.before c.rows.invariant.amounts)

pub rows-preserved : goal.rows-preserved
rows-preserved c =
    let took = rw c.if-branch.true at c.in_ok-read_row.ensures.takes in
    let left = ap (map (with_kind c.args.kinds)) took in
    let taken = c.in_default.ensures c.rows.invariant.before c.rows.invariant.amounts in
    record {
      reading = c.in_ok-read_row.ensures.reading c.if-branch.true;
      before = c.rows.invariant.before ++ with_kind c.args.kinds (fields_of c.read_row.new.row) ∷ [];
      all = one_further c.rows.invariant.before _ _ _ _ left c.rows.invariant.all;
      amounts = taken.1;
      faults = sym (fault_later _ _ _ _ _ _ left taken.0) ∙ c.rows.invariant.faults;
      numbered = omega (arith, ap length took, c.rows.invariant.numbered);
    }

pub returns : goal.returns
returns c =
    let none = ap (map (with_kind c.args.kinds)) (rw c.if-branch.false at c.in_ok-read_row.ensures.takes) in (
      sym c.rows.invariant.faults ∙ no_fault_left _ _ _ _ none,
      c.rows.invariant.amounts
          ∙ ap (given_by c.args.columns.now.basin.now)
          (none_further c.rows.invariant.before _ _ none c.rows.invariant.all),
    )

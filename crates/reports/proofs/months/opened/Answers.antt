use Rattle.std.proofs.Common.{[]}
use Rattle.reports.proofs.months.opened.Goals as goal

pub returns-clause-first : goal.returns-clause-first
returns-clause-first g c = rw c.leave_flows.ensures c.in_ok-run.ensures.stands.done

pub returns-clause-kept : goal.returns-clause-kept
returns-clause-kept g c =
    rw c.leave_flows.ensures
    (record {
      records = [];
      stands = c.in_ok-run.ensures.stands;
      is = rw c.in_ok-run.ensures.basin (c.in_ok-open.ensures c.in_ok-run.run'.series);
    })

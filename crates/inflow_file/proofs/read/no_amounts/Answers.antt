use Rattle.inflow_file.proofs.Words.{◌≡◌, ◌*◌, rules, arith, replicate, None, Option, ℕ}
use Rattle.std.proofs.Common.{IfOk}
use Rattle.inflow_file.proofs.DueLaws.{none_given, small_table}
use Rattle.inflow_file.proofs.read.no_amounts.Goals as goal

pub overflow_mul-due : goal.overflow_mul-due
overflow_mul-due c = rw c.count.ensures (omega (arith, small_table _ c.requires.run.months.1 c.requires.bounded))

pub returns : goal.returns
returns c =
    let items : IfOk c.vec.result (λ v. v.items
    ≡ replicate {A = Option ℕ} (c.args.columns.now.basin.now.months * c.count.result) None) = search rules in
    rw (none_given c.args.columns.now.basin.now, ← c.count.ensures) items

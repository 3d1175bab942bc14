use Rattle.std.proofs.Common.{rules}
use Rattle.first_index.proofs.Added.{added}
use Rattle.first_index.proofs.add_index.Goals as goal

pub returns-in_ok-insert-clause-added : goal.returns-in_ok-insert-clause-added
returns-in_ok-insert-clause-added g c =
    added c.args.text c.args.indices.now c.insert.new.self c.args.index c.in_ok-insert.ensures.updates (search rules)

use Rattle.next_unit.proofs.Decided.{are_next}
use Rattle.next_unit.proofs.find_next.Goals as goal

pub returns-clause-next : goal.returns-clause-next
returns-clause-next c = are_next
    (record { plan = c.requires.plan; reaches = c.requires.reaches; room = c.requires.room })
    c.find_first_cores.ensures.firsts

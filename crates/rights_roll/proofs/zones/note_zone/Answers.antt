use Rattle.std.proofs.Common.{rules}
use Rattle.rights_roll.proofs.ZoneTables.{noted-kept, noted-put}
use Rattle.rights_roll.proofs.zones.note_zone.Goals as goal

pub returns-in_ok-insert : goal.returns-in_ok-insert
returns-in_ok-insert c =
    noted-put c.args.zones.now c.insert.new.self c.args.zone c.args.priority (search rules)
    c.in_ok-insert.ensures.updates

pub returns-else-not-has_senior : goal.returns-else-not-has_senior
returns-else-not-has_senior c = noted-kept c.args.zones.now c.args.zone c.args.priority (search rules)

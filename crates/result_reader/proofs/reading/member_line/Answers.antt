use Rattle.result_reader.proofs.MemberTexts.{IsMemberTaken, member_taken}
use Rattle.std.proofs.Common.{◌-◌, length, take}
use Rattle.result_reader.proofs.reading.member_line.Goals.{Then-begins_with}
use Rattle.result_reader.proofs.reading.member_line.Goals as goal

taken : (c : Then-begins_with) → IsMemberTaken c.args.names.now.basin.now c.args.node c.args.piece.now
    (take (length c.in_ok-line.line.now - 1) c.args.piece.now)
taken c =
    member_taken c.args.names.now.basin.now c.requires c.args.node c.in_ok-line.ensures.within c.args.piece.now
    c.in_ok-line.line.now c.in_ok-line.ensures.line (c.begins_with.ensures c.if-begins_with.true)

pub returns-then-begins_with-clause-says : goal.returns-then-begins_with-clause-says
returns-then-begins_with-clause-says c = (taken c).says

pub returns-then-begins_with-clause-takes : goal.returns-then-begins_with-clause-takes
returns-then-begins_with-clause-takes c = (taken c).takes

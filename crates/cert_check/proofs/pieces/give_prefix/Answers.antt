use Rattle.std.proofs.Common.{arith}
use Rattle.cert_check.proofs.Feeding.{held_given, to_feed_within}
use Rattle.cert_check.proofs.pieces.give_prefix.Goals as goal

pub returns-in-Some-clause-within : goal.returns-in-Some-clause-within
returns-in-Some-clause-within c = to_feed_within c.in-Some.ensures.takes

pub returns-in-Some-clause-given : goal.returns-in-Some-clause-given
returns-in-Some-clause-given c = λ text given.
    held_given given c.in-Some.ensures.held c.in-Some.ensures.takes
    c.in-Some.ensures.stands c.in-Some.ensures.good

pub returns-in-Some-clause-left : goal.returns-in-Some-clause-left
returns-in-Some-clause-left c =
    omega (
      arith,
      c.in-Some.ensures.left,
      c.in-Some.ensures.takes.short,
    )

pub give_bytes-requires-clause-some : goal.give_bytes-requires-clause-some
give_bytes-requires-clause-some c = c.requires.some

use Rattle.std.proofs.Common.{arith}
use Rattle.std.proofs.lemmas.List.{length-map}
use Rattle.circulation.specs.Places.{tail_of, head_of}
use Rattle.circulation.proofs.Opened.{from_within, to_within}
use Rattle.circulation.proofs.laying.lay_fixed.Goals as goal

pub lay_rows-requires-clause-from : goal.lay_rows-requires-clause-from
lay_rows-requires-clause-from c = λ a b. from_within _ c.args.ends.now c.pack.ensures.from c.requires.ends a
    (omega (arith, b, length-map c.pack.new.pairs tail_of))

pub lay_rows-requires-clause-to : goal.lay_rows-requires-clause-to
lay_rows-requires-clause-to c = λ a b. to_within _ c.args.ends.now c.pack.ensures.to c.requires.ends a
    (omega (arith, b, length-map c.pack.new.pairs head_of))

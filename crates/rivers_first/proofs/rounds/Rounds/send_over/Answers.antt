use Rattle.std.proofs.Common.{length, ap, arith}
use Rattle.rivers_first.specs.Rounds.{RoundsView}
use Rattle.rivers_first.proofs.Sending.{canal_inside}
use Rattle.rivers_first.proofs.rounds.Rounds.send_over.Goals as goal

pub bounds-flow-canal : goal.bounds-flow-canal
bounds-flow-canal c =
    let rounds = ap (λ (v : RoundsView). length v.rounds) c.self.view_is in
    let links = ap (λ (v : RoundsView). length v.basin.links) c.self.view_is in
    omega (
      arith,
      canal_inside c.self.invariant c.args.at c.index.result.now (omega (arith, c.requires.at, rounds)),
      c.index.ensures,
      c.requires.within.count,
      links,
    )

pub index-requires-2 : goal.index-requires-2
index-requires-2 c =
    let rounds = ap (λ (v : RoundsView). length v.rounds) c.self.view_is in
    omega (
      arith,
      canal_inside c.self.invariant c.args.at c.index.result.now (omega (arith, c.requires.at, rounds)),
      c.index.ensures,
      c.self.invariant.are.room,
    )

pub send-requires-clause-within : goal.send-requires-clause-within
send-requires-clause-within c = c.requires.within

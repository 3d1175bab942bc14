use Rattle.std.proofs.Common.{arith}
use Rattle.circulation.specs.Contents.{month_contents, on_last}
use Rattle.circulation.proofs.Starts.{frame_arcs, month-words, month_same}
use Rattle.circulation.proofs.Circulation.lend_month.Goals as goal

pub write_month-requires-clause-within : goal.write_month-requires-clause-within
write_month-requires-clause-within c = λ a b.
    let start = c.requires.start.1 in
    start.1.flow.high a (omega (arith, b, frame_arcs c.args.self.now c.requires.start.0 c.args.fixed.now start.0))

pub lend-requires : goal.lend-requires
lend-requires c =
    let start = on_last c.args.self.now.arcs c.args.start.now in
    let words = month-words c.args.moving.now c.requires.start.1.0 c.requires.count
    c.requires.start.1.1 c.write_month.ensures.1.0 c.write_month.ensures.1.1 in (
      record (month_contents c.requires.start.0 c.args.supply.now c.args.upper.now start) { scratch = words.0 },
      words.1,
    )

pub returns : goal.returns
returns c = λ d v.
    let start = on_last c.args.self.now.arcs c.args.start.now in
    let words = month-words c.args.moving.now c.requires.start.1.0 c.requires.count
    c.requires.start.1.1 c.write_month.ensures.1.0 c.write_month.ensures.1.1 in
    let is = c.lend.ensures
    (record (month_contents c.requires.start.0 c.args.supply.now c.args.upper.now start) { scratch = words.0 })
    words.1 in
    month_same c.args.supply.now c.args.upper.now start words.0 c.requires.start.1.0 v is

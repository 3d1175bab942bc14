use Rattle.water_model.proofs.Entries.{index_at, right_at}
use Rattle.water_model.proofs.space.entry_at.Goals as goal

pub bounds-order-position : goal.bounds-order-position
bounds-order-position c =
    (right_at c.args.space c.args.basin.now c.args.order.now c.args.position c.in-Rights.is c.requires.order
    c.requires.position).0

pub returns-in-Rights-clause-position : goal.returns-in-Rights-clause-position
returns-in-Rights-clause-position c =
    (right_at c.args.space c.args.basin.now c.args.order.now c.args.position c.in-Rights.is c.requires.order
    c.requires.position).1

pub returns-in-Rights-clause-within : goal.returns-in-Rights-clause-within
returns-in-Rights-clause-within c =
    (right_at c.args.space c.args.basin.now c.args.order.now c.args.position c.in-Rights.is c.requires.order
    c.requires.position).2

pub returns-in_default : goal.returns-in_default
returns-in_default c = record {
  position = index_at c.args.space c.args.basin.now c.args.position c.in_default.not-Rights c.requires.position;
  within = c.requires.position;
}

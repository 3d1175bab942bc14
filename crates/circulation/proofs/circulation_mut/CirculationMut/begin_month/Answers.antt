use Rattle.std.proofs.Common.{refl, arith, ap, sym, subst, ◌∙◌}
use Rattle.circulation.specs.Contents.{arcs, IsCirculation}
use Rattle.circulation.proofs.Kept.{month-written, month-kept}
use Rattle.circulation.proofs.circulation_mut.CirculationMut.begin_month.Goals as goal

pub write_rooms-requires-clause-size : goal.write_rooms-requires-clause-size
write_rooms-requires-clause-size c = omega (
  arith,
  c.self.invariant.rooms,
  c.self.invariant.circulation.shape.lower,
  ap arcs c.self.view_is,
  c.requires.uppers,
)

pub write_rooms-requires-clause-flows : goal.write_rooms-requires-clause-flows
write_rooms-requires-clause-flows c = c.requires.amounts ∙ sym c.requires.uppers

pub write_rooms-requires-clause-within : goal.write_rooms-requires-clause-within
write_rooms-requires-clause-within c = λ a b. c.requires.flow.high a (omega (arith, b, c.requires.uppers))

pub returns-clause-month : goal.returns-clause-month
returns-clause-month c =
    month-written c.self.view_is c.self.invariant.circulation refl
    (c.fill.ensures.after (λ y h. h)) c.copy_from_slice.ensures.after c.write_rooms.ensures c.requires

pub returns-clause-kept : goal.returns-clause-kept
returns-clause-kept c = subst IsCirculation (sym (returns-clause-month c))
    (month-kept (subst IsCirculation c.self.view_is c.self.invariant.circulation) c.requires)

pub invariant_of-self : goal.invariant_of-self
invariant_of-self c = record {
  circulation = returns-clause-kept c;
  small = c.self.invariant.small;
  rooms = omega (arith, c.write_rooms.auto.rooms, c.self.invariant.rooms, c.fill.ensures.len);
}

use Rattle.std.proofs.Common.{refl, sym}
use Rattle.rivers_first.proofs.rounds.Rounds.send_twice.Goals as goal

pub note_kept-requires-clause-valid : goal.note_kept-requires-clause-valid
note_kept-requires-clause-valid c = rw (sym c.self.view_is) at c.requires.valid

pub note_kept-requires-clause-span : goal.note_kept-requires-clause-span
note_kept-requires-clause-span c = c.self.invariant.instream

pub note_kept-requires-clause-wants : goal.note_kept-requires-clause-wants
note_kept-requires-clause-wants c = rw (sym c.self.view_is) at c.requires.wants

pub note_kept-requires-clause-flows : goal.note_kept-requires-clause-flows
note_kept-requires-clause-flows c = rw (sym c.self.view_is) at c.requires.flows

pub note_kept-requires-clause-small : goal.note_kept-requires-clause-small
note_kept-requires-clause-small c = rw (sym c.self.view_is) at c.requires.small

pub send_again-requires-clause-count : goal.send_again-requires-clause-count
send_again-requires-clause-count c = rw c.send_all-count.ensures.same c.send_all-count.ensures.count

pub send_again-requires-clause-within : goal.send_again-requires-clause-within
send_again-requires-clause-within c = rw c.send_all-count.ensures.same c.send_all-count.ensures.sent.within

pub returns-clause-basin : goal.returns-clause-basin
returns-clause-basin c = rw (c.send_all-count.ensures.same, sym c.self.view_is) refl

pub returns-clause-rounds : goal.returns-clause-rounds
returns-clause-rounds c = rw (c.send_all-count.ensures.same, sym c.self.view_is) refl

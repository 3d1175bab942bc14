use Rattle.std.proofs.Common.{sym, ◌∙◌, ap, length, refl}
use Rattle.water_model.proofs.Lists.{whole_rows}
use Rattle.rivers_first.proofs.Preferred.{preferred_written}
use Rattle.rivers_first.proofs.rounds.Rounds.prefer_rivers.Goals as goal

pub returns-clause-greatest : goal.returns-clause-greatest
returns-clause-greatest c month supply best =
    (preferred_written c.args.self.now.basin month supply c.args.want.now _ _ _ _ c.args.plan.now c.requires.valid
    c.as_mut_slice.ensures.value
    (whole_rows c.args.plan.now.flow _ (c.send_twice.ensures.sent.within.count ∙ sym c.requires.flows))
    c.send_twice.ensures.kept c.send_twice.ensures.sent best).1

pub returns-clause-deliveries : goal.returns-clause-deliveries
returns-clause-deliveries c month supply best =
    (preferred_written c.args.self.now.basin month supply c.args.want.now _ _ _ _ c.args.plan.now c.requires.valid
    c.as_mut_slice.ensures.value
    (whole_rows c.args.plan.now.flow _ (c.send_twice.ensures.sent.within.count ∙ sym c.requires.flows))
    c.send_twice.ensures.kept c.send_twice.ensures.sent best).0

pub send_twice-requires-clause-valid : goal.send_twice-requires-clause-valid
send_twice-requires-clause-valid c = c.requires.valid

pub send_twice-requires-clause-wants : goal.send_twice-requires-clause-wants
send_twice-requires-clause-wants c = c.requires.wants

pub send_twice-requires-clause-flows : goal.send_twice-requires-clause-flows
send_twice-requires-clause-flows c = ap length c.as_mut_slice.ensures.value ∙ c.requires.flows

pub send_twice-requires-clause-small : goal.send_twice-requires-clause-small
send_twice-requires-clause-small c = rw c.as_mut_slice.ensures.value c.requires.small

pub returns-clause-same : goal.returns-clause-same
returns-clause-same c = c.send_twice.ensures.basin

pub returns-clause-rounds : goal.returns-clause-rounds
returns-clause-rounds c = c.send_twice.ensures.rounds

pub returns-clause-kept : goal.returns-clause-kept
returns-clause-kept c = rw c.as_mut_slice.ensures.value at c.send_twice.ensures.kept

pub returns-clause-down : goal.returns-clause-down
returns-clause-down c =
    rw (whole_rows c.args.plan.now.flow _ (c.send_twice.ensures.sent.within.count ∙ sym c.requires.flows))
    (rw c.as_mut_slice.ensures.value at c.send_twice.ensures.relieved)

pub returns-clause-rest : goal.returns-clause-rest
returns-clause-rest c = refl

pub returns-clause-count : goal.returns-clause-count
returns-clause-count c =
    ap length (whole_rows c.args.plan.now.flow _ (c.send_twice.ensures.sent.within.count ∙ sym c.requires.flows))
    ∙ (c.send_twice.ensures.sent.within.count ∙ sym c.requires.flows)

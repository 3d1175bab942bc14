use Rattle.cert_check.proofs.Standings.{good_is, good_stands, lines_after}
use Rattle.cert_check.proofs.checker.Checker.likely_line.Goals as goal

pub invariant_of-self : goal.invariant_of-self
invariant_of-self c =
    let given = c.self.invariant.lines in
    let now =
    lines_after c.take_likely.result (λ text. text.now) c.take_likely.ensures.stands c.take_likely.ensures.none
    (record { lines = given.lines; stands = good_is c.in-None.is given.stands }) in
    record {
      context = c.self.invariant.context;
      lines = record { lines = now.lines; stands = good_stands c.in-None.is now.stands };
    }

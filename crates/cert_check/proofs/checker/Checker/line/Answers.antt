use Rattle.std.proofs.Common.{sym, ap, ◌∙◌, [], ◌∷◌, ◌++◌}
use Rattle.cert_check.proofs.Standings.{still_refused, refusal_is, refusal_stands, good_is, good_stands}
use Rattle.cert_check.proofs.checker.Checker.line.Goals as goal

pub returns-in-Some-clause-answer : goal.returns-in-Some-clause-answer
returns-in-Some-clause-answer c = λ lines stands.
    still_refused c.args.self.now.basin c.args.self.now.series lines c.args.text.now
    (refusal_is c.args.self.now lines (sym (ap (λ v. v.refused) c.self.view_is) ∙ c.in-Some.is) stands)

pub returns-in-Some-clause-stands : goal.returns-in-Some-clause-stands
returns-in-Some-clause-stands c = λ lines stands. refusal_stands c.args.self.now (lines ++ c.args.text.now ∷ [])
    (sym (ap (λ v. v.refused) c.self.view_is) ∙ c.in-Some.is) (returns-in-Some-clause-answer c lines stands)

pub invariant_of-self : goal.invariant_of-self
invariant_of-self c =
    let lines = c.self.invariant.lines in
    record {
      context = c.self.invariant.context;
      lines = record {
        lines = lines.lines ++ c.args.text.now ∷ [];
        stands = good_stands c.in-None.is
            (c.in-Ok.ensures.takes lines.lines (good_is c.in-None.is lines.stands));
      };
    }

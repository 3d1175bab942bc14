use Rattle.std.proofs.Common.{refl, sym, ap, subst, ◌∙◌}
use Rattle.std.specs.Prelude.{Ok}
use Rattle.water_model.specs.Valid.{IsSeriesOf, IsValidBasin}
use Rattle.cert_check.specs.Standing.{CheckerView}
use Rattle.cert_check.proofs.AuditLaws.{audited_answer}
use Rattle.cert_check.proofs.checker.Checker.finish_audit.Goals as goal

pub returns-in-Some-clause-answer : goal.returns-in-Some-clause-answer
returns-in-Some-clause-answer c = λ lines text stands pieces.
    rw c.answer.ensures
    (audited_answer c.args.self.now lines text c.args.rest.now c.in_ok-months.months (Ok c.in_ok-months.months)
    c.in-Some.audit (subst (λ (v : CheckerView). IsValidBasin v.basin) c.self.view_is c.self.invariant.context.valid)
    (subst (λ (v : CheckerView). IsSeriesOf v.basin v.series) c.self.view_is c.self.invariant.context.series) refl
    c.in_ok-months.ensures.stays (c.in_ok-months.ensures.answer lines stands)
    (sym (ap (λ v. v.progress.audit) c.self.view_is) ∙ c.in-Some.is) stands pieces)

pub finish-requires : goal.finish-requires
finish-requires c = c.requires.rest

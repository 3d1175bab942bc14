use Rattle.std.proofs.Common.{◌∙◌, ap, length, sym, refl, subst}
use Rattle.std.proofs.lemmas.List.{length-replicate}
use Rattle.result_reader.specs.ReadSoFar.{nothing_read}
use Rattle.cert_check.specs.Keeping.{Keeps}
use Rattle.cert_check.specs.declared.state.CheckState.{CheckState}
use Rattle.cert_check.proofs.Fitting.{blank_is, clash, nobody, none_answered, none_settled}
use Rattle.cert_check.proofs.opening.blank_state.Goals as goal

pub returns : goal.returns
returns c = λ series. subst (λ (a : CheckState). Keeps c.args.basin.now series a (nothing_read c.args.basin.now))
    (sym c.in_ok-new.ensures.ok) (record {
      left = c.in_ok-lags.ensures;
      month = rw (c.into_inner.ensures, c.in_ok-blank_month.ensures.blank) (blank_is c.requires.run.first refl);
      calling = nobody c.args.basin.now _;
      supply = λ e. clash e;
      closes = λ e. clash e;
      callers = λ e. clash e;
      passed = none_settled c.args.basin.now _;
      answered = none_answered c.args.basin.now _ refl;
      room = record {
        closes = ap length c.in_ok-zeros.ensures ∙ (length-replicate c.len.result 0 ∙ c.len.ensures);
        into = ap length c.in_ok-zeros-2.ensures ∙ (length-replicate c.len-2.result 0 ∙ c.len-2.ensures);
        out_of = ap length c.in_ok-zeros-3.ensures ∙ (length-replicate c.len-3.result 0 ∙ c.len-3.ensures);
      };
    })

use Rattle.std.proofs.Common.{ℕ, List, ◌-◌, length, ap, arith, ◌∙◌, ◌++◌, ◌+◌, ◌%◌}
use Rattle.std.proofs.Math.ListN.{length-set}
use Rattle.water_text.proofs.AmountLaws.{decimal_short}
use Rattle.water_text.proofs.DecimalDigits.{further_digit, last_digit, less_by_ten}
use Rattle.water_text.proofs.line.Line.amount.Goals as goal

pub loop-rest-preserved : goal.loop-rest-preserved
loop-rest-preserved c =
    let i = c.loop-rest.invariant in
    let more = less_by_ten c.loop-rest.rest c.loop-rest.at c.loop-rest-test.true i.enough in
    record {
      whole = length-set c.loop-rest.digits (c.loop-rest.at - 1) (48 + c.loop-rest.rest % 10) ∙ i.whole;
      some = omega (arith, more.0);
      within = omega arith;
      enough = more.1;
      fits = omega arith;
      spelled =
          further_digit c.loop-rest.digits c.loop-rest.at c.loop-rest.rest c.args.value i.whole i.some i.within
          c.loop-rest-test.true i.fits i.spelled;
    }

pub word-requires : goal.word-requires
word-requires c =
    let i = c.loop-rest.invariant in
    let is = last_digit c.loop-rest.digits c.loop-rest.at c.loop-rest.rest c.args.value i.whole i.some i.within
    (omega arith) i.spelled in
    omega (arith, ap length is)

pub returns-clause-text : goal.returns-clause-text
returns-clause-text c =
    let i = c.loop-rest.invariant in
    let is = last_digit c.loop-rest.digits c.loop-rest.at c.loop-rest.rest c.args.value i.whole i.some i.within
    (omega arith) i.spelled in
    c.word.ensures.text ∙ ap (λ xs. c.args.self.now ++ xs) is

pub returns-clause-length : goal.returns-clause-length
returns-clause-length c =
    let i = c.loop-rest.invariant in
    let is = last_digit c.loop-rest.digits c.loop-rest.at c.loop-rest.rest c.args.value i.whole i.some i.within
    (omega arith) i.spelled in
    c.word.ensures.length ∙ ap (λ (xs : List ℕ). length c.args.self.now + length xs) is

pub returns-clause-digits : goal.returns-clause-digits
returns-clause-digits c = decimal_short c.args.value (omega arith)

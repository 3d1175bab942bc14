use Rattle.std.proofs.Common.{◌+◌, ℕ, List, inl, length, subst, sym}
use Rattle.std.proofs.lemmas.Result.{err_from_is_err_and}
use Rattle.water_text.specs.LinesIn.{TakesToFeed}
use Rattle.cert_check.proofs.Feeding.{all_given, ended, ended_given, ended_refused, held_given, not_whole}
use Rattle.cert_check.proofs.pieces.give_bytes.Goals as goal

pub returns-in_err-line-in-Some-clause-refused : goal.returns-in_err-line-in-Some-clause-refused
returns-in_err-line-in-Some-clause-refused c =
    let p = err_from_is_err_and c.from_residual.result c.from_residual.ensures.1 in
    let taken = length c.in-Some.text.now + 1 in
    let takes = subst (λ (held : List ℕ). TakesToFeed held c.in-Some.text.now c.args.rest.now taken)
    (sym c.in-Some.ensures.none) c.in-Some.ensures.takes in
    rw (p.1, p.2) (λ text given. ended_refused given (inl takes) c.in_err-line-in-Some.ensures.answer)

pub returns-in_ok-line-in-Some-clause-given : goal.returns-in_ok-line-in-Some-clause-given
returns-in_ok-line-in-Some-clause-given c = λ text given.
    held_given given c.in-Some.ensures.none c.in-Some.ensures.takes
    c.in_ok-line-in-Some.ensures.stands c.in_ok-line-in-Some.ensures.good

pub returns-then-not-fed-clause-given : goal.returns-then-not-fed-clause-given
returns-then-not-fed-clause-given c = λ text given.
    let takes = not_whole c.feed-fed.result.whole c.if-not-fed.true c.feed-fed.ensures.takes in
    all_given given takes

pub returns-in_err-end_line-in-None-clause-refused : goal.returns-in_err-end_line-in-None-clause-refused
returns-in_err-end_line-in-None-clause-refused c =
    let p =
    err_from_is_err_and c.from_residual-in_err-end_line-in-None.result
    c.from_residual-in_err-end_line-in-None.ensures.1 in
    let takes = ended c.feed-fed.result.whole c.if-not-fed.false c.feed-fed.ensures.takes in
    rw (p.1, p.2) (λ text given. ended_refused given takes c.in_err-end_line-in-None.ensures.answer)

pub returns-in_ok-end_line-in-None-clause-given : goal.returns-in_ok-end_line-in-None-clause-given
returns-in_ok-end_line-in-None-clause-given c = λ text given.
    let takes = ended c.feed-fed.result.whole c.if-not-fed.false c.feed-fed.ensures.takes in
    rw c.end_line.ensures.cleared (ended_given given takes c.in_ok-end_line-in-None.ensures.stands
    c.in_ok-end_line-in-None.ensures.good c.in_ok-end_line-in-None.ensures.answer)

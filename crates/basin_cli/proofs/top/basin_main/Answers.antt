use Rattle.basin_cli.proofs.Outcomes.{quiet, not_known, completes}
use Rattle.basin_cli.proofs.top.basin_main.Goals as goal
use Rattle.basin_cli.proofs.top.basin_main.Goals.{then-has_line_on_err, else-has_line_on_err}

pub returns-clause-ends : goal.returns-clause-ends
returns-clause-ends g c = record {
  how = c.decide-ending.result;
  status_is = c.status.ensures;
  cause = c.decide-ending.ensures.cause;
  asked = c.decide-ending.ensures.asked;
  writes_line = elim c.if-has_line_on_err.branch [
    | then-has_line_on_err w ↦ rw w.err-is w.print_ending.ensures.writes_line
    | else-has_line_on_err w ↦
        rw w.err-is
        (quiet c.decide-ending.result (g.E.Sink.output c.args.err.now) (g.E.Sink.faults c.args.err.now)
        (λ known. not_known w.if-has_line_on_err.false (c.has_line_on_err.ensures.1 known)))
  ];
}

pub returns-clause-complete : goal.returns-clause-complete
returns-clause-complete g c =
    rw c.status.ensures (completes _ c.decide-ending.result (g.S.Shelf.known c.args.shelf.now) _ _
    c.decide-ending.ensures.cause)

pub returns-clause-out_stays : goal.returns-clause-out_stays
returns-clause-out_stays g c = rw c.status.ensures c.decide-ending.ensures.out_stays

pub returns-clause-flushed : goal.returns-clause-flushed
returns-clause-flushed g c = rw c.status.ensures c.decide-ending.ensures.flushed

pub returns-clause-shown : goal.returns-clause-shown
returns-clause-shown g c = rw c.status.ensures c.decide-ending.ensures.shown

pub returns-clause-err_flushed : goal.returns-clause-err_flushed
returns-clause-err_flushed g c = λ known sound. elim c.if-has_line_on_err.branch [
  | then-has_line_on_err w ↦ rw w.err-is (w.print_ending.ensures.flushed (λ rose. sound (rw w.err-is rose)))
  | else-has_line_on_err w ↦ absurd
      (not_known w.if-has_line_on_err.false (c.has_line_on_err.ensures.1 (rw (← c.status.ensures) known)))
]

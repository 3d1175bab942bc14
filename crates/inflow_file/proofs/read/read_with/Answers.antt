use Rattle.inflow_file.proofs.Words.{◌∙◌, ap, refl, length, records_of, body_of, entries_of}
use Rattle.inflow_file.proofs.DueLaws.{length-given}
use Rattle.inflow_file.proofs.GapLaws.{series_read}
use Rattle.inflow_file.proofs.read.read_with.Goals as goal

pub complete-requires-clause-count : goal.complete-requires-clause-count
complete-requires-clause-count c =
    ap length (c.as_slice.ensures.value ∙ c.in_ok-amounts.ensures.ok.given) ∙ length-given c.args.columns.now.basin.now
    (entries_of c.args.columns.now.basin.now (body_of c.args.columns.now.basin.now (records_of c.args.text.now)))

pub returns : goal.returns
returns c =
    let read = series_read _ _ _ _ _ refl c.in_ok-amounts.ensures.ok
    (c.complete.ensures (body_of c.args.columns.now.basin.now (records_of c.args.text.now))
    (c.as_slice.ensures.value ∙ c.in_ok-amounts.ensures.ok.given)) in
    record { spelled = read.spelled; valid = read.valid; faultless = read.faultless; refused = read.refused }

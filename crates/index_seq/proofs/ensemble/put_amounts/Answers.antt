use Rattle.std.proofs.Common.{ℕ, List, [], subst}
use Rattle.std.specs.Prelude.{slice_index_or}
use Rattle.std.specs.List.{flat_map}
use Rattle.water_edge.specs.Edge.{Extends}
use Rattle.water_edge.proofs.Puts.{PutsPrefix}
use Rattle.index_seq.specs.Entries.{whole_line}
use Rattle.index_seq.specs.Text.{ensemble_lines}
use Rattle.index_seq.proofs.Lines.{text_cut, text_whole}
use Rattle.index_seq.proofs.ensemble.put_amounts.Goals as goal

pub returns-in-Ok-clause-text : goal.returns-in-Ok-clause-text
returns-in-Ok-clause-text g c =
    text_whole c.args.basin.now c.args.series.now c.args.all.now.amounts (g.K.Sink.output c.args.sink.now)
    (g.K.Sink.output c.put_ensemble.new.sink) c.requires.lines
    (subst (λ (xs : List (List ℕ)). Extends (g.K.Sink.output c.args.sink.now) (g.K.Sink.output c.put_ensemble.new.sink)
    (flat_map (whole_line c.args.basin.now) (ensemble_lines c.args.basin.now (λ r. slice_index_or xs r []))))
    c.as_slice.ensures c.in-Ok.ensures.text)

pub returns-in-Err-clause-text : goal.returns-in-Err-clause-text
returns-in-Err-clause-text g c =
    text_cut c.args.basin.now c.args.series.now c.args.all.now.amounts (g.K.Sink.output c.args.sink.now)
    (g.K.Sink.output c.put_ensemble.new.sink) c.requires.lines
    (subst (λ (xs : List (List ℕ)). PutsPrefix (g.K.Sink.output c.args.sink.now)
    (g.K.Sink.output c.put_ensemble.new.sink)
    (flat_map (whole_line c.args.basin.now) (ensemble_lines c.args.basin.now (λ r. slice_index_or xs r []))))
    c.as_slice.ensures c.in-Err.ensures.text)

use Rattle.std.proofs.Common.{[], append-nil}
use Rattle.std.specs.Prelude.{slice_index_or}
use Rattle.std.specs.List.{flat_map}
use Rattle.water_model.specs.Indices.{seniors_first}
use Rattle.index_seq.specs.Text.{right_lines}
use Rattle.index_seq.proofs.writer.put_ensemble.Goals as goal

pub returns-clause-text : goal.returns-clause-text
returns-clause-text g c =
    rw (append-nil (flat_map (right_lines (λ r. slice_index_or c.args.amounts.now r []))
    (seniors_first c.args.basin.now))) at c.put_listing.ensures.text

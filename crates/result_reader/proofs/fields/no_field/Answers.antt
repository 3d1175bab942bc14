use Rattle.std.proofs.Common.{refl}
use Rattle.std.specs.Prelude.{◌==◌}
use Rattle.water_text.proofs.Splits.{some_piece}
use Rattle.result_reader.proofs.fields.no_field.Goals as goal

pub returns-in-Some : goal.returns-in-Some
returns-in-Some c =
    let found = some_piece (λ byte. byte == 32) c.in-Some.field-0.now in
    rw (c.in-Some.is, found.2) refl

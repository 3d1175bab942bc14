use Rattle.std.proofs.Common.{ap, sym, string_bytes, ◌∙◌}
use Rattle.std.specs.Prelude.{Err, Option}
use Rattle.std.proofs.lemmas.Str.{IsUtf8-string_bytes}
use Rattle.toml.specs.Data.{Members}
use Rattle.toml.specs.View.{table_view}
use Rattle.toml.specs.declared.ser.error.Error.{Error}
use Rattle.basin_file.specs.BasinFaults.{document_fault}
use Rattle.basin_file.specs.Upgraded.{basin_table}
use Rattle.basin_file.proofs.CleanTables.{table_is_sound, no_dates, read_back}
use Rattle.basin_file.proofs.TableSpells.{table_spells}
use Rattle.basin_file.proofs.upgrade.upgraded.Goals as goal

pub returns-in-Ok : goal.returns-in-Ok
returns-in-Ok c =
    let read =
    read_back c.args.basin.now c.requires.valid (string_bytes c.in-Ok.text) (table_view c.in_ok-table.table)
    c.in_ok-table.ensures (IsUtf8-string_bytes c.in-Ok.text)
    c.in-Ok.ensures.reads_back in
    record {
      table = read;
      spells = record {
        tree = basin_table c.args.basin.now;
        document = read;
        basin_is =
            sym (table_spells c.args.basin.now c.requires.valid c.requires.plain);
      };
      sound = ap (λ (o : Option Members). document_fault o) read ∙ table_is_sound c.args.basin.now c.requires.valid c.requires.plain;
    }

pub unreachable-requires : goal.unreachable-requires
unreachable-requires c =
    no_dates c.args.basin.now c.requires.valid (table_view c.in_ok-table.table) c.in_ok-table.ensures
    (c.in-Err-DateInvalid.ensures.dates.0 (ap (λ (e : Error). Err e) c.in-Err-DateInvalid.field-0-is))

-- No row of the calls holds of an amount or a delivery before the `call` lines that ends no set.
use Rattle.std.proofs.Common.{◌≡◌, ℕ, true, false, refl, arith}
use Rattle.std.specs.Prelude.{Option, None, Some, ◌&&◌, is_none}
use Rattle.std.proofs.Math.Bool.{and-false}
use Rattle.water_model.specs.History.{cut_of}
use Rattle.water_model.specs.Indices.{indices_of}
use Rattle.water_model.specs.declared.types.Basin.{Basin}
use Rattle.water_model.specs.declared.types.Series.{Series}
use Rattle.cut_cert.specs.Callers.{is_short}
use Rattle.result_lines.specs.declared.item.Item.{Item}
use Rattle.result_lines.specs.declared.item.Item.TheVariants as line
use Rattle.result_reader.specs.ReadSoFar.{ReadSoFar}
use Rattle.cert_check.specs.Checking.{call_rows, cut_missing, is_after_calls}
use Rattle.cert_check.specs.FirstRows.{first_of}
use Rattle.cert_check.specs.Ready.{is_before_calls}
use Rattle.cert_check.proofs.Rows.{none_holds}

pub not_after : (i : Item) → is_before_calls i ≡ true → is_after_calls i ≡ false
not_after i h = grind arith

none_missing : (b : Basin) (t : ReadSoFar) (i : Item) → is_before_calls i ≡ true → cut_missing b t i ≡ false
none_missing b t (line.Amount q entry amount) h =
    rw (not_after (line.Amount q entry amount) h)
    (none_holds (indices_of b.rights) (λ r m. and-false (is_short t.now r && is_none (cut_of t.now r))))
none_missing b t (line.Deliver r amount want) h =
    none_holds (indices_of b.rights) (λ r m. and-false (is_short t.now r && is_none (cut_of t.now r)))
none_missing b t other h = grind arith

pub no_call_row : (b : Basin) (series : Series) (t : ReadSoFar) (i : Item) → t.calling ≡ None →
    is_before_calls i ≡ true → first_of (call_rows b series t i) ≡ None
no_call_row b series t i none before = grind (arith, none_missing, not_after)

pub free_parts : (calling : Option ℕ) (i : Item) → is_none calling && is_before_calls i ≡ true →
    (calling ≡ None) × (is_before_calls i ≡ true)
free_parts None i h = (refl, h)
free_parts (Some r) i h = cc

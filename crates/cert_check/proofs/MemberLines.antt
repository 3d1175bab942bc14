-- No row holds of an `in` line, and its tests look at nothing.
use Rattle.std.proofs.Common.{◌≡◌, ℕ, true, false, arith}
use Rattle.std.specs.Prelude.{None, ◌&&◌, is_none}
use Rattle.water_model.specs.History.{cut_of}
use Rattle.water_model.specs.Indices.{indices_of}
use Rattle.water_model.specs.declared.types.Basin.{Basin}
use Rattle.water_model.specs.declared.types.Series.{Series}
use Rattle.cut_cert.specs.Callers.{is_short}
use Rattle.result_lines.specs.declared.item.Item.{Item}
use Rattle.result_lines.specs.declared.item.Item.TheVariants as line
use Rattle.result_reader.specs.Due.{is_member}
use Rattle.result_reader.specs.ReadSoFar.{ReadSoFar}
use Rattle.cert_check.specs.Checking.{cut_missing, first_row}
use Rattle.cert_check.specs.Ready.{IsReadyForLine}
use Rattle.cert_check.specs.declared.state.CheckState.{CheckState}
use Rattle.cert_check.specs.declared.state.Context.{Context}
use Rattle.cert_check.proofs.Rows.{first_is, none_holds}
use Rattle.std.proofs.Math.Bool.{and-false}

none_missing : (b : Basin) (t : ReadSoFar) (n : ℕ) → cut_missing b t (line.Member n) ≡ false
none_missing b t n =
    none_holds (indices_of b.rights) (λ r m. and-false (is_short t.now r && is_none (cut_of t.now r)))

pub no_row : (b : Basin) (series : Series) (t : ReadSoFar) (i : Item) → is_member i ≡ true →
    first_row b series t i ≡ None
no_row b series t i h = grind (arith, first_is, none_missing)

pub ready : (m : Context) (a : CheckState) (i : Item) → is_member i ≡ true → IsReadyForLine m a i
ready m a i h = grind arith

-- What a checker begins with.
use Rattle.std.proofs.Math.Bool.{and-true}
use Rattle.std.proofs.Common.{◌≡◌, ℕ, ◌+◌, ◌≤◌, Bool, true, false, ap, ◌∙◌, arith, [], ◌∷◌, filter}
use Rattle.std.proofs.Common.{add-one, zero-add}
use Rattle.std.specs.Prelude.{◌&&◌, nat_le, if◌then◌else◌}
use Rattle.std.specs.List.{list_all}
use Rattle.std.proofs.lemmas.Bool.Decides.{nat_tests}
use Rattle.std.proofs.lemmas.List.Folds.{list_all-append}
use Rattle.std.proofs.lemmas.List.Elements.{filter-append}
use Rattle.water_model.proofs.Lists.{numbers_more}
use Rattle.water_model.specs.Indices.{numbers_from}
use Rattle.water_model.specs.declared.types.Basin.{Basin}
use Rattle.water_model.specs.declared.types.Series.{Series}
use Rattle.result_reader.specs.Standing as reader
use Rattle.result_reader.specs.ReadSoFar.{nothing_read}
use Rattle.cert_check.specs.Auditing.{IsAuditIfAny}
use Rattle.cert_check.specs.Keeping.{Keeps}
use Rattle.cert_check.specs.Standing.{IsProgressOf}
use Rattle.cert_check.specs.declared.progress.CheckProgress.{CheckProgress}

-- One more outlet.

pub no_outlet : (p : ℕ → Bool) (n : ℕ) → list_all (λ other. nat_le other n) (filter p (numbers_from 0 0)) ≡ nat_le 0 n
unfolding numbers_from
no_outlet p n = least n
  where
    least : (n : ℕ) → true ≡ nat_le 0 n
    least n = grind (arith, nat_tests)

pub last_more : (p : ℕ → Bool) {k last : ℕ} (n : ℕ) → last ≤ k →
    list_all (λ other. nat_le other n) (filter p (numbers_from 0 k)) ≡ nat_le last n →
    list_all (λ other. nat_le other n) (filter p (numbers_from 0 (k + 1))) ≡ nat_le (if p k then k else last) n
last_more p {k} {last} n most h =
    rw add-one (ap (λ xs. list_all (λ other. nat_le other n) (filter p xs)) (numbers_more 0 k)
    ∙ (ap (list_all (λ other. nat_le other n)) (filter-append p (numbers_from 0 k) ((0 + k) ∷ []))
    ∙ (list_all-append (λ other. nat_le other n) (filter p (numbers_from 0 k)) (filter p ((0 + k) ∷ []))
    ∙ (rw zero-add (by_test (p k))))))
  where
    both : (x y n : ℕ) → x ≤ y → nat_le x n && (nat_le y n && true) ≡ nat_le y n
    both x y n l = grind (arith, nat_tests)

    by_test : (t : Bool) →
        list_all (λ other. nat_le other n) (filter p (numbers_from 0 k)) && list_all (λ other. nat_le other n)
        (if t then k ∷ [] else []) ≡ nat_le (if t then k else last) n
    by_test true = ap (λ q. q && (nat_le k n && true)) h ∙ both last k n most
    by_test false = and-true (list_all (λ other. nat_le other n) (filter p (numbers_from 0 k))) ∙ h

pub most_more : (t : Bool) {k last : ℕ} → last ≤ k → (if t then k else last) ≤ k + 1
most_more true l = omega arith
most_more false l = omega arith

-- check progress of no line
pub first_book : {b : Basin} {series : Series} {k : CheckProgress} → k.reader.basin ≡ b →
    reader.ReaderStandsFor k.reader [] → Keeps b series k.state.value (nothing_read b) → k.read ≡ 0 → k.last_other ≡ 0 →
    k.ended ≡ false → IsAuditIfAny b (nothing_read b) [] k.audit → IsProgressOf b series k []
first_book basin stands state read last ended audit = grind (arith, nat_tests)

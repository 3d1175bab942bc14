-- Decimal digits, written from the last.
use Rattle.std.proofs.Common.{◌≡◌, ℕ, zero, suc, ◌+◌, ◌-◌, ◌/◌, ◌%◌, ◌^◌, ◌<◌, ◌≤◌, sym, ◌∙◌, ap, arith, List, [], ◌∷◌}
use Rattle.std.proofs.Common.{◌++◌, length, take, drop, append_assoc, length-drop}
use Rattle.std.proofs.Math.ListN.{set, length-set}
use Rattle.std.proofs.Math.Nat.{pow-succ'}
use Rattle.std.specs.Fmt.{decimal}
use Rattle.std.proofs.lemmas.Fmt.{decimal_step, decimal_digit}
use Rattle.std.proofs.lemmas.List.{drop-set}
use Rattle.std.proofs.Math.Seq.{take-length}

-- one digit more before those that stand
one_digit : (ds : List ℕ) (at d : ℕ) → 0 < at → at ≤ length ds → drop (at - 1) (set ds (at - 1) d) ≡ d ∷ drop at ds
one_digit ds at d some within =
    let back : at - 1 + 1 ≡ at = omega arith in
    let below : at - 1 < length ds = omega arith in
    drop-set ds (at - 1) d below ∙ ap (λ k. d ∷ drop k ds) back

-- what stands after the rest is still the end of the spelling
pub further_digit : (ds : List ℕ) (at rest value : ℕ) → length ds ≡ 20 → 0 < at → at ≤ 20 → 10 ≤ rest → rest < 2 ^ 64 →
    decimal rest ++ drop at ds ≡ decimal value →
    decimal (rest / 10) ++ drop (at - 1) (set ds (at - 1) (48 + rest % 10)) ≡ decimal value
further_digit ds at rest value len some within more fits h =
    ap (λ xs. decimal (rest / 10) ++ xs) (one_digit ds at (48 + rest % 10) some (omega arith))
    ∙ (sym (append_assoc (decimal (rest / 10)) ((48 + rest % 10) ∷ []) (drop at ds))
    ∙ (ap (λ xs. xs ++ drop at ds) (sym (decimal_step rest more fits)) ∙ h))

-- with the last digit of the rest the spelling is whole
pub last_digit : (ds : List ℕ) (at rest value : ℕ) → length ds ≡ 20 → 0 < at → at ≤ 20 → rest < 10 →
    decimal rest ++ drop at ds ≡ decimal value →
    take (20 - (at - 1)) (drop (at - 1) (set ds (at - 1) (48 + rest))) ≡ decimal value
last_digit ds at rest value len some within less h =
    let whole : length (drop (at - 1) (set ds (at - 1) (48 + rest))) ≡ 20 - (at - 1) =
    omega (arith, length-drop (at - 1) (set ds (at - 1) (48 + rest)), length-set ds (at - 1) (48 + rest)) in
    ap (λ k. take k (drop (at - 1) (set ds (at - 1) (48 + rest)))) (sym whole)
    ∙ (take-length (drop (at - 1) (set ds (at - 1) (48 + rest)))
    ∙ (one_digit ds at (48 + rest) some (omega arith)
    ∙ (ap (λ xs. xs ++ drop at ds) (sym (decimal_digit rest less)) ∙ h)))

-- a rest of more than one digit leaves room for a further one
pub less_by_ten : (rest at : ℕ) → 10 ≤ rest → rest < 10 ^ at → (1 < at) × (rest / 10 < 10 ^ (at - 1))
less_by_ten rest zero more h = absurd (omega arith)
less_by_ten rest (suc zero) more h = absurd (omega arith)
less_by_ten rest (suc (suc k)) more h =
    let back : suc (suc k) - 1 ≡ suc k = omega arith in
    (omega arith, rw back (omega (arith, pow-succ' 10 (suc k))))

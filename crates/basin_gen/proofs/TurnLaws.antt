-- What turns make, one turn after the other.
use Rattle.std.proofs.Common.{◌≡◌, ℕ, ◌+◌, ◌-◌, ◌*◌, ◌/◌, ◌%◌, Bool, true, false, refl, sym, ap, ◌∙◌, arith, List, []}
use Rattle.std.proofs.Common.{◌∷◌, ◌++◌, append-nil}
use Rattle.std.proofs.lemmas.Bool.{eqb-true, eqb-false}
use Rattle.std.specs.Prelude.{◌==◌, if◌then◌else◌}
use Rattle.water_model.specs.declared.types.ReturnRow.{ReturnRow}
use Rattle.water_model.specs.declared.types.Right.{Right}
use Rattle.basin_gen.specs.Draws.{later, list_of}
use Rattle.basin_gen.specs.Entries.{diversion_at, instream_at, return_at}
use Rattle.basin_gen.specs.Generator.{diversions_in, instreams_in, returns_in, draws_of_turns, turn_of_diversion}
use Rattle.basin_gen.proofs.DrawLaws.{later_later, list_of_none, list_of_more}

-- what this many turns make
pub record AreMade (size x turns : ℕ) (ds ss : List Right) (rows : List ReturnRow) : Type 0 where
  pub diversions : ds ≡ diversions_in size x turns
  pub instreams : ss ≡ instreams_in size x turns
  pub returns : rows ≡ returns_in size x turns

-- the turn that makes a diversion
diversion_turn : (k : ℕ) → (k % 4 == 3) ≡ false → turn_of_diversion (k - k / 4) ≡ k
diversion_turn k h = let other = eqb-false (k % 4) 3 h in omega arith

-- an entry more, or none, as a test says
more_where : {X : Type 0} → (f : ℕ → X) (test : Bool) (n m : ℕ) (old new : List X) (x : X) → old ≡ list_of n f →
    new ≡ old ++ (if test then x ∷ [] else []) → (test ≡ true → (x ≡ f n) × (m ≡ n + 1)) → (test ≡ false → m ≡ n) →
    new ≡ list_of m f
more_where f true n m old new x so_far more here other =
    let same = here refl in rw (same.1, list_of_more n f, ← so_far, ← same.0) more
more_where f false n m old new x so_far more here other = rw (other refl) (more ∙ append-nil old ∙ so_far)

less_where : {X : Type 0} → (f : ℕ → X) (test : Bool) (n m : ℕ) (old new : List X) (x : X) → old ≡ list_of n f →
    new ≡ old ++ (if test then [] else x ∷ []) → (test ≡ false → (x ≡ f n) × (m ≡ n + 1)) → (test ≡ true → m ≡ n) →
    new ≡ list_of m f
less_where f false n m old new x so_far more here other =
    let same = here refl in rw (same.1, list_of_more n f, ← so_far, ← same.0) more
less_where f true n m old new x so_far more here other = rw (other refl) (more ∙ append-nil old ∙ so_far)

pub no_turns : (size x : ℕ) → AreMade size x 0 [] [] []
no_turns size x = record {
  diversions =
      sym (list_of_none
      (λ d. diversion_at size (turn_of_diversion d) (later x (draws_of_turns (turn_of_diversion d)))));
  instreams = sym (list_of_none (λ j. instream_at size (4 * j + 3) (later x (draws_of_turns (4 * j + 3)))));
  returns = sym (list_of_none (λ j. return_at size (3 * j) (later x (draws_of_turns (4 * j) + 3))));
}

pub turn_more : (size x k y : ℕ) (diversions diversions' instreams instreams' : List Right)
    (returns returns' : List ReturnRow) →
    AreMade size x k diversions instreams returns → y ≡ later x (draws_of_turns k) →
    diversions' ≡ diversions ++ (if k % 4 == 3 then [] else diversion_at size k y ∷ []) →
    instreams' ≡ instreams ++ (if k % 4 == 3 then instream_at size k y ∷ [] else []) →
    returns' ≡ returns ++ (if k % 4 == 0 then return_at size (3 * (k / 4)) (later y 3) ∷ [] else []) →
    AreMade size x (k + 1) diversions' instreams' returns'
turn_more size x k y diversions diversions' instreams instreams' returns returns' so_far state d s r = record {
  diversions =
      less_where (λ d. diversion_at size (turn_of_diversion d) (later x (draws_of_turns (turn_of_diversion d))))
      (k % 4 == 3) (k - k / 4) (k + 1 - (k + 1) / 4)
      diversions diversions' (diversion_at size k y) so_far.diversions d
      (λ h. let other = eqb-false (k % 4) 3 h in (
        ap (diversion_at size k) state
            ∙ sym (ap (λ n. diversion_at size n (later x (draws_of_turns n))) (diversion_turn k h)),
        omega arith,
      ))
      (λ h. let same = eqb-true (k % 4) 3 h in omega arith);
  instreams =
      more_where (λ j. instream_at size (4 * j + 3) (later x (draws_of_turns (4 * j + 3)))) (k % 4 == 3) (k / 4)
      ((k + 1) / 4)
      instreams instreams' (instream_at size k y) so_far.instreams s
      (λ h. let same = eqb-true (k % 4) 3 h in let turn : 4 * (k / 4) + 3 ≡ k = omega arith in (
        ap (instream_at size k) state ∙ sym (ap (λ n. instream_at size n (later x (draws_of_turns n))) turn),
        omega arith,
      ))
      (λ h. let other = eqb-false (k % 4) 3 h in omega arith);
  returns =
      more_where (λ j. return_at size (3 * j) (later x (draws_of_turns (4 * j) + 3))) (k % 4 == 0) ((k + 3) / 4)
      ((k + 1 + 3) / 4)
      returns returns' (return_at size (3 * (k / 4)) (later y 3)) so_far.returns r
      (λ h. let same = eqb-true (k % 4) 0 h in let turn : 4 * ((k + 3) / 4) ≡ k = omega arith in
      let at : k / 4 ≡ (k + 3) / 4 = omega arith in (
        ap (return_at size (3 * (k / 4))) (ap (λ z. later z 3) state ∙ later_later x (draws_of_turns k) 3
            ∙ sym (ap (λ n. later x (draws_of_turns n + 3)) turn))
            ∙ ap (λ n. return_at size (3 * n) (later x (draws_of_turns (4 * ((k + 3) / 4)) + 3))) at,
        omega arith,
      ))
      (λ h. let other = eqb-false (k % 4) 0 h in omega arith);
}

-- the draws of one turn more
pub turn_draws : (x k : ℕ) →
    later (later (later x (draws_of_turns k)) 3) (if k % 4 == 0 then 3 else 0) ≡ later x (draws_of_turns (k + 1))
turn_draws x k =
    later_later (later x (draws_of_turns k)) 3 (if k % 4 == 0 then 3 else 0)
    ∙ later_later x (draws_of_turns k) (3 + (if k % 4 == 0 then 3 else 0)) ∙ ap (later x) (counts (k % 4 == 0) refl)
  where
    counts : (t : Bool) → (k % 4 == 0) ≡ t → draws_of_turns k + (3 + (if t then 3 else 0)) ≡ draws_of_turns (k + 1)
    counts true h = let same = eqb-true (k % 4) 0 h in omega arith
    counts false h = let other = eqb-false (k % 4) 0 h in omega arith

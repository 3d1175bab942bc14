-- The run of the river as a plan.
use Rattle.std.proofs.Common.{◌≡◌, ℕ, ◌++◌, take, drop, sym, ◌∙◌, ap, ap₂, arith, List, length, replicate}
use Rattle.std.proofs.lemmas.List.{get_or-replicate}
use Rattle.std.specs.Prelude.{slice_index}
use Rattle.water_model.specs.RunOfRiver.{IsRunOfRiver, RunsNaturally}
use Rattle.water_model.specs.declared.types.Basin.{Basin}
use Rattle.water_model.specs.declared.types.Plan.{Plan}
use Rattle.water_model.proofs.Lists.{whole_rows}

abbrev pub made : List ℕ → List ℕ → List ℕ → Plan
made flow taken out = record { flow = flow; take = taken; out = out }

-- three lists that are written in full
pub made_whole : (f t o f' t' o' : List ℕ) → length f' ≡ length f → length t' ≡ length t → length o' ≡ length o →
    made f' t' o' ≡ made (take (length f) (f' ++ drop (length f') f)) (take (length t) (t' ++ drop (length t') t))
    (take (length o) (o' ++ drop (length o') o))
made_whole f t o f' t' o' a b c =
    ap₂ (λ (x z : List ℕ). made x z o') (sym (whole_rows f f' a)) (sym (whole_rows t t' b))
    ∙ ap (made _ _) (sym (whole_rows o o' c))

-- nothing is taken, and all water runs as the run of the river
pub river_is : (b : Basin) (supply f t o : List ℕ) (n : ℕ) → t ≡ replicate n 0 → n ≡ length b.rights →
    length t ≡ length b.rights → RunsNaturally b.nodes b.links supply f o → IsRunOfRiver b supply (made f t o)
river_is b supply f t o n none size len run = record {
  run = run;
  take_len = len;
  takes = λ r l. ap (λ (xs : List ℕ). slice_index xs r) none ∙ get_or-replicate {A = ℕ} n r 0 0 (omega arith);
}

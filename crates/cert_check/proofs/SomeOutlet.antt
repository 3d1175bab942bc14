-- A valid basin has an outlet.
use Rattle.std.proofs.Common.{◌≡◌, ℕ, zero, suc, ◌+◌, ◌<◌, ◌≤◌, false, refl, ap, arith, inl, inr, List, [], ◌∷◌, length}
use Rattle.std.proofs.lemmas.Bool.{cases_Bool}
use Rattle.finite_sums.specs.Sums.{total}
use Rattle.finite_sums.proofs.Totals.{term_le_total}
use Rattle.river_net.proofs.Ranks.{HasNumbers, forward_numbers}
use Rattle.water_model.specs.Basin.{is_outlet}
use Rattle.water_model.specs.Indices.{indices_of, outlets}
use Rattle.water_model.specs.Valid.{IsValidBasin}
use Rattle.water_model.specs.declared.types.Basin.{Basin}
use Rattle.water_model.proofs.Valid.{ends}
use Rattle.water_model.proofs.Order.{Has, has-filter, numbers_from-has}
use Rattle.cert_check.proofs.GoodMonth.{HasOutlet}

-- without an outlet, water would rise without end
endless : {b : Basin} → IsValidBasin b → (n : HasNumbers b.links) →
    ((v : ℕ) → v < length b.nodes → is_outlet b v ≡ false) → (k : ℕ) {v : ℕ} → v < length b.nodes →
    n.rank v + k ≤ total (length b.nodes) n.rank
endless {b} valid n none zero {v} l = omega (arith, term_le_total (length b.nodes) n.rank v l)
endless {b} valid n none (suc k) {v} l =
    let out = valid.network.rivers v l (none v l) in
    let further = endless valid n none k (ends b valid out.link out.in_range).1 in
    let up = n.forward.runs out.link out.in_range in
    omega (arith, further, up, ap n.rank out.tail)

pub some_outlet : {b : Basin} → IsValidBasin b → HasOutlet b
some_outlet {b} valid = by_list (outlets b) refl
  where
    numbers : HasNumbers b.links
    numbers = forward_numbers b.nodes b.links (record { ends = λ e l. ends b valid e l }) valid.network

    no_outlet : outlets b ≡ [] → (v : ℕ) → v < length b.nodes → is_outlet b v ≡ false
    no_outlet none v l = elim (cases_Bool (is_outlet b v)) [
      | inl leaves ↦ absurd (empty (outlets b) v none (has-filter (λ n. is_outlet b n) (indices_of b.nodes) v
          (numbers_from-has 0 (length b.nodes) v v l (omega arith)) leaves))
      | inr stays ↦ stays
    ]
      where
        empty : (xs : List ℕ) (v : ℕ) → xs ≡ [] → Has xs v → ⊥
        empty [] v e h = h
        empty (x ∷ xs) v e h = cc

    by_list : (xs : List ℕ) → outlets b ≡ xs → HasOutlet b
    by_list [] e =
        absurd (omega (
          arith,
          endless valid numbers (no_outlet e) (suc (total (length b.nodes) numbers.rank))
              valid.bounded.some_node,
        ))
    by_list (x ∷ xs) e = record { first = x; others = xs; are = e }

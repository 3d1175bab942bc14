-- Sums that fit their type.
use Rattle.std.proofs.Common.{◌≡◌, ℕ, ◌-◌, ◌*◌, ◌≤◌, Bool, true, false, ap, sym}
use Rattle.std.proofs.Common.{◌∙◌, arith, List, length, get_or}
use Rattle.std.specs.Prelude.{slice_index, All, if◌then◌else◌, ◌&&◌}
use Rattle.std.proofs.lemmas.Option.{unwrap_or-slice_get}
use Rattle.finite_sums.specs.Sums.{total, total_where}
use Rattle.finite_sums.proofs.Totals.{total_le, greatest_where_le}
use Rattle.water_text.specs.Months.{days_of}
use Rattle.water_text.specs.declared.month.Month.{Month}
use Rattle.water_model.specs.Basin.{is_on_link, is_senior}
use Rattle.water_model.specs.Cuts.{kept_on}
use Rattle.water_model.specs.Plans.{carry_of_kind}
use Rattle.water_model.specs.declared.types.Basin.{Basin}
use Rattle.water_model.specs.declared.types.Carry.TheVariants.{Canal}
use Rattle.water_model.proofs.Wants.{entry_most}

-- the terms that pass are at most all terms
pub some_of_all : (n : ℕ) (p : ℕ → Bool) (f : ℕ → ℕ) → total_where n p f ≤ total n f
some_of_all n p f = total_le n (λ k. if p k then f k else 0) f (λ k l. term (p k) (f k))
  where
    term : (b : Bool) (x : ℕ) → (if b then x else 0) ≤ x
    term true x = omega arith
    term false x = omega arith

-- what a canal carries while it isn't shut
pub canal_carries : (per_day : ℕ) (shut : List Bool) (month : Month) (closed : Bool) →
    get_or shut (month.month - 1) false ≡ closed →
    (if closed then 0 else per_day * days_of month) ≡ carry_of_kind (Canal per_day shut) month
canal_carries per_day shut month closed e =
    ap (λ t. if t then 0 else per_day * days_of month) (sym (unwrap_or-slice_get shut (month.month - 1) false ∙ e))

-- what is kept on a link is a delivery
pub kept_most : (b : Basin) (delivered : List ℕ) (right link m : ℕ) → All (λ d. d ≤ m) delivered →
    kept_on b delivered right link ≤ m
kept_most b delivered right link m all =
    greatest_where_le (length b.rights) (λ s. is_on_link b s link && is_senior b s right) (λ s. slice_index delivered s)
    m (λ s l h. entry_most delivered m s all)

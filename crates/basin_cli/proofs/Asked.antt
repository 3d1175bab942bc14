-- The index of a month, and the right of a name.
use Rattle.std.proofs.Common.{◌≡◌, ℕ, sym, ◌∙◌, ap, arith, List, Some, None, inl, inr}
use Rattle.std.proofs.lemmas.Bool.{cases_order}
use Rattle.basin_names.specs.Named.{right_named}
use Rattle.basin_names.proofs.Names.{named_is, named_none}
use Rattle.water_text.specs.declared.month.Month.{Month}
use Rattle.water_model.specs.Hydrology.{month_number, run_month}
use Rattle.water_model.specs.Valid.{IsValidBasin}
use Rattle.water_model.specs.declared.space.Space.TheVariants.{Rights}
use Rattle.water_model.specs.declared.types.Basin.{Basin}
use Rattle.water_model.proofs.RunMonths.{number_after}
use Rattle.basin_cli.specs.Explained.{HasRight, IsRightNamed}

-- a month has one index
pub one_index : (b : Basin) (month : Month) (i j : ℕ) → IsValidBasin b → run_month b i ≡ month → run_month b j ≡ month →
    i ≡ j
one_index b month i j valid one other =
    omega (
      arith,
      number_after b.first i valid.run.first,
      number_after b.first j valid.run.first,
      ap month_number (one ∙ sym other),
    )

-- the right at which a look-up by name stops has the name
pub right_found : (b : Basin) (name : List ℕ) (at : ℕ) → right_named b name ≡ Some at → IsRightNamed b name at
right_found b name at e = let is = named_is b Rights name at e in record { within = is.1; is = is.0 }

-- and where it finds none, no right has it
pub right_missing : (b : Basin) (name : List ℕ) → right_named b name ≡ None → HasRight b name → ⊥
right_missing b name e has = named_none b Rights name e has.0 has.1.within has.1.is

-- no two rights have one name
pub one_right : (b : Basin) (name : List ℕ) (right other : ℕ) → IsValidBasin b → IsRightNamed b name right →
    IsRightNamed b name other → right ≡ other
one_right b name right other valid one two = elim (cases_order right other) [
  | inl same ↦ same
  | inr differ ↦ elim differ [
    | inl below ↦ absurd (valid.names.rights right other below two.within (one.is ∙ sym two.is))
    | inr above ↦ absurd (valid.names.rights other right above one.within (two.is ∙ sym one.is))
  ]
]

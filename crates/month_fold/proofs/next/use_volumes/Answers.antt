use Rattle.std.proofs.Common.{◌∙◌, ap, arith, length, List, ℕ}
use Rattle.std.specs.Prelude.{slice_index}
use Rattle.water_model.proofs.Lists.{whole_rows}
use Rattle.month_fold.proofs.next.use_volumes.Goals as goal

pub returns : goal.returns
returns c = λ deliveries count has.
    rw (whole_rows c.args.used.now c.use_month.new.used
    (c.use_month.ensures.length ∙ ap length c.as_mut_slice.ensures.value))
    (rw c.as_slice.ensures at (c.use_month.ensures.each deliveries count (rw c.as_mut_slice.ensures.value has)))

pub use_month-requires-clause-small : goal.use_month-requires-clause-small
use_month-requires-clause-small c = λ r l. omega (
  arith,
  ap (λ (xs : List ℕ). slice_index xs r) c.as_mut_slice.ensures.value,
  ap (λ (xs : List ℕ). slice_index xs r) c.as_slice.ensures,
  c.requires.little r l,
  c.requires.deliveries.small r 0 (omega (arith, c.requires.deliveries.count)),
)

use Rattle.std.proofs.Common.{◌∙◌, ap, length}
use Rattle.cert_check.proofs.Bounded.{supply_is}
use Rattle.water_model.proofs.Lists.{whole_rows}
use Rattle.cert_check.proofs.supplying.make_supply.Goals as goal

pub returns : goal.returns
returns c = ap (λ xs. record c.args.month.now { supply = xs })
    (whole_rows c.args.month.now.supply c.sum_supply.new.supply
    (c.sum_supply.ensures.length ∙ ap length c.as_mut_slice.ensures.value)
    ∙ supply_is c.args.basin.now c.args.series.now c.args.month.now
    (c.sum_supply.ensures.length ∙ (ap length c.as_mut_slice.ensures.value ∙ c.requires.fits.fits.supply))
    (λ n l. rw (c.as_slice.ensures, c.as_slice-2.ensures, c.as_slice-3.ensures) at (c.sum_supply.ensures.each n l)))

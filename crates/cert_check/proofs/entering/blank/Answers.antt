use Rattle.std.proofs.Common.{sym, refl, length, List, Bool, Option, None}
use Rattle.std.proofs.lemmas.Simd.{splat_is_map}
use Rattle.cert_check.proofs.entering.blank.Goals as goal

pub returns : goal.returns
returns c =
    let k = c.requires in
    let m = c.args.month.now in
    rw (
      c.clear.ensures,
      c.clear-2.ensures,
      c.clear-3.ensures,
      c.clear-4.ensures,
      c.clear-5.ensures,
      c.clear-6.ensures,
      c.clear-7.ensures,
      c.clear-8.ensures,
      c.clear-9.ensures,
      c.clear-10.ensures,
      c.clear-11.ensures,
      c.clear-12.ensures,
      k.fits.opening,
      k.fits.evaporated,
      k.fits.returned,
      k.fits.used,
      k.fits.supply,
      k.fits.want,
      k.flow,
      k.take,
      k.out,
      k.fits.delivered,
      k.fits.closing,
      k.fits.cut_nodes,
      sym (splat_is_map {Y = Option (List Bool)} m.cuts.sets (length c.args.basin.now.rights) None k.fits.cuts),
    ) refl

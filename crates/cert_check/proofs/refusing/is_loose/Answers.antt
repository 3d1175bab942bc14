use Rattle.std.proofs.Common.{arith}
use Rattle.cert_check.proofs.Bounded.{supplies_small, all_most}
use Rattle.cert_check.proofs.refusing.is_loose.Goals as goal

pub tight-requires-clause-amounts : goal.tight-requires-clause-amounts
tight-requires-clause-amounts c = grind (arith, supplies_small, all_most)

pub tight-requires-clause-cut : goal.tight-requires-clause-cut
tight-requires-clause-cut c =
    let k = c.requires.month.keeps in
    let own = k.calling.held c.args.right c.requires.calling in
    record { in_range = own.0; rights = k.month.fits.fits.cuts; nodes = k.month.fits.fits.cut_nodes; held = own.1 }

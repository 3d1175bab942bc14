use Rattle.std.proofs.Common.{rules}
use Rattle.river_net.specs.Firsts.{left_by_river}
use Rattle.river_net.proofs.rivers.first_rivers.Goals as goal

pub returns : goal.returns
returns c =
    let chains = c.in_ok-rivers.ensures (left_by_river c.args.links.now) (λ link node l is. search rules) in
    record { count = chains.one_first; each = chains.firsts }

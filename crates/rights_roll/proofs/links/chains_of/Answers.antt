use Rattle.std.proofs.Common.{ℕ, ◌≡◌, ◌<◌, ◌∙◌, refl, rules, sym, length, Some, None}
use Rattle.std.specs.Prelude.{Option, IfSome}
use Rattle.rights_roll.specs.Rolls.{link_in}
use Rattle.rights_roll.proofs.links.chains_of.Goals as goal

pub returns : goal.returns
returns c =
    let chains = c.in_ok-chains.ensures (link_in c.args.rights.now) (λ right link l is. search rules) in
    rw (sym chains.one_first) at chains

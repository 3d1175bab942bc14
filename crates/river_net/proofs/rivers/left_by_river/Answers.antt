use Rattle.std.proofs.Common.{◌≡◌, ◌<◌, ℕ, ◌∙◌, sym, arith, length, true, false, refl}
use Rattle.water_model.specs.Network.{tail_in, is_river_in, is_river_kind}
use Rattle.water_model.specs.declared.types.Link.{Link}
use Rattle.water_model.proofs.Lists.{entry_is}
use Rattle.river_net.proofs.Entries.{ends_in}
use Rattle.river_net.proofs.rivers.left_by_river.Goals as goal

pub returns-then-is_river : goal.returns-then-is_river
returns-then-is_river c =
    let links = c.args.links.now in
    let e : ℕ = c.args.link in
    let river : is_river_in links e ≡ true =
    entry_is links e c.index-links-link.result (λ (l : Link). is_river_kind l.carry) false c.requires.link c.index-links-link.is
    ∙ (sym c.is_river.ensures ∙ c.if-is_river.true) in
    let at : tail_in links e ≡ c.index-links-link.result.from =
    entry_is links e c.index-links-link.result (λ (l : Link). l.from) 0 c.requires.link c.index-links-link.is in
    let inside = (ends_in c.args.nodes.now links c.requires.ends e c.requires.link).0 in
    record { value = rw (river, at) refl; within = omega arith }

pub returns-else-is_river-clause-value : goal.returns-else-is_river-clause-value
returns-else-is_river-clause-value c =
    let links = c.args.links.now in
    let e : ℕ = c.args.link in
    let dry : is_river_in links e ≡ false =
    entry_is links e c.index-links-link.result (λ (l : Link). is_river_kind l.carry) false c.requires.link c.index-links-link.is
    ∙ (sym c.is_river.ensures ∙ c.if-is_river.false) in
    rw dry refl

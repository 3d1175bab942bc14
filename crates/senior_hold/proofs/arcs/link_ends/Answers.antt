use Rattle.std.proofs.Common.{ap, sym}
use Rattle.std.specs.Prelude.{unwrap_or, option_map}
use Rattle.senior_hold.proofs.Laid.{laid_start, laid_link}
use Rattle.senior_hold.proofs.arcs.link_ends.Goals as goal

pub loop-place-init : goal.loop-place-init
loop-place-init c = laid_start c.args.basin.now _ c.new-ends.ensures.items

pub loop-place-preserved : goal.loop-place-preserved
loop-place-preserved c = laid_link c.args.basin.now c.loop-place.ends.items _ c.loop-place.place _ _
    (ap (λ o. unwrap_or (option_map (λ x. x.from) o) 0) (sym c.index-link.ensures))
    (ap (λ o. unwrap_or (option_map (λ x. x.to) o) 0) (sym c.index-link.ensures))
    c.in_ok-push.ensures.items c.loop-place.invariant

use Rattle.std.proofs.Common.{ap₂, sym, ◌∙◌, ◌++◌}
use Rattle.std.specs.Prelude.{option_to_list}
use Rattle.cut_cert.proofs.Search.{order_in_range}
use Rattle.injury.proofs.Pairs.{pairs_more, pairs_all}
use Rattle.injury.proofs.pairing.pairs_of.Goals as goal

pub pair_of-requires-clause-right : goal.pair_of-requires-clause-right
pair_of-requires-clause-right c =
    order_in_range c.args.first.now.rights c.args.rights.now c.loop-right.right-index c.requires.rights
    c.loop-right-test.true

pub loop-right-preserved : goal.loop-right-preserved
loop-right-preserved c =
    c.in_ok-add_pair.ensures
    ∙ (ap₂ (λ pairs pair. pairs ++ option_to_list pair) c.loop-right.invariant c.pair_of.ensures
    ∙ sym (pairs_more c.args.first.now c.args.second.now.basin.now c.args.rights.now c.loop-right.right-index
    c.loop-right-test.true))

pub returns : goal.returns
returns c =
    c.loop-right.invariant
    ∙ pairs_all c.args.first.now c.args.second.now.basin.now c.args.rights.now c.loop-right.right-index
    c.loop-right-test.false c.requires.rights

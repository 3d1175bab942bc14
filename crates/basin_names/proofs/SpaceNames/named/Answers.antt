use Rattle.std.proofs.Common.{◌∙◌}
use Rattle.basin_names.proofs.Names.{named_within}
use Rattle.basin_names.proofs.SpaceNames.named.Goals as goal

pub returns-clause-within : goal.returns-clause-within
returns-clause-within c =
    named_within c.args.self.now.basin.now c.args.self.now.space c.args.name.now c.copied.result
    (c.copied.ensures ∙ (c.get.ensures.value ∙ c.args.self.now.placed c.args.name.now))

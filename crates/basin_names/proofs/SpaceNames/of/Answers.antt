use Rattle.std.proofs.Common.{ap, ◌∙◌, Some, None, if◌then◌else◌}
use Rattle.std.specs.Option.{option_or}
use Rattle.std.specs.Str.{bytes_eq}
use Rattle.water_model.specs.Indices.{numbers_from}
use Rattle.water_model.specs.Entries.{name_in}
use Rattle.first_index.specs.Indices.{index_at}
use Rattle.basin_names.proofs.Names.{found-more, kept-none}
use Rattle.basin_names.proofs.SpaceNames.of.Goals as goal

pub loop-at-init : goal.loop-at-init
unfolding numbers_from
loop-at-init c = λ q. kept-none c.new-indices.result q c.new-indices.ensures.empty

pub loop-at-preserved : goal.loop-at-preserved
loop-at-preserved c = λ q.
    found-more (λ at. bytes_eq q (name_in c.args.space c.args.basin.now at)) c.loop-at.at (index_at c.loop-at.indices q)
    (index_at c.add_index.new.indices q)
    (c.loop-at.invariant q)
    (c.in_ok-add_index.ensures.added q
    ∙ ap (λ name. option_or (index_at c.loop-at.indices q) (if bytes_eq q name then Some c.loop-at.at else None))
    (c.bytes.ensures.value ∙ c.name_in.ensures))

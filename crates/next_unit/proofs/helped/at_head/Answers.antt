use Rattle.std.proofs.Common.{ℕ, ap, sym}
use Rattle.std.specs.Prelude.{unwrap_or, option_map, slice_index_or, Option, None}
use Rattle.water_model.specs.declared.types.Link.{Link}
use Rattle.next_unit.proofs.helped.at_head.Goals as goal

pub returns : goal.returns
returns c =
    ap (λ (n : ℕ). slice_index_or c.args.next.now n None)
    (sym (ap (λ (o : Option Link). unwrap_or (option_map (λ x. x.to) o) 0) c.index-ends.ensures))

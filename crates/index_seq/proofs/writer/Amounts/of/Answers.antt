use Rattle.std.proofs.Common.{◌≡◌, ◌<◌, [], length, ap, arith, ◌∙◌, slice_index_or}
use Rattle.std.proofs.lemmas.List.{get_or_default}
use Rattle.index_seq.specs.Text.{AmountsSeen, amounts_seen}
use Rattle.index_seq.proofs.writer.Amounts.of.Goals as goal

pub returns-clause-sorted : goal.returns-clause-sorted
returns-clause-sorted c =
    let rows = c.self.inside.by_right.now in
    let view : amounts_seen c.self.inside.basin.now rows ≡ c.args.self.now = c.self.view_is in
    let within : c.args.right < length rows = omega (
      arith,
      c.requires,
      c.self.invariant.count,
      ap (λ (a : AmountsSeen). length a.basin.rights) view,
    ) in
    let same : c.as_slice.result.now ≡ slice_index_or rows c.args.right [] =
    c.as_slice.ensures ∙ get_or_default rows c.args.right c.index-self-right.result [] within in
    rw same (c.self.invariant.sorted c.args.right)

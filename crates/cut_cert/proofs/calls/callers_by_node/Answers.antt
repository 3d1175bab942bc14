-- After each turn the nodes have the first callers of the rights so far.
use Rattle.std.proofs.Common.{◌≡◌, ℕ, Bool, List, ◌<◌, ◌+◌, ◌∙◌, ap, sym, refl, arith, length, get_or, take}
use Rattle.std.specs.Prelude.{Option, Some, None, find, if◌then◌else◌}
use Rattle.std.specs.Option.{option_or}
use Rattle.std.proofs.lemmas.List.{take_all}
use Rattle.water_model.specs.Indices.{seniors_first}
use Rattle.cut_cert.specs.Callers.{is_short_at}
use Rattle.cut_cert.proofs.Claims.{all_free, none_yet, find_more}
use Rattle.cut_cert.proofs.Search.{order_in_range}
use Rattle.cut_cert.proofs.calls.callers_by_node.Goals as goal

pub loop-right-init : goal.loop-right-init
loop-right-init c = record {
  count = refl;
  words = refl;
  free = all_free c.len-nodes.result (omega (arith, c.len-nodes.ensures, c.requires.basin.bounded.nodes));
  each = none_yet c.len-nodes.result (omega (arith, c.len-nodes.ensures, c.requires.basin.bounded.nodes));
}

in_range : (c : goal.After-row_known-1) →
    get_or c.by_seniority-right-items.result.now c.loop-right.right-index 0 < length c.args.basin.now.rights
in_range c =
    order_in_range c.args.basin.now.rights c.by_seniority-right-items.result.now c.loop-right.right-index
    (c.by_seniority-right-items.ensures ∙ c.requires.roll.order) c.loop-right-test.true

pub call_from-requires-clause-delivered : goal.call_from-requires-clause-delivered
call_from-requires-clause-delivered c = omega (arith, in_range c, c.requires.month.delivered)

pub call_from-requires-clause-want : goal.call_from-requires-clause-want
call_from-requires-clause-want c = omega (arith, in_range c, c.requires.month.want)

pub call_from-requires-clause-right : goal.call_from-requires-clause-right
call_from-requires-clause-right c = omega (arith, in_range c, c.requires.month.cuts)

pub call_from-requires-clause-free : goal.call_from-requires-clause-free
call_from-requires-clause-free c = c.loop-right.invariant.free

pub loop-right-preserved : goal.loop-right-preserved
loop-right-preserved c =
    let order = c.by_seniority-right-items.result.now in
    let i = c.loop-right.right-index in
    let is : order ≡ seniors_first c.args.basin.now = c.by_seniority-right-items.ensures ∙ c.requires.roll.order in
    record {
      count = c.call_from.ensures.indices ∙ c.loop-right.invariant.count;
      words = c.call_from.ensures.words ∙ c.loop-right.invariant.words;
      free = c.call_from.ensures.free;
      each = λ n below.
          let short : ℕ → Bool = λ right. is_short_at c.args.month.now right n in
          c.call_from.ensures.given n below
          ∙ ap (λ (so_far : Option ℕ). option_or so_far
          (if short (get_or order i 0) then Some (get_or order i 0) else None))
          (c.loop-right.invariant.each n below ∙ ap (λ (rights : List ℕ). find short (take i rights)) (sym is))
          ∙ find_more short order i c.loop-right-test.true
          ∙ ap (λ (rights : List ℕ). find short (take (i + 1) rights)) is;
    }

pub returns : goal.returns
returns c =
    let is : c.by_seniority-right-items.result.now ≡ seniors_first c.args.basin.now =
    c.by_seniority-right-items.ensures ∙ c.requires.roll.order in
    record {
      enough = omega (arith, c.loop-right.invariant.count, c.requires.basin.bounded.nodes);
      each = λ n below.
          c.loop-right.invariant.each n (omega (arith, below, c.len-nodes.ensures))
          ∙ ap (find (λ right. is_short_at c.args.month.now right n))
          (take_all c.loop-right.right-index (seniors_first c.args.basin.now)
          (omega (arith, ap length is, c.loop-right-test.false)));
    }

use Rattle.std.proofs.Common.{◌+◌, ◌∙◌, sym, ap, arith, length, inl, inr}
use Rattle.std.proofs.Math.ListN.{length-set}
use Rattle.std.proofs.lemmas.Bool.{cases_eq}
use Rattle.std.proofs.lemmas.List.{get_or-set_other}
use Rattle.std.proofs.lemmas.Grind.{get_or-set_at}
use Rattle.std.specs.Prelude.{slice_index}
use Rattle.stored_water.specs.declared.shares.Shares.{Shares}
use Rattle.stored_water.proofs.Sums.{sum_start, sum_more, sum_fits, next_part}
use Rattle.stored_water.proofs.shares.write_shares.Goals as goal

pub loop-i-init : goal.loop-i-init
loop-i-init c = record {
  count = c.requires.one_each;
  amount = ap (λ (s : Shares). s.amount) c.begin-shares.ensures;
  all = ap (λ (s : Shares). s.all) c.begin-shares.ensures ∙ c.sum_of.ensures;
  before = ap (λ (s : Shares). s.before) c.begin-shares.ensures ∙ sym (sum_start c.args.weights.now);
  each = λ k l. absurd (omega arith);
}

pub next-requires : goal.next-requires
next-requires c =
    omega (
      arith,
      c.loop-i.invariant.all,
      c.loop-i.invariant.before,
      sum_fits c.args.weights.now c.loop-i.i (length c.args.weights.now) (omega arith),
    )

pub loop-i-preserved : goal.loop-i-preserved
loop-i-preserved c = record {
  count = length-set c.loop-i.parts c.loop-i.i c.next.result ∙ c.loop-i.invariant.count;
  amount = ap (λ (s : Shares). s.amount) c.next.ensures.more ∙ c.loop-i.invariant.amount;
  all = ap (λ (s : Shares). s.all) c.next.ensures.more ∙ c.loop-i.invariant.all;
  before = ap (λ (s : Shares). s.before) c.next.ensures.more
      ∙ (ap (λ x. x + slice_index c.args.weights.now c.loop-i.i) c.loop-i.invariant.before
      ∙ sym (sum_more c.args.weights.now c.loop-i.i));
  each = λ k l. elim (cases_eq k c.loop-i.i) [
    | inl e ↦
        get_or-set_at c.loop-i.parts c.loop-i.i k c.next.result 0 e (omega (arith, c.loop-i.invariant.count))
        ∙ (c.next.ensures.part
        ∙ next_part c.args.weights.now (length c.args.weights.now) c.args.amount c.loop-i.i k c.loop-i.shares.amount
        c.loop-i.shares.before c.loop-i.shares.all c.loop-i.invariant.amount c.loop-i.invariant.before
        c.loop-i.invariant.all e)
    | inr other ↦
        get_or-set_other c.loop-i.parts c.loop-i.i k c.next.result 0 other
        ∙ c.loop-i.invariant.each k (omega arith)
  ];
}

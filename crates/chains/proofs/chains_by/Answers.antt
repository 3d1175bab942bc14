use Rattle.std.proofs.Common.{ℕ, ◌≡◌, ◌<◌, ◌-◌, ◌+◌, ◌∙◌, arith, rules, sym, length, ap, None, Some, inr}
use Rattle.std.proofs.lemmas.List.{get_or_read, length-set, length-replicate}
use Rattle.std.specs.Prelude.{Option}
use Rattle.chains.proofs.Building.{chains_start, chains_more, chains_pass}
use Rattle.chains.proofs.chains_by.Goals as goal

pub loop-index-init : goal.loop-index-init
loop-index-init g c =
    let firsts = c.in_ok-first.ensures.items_if_clones_equal (λ y h. search rules) in
    let nexts = c.in_ok-next.ensures.items_if_clones_equal (λ y h. search rules) in
    record {
      one_first = ap length firsts ∙ length-replicate {A = Option ℕ} c.args.keys None;
      one_next = ap length nexts ∙ length-replicate {A = Option ℕ} c.args.count None;
      chains = λ own are. chains_start own c.args.count c.args.keys firsts nexts;
    }

pub loop-index-preserved-in-Some : goal.loop-index-preserved-in-Some
loop-index-preserved-in-Some g c =
    let k : ℕ = c.loop-index.index - 1 in
    let same : c.loop-index.index ≡ k + 1 = omega arith in
    let below : k < c.args.count = omega arith in
    let now = c.loop-index.invariant in
    let inside : c.in-Some.key < length c.loop-index.first.items =
    let within : c.in-Some.key < c.args.keys = c.requires.within k (Some c.in-Some.key) below c.in-Some.ensures in
    omega (arith, now.one_first) in
    record {
      one_first = length-set c.loop-index.first.items c.in-Some.key (Some k) ∙ now.one_first;
      one_next = length-set c.loop-index.next.items k c.index.result.now ∙ now.one_next;
      chains = λ own are.
          chains_more own c.args.count k c.in-Some.key below (omega (arith, now.one_next)) inside
          (sym (are k (Some c.in-Some.key) below c.in-Some.ensures))
          (get_or_read c.loop-index.first.items c.in-Some.key c.index.result.now inside c.index.ensures None)
          (rw same at (now.chains own are));
    }

pub loop-index-preserved : goal.loop-index-preserved
loop-index-preserved g c =
    let k : ℕ = c.loop-index.index - 1 in
    let same : c.loop-index.index ≡ k + 1 = omega arith in
    let below : k < c.args.count = omega arith in
    record {
      one_first = c.loop-index.invariant.one_first;
      one_next = c.loop-index.invariant.one_next;
      chains = λ own are.
          chains_pass own c.args.count k (sym (are k None below (rw c.in_default.is at c.key_of.ensures)))
          (rw same at (c.loop-index.invariant.chains own are));
    }

pub returns : goal.returns
returns g c = λ own are.
    let start : c.loop-index.index ≡ 0 = omega (arith, c.loop-index-test.false) in
    let now = rw start at (c.loop-index.invariant.chains own are) in
    record {
      one_first = c.loop-index.invariant.one_first;
      one_next = c.loop-index.invariant.one_next;
      firsts = now.firsts;
      nexts = λ index key. now.nexts index key (omega arith);
      others = λ index below none. now.others index (inr none);
    }

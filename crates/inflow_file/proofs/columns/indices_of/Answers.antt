use Rattle.inflow_file.proofs.Words.{◌≡◌, ◌∙◌, ◌<◌, ◌+◌, ◌++◌, ◌∷◌, [], sym, arith, ap, rules, length, length_push}
use Rattle.inflow_file.proofs.Words.{is_column, count_of_both}
use Rattle.inflow_file.proofs.ColumnLaws.{none_below, passed_most, filter_next, index_added, index_passed}
use Rattle.inflow_file.proofs.columns.indices_of.Goals as goal

pub loop-number-init : goal.loop-number-init
loop-number-init c = record {
  numbers = c.new-numbers.ensures.items ∙ sym (none_below (λ n. is_column c.args.basin.now n));
  count = ap length c.new-of_number.ensures.items;
  each = λ n l. absurd (omega arith);
}

pub overflow_cast-len : goal.overflow_cast-len
overflow_cast-len c =
    let most = passed_most (λ n. is_column c.args.basin.now n) c.loop-number.number in
    let count : c.len.result ≡ length c.loop-number.numbers.items = search rules in let bounded = c.requires.bounded in
    omega (arith, most, count, ap length c.loop-number.invariant.numbers, bounded.nodes, bounded.rights)

pub loop-number-preserved : goal.loop-number-preserved
loop-number-preserved c =
    let count : c.len.result ≡ length c.loop-number.numbers.items = search rules in
    let pushed = c.in_ok-push.ensures.items ∙ ap (λ n. c.loop-number.of_number.items ++ n ∷ []) count in
    let so_far = c.loop-number.invariant in
    record {
      numbers = c.in_ok-add_column.ensures
          ∙ rw so_far.numbers (sym (filter_next (λ n. is_column c.args.basin.now n) c.loop-number.number));
      count = ap length pushed ∙ (length_push c.loop-number.of_number.items _ ∙ ap (λ n. n + 1) so_far.count);
      each = λ n l. rw pushed
          (index_added (λ m. is_column c.args.basin.now m) _ _ _ _ so_far.count so_far.numbers so_far.each l);
    }

pub returns : goal.returns
returns c =
    let end : c.loop-number.number ≡ count_of_both c.args.basin.now = omega arith in
    let so_far = c.loop-number.invariant in
    record {
      columns_are = rw (← end) so_far.numbers;
      count = so_far.count ∙ end;
      each = λ n l due. rw so_far.numbers (
          let below : n < c.loop-number.number = omega arith in
          so_far.each n below
          ∙ sym (index_passed (λ m. is_column c.args.basin.now m) c.loop-number.number n below due));
    }

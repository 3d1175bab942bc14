use Rattle.std.proofs.Common.{arith, option_map, take_all}
use Rattle.std.specs.Prelude.{Result, Ok, Err, IsErr, MatchResult}
use Rattle.toml.specs.View.{items_view}
use Rattle.toml_tree.specs.Texts.{texts_after}
use Rattle.toml_tree.proofs.IndexLaws.{indices_none, indices_more, indices_prefix, text_there, texts_len}
use Rattle.toml_tree.proofs.indices.add_indices.Goals as goal

on_error : {T E : Type 0} (r : Result T E) (P : T → Type 0) (Q : Type 0) → IsErr r → Q → MatchResult r P (λ _. Q)
on_error (Ok x) P Q failed h = cc
on_error (Err e) P Q failed h = h

pub loop-i-init : goal.loop-i-init
loop-i-init c = indices_none c.args.indices.now c.args.from

pub loop-i-preserved : goal.loop-i-preserved
loop-i-preserved c =
    let key = c.args.key.now in
    let values = c.args.values.now in
    let text = option_map (λ t. t.now) c.text_of.result in
    indices_more c.args.indices.now c.loop-i.indices c.add_text.new.indices c.args.from
    (texts_after key (items_view values)) c.loop-i.i c.loop-i.invariant text
    (text_there key values c.loop-i.i c.index-values-i.result text c.loop-i-test.true c.index-values-i.is
    c.text_of.ensures)
    c.in_ok-add_text.ensures.added

pub returns-in_err-add_text : goal.returns-in_err-add_text
returns-in_err-add_text c =
    let texts = texts_after c.args.key.now (items_view c.args.values.now) in
    on_error c.from_residual.result _ _ c.from_residual.ensures.0
    (indices_prefix c.args.indices.now c.loop-i.indices c.add_text.new.indices c.args.from texts c.loop-i.i
    c.loop-i.invariant (omega (arith, texts_len c.args.key.now c.args.values.now, c.loop-i-test.true))
    c.in_err-add_text.ensures.same)

pub returns : goal.returns
returns c =
    let texts = texts_after c.args.key.now (items_view c.args.values.now) in
    let past = texts_len c.args.key.now c.args.values.now in
    rw (take_all c.loop-i.i texts (omega (arith, past, c.loop-i-test.false))) at c.loop-i.invariant

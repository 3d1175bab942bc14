use Rattle.std.proofs.Common.{◌≡◌, ℕ, Bool, true, List, length, get_or, take, ap, sym, subst, ◌∙◌, arith}
use Rattle.std.specs.Prelude.{Some, slice_set}
use Rattle.bit_words.specs.Marks.{marks}
use Rattle.bit_words.proofs.Marks.{marks_one}
use Rattle.word_region.specs.Words.{words_at, with_words}
use Rattle.word_region.specs.declared.Place.{Place}
use Rattle.water_model.specs.CutInside.{cut_sets, set_place, KeepsSets}
use Rattle.water_model.specs.CutSets.{CutSets, set_of, with_set}
use Rattle.water_model.proofs.CutLemmas.{Rewrites, set_is, rewritten_is, rewritten_keeps, rewritten_sets}
use Rattle.water_model.proofs.CutSteps.{is_right, is_held, set_seen, word_read}
use Rattle.water_model.proofs.cut_list.CutList.add.Goals as goal

pub get-begin-requires-clause-at : goal.get-begin-requires-clause-at
get-begin-requires-clause-at c =
    let i = c.self.inside in
    let b = is_right i.rights i.nodes i.region.words c.self.view_is c.requires.right in
    omega (arith, b, ap (λ (p : Place). p.len) c.rights_place.ensures)

pub words_mut-words-requires : goal.words_mut-words-requires
words_mut-words-requires c =
    let i = c.self.inside in
    let b = is_right i.rights i.nodes i.region.words c.self.view_is c.requires.right in
    let some = is_held i.rights i.nodes i.region.words c.self.view_is c.requires.right
    c.requires.held in
    let word = word_read i.region.words c.args.right c.rights_place.ensures c.get-begin.ensures.word in
    omega (
      arith,
      word,
      c.self.invariant.within c.args.right b some,
      ap (λ (p : Place). p.from) c.set_place.ensures,
      ap (λ (p : Place). p.len) c.set_place.ensures,
    )

rewrites : (c : goal.After-self-1) →
    Rewrites c.self.inside.rights c.self.inside.nodes c.self.inside.region c.args.right c.mark.new.words
rewrites c =
    let i = c.self.inside in
    record {
      keeps = c.self.invariant;
      is_right = is_right i.rights i.nodes i.region.words c.self.view_is c.requires.right;
      held = is_held i.rights i.nodes i.region.words c.self.view_is c.requires.right
          c.requires.held;
      size = c.mark.ensures.count ∙ c.words_mut-words.ensures.count ∙ ap (λ (p : Place). p.len) c.set_place.ensures;
    }

word : (c : goal.After-self-1) → c.get-begin.result ≡ get_or c.self.inside.region.words c.args.right 0
word c =
    word_read c.self.inside.region.words c.args.right c.rights_place.ensures c.get-begin.ensures.word

written : (c : goal.After-self-1) →
    take (length c.self.inside.region.words)
    (with_words c.self.inside.region.words c.set_place.result.from c.mark.new.words)
    ≡ with_words c.self.inside.region.words (get_or c.self.inside.region.words c.args.right 0) c.mark.new.words
written c =
    let i = c.self.inside in
    rewritten_is (rewrites c) c.set_place.result.from
    (ap (λ (p : Place). p.from) c.set_place.ensures ∙ word c)

pub invariant_of-self : goal.invariant_of-self
invariant_of-self c =
    let i = c.self.inside in
    subst (λ (words : List ℕ). KeepsSets i.rights i.nodes (record { words = words; used = i.region.used }))
    (sym (written c))
    (rewritten_keeps (rewrites c))

-- the set as it was
the_set : (c : goal.After-self-1) →
    set_of c.args.self.now c.args.right ≡ Some (marks c.self.inside.nodes c.words_mut-words.result.now)
the_set c =
    let i = c.self.inside in
    let held = (rewrites c).held in
    let part = c.words_mut-words.ensures.words
    ∙ ap (words_at i.region.words) (c.set_place.ensures ∙ ap (set_place i.nodes) (word c)) in
    set_seen i.rights i.nodes i.region.words c.self.view_is c.requires.right
    ∙ set_is i.nodes i.region.words (get_or i.region.words c.args.right 0) c.words_mut-words.result.now held (sym part)

pub returns : goal.returns
returns c =
    let i = c.self.inside in
    rw (the_set c)
    (ap (cut_sets i.rights i.nodes) (written c)
    ∙ rewritten_sets (rewrites c)
    ∙ ap (λ (set : List Bool). with_set (cut_sets i.rights i.nodes i.region.words) c.args.right (Some set))
    (marks_one i.nodes c.words_mut-words.result.now c.mark.new.words c.args.node true c.mark.ensures.on
    c.mark.ensures.off)
    ∙ ap (λ (v : CutSets). with_set v c.args.right
    (Some (slice_set (marks i.nodes c.words_mut-words.result.now) c.args.node true))) c.self.view_is)

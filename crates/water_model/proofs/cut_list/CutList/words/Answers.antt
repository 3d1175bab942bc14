use Rattle.std.proofs.Common.{◌≡◌, ap, sym, ◌∙◌, arith}
use Rattle.std.specs.Prelude.{Some, None}
use Rattle.bit_words.specs.Marks.{marks}
use Rattle.word_region.specs.Words.{words_at}
use Rattle.word_region.specs.declared.Place.{Place}
use Rattle.water_model.specs.CutInside.{set_at}
use Rattle.water_model.specs.CutSets.{CutSets, set_of}
use Rattle.water_model.proofs.CutLemmas.{set_is}
use Rattle.water_model.proofs.CutSteps.{is_right, set_seen, word_read}
use Rattle.water_model.proofs.cut_list.CutList.words.Goals as goal
use Rattle.water_model.proofs.cut_list.CutList.words.Goals.{After-words}

pub get-begin-requires-clause-at : goal.get-begin-requires-clause-at
get-begin-requires-clause-at c =
    let i = c.self.inside in
    let b = is_right i.rights i.nodes i.region.words c.self.view_is c.requires in
    omega (arith, b, ap (λ (p : Place). p.len) c.rights_place.ensures)

pub words-requires : goal.words-requires
words-requires c =
    let i = c.self.inside in
    let b = is_right i.rights i.nodes i.region.words c.self.view_is c.requires in
    let word = word_read i.region.words c.args.right c.rights_place.ensures c.get-begin.ensures.word in
    omega (
      arith,
      word,
      c.self.invariant.within c.args.right b (omega (arith, word, c.if-begin-eq0.false)),
      ap (λ (p : Place). p.from) c.set_place.ensures,
      ap (λ (p : Place). p.len) c.set_place.ensures,
    )

-- a right whose word is 0 has no set
no_set : (c : goal.Then-begin-eq0) → set_of c.args.self.now c.args.right ≡ None
no_set c =
    let i = c.self.inside in
    let word = word_read i.region.words c.args.right c.rights_place.ensures c.get-begin.ensures.word in
    set_seen i.rights i.nodes i.region.words c.self.view_is c.requires
    ∙ ap (set_at i.nodes i.region.words) (sym word ∙ c.if-begin-eq0.true)

-- and another has the set that begins there
the_set : (c : After-words) →
    set_of c.args.self.now c.args.right ≡ Some (marks c.self.inside.nodes c.words.result.now)
the_set c =
    let i = c.self.inside in
    let word = word_read i.region.words c.args.right c.rights_place.ensures c.get-begin.ensures.word in
    let part = c.words.ensures.words ∙ ap (words_at i.region.words) c.set_place.ensures in
    set_seen i.rights i.nodes i.region.words c.self.view_is c.requires
    ∙ ap (set_at i.nodes i.region.words) (sym word)
    ∙ set_is i.nodes i.region.words c.get-begin.result c.words.result.now (omega (arith, c.if-begin-eq0.false))
    (sym part)

pub returns-then-begin-eq0-clause-set : goal.returns-then-begin-eq0-clause-set
returns-then-begin-eq0-clause-set c = sym (no_set c)

pub returns-clause-set : goal.returns-clause-set
returns-clause-set c =
    sym (the_set c ∙ ap (λ (v : CutSets). Some (marks v.nodes c.words.result.now)) c.self.view_is)

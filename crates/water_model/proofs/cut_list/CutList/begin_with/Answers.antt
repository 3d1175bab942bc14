use Rattle.std.proofs.Common.{◌≡◌, ℕ, ◌+◌, length, ap, sym, subst, ◌∙◌, arith}
use Rattle.std.specs.Prelude.{Some}
use Rattle.bit_words.specs.Marks.{words_for, marks}
use Rattle.word_region.specs.Words.{Words}
use Rattle.word_region.specs.declared.Place.{Place}
use Rattle.water_model.specs.CutInside.{cut_sets, KeepsSets}
use Rattle.water_model.specs.CutSets.{CutSets, with_set}
use Rattle.water_model.proofs.CutLemmas.{Begins, used_fits, next_fits, begun, begun_keeps, begun_sets}
use Rattle.water_model.proofs.CutSteps.{is_right, is_free, began_with}
use Rattle.water_model.proofs.cut_list.CutList.begin_with.Goals as goal

pub next_place-place-requires : goal.next_place-place-requires
next_place-place-requires c =
    let i = c.self.inside in
    let b = is_right i.rights i.nodes i.region.words c.self.view_is c.requires.right in
    let none =
    is_free i.rights i.nodes i.region.words c.self.view_is c.requires.right
    c.requires.free in
    let nodes = ap (λ (v : CutSets). v.nodes) c.self.view_is in
    omega (arith, c.requires.words, nodes, next_fits c.self.invariant b none)

pub set-requires-clause-at : goal.set-requires-clause-at
set-requires-clause-at c =
    let i = c.self.inside in
    let b = is_right i.rights i.nodes i.region.words c.self.view_is c.requires.right in
    omega (arith, b, ap (λ (p : Place). p.len) c.rights_place.ensures)

begins : (c : goal.After-set) →
    Begins c.self.inside.rights c.self.inside.nodes c.self.inside.region c.args.right c.args.words.now
begins c =
    let i = c.self.inside in
    let seen = c.args.self.now in
    record {
      keeps = c.self.invariant;
      is_right = is_right i.rights i.nodes i.region.words c.self.view_is c.requires.right;
      free = is_free i.rights i.nodes i.region.words c.self.view_is c.requires.right c.requires.free;
      size = c.requires.words ∙ ap (λ (v : CutSets). words_for v.nodes) (sym c.self.view_is);
    }

ends : (c : goal.After-set) → c.set.new.self ≡ record {
  words = begun c.self.inside.region c.args.right c.args.words.now;
  used = c.self.inside.region.used + length c.args.words.now;
}
ends c =
    began_with c.self.inside.region c.args.right c.args.words.now (used_fits c.self.invariant)
    c.next_place-place.ensures.taken c.next_place-place.ensures.place c.put.ensures c.rights_place.ensures c.set.ensures

pub invariant_of-self : goal.invariant_of-self
invariant_of-self c =
    let i = c.self.inside in
    let h = begins c in
    subst (KeepsSets i.rights i.nodes) (sym (ends c))
    (begun_keeps h (i.region.used + length c.args.words.now) (ap (λ (n : ℕ). i.region.used + n) h.size))

pub returns : goal.returns
returns c =
    let i = c.self.inside in
    ap (λ (r : Words). cut_sets i.rights i.nodes r.words) (ends c)
    ∙ begun_sets (begins c)
    ∙ ap (λ (v : CutSets). with_set v c.args.right (Some (marks v.nodes c.args.words.now))) c.self.view_is

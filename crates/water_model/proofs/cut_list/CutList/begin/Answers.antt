use Rattle.std.proofs.Common.{◌≡◌, ℕ, ◌+◌, Bool, false, List, replicate, ap, sym, subst, ◌∙◌, arith}
use Rattle.std.specs.Prelude.{Some}
use Rattle.std.proofs.lemmas.List.{length-replicate}
use Rattle.bit_words.proofs.Marks.{marks-zero}
use Rattle.word_region.specs.Words.{Words}
use Rattle.word_region.specs.declared.Place.{Place}
use Rattle.water_model.specs.CutInside.{cut_sets, KeepsSets}
use Rattle.water_model.specs.CutSets.{CutSets, with_set}
use Rattle.water_model.proofs.CutLemmas.{Begins, next_fits, begun, begun_keeps, begun_sets}
use Rattle.water_model.proofs.CutSteps.{is_right, is_free, began}
use Rattle.water_model.proofs.cut_list.CutList.begin.Goals as goal

pub next_place-place-requires : goal.next_place-place-requires
next_place-place-requires c =
    let i = c.self.inside in
    let b = is_right i.rights i.nodes i.region.words c.self.view_is c.requires.right in
    let none =
    is_free i.rights i.nodes i.region.words c.self.view_is c.requires.right
    c.requires.free in
    omega (arith, c.words_for.ensures, next_fits c.self.invariant b none)

pub set-requires-clause-at : goal.set-requires-clause-at
set-requires-clause-at c =
    let i = c.self.inside in
    let b = is_right i.rights i.nodes i.region.words c.self.view_is c.requires.right in
    omega (arith, b, ap (λ (p : Place). p.len) c.rights_place.ensures)

begins : (c : goal.After-set) →
    Begins c.self.inside.rights c.self.inside.nodes c.self.inside.region c.args.right (replicate c.words_for.result 0)
begins c =
    let i = c.self.inside in
    let seen = c.args.self.now in
    record {
      keeps = c.self.invariant;
      is_right = is_right i.rights i.nodes i.region.words c.self.view_is c.requires.right;
      free = is_free i.rights i.nodes i.region.words c.self.view_is c.requires.right c.requires.free;
      size = length-replicate {A = ℕ} c.words_for.result 0 ∙ c.words_for.ensures;
    }

ends : (c : goal.After-set) → c.set.new.self ≡ record {
  words = begun c.self.inside.region c.args.right (replicate c.words_for.result 0);
  used = c.self.inside.region.used + c.words_for.result;
}
ends c =
    began c.self.inside.region c.args.right c.next_place-place.ensures.taken c.next_place-place.ensures.place
    c.rights_place.ensures c.set.ensures

pub invariant_of-self : goal.invariant_of-self
invariant_of-self c =
    let i = c.self.inside in
    subst (KeepsSets i.rights i.nodes) (sym (ends c))
    (begun_keeps (begins c) (i.region.used + c.words_for.result)
    (ap (λ (n : ℕ). i.region.used + n) c.words_for.ensures))

pub returns : goal.returns
returns c =
    let i = c.self.inside in
    ap (λ (r : Words). cut_sets i.rights i.nodes r.words) (ends c)
    ∙ begun_sets (begins c)
    ∙ ap (λ (set : List Bool). with_set (cut_sets i.rights i.nodes i.region.words) c.args.right (Some set))
    (marks-zero i.nodes c.words_for.result)
    ∙ ap (λ (v : CutSets). with_set v c.args.right (Some (replicate v.nodes false))) c.self.view_is

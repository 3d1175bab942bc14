use Rattle.std.proofs.Common.{◌+◌, ap, sym, subst, ◌∙◌, zero-add}
use Rattle.word_region.specs.Words.{Words}
use Rattle.water_model.specs.CutInside.{cut_sets, KeepsSets}
use Rattle.water_model.specs.CutSets.{without_sets}
use Rattle.water_model.proofs.CutLemmas.{cleared_keeps, cleared_sets, without_is}
use Rattle.water_model.proofs.CutSteps.{cleared}
use Rattle.water_model.proofs.cut_list.CutList.clear.Goals as goal

pub invariant_of-self : goal.invariant_of-self
invariant_of-self c =
    let i = c.self.inside in
    let ends = cleared i.region.words i.rights c.release.ensures c.next_place.ensures.taken in
    subst (KeepsSets i.rights i.nodes) (sym ends)
    (cleared_keeps i.rights i.nodes i.region.words (0 + i.rights) c.self.invariant.size (zero-add i.rights))

pub returns : goal.returns
returns c =
    let i = c.self.inside in
    let ends = cleared i.region.words i.rights c.release.ensures c.next_place.ensures.taken in
    ap (λ (r : Words). cut_sets i.rights i.nodes r.words) ends ∙ cleared_sets i.rights i.nodes i.region.words
    ∙ sym (without_is i.rights i.nodes i.region.words) ∙ ap without_sets c.self.view_is

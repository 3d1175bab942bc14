use Rattle.std.proofs.Common.{◌≡◌, ℕ, ◌+◌, ◌*◌, List, length, replicate, ap, sym, subst, ◌∙◌, zero-add}
use Rattle.std.proofs.lemmas.List.{length-replicate}
use Rattle.bit_words.specs.Marks.{words_for}
use Rattle.word_region.specs.Words.{Words}
use Rattle.water_model.specs.CutInside.{cut_sets, KeepsSets}
use Rattle.water_model.proofs.CutLemmas.{cleared_keeps, cleared_sets}
use Rattle.water_model.proofs.CutSteps.{cleared}
use Rattle.water_model.proofs.cut_list.CutList.open.Goals as goal

pub invariant_of-result : goal.invariant_of-result
invariant_of-result c =
    let words : List ℕ = replicate (c.args.rights * (1 + c.words_for.result)) 0 in
    let size : length words ≡ c.args.rights * (1 + words_for c.args.nodes) =
    length-replicate {A = ℕ} (c.args.rights * (1 + c.words_for.result)) 0
    ∙ ap (λ (n : ℕ). c.args.rights * (1 + n)) c.words_for.ensures in
    let ends = cleared words c.args.rights c.in_ok-region.ensures c.next_place.ensures.taken in
    subst (KeepsSets c.args.rights c.args.nodes) (sym ends)
    (cleared_keeps c.args.rights c.args.nodes words (0 + c.args.rights) size (zero-add c.args.rights))

pub returns : goal.returns
returns c =
    let words : List ℕ = replicate (c.args.rights * (1 + c.words_for.result)) 0 in
    let ends = cleared words c.args.rights c.in_ok-region.ensures c.next_place.ensures.taken in
    ap (λ (r : Words). cut_sets c.args.rights c.args.nodes r.words) ends ∙ cleared_sets c.args.rights c.args.nodes words

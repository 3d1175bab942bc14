use Rattle.std.proofs.Common.{sym, ◌∙◌}
use Rattle.std.proofs.lemmas.Bool.{OnFalse_at, OnFalse_from, both_ways, ltb-true}
use Rattle.std.specs.Prelude.{slice_index}
use Rattle.cut_cert.specs.Sets.{cut_at}
use Rattle.water_model.specs.Cuts.{enters}
use Rattle.next_unit.specs.Helped.{HelpNot}
use Rattle.next_unit.proofs.Exact.{must_enter}
use Rattle.next_unit.proofs.Helping.{short_has_reach}
use Rattle.next_unit.proofs.helped.could_be_helped.Goals as goal

pub returns-then-is_short-clause-no : goal.returns-then-is_short-clause-no
returns-then-is_short-clause-no c =
    let b = c.args.basin.now in
    let m = c.args.month.now in
    let short = ltb-true _ _ (sym c.is_short.ensures ∙ c.if-is_short.true) in
    OnFalse_from c.any_enters.result (HelpNot b m c.args.undecided.now c.args.count c.args.right) (λ none j l helps.
    both_ways (enters b (cut_at m.cuts c.args.right) (slice_index c.args.undecided.now j))
    (OnFalse_at none c.any_enters.ensures j l)
    (must_enter b m c.args.right (slice_index c.args.undecided.now j) (cut_at m.cuts c.args.right) c.requires.right
    (short_has_reach b m c.args.right c.requires.month.reaches c.requires.right short).is_tight helps))

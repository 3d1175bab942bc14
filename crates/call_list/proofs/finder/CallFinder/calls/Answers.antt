use Rattle.std.proofs.Common.{◌≡◌, ◌∙◌, ap}
use Rattle.call_list.specs.Finders.{FinderSeen}
use Rattle.call_list.proofs.Answers.{fits_found}
use Rattle.call_list.proofs.finder.CallFinder.calls.Goals as goal

pub invariant_of-result : goal.invariant_of-result
invariant_of-result c =
    let next : c.as_slice.result.now ≡ c.args.self.now.found.next =
    c.as_slice.ensures.value ∙ ap (λ (s : FinderSeen). s.found.next) c.self.view_is in
    let helped : c.as_slice-2.result.now ≡ c.args.self.now.found.helped =
    c.as_slice-2.ensures.value ∙ ap (λ (s : FinderSeen). s.found.helped) c.self.view_is in
    record {
      valid = c.requires.basin;
      rolled = c.requires.roll;
      fits = c.requires.month;
      found = rw (next, helped) (fits_found c.args.basin.now c.args.month.now c.args.self.now.found c.requires.found);
    }

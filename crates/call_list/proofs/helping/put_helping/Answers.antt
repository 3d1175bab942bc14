use Rattle.cut_cert.specs.Sets.{cut_at}
use Rattle.water_edge.proofs.Puts.{Puts-cut, Puts-then}
use Rattle.call_list.proofs.HelpTexts.{core_least, has_reach_set, helping_text}
use Rattle.call_list.proofs.helping.put_helping.Goals as goal

pub put_indices-requires-clause-reach : goal.put_indices-requires-clause-reach
put_indices-requires-clause-reach g c =
    has_reach_set c.requires.plan.fits c.requires.reaches c.requires.right c.requires.short

pub put_indices-requires-clause-core : goal.put_indices-requires-clause-core
put_indices-requires-clause-core g c = rw c.cuts-core.ensures c.find_core.ensures.core.cut

pub put_account-requires-clause-cut : goal.put_account-requires-clause-cut
put_account-requires-clause-cut g c = rw c.cuts-core.ensures c.find_core.ensures.core.cut

pub put_account-requires-clause-tight : goal.put_account-requires-clause-tight
put_account-requires-clause-tight g c =
    (core_least c.requires.plan c.requires.reaches c.requires.right c.requires.short
    (rw c.cuts-core.ensures c.find_core.ensures.core.is_core)).is_tight

pub returns-in_err-put_indices-clause-text : goal.returns-in_err-put_indices-clause-text
returns-in_err-put_indices-clause-text g c = (
  _,
  helping_text {core = cut_at c.cuts-core.result.now c.args.right} c.requires.plan c.requires.reaches c.requires.right
      c.requires.short (rw c.cuts-core.ensures c.find_core.ensures.core.is_core),
  Puts-cut _ _ c.from_residual.result _ _ c.from_residual.ensures.0 c.in_err-put_indices.ensures.text,
)

pub returns-clause-text : goal.returns-clause-text
returns-clause-text g c = (
  _,
  helping_text {core = cut_at c.cuts-core.result.now c.args.right} c.requires.plan c.requires.reaches c.requires.right
      c.requires.short (rw c.cuts-core.ensures c.find_core.ensures.core.is_core),
  Puts-then _ _ _ c.put_account.result _ _ c.in_ok-put_indices.ensures.text c.put_account.ensures.text,
)

pub find_core-requires-clause-plan : goal.find_core-requires-clause-plan
find_core-requires-clause-plan g c = c.requires.plan

pub find_core-requires-clause-roll : goal.find_core-requires-clause-roll
find_core-requires-clause-roll g c = c.requires.roll

pub put_account-requires-clause-basin : goal.put_account-requires-clause-basin
put_account-requires-clause-basin g c = c.requires.basin

pub put_account-requires-clause-roll : goal.put_account-requires-clause-roll
put_account-requires-clause-roll g c = c.requires.roll

pub put_indices-requires-clause-basin : goal.put_indices-requires-clause-basin
put_indices-requires-clause-basin g c = c.requires.basin

pub put_indices-requires-clause-roll : goal.put_indices-requires-clause-roll
put_indices-requires-clause-roll g c = c.requires.roll

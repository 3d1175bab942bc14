use Rattle.result_text.proofs.Monthly.{puts_kept}
use Rattle.edit_session.proofs.shows.put_done.Goals as goal

pub returns-clause-text : goal.returns-clause-text
returns-clause-text g c =
    puts_kept _ _ _ c.flush.result _ (rw (c.bytes.ensures, c.make_done.ensures) at c.in_ok-put.ensures.bytes)
    c.flush.ensures.bytes

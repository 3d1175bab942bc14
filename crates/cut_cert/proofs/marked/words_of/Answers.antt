use Rattle.std.proofs.Common.{sym}
use Rattle.bit_words.proofs.Marks.{length-marks}
use Rattle.cut_cert.proofs.marked.words_of.Goals as goal

pub returns-clause-sized : goal.returns-clause-sized
returns-clause-sized c =
    rw (sym c.in-Some.ensures.set) (length-marks c.args.cuts.now.nodes c.in-Some.words.now)

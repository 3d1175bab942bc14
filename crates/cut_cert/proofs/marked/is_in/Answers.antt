use Rattle.std.proofs.Common.{false, sym, ◌∙◌}
use Rattle.bit_words.proofs.Marks.{get_or-marks}
use Rattle.cut_cert.proofs.marked.is_in.Goals as goal

pub returns : goal.returns
returns c = λ nodes within. c.is_marked.ensures ∙ sym (get_or-marks nodes c.args.words.now c.args.node false within)

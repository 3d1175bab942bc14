use Rattle.std.proofs.Common.{false, sym, ◌∙◌}
use Rattle.bit_words.proofs.Marks.{get_or-marks, length-marks}
use Rattle.water_model.proofs.cut_list.CutList.holds.Goals as goal

pub returns-in-Some-clause-some : goal.returns-in-Some-clause-some
returns-in-Some-clause-some c =
    rw (sym c.in-Some.ensures.set)
    (c.is_marked.ensures ∙ sym
    (get_or-marks c.args.self.now.nodes c.in-Some.words.now c.args.node false c.requires.node))

pub returns-in-Some-clause-sized : goal.returns-in-Some-clause-sized
returns-in-Some-clause-sized c =
    rw (sym c.in-Some.ensures.set) (length-marks c.args.self.now.nodes c.in-Some.words.now)

use Rattle.std.proofs.Common.{arith, ap, ◌∙◌, ◌==◌, ℕ, ◌%◌}
use Rattle.std.specs.Int.{w64}
use Rattle.std.proofs.lemmas.Nat.Bits.{bit_at_set_same, bit_at_set_other}
use Rattle.bit_words.proofs.Marks.{others_stay, this_marked}
use Rattle.bit_words.proofs.mark.Goals as goal

pub returns-clause-on : goal.returns-clause-on
returns-clause-on c =
    this_marked c.args.words.now c.args.index _ c.requires
    ∙ ap (λ (b : ℕ). b == 1) (bit_at_set_same w64 _ (c.args.index % 64) (omega arith))

pub returns-clause-off : goal.returns-clause-off
returns-clause-off c =
    others_stay c.args.words.now c.args.index _ c.requires
    (λ i b apart. bit_at_set_other w64 _ (c.args.index % 64) (omega arith) i apart)

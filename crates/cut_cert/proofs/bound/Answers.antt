use Rattle.std.proofs.Common.{◌≡◌, ℕ, ◌^◌, ◌<◌, ◌∙◌, ap, sym, arith, pos, ◌-ℤ◌, to_z, of_z, w64}
use Rattle.std.proofs.lemmas.Int.{ints}
use Rattle.bit_words.specs.Marks.{marks}
use Rattle.cut_cert.specs.Sets.{cut_at, marked_nodes}
use Rattle.cut_cert.proofs.bound.Goals as goal

-- the difference of two numbers of 63 bits
difference : (x y : ℕ) → x < 2 ^ 63 → y < 2 ^ 63 →
    to_z w64 (of_z w64 (to_z w64 x -ℤ to_z w64 y)) ≡ pos x -ℤ pos y
difference x y h k = omega (arith, ints)

pub returns : goal.returns
returns c =
    let b = c.args.basin.now in
    let words = c.words_of-words.result.now in
    let set : marked_nodes b words ≡ cut_at c.args.cuts.now c.args.right =
    ap (λ (n : ℕ). marks n words) (sym c.requires.cut.nodes) ∙ c.words_of-words.ensures.set in
    record {
      value =
          difference c.sides_of-sides.result.capacity c.sides_of-sides.result.kept
          (omega (arith, c.sides_of-sides.ensures.small_capacity))
          (omega (arith, c.sides_of-sides.ensures.small_kept))
          ∙ rw (c.sides_of-sides.ensures.capacity, c.sides_of-sides.ensures.kept, set);
    }

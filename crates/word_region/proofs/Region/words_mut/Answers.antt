use Rattle.std.proofs.Common.{ℕ, ◌+◌, ◌≤◌, List, length, refl, ap, ◌∙◌, take, arith}
use Rattle.word_region.specs.Words.{Words, words_at, with_words}
use Rattle.word_region.proofs.Words.{length-words_at, written_back}
use Rattle.word_region.proofs.Region.words_mut.Goals as goal

pub returns : goal.returns
returns c = (
  (
    refl,
    λ w.
        ap (λ (xs : List ℕ). record { words = xs; used = c.self.inside.used })
        (written_back c.self.inside.words from w (omega (arith, fits)))
        ∙ ap (λ (r : Words). record r { words = take (length r.words) (with_words r.words from w) }) c.self.view_is,
  ),
  record {
    writes_back = tt;
    words = c.slice_mut.ensures.value ∙ ap (λ (r : Words). words_at r.words c.args.place) c.self.view_is;
    count =
        ap length c.slice_mut.ensures.value ∙ length-words_at c.self.inside.words.items c.args.place fits;
  },
)
  where
    from : ℕ
    from = c.args.place.from

    fits : c.args.place.from + c.args.place.len ≤ length c.self.inside.words.items
    fits = omega (arith, ap (λ (r : Words). r.used) c.self.view_is, c.self.invariant)

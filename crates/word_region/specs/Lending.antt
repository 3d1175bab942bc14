-- A region whose words are written through a `&mut`.
use Rattle.std.specs.Prelude.{List, ℕ, length, take}
use Rattle.std.specs.Borrow.{Lends, MutBor, Fml, Array, u64}
use Rattle.word_region.specs.Words.{Words, with_words}
use Rattle.word_region.specs.declared.Place.{Place}
use Rattle.word_region.specs.contracts.Region.{the_row}

-- r ends with the result's last words at the place, cut at r's own length
abbrev pub LendsWords : MutBor Words → Place → MutBor (List ℕ) → Fml
LendsWords r place result = Lends the_row (Array u64 0) r result (λ new.
    record r.now { words = take (length r.now.words) (with_words r.now.words place.from new) })

-- What the calls of a list of cuts know of a right, and its region after what they call.
use Rattle.std.proofs.Common.{◌≡◌, ℕ, zero, suc, ◌+◌, ◌<◌, ◌≤◌, List, length, get_or, replicate, refl, ap, sym, subst}
use Rattle.std.proofs.Common.{◌∙◌, arith, zero-add}
use Rattle.std.specs.Prelude.{None, IsSome, slice_set}
use Rattle.std.proofs.lemmas.List.{length-replicate}
use Rattle.word_region.specs.Words.{Words, with_words, zeroed}
use Rattle.word_region.specs.declared.Place.{Place}
use Rattle.word_region.proofs.Words.{with_words_again}
use Rattle.water_model.specs.CutInside.{set_at, set_in, cut_sets}
use Rattle.water_model.specs.CutSets.{CutSets, set_of}
use Rattle.water_model.proofs.CutLemmas.{begun, rights_counted, set_of_right}

-- ---- a right

module _ (rights nodes : ℕ) (words : List ℕ) {seen : CutSets} {right : ℕ} (v : cut_sets rights nodes words ≡ seen)
    (b : right < length seen.sets) where
  pub is_right : right < rights
  is_right = omega (arith, ap (λ (c : CutSets). length c.sets) v, rights_counted rights nodes words)

  pub set_seen : set_of seen right ≡ set_in nodes words right
  set_seen = ap (λ (c : CutSets). set_of c right) (sym v) ∙ set_of_right rights nodes words right is_right

  -- a right that has no set
  pub is_free : set_of seen right ≡ None → get_or words right 0 ≡ 0
  is_free none = by_word (get_or words right 0) (sym set_seen ∙ none)
    where
      by_word : (w : ℕ) → set_at nodes words w ≡ None → w ≡ 0
      by_word zero h = refl
      by_word (suc w) h = absurd (cc (h))

  -- and one that has
  pub is_held : IsSome (set_of seen right) → 0 < get_or words right 0
  is_held some = by_word (get_or words right 0) (subst IsSome set_seen some)
    where
      by_word : (w : ℕ) → IsSome (set_at nodes words w) → 0 < w
      by_word zero h = absurd (cc (h))
      by_word (suc w) h = omega arith

-- a right's word, as it is read
pub word_read : (words : List ℕ) (right : ℕ) {slots : Place} {rights word : ℕ} →
    slots ≡ record { from = 0; len = rights } → word ≡ get_or words (slots.from + right) 0 → word ≡ get_or words right 0
word_read words right {slots} first is =
    let at : slots.from + right ≡ right = omega (arith, ap (λ (p : Place). p.from) first) in
    is ∙ ap (λ (k : ℕ). get_or words k 0) at

-- ---- the region

-- the next words were handed out
abbrev pub taken : Words → ℕ → Words
taken r len = record { words = zeroed r.words r.used len; used = r.used + len }

-- what `begin` leaves
pub began : (r : Words) (right : ℕ) {x last : Words} {place slots : Place} {len rights : ℕ} → x ≡ taken r len →
    place ≡ record { from = r.used; len = len } → slots ≡ record { from = 0; len = rights } →
    last ≡ record x { words = slice_set x.words (slots.from + right) place.from } →
    last ≡ record { words = begun r right (replicate len 0); used = r.used + len }
began r right was is first ends = rw (ends, was, is, first, zero-add) refl

-- what `begin_with` leaves
pub began_with : (r : Words) (right : ℕ) (part : List ℕ) {x y last : Words} {place slots : Place} {rights : ℕ} →
    r.used ≤ length r.words →
    x ≡ taken r (length part) → place ≡ record { from = r.used; len = length part } →
    y ≡ record x { words = with_words x.words place.from part } → slots ≡ record { from = 0; len = rights } →
    last ≡ record y { words = slice_set y.words (slots.from + right) place.from } →
    last ≡ record { words = begun r right part; used = r.used + length part }
began_with r right part fits was is put first ends =
    rw (
      ends,
      put,
      was,
      is,
      first,
      zero-add,
      with_words_again r.words r.used (replicate (length part) 0) part fits
          (length-replicate {A = ℕ} (length part) 0),
    ) refl

-- what `clear` and `open` leave
pub cleared : (words : List ℕ) (rights : ℕ) {x last : Words} → x ≡ record { words = words; used = 0 } →
    last ≡ taken x rights → last ≡ record { words = zeroed words 0 rights; used = 0 + rights }
cleared words rights was is = rw (is, was) refl

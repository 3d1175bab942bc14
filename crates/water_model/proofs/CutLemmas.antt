-- What a change of a region leaves of the sets that a list of cuts keeps there.
use Rattle.std.proofs.Common.{◌≡◌, ◌≢◌, ℕ, zero, suc, ◌+◌, ◌*◌, ◌<◌, ◌≤◌, Bool, List, length, get_or, take, drop}
use Rattle.std.proofs.Common.{replicate, map, refl, ap, sym, ◌∙◌, inl, inr, zero-add, arith}
use Rattle.std.specs.Prelude.{◌⊎◌, Option, Some, None, slice_set, nat_lt, if◌then◌else◌, unwrap_or, option_map}
use Rattle.std.specs.List.{range_with_len}
use Rattle.std.proofs.lemmas.Bool.{cases_eq, lt-ltb}
use Rattle.std.proofs.lemmas.List.{length-set, length-replicate, get_or-set_same, get_or-set_other, get_or-replicate}
use Rattle.std.proofs.lemmas.List.{get_or_append_left, take_all}
use Rattle.std.proofs.lemmas.List.FromFn.{length-map-range_with_len, get_or-map-range_with_len}
use Rattle.std.proofs.lemmas.Option.{slice_get-get_or}
use Rattle.std.proofs.lemmas.Simd.{map-map}
use Rattle.std.proofs.Math.Nat.{mul-le-mul_left, mul-add, mul_comm}
use Rattle.finite_sums.specs.Sums.{count_where}
use Rattle.finite_sums.proofs.Totals.{total_same, total_change, total_zero, count_at_most}
use Rattle.bit_words.specs.Marks.{words_for, marks}
use Rattle.bit_words.proofs.Lists.{one_changed, all_one}
use Rattle.word_region.specs.Words.{Words, words_at, with_words, zeroed}
use Rattle.word_region.specs.declared.Place.{Place}
use Rattle.word_region.proofs.Words.{LiesOutside, words_at-set_other, words_at-with_words, words_at-with_words_other}
use Rattle.word_region.proofs.Words.{length-with_words, length-zeroed, get_or-with_words_before}
use Rattle.water_model.specs.CutInside.{has_set, set_place, set_at, set_in, cut_sets, KeepsSets}
use Rattle.water_model.specs.CutSets.{set_of, with_set, without_sets}

-- ---- the sets by the words of rights

-- a set stays where its right's word stays and the words of its place do
set_stays : (nodes : ℕ) (before now : List ℕ) (begin begin_now : ℕ) → begin_now ≡ begin →
    (0 < begin → words_at now (set_place nodes begin) ≡ words_at before (set_place nodes begin)) →
    set_at nodes now begin_now ≡ set_at nodes before begin
set_stays nodes before now begin begin_now same stay = ap (set_at nodes now) same ∙ by_word begin stay
  where
    by_word : (w : ℕ) → (0 < w → words_at now (set_place nodes w) ≡ words_at before (set_place nodes w)) →
        set_at nodes now w ≡ set_at nodes before w
    by_word zero h = refl
    by_word (suc w) h = ap (λ (part : List ℕ). Some (marks nodes part)) (h (omega arith))

-- a set that there is
pub set_is : (nodes : ℕ) (words : List ℕ) (begin : ℕ) (part : List ℕ) → 0 < begin →
    words_at words (set_place nodes begin) ≡ part →
    set_at nodes words begin ≡ Some (marks nodes part)
set_is nodes words zero part some is = absurd (omega arith)
set_is nodes words (suc w) part some is = ap (λ (xs : List ℕ). Some (marks nodes xs)) is

-- the sets of two lists of words, where all stay but that of one right
pub one_set : (rights nodes : ℕ) (before now : List ℕ) (right : ℕ) (set : Option (List Bool)) →
    set_in nodes now right ≡ set →
    ((s : ℕ) → s < rights → s ≢ right → set_in nodes now s ≡ set_in nodes before s) →
    cut_sets rights nodes now ≡ with_set (cut_sets rights nodes before) right set
one_set rights nodes before now right set is stay =
    ap (λ (sets : List (Option (List Bool))). record { nodes = nodes; sets = sets })
    (one_changed rights (set_in nodes before) (set_in nodes now) right stay
    ∙ ap (slice_set (map (set_in nodes before) (range_with_len 0 rights)) right) is)

-- ---- how much is used

pub used_fits : {rights nodes : ℕ} {r : Words} → KeepsSets rights nodes r → r.used ≤ length r.words
used_fits {rights} {nodes} {r} k =
    omega (
      arith,
      k.size,
      k.used,
      mul-le-mul_left (words_for nodes) (count_at_most rights (has_set r.words)),
      mul-add rights 1 (words_for nodes),
      mul_comm rights (words_for nodes),
    )

-- what a right's word counts
abbrev counted : ℕ → ℕ
counted begin = if nat_lt 0 begin then 1 else 0

-- one more of the rights has a set
counted_more : (rights : ℕ) (before now : List ℕ) (right : ℕ) → right < rights → get_or before right 0 ≡ 0 →
    0 < get_or now right 0 →
    ((s : ℕ) → s < rights → s ≢ right → get_or now s 0 ≡ get_or before s 0) →
    count_where rights (has_set now) ≡ count_where rights (has_set before) + 1
counted_more rights before now right b none some stay =
    omega (
      arith,
      total_change rights right (λ s. counted (get_or before s 0)) (λ s. counted (get_or now s 0)) b
          (λ s c differ. ap counted (sym (stay s c differ))),
      ap counted none,
      ap {B = ℕ} (λ (t : Bool). if t then 1 else 0) (lt-ltb 0 (get_or now right 0) some),
    )

-- a right without a set has room for one
pub next_fits : {rights nodes : ℕ} {r : Words} {right : ℕ} → KeepsSets rights nodes r → right < rights →
    get_or r.words right 0 ≡ 0 → r.used + words_for nodes ≤ length r.words
next_fits {rights} {nodes} {r} {right} k b none =
    let there : right < length r.words = omega (arith, used_fits k, k.used) in
    let more = counted_more rights r.words (slice_set r.words right 1) right b none
    (omega (arith, get_or-set_same r.words right 1 0 there))
    (λ s c differ. get_or-set_other r.words right s 1 0 differ) in
    let fits : count_where rights (has_set r.words) + 1 ≤ rights =
    omega (arith, more, count_at_most rights (has_set (slice_set r.words right 1))) in
    omega (
      arith,
      k.size,
      k.used,
      mul-le-mul_left (words_for nodes) fits,
      mul-add rights 1 (words_for nodes),
      mul_comm rights (words_for nodes),
      mul-add (words_for nodes) (count_where rights (has_set r.words)) 1,
    )

-- ---- a set that is written over

-- where the rights' words stay, the region is kept
rights_stay : (rights nodes : ℕ) (r : Words) (now : List ℕ) → KeepsSets rights nodes r → length now ≡ length r.words →
    ((s : ℕ) → s < rights → get_or now s 0 ≡ get_or r.words s 0) → KeepsSets rights nodes (record r { words = now })
rights_stay rights nodes r now k same stay = record {
  size = same ∙ k.size;
  used = k.used ∙ ap (λ (n : ℕ). rights + words_for nodes * n)
      (total_same rights (λ s. if has_set r.words s then 1 else 0) (λ s. if has_set now s then 1 else 0)
      (λ s b. ap counted (sym (stay s b))));
  after = λ s b some. let e = stay s b in omega (arith, e, k.after s b (omega arith));
  within = λ s b some. let e = stay s b in omega (arith, e, k.within s b (omega arith));
  apart = λ s o b c differ some held.
      let e : get_or now s 0 ≡ get_or r.words s 0 = stay s b in
      let f : get_or now o 0 ≡ get_or r.words o 0 = stay o c in
      elim (k.apart s o b c differ (omega arith) (omega arith))
      [ inl before ↦ inl (omega arith) | inr later ↦ inr (omega arith) ];
}

-- the words of a right's set
pub record Rewrites (rights nodes : ℕ) (r : Words) (right : ℕ) (part : List ℕ) : Type 0 where
  pub keeps : KeepsSets rights nodes r
  pub is_right : right < rights
  pub held : 0 < get_or r.words right 0
  pub size : length part ≡ words_for nodes

module _ {rights nodes : ℕ} {r : Words} {right : ℕ} {part : List ℕ} (h : Rewrites rights nodes r right part) where
  part_fits : get_or r.words right 0 + length part ≤ length r.words
  part_fits = omega (arith, h.keeps.within right h.is_right h.held, used_fits h.keeps, h.size, h.held)

  rewritten_right : (s : ℕ) → s < rights →
      get_or (with_words r.words (get_or r.words right 0) part) s 0 ≡ get_or r.words s 0
  rewritten_right s b =
      get_or-with_words_before r.words (get_or r.words right 0) part s
      (omega (arith, h.keeps.after right h.is_right h.held)) (omega (arith, part_fits))

  pub rewritten_keeps : KeepsSets rights nodes (record r { words = with_words r.words (get_or r.words right 0) part })
  rewritten_keeps =
      rights_stay rights nodes r (with_words r.words (get_or r.words right 0) part) h.keeps
      (length-with_words r.words (get_or r.words right 0) part part_fits) rewritten_right

  pub rewritten_sets : cut_sets rights nodes (with_words r.words (get_or r.words right 0) part)
      ≡ with_set (cut_sets rights nodes r.words) right (Some (marks nodes part))
  rewritten_sets =
      let begin : ℕ = get_or r.words right 0 in
      let now : List ℕ = with_words r.words begin part in
      one_set rights nodes r.words now right (Some (marks nodes part))
      (ap (set_at nodes now) (rewritten_right right h.is_right)
      ∙ set_is nodes now begin part h.held
      (words_at-with_words r.words part (set_place nodes begin) (omega (arith, part_fits)) h.size))
      (λ s b differ. set_stays nodes r.words now (get_or r.words s 0) (get_or now s 0) (rewritten_right s b) (λ held.
      words_at-with_words_other r.words begin part (set_place nodes (get_or r.words s 0)) part_fits
      (outside s b differ held)))
    where
      outside : (s : ℕ) → s < rights → s ≢ right → 0 < get_or r.words s 0 →
          LiesOutside (set_place nodes (get_or r.words s 0)) (get_or r.words right 0)
          (get_or r.words right 0 + length part)
      outside s b differ held = elim (h.keeps.apart s right b h.is_right differ held h.held) [
        | inl before ↦ inl (omega (arith, before, held))
        | inr later ↦ inr (omega (arith, later, h.size, h.held))
      ]

  -- what a list that is written through a `&mut` leaves
  pub rewritten_is : (from : ℕ) → from ≡ get_or r.words right 0 →
      take (length r.words) (with_words r.words from part) ≡ with_words r.words (get_or r.words right 0) part
  rewritten_is from at =
      ap (λ (k : ℕ). take (length r.words) (with_words r.words k part)) at
      ∙ take_all (length r.words) (with_words r.words (get_or r.words right 0) part)
      (omega (arith, length-with_words r.words (get_or r.words right 0) part part_fits))

-- ---- a set that begins

-- a right without a set, and the words of its set
pub record Begins (rights nodes : ℕ) (r : Words) (right : ℕ) (part : List ℕ) : Type 0 where
  pub keeps : KeepsSets rights nodes r
  pub is_right : right < rights
  pub free : get_or r.words right 0 ≡ 0
  pub size : length part ≡ words_for nodes

abbrev pub begun : Words → ℕ → List ℕ → List ℕ
begun r right part = slice_set (with_words r.words r.used part) right r.used

module _ {rights nodes : ℕ} {r : Words} {right : ℕ} {part : List ℕ} (h : Begins rights nodes r right part) where
  begun_length : length (with_words r.words r.used part) ≡ length r.words
  begun_length =
      length-with_words r.words r.used part (omega (arith, h.size, next_fits h.keeps h.is_right h.free))

  begun_right : get_or (begun r right part) right 0 ≡ r.used
  begun_right =
      get_or-set_same (with_words r.words r.used part) right r.used 0
      (omega (arith, begun_length, used_fits h.keeps, h.keeps.used, h.is_right))

  begun_other : (s : ℕ) → s < rights → s ≢ right → get_or (begun r right part) s 0 ≡ get_or r.words s 0
  begun_other s b differ =
      get_or-set_other (with_words r.words r.used part) right s r.used 0 differ
      ∙ get_or-with_words_before r.words r.used part s (omega (arith, h.keeps.used)) (used_fits h.keeps)

  pub begun_keeps : (now_used : ℕ) → now_used ≡ r.used + words_for nodes →
      KeepsSets rights nodes (record { words = begun r right part; used = now_used })
  begun_keeps now_used more =
      let now : List ℕ = begun r right part in
      record {
        size =
            length-set (with_words r.words r.used part) right r.used
            ∙ (begun_length ∙ h.keeps.size);
        used = used;
        after = λ s b some. elim (cases_eq s right) [
          | inl e ↦ (let n : get_or now s 0 ≡ r.used = here s e in omega (arith, h.keeps.used))
          | inr e ↦ (let n : get_or now s 0 ≡ get_or r.words s 0 = begun_other s b e in
              omega (arith, h.keeps.after s b (omega arith)))
        ];
        within = λ s b some. elim (cases_eq s right) [
          | inl e ↦ (let n : get_or now s 0 ≡ r.used = here s e in omega arith)
          | inr e ↦ (let n : get_or now s 0 ≡ get_or r.words s 0 = begun_other s b e in
              omega (arith, h.keeps.within s b (omega arith)))
        ];
        apart = apart;
      }
    where
      here : (s : ℕ) → s ≡ right → get_or (begun r right part) s 0 ≡ r.used
      here s e = ap (λ (k : ℕ). get_or (begun r right part) k 0) e ∙ begun_right

      count : count_where rights (has_set (begun r right part)) ≡ count_where rights (has_set r.words) + 1
      count =
          counted_more rights r.words (begun r right part) right h.is_right h.free
          (omega (arith, here right refl)) begun_other

      used : now_used ≡ rights + words_for nodes * count_where rights (has_set (begun r right part))
      used = omega (
        arith,
        more,
        h.keeps.used,
        ap (λ (n : ℕ). words_for nodes * n) count,
        mul-add (words_for nodes) (count_where rights (has_set r.words)) 1,
      )

      apart : (s o : ℕ) → s < rights → o < rights → s ≢ o → 0 < get_or (begun r right part) s 0 →
          0 < get_or (begun r right part) o 0 →
          (get_or (begun r right part) s 0 + words_for nodes ≤ get_or (begun r right part) o 0)
          ⊎ (get_or (begun r right part) o 0 + words_for nodes ≤ get_or (begun r right part) s 0)
      apart s o b c differ some held = elim (cases_eq s right) [
        | inl e ↦
            let stays : get_or (begun r right part) o 0 ≡ get_or r.words o 0 =
            begun_other o c (λ f. differ (e ∙ sym f)) in
            inr (omega (arith, here s e, h.keeps.within o c (omega arith)))
        | inr e ↦ elim (cases_eq o right) [
          | inl f ↦
              inl (omega (arith, here o f, begun_other s b e, h.keeps.within s b (omega (arith, begun_other s b e))))
          | inr f ↦ elim (h.keeps.apart s o b c differ (omega (arith, begun_other s b e))
              (omega (arith, begun_other o c f))) [
                | inl before ↦ inl (omega (arith, before, begun_other s b e, begun_other o c f))
                | inr later ↦ inr (omega (arith, later, begun_other s b e, begun_other o c f))
              ]
        ]
      ]

  pub begun_sets : cut_sets rights nodes (begun r right part)
      ≡ with_set (cut_sets rights nodes r.words) right (Some (marks nodes part))
  begun_sets =
      let now : List ℕ = begun r right part in
      let some : 0 < r.used = omega (arith, h.keeps.used, h.is_right) in
      one_set rights nodes r.words now right (Some (marks nodes part))
      (ap (set_at nodes now) (begun_right) ∙ set_is nodes now r.used part some here)
      (λ s b differ. set_stays nodes r.words now (get_or r.words s 0) (get_or now s 0)
      (begun_other s b differ) (λ held.
      before_rights s b held
      ∙ words_at-with_words_other r.words r.used part (set_place nodes (get_or r.words s 0))
      (omega (arith, fits, h.size)) (inl (omega (arith, h.keeps.within s b held)))))
    where
      fits : r.used + words_for nodes ≤ length r.words
      fits = next_fits h.keeps h.is_right h.free

      -- the word of a right lies before the sets
      before : (place : Place) → rights ≤ place.from →
          words_at (begun r right part) place ≡ words_at (with_words r.words r.used part) place
      before place far =
          words_at-set_other (with_words r.words r.used part) place right r.used (inr (omega (arith, h.is_right)))

      before_rights : (s : ℕ) → s < rights → 0 < get_or r.words s 0 →
          words_at (begun r right part) (set_place nodes (get_or r.words s 0))
          ≡ words_at (with_words r.words r.used part) (set_place nodes (get_or r.words s 0))
      before_rights s b held = before (set_place nodes (get_or r.words s 0)) (omega (arith, h.keeps.after s b held))

      here : words_at (begun r right part) (set_place nodes r.used) ≡ part
      here =
          before (set_place nodes r.used) (omega (arith, h.keeps.used))
          ∙ words_at-with_words r.words part (set_place nodes r.used) (used_fits h.keeps) h.size

-- ---- no set at all

-- the words of rights are 0
cleared_right : (rights : ℕ) (words : List ℕ) (s : ℕ) → s < rights → get_or (zeroed words 0 rights) s 0 ≡ 0
cleared_right rights words s b =
    get_or_append_left (replicate rights 0) (drop (0 + length (replicate rights 0)) words) 0 s
    (omega (arith, length-replicate {A = ℕ} rights 0))
    ∙ get_or-replicate rights s 0 0 b

pub cleared_keeps : (rights nodes : ℕ) (words : List ℕ) (used : ℕ) → length words ≡ rights * (1 + words_for nodes) →
    used ≡ rights →
    KeepsSets rights nodes (record { words = zeroed words 0 rights; used = used })
cleared_keeps rights nodes words used size is = record {
  size = length-zeroed words 0 rights (omega (arith, size, mul-add rights 1 (words_for nodes))) ∙ size;
  used = is ∙ sym (ap (λ (n : ℕ). rights + words_for nodes * n) none ∙ omega arith);
  after = λ s b some. absurd (omega (arith, some, cleared_right rights words s b));
  within = λ s b some. absurd (omega (arith, some, cleared_right rights words s b));
  apart = λ s o b c differ some held. absurd (omega (arith, some, cleared_right rights words s b));
}
  where
    none : count_where rights (has_set (zeroed words 0 rights)) ≡ 0
    none = total_zero rights (λ s. if has_set (zeroed words 0 rights) s then 1 else 0)
        (λ s b. ap counted (cleared_right rights words s b))

pub cleared_sets : (rights nodes : ℕ) (words : List ℕ) →
    cut_sets rights nodes (zeroed words 0 rights) ≡ record { nodes = nodes; sets = replicate rights None }
cleared_sets rights nodes words =
    ap (λ (sets : List (Option (List Bool))). record { nodes = nodes; sets = sets })
    (all_one rights (set_in nodes (zeroed words 0 rights)) None
    (λ s b. ap (set_at nodes (zeroed words 0 rights)) (cleared_right rights words s b)))

pub without_is : (rights nodes : ℕ) (words : List ℕ) →
    without_sets (cut_sets rights nodes words) ≡ record { nodes = nodes; sets = replicate rights None }
without_is rights nodes words =
    ap (λ (sets : List (Option (List Bool))). record { nodes = nodes; sets = sets })
    (map-map (λ _. None) (set_in nodes words) (range_with_len 0 rights) ∙ all_one rights (λ _. None) None (λ s b. refl))

-- ---- the set of a right

pub rights_counted : (rights nodes : ℕ) (words : List ℕ) → length (cut_sets rights nodes words).sets ≡ rights
rights_counted rights nodes words = length-map-range_with_len (set_in nodes words) 0 rights

pub set_of_right : (rights nodes : ℕ) (words : List ℕ) (right : ℕ) → right < rights →
    set_of (cut_sets rights nodes words) right ≡ set_in nodes words right
set_of_right rights nodes words right b =
    ap (λ (o : Option (Option (List Bool))). unwrap_or (option_map (λ set. set) o) None)
    (slice_get-get_or (map (set_in nodes words) (range_with_len 0 rights)) right None
    (omega (arith, length-map-range_with_len (set_in nodes words) 0 rights))
    ∙ ap Some (get_or-map-range_with_len (set_in nodes words) 0 rights right right None b (zero-add right)))

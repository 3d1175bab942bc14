-- The ends of arcs are packed in words.
use Rattle.std.proofs.Common.{ℕ, ◌≡◌, ◌+◌, ◌*◌, ◌/◌, ◌%◌, ◌^◌, ◌<◌, ◌≤◌, List, length, slice_index, slice_set, get_or}
use Rattle.std.proofs.Common.{arith, ap, sym, inl, inr, ◌∙◌}
use Rattle.std.proofs.lemmas.Bool.{cases_eq}
use Rattle.std.proofs.lemmas.List.{ext_get_or, get_or-map, get_or-set_same, get_or-set_other, length-map}
use Rattle.circulation.specs.declared.Ends.{Ends}
use Rattle.circulation.specs.Places.{tail_of, head_of, tails, heads}
use Rattle.circulation.specs.Chains.{tails_of, heads_of}

-- what stands past the end of a list of ends
abbrev pub no_ends : Ends
no_ends = record { from = 0; to = 0 }

-- the ends of the arcs before an index are packed
pub record ArePacked (es : List Ends) (pairs : List ℕ) (at : ℕ) : Type 0 where
  pub from : (a : ℕ) → a < at → tail_of (slice_index pairs a) ≡ (get_or es a no_ends).from
  pub to : (a : ℕ) → a < at → head_of (slice_index pairs a) ≡ (get_or es a no_ends).to

-- one more is packed
pub packed_next : {es : List Ends} {pairs : List ℕ} {at f t : ℕ} → ArePacked es pairs at → at < length pairs →
    t < 2 ^ 32 → f ≡ (get_or es at no_ends).from → t ≡ (get_or es at no_ends).to →
    ArePacked es (slice_set pairs at (f * 4294967296 + t)) (at + 1)
packed_next {es} {pairs} {at} {f} {t} p room small from to =
    let pair = f * 4294967296 + t in
    let here = get_or-set_same pairs at pair 0 room in
    let tail : pair / 4294967296 ≡ f = omega arith in
    let head : pair % 4294967296 ≡ t = omega arith in
    record {
      from = λ a b. elim (cases_eq a at) [
        | inl same ↦
            ap (λ (x : ℕ). tail_of (slice_index (slice_set pairs at pair) x)) same ∙ ap tail_of here ∙ tail ∙ from
            ∙ ap (λ (x : ℕ). (get_or es x no_ends).from) (sym same)
        | inr ne ↦ ap tail_of (get_or-set_other pairs at a pair 0 ne) ∙ p.from a (omega arith)
      ];
      to = λ a b. elim (cases_eq a at) [
        | inl same ↦
            ap (λ (x : ℕ). head_of (slice_index (slice_set pairs at pair) x)) same ∙ ap head_of here ∙ head ∙ to
            ∙ ap (λ (x : ℕ). (get_or es x no_ends).to) (sym same)
        | inr ne ↦ ap head_of (get_or-set_other pairs at a pair 0 ne) ∙ p.to a (omega arith)
      ];
    }

-- all are packed
pub packed_tails : {es : List Ends} {pairs : List ℕ} {at : ℕ} → ArePacked es pairs at → length pairs ≡ length es →
    length es ≤ at → tails_of pairs ≡ tails es
packed_tails {es} {pairs} p same all =
    let count = length-map pairs tail_of in
    let other = length-map es (λ (e : Ends). e.from) in
    ext_get_or 0 (tails_of pairs) (tails es) (omega arith)
    (λ a b. get_or-map tail_of pairs a 0 0 (omega arith) ∙ p.from a (omega arith)
    ∙ sym (get_or-map (λ (e : Ends). e.from) es a no_ends 0 (omega arith)))

pub packed_heads : {es : List Ends} {pairs : List ℕ} {at : ℕ} → ArePacked es pairs at → length pairs ≡ length es →
    length es ≤ at → heads_of pairs ≡ heads es
packed_heads {es} {pairs} p same all =
    let count = length-map pairs head_of in
    let other = length-map es (λ (e : Ends). e.to) in
    ext_get_or 0 (heads_of pairs) (heads es) (omega arith)
    (λ a b. get_or-map head_of pairs a 0 0 (omega arith) ∙ p.to a (omega arith)
    ∙ sym (get_or-map (λ (e : Ends). e.to) es a no_ends 0 (omega arith)))

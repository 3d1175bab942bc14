-- What is kept on links for instream rights.
use Rattle.std.proofs.Common.{ℕ, Bool, true, false, ◌≡◌, ◌≢◌, ◌==◌, ◌+◌, ◌<◌, ◌≤◌, List, length, slice_index, slice_set}
use Rattle.std.proofs.Common.{add-one, ap, arith, zero, suc, ◌-◌, ◌∙◌, sym, refl, inl, inr, subst, if◌then◌else◌}
use Rattle.std.proofs.lemmas.Bool.Decides.{eqb_tells}
use Rattle.std.proofs.lemmas.List.{get_or-set_same, get_or-set_other, length-set}
use Rattle.std.specs.Prelude.{Some, None, min, max, slice_get, unwrap_or, option_map}
use Rattle.finite_sums.specs.Sums.{greatest_where}
use Rattle.finite_sums.proofs.Totals.{term_le_greatest}
use Rattle.water_model.specs.Basin.{instream_link, link_of_kind, is_at, is_on_link}
use Rattle.water_model.specs.declared.types.Basin.{Basin}
use Rattle.water_model.specs.Valid.{IsValidBasin, HasValidSite}
use Rattle.water_model.specs.declared.types.Right.{Right}
use Rattle.water_model.specs.declared.types.RightKind.{RightKind}
use Rattle.water_model.specs.declared.types.RightKind.TheVariants.{Diversion, Instream, Zone}
use Rattle.water_model.proofs.Valid.{kind_is}
use Rattle.rivers_first.specs.Sent.{KeepsInstream, instream_on}

-- the first rights were looked at
pub record IsNoting (b : Basin) (want flow : List ℕ) (count : ℕ) (kept : List ℕ) : Type 0 where
  pub size : length kept ≡ length b.links
  pub low : (e : ℕ) → e < length b.links → slice_index kept e ≤ slice_index flow e
  pub each : (e : ℕ) → e < length b.links → slice_index kept e ≡ instream_on b want flow count e

-- the link of an entry
pub link_is : (b : Basin) (r : ℕ) (x : Right) → slice_get b.rights r ≡ Some x → instream_link b r ≡ link_of_kind x.kind
link_is b r x h = ap (λ o. unwrap_or (option_map (λ y. link_of_kind y.kind) o) None) h

-- an instream right's link is a link of the basin
pub link_in : (b : Basin) (r e : ℕ) → IsValidBasin b → r < length b.rights → instream_link b r ≡ Some e →
    e < length b.links
link_in b r e valid l h = let its = kind_is b valid r l in by_kind its.kind its.site (sym its.link ∙ h)
  where
    by_kind : (k : RightKind) → HasValidSite b k → link_of_kind k ≡ Some e → e < length b.links
    by_kind (Diversion node) site h = let never : None ≡ Some e = h in cc
    by_kind (Instream link) site h = let same : Some link ≡ Some e = h in let e_is : link ≡ e = cc in omega arith
    by_kind (Zone reservoir level) site h = let never : None ≡ Some e = h in cc

-- a kind of right that is not on a link
pub no_link : (k : RightKind) → ((e : ℕ) → k ≡ Instream e → ⊥) → link_of_kind k ≡ None
no_link (Diversion node) other = refl
no_link (Instream e) other = absurd (other e refl)
no_link (Zone reservoir level) other = refl

-- one right more
one_more : (b : Basin) (want flow : List ℕ) (n e : ℕ) → instream_on b want flow (n + 1) e
    ≡ max (instream_on b want flow n e) (if is_on_link b n e then min (slice_index want n) (slice_index flow e) else 0)
unfolding greatest_where
one_more b want flow n e = rw add-one refl

-- nothing is noted of no right
pub noting_start : (b : Basin) (want flow kept : List ℕ) → length kept ≡ length b.links →
    ((e : ℕ) → slice_index kept e ≡ 0) → IsNoting b want flow 0 kept
unfolding greatest_where
noting_start b want flow kept size zeros = record {
  size = size;
  low = λ e l. omega (arith, zeros e);
  each = λ e l. zeros e;
}

-- a right that is no instream right changes nothing
pub noting_off : (b : Basin) (want flow kept : List ℕ) (n : ℕ) → instream_link b n ≡ None →
    IsNoting b want flow n kept → IsNoting b want flow (n + 1) kept
noting_off b want flow kept n none now = record {
  size = now.size;
  low = now.low;
  each = λ e l.
      let off : (if is_on_link b n e then min (slice_index want n) (slice_index flow e) else 0) ≡ 0 =
      ap (λ o. if is_at o e then min (slice_index want n) (slice_index flow e) else 0) none in
      omega (arith, now.each e l, one_more b want flow n e, off);
}

-- rights that are no instream rights change nothing
pub noting_past : (b : Basin) (want flow kept : List ℕ) (from more : ℕ) →
    ((r : ℕ) → from ≤ r → r < from + more → instream_link b r ≡ None) →
    IsNoting b want flow from kept → IsNoting b want flow (from + more) kept
noting_past b want flow kept from zero none now =
    let is : from ≡ from + 0 = omega arith in
    subst (λ (n : ℕ). IsNoting b want flow n kept) is now
noting_past b want flow kept from (suc n) none now =
    let is : from + n + 1 ≡ from + suc n = omega arith in
    subst (λ (k : ℕ). IsNoting b want flow k kept) is
    (noting_off b want flow kept (from + n) (none (from + n) (omega arith) (omega arith))
    (noting_past b want flow kept from n (λ r low high. none r low (omega (arith, high))) now))

-- as far as another number of rights
pub noting_to : (b : Basin) (want flow kept : List ℕ) (from to : ℕ) → from ≤ to →
    ((r : ℕ) → from ≤ r → r < to → instream_link b r ≡ None) →
    IsNoting b want flow from kept → IsNoting b want flow to kept
noting_to b want flow kept from to order none now =
    let is : from + (to - from) ≡ to = omega arith in
    subst (λ (n : ℕ). IsNoting b want flow n kept) is
    (noting_past b want flow kept from (to - from) (λ r low high. none r low (omega (arith, high))) now)

-- one on a link is noted there
pub noting_on : (b : Basin) (want flow kept : List ℕ) (n link : ℕ) → instream_link b n ≡ Some link →
    link < length b.links → IsNoting b want flow n kept →
    IsNoting b want flow (n + 1)
    (slice_set kept link (max (slice_index kept link) (min (slice_index want n) (slice_index flow link))))
noting_on b want flow kept n link on l now =
    let amount = max (slice_index kept link) (min (slice_index want n) (slice_index flow link)) in
    let here : slice_index (slice_set kept link amount) link ≡ amount =
    get_or-set_same kept link amount 0 (let size = now.size in omega arith) in
    let there = λ (e : ℕ) (ne : e ≢ link). get_or-set_other kept link e amount 0 ne in
    record {
      size = length-set kept link amount ∙ now.size;
      low = λ e k. elim (eqb_tells e link) [
        | inl s ↦ subst (λ (x : ℕ). slice_index (slice_set kept link amount) x ≤ slice_index flow x) (sym s.1)
            (omega (arith, here, now.low link l))
        | inr s ↦ omega (arith, there e s.1, now.low e k)
      ];
      each = λ e k. elim (eqb_tells e link) [
        | inl s ↦ subst (λ (x : ℕ). slice_index (slice_set kept link amount) x ≡ instream_on b want flow (n + 1) x)
            (sym s.1)
            (let same : (if is_on_link b n link then min (slice_index want n) (slice_index flow link) else 0)
            ≡ min (slice_index want n) (slice_index flow link) =
            ap (λ o. if is_at o link then min (slice_index want n) (slice_index flow link) else 0) on
            ∙ ap (λ (t : Bool). if t then min (slice_index want n) (slice_index flow link) else 0) (is_itself link) in
            omega (arith, here, now.each link l, one_more b want flow n link, same))
        | inr s ↦
            let off : (if is_on_link b n e then min (slice_index want n) (slice_index flow e) else 0) ≡ 0 =
            ap (λ o. if is_at o e then min (slice_index want n) (slice_index flow e) else 0) on
            ∙ ap (λ (t : Bool). if t then min (slice_index want n) (slice_index flow e) else 0) (is_other link e s.1) in
            omega (arith, there e s.1, now.each e k, one_more b want flow n e, off)
      ];
    }
  where
    is_itself : (x : ℕ) → (x == x) ≡ true
    is_itself x = elim (eqb_tells x x) [ inl h ↦ h.0 | inr h ↦ absurd (h.1 refl) ]

    is_other : (x y : ℕ) → y ≢ x → (x == y) ≡ false
    is_other x y ne = elim (eqb_tells x y) [ inl h ↦ absurd (ne (sym h.1)) | inr h ↦ h.0 ]

-- what an instream right has is kept on its link
pub keeps_right : (b : Basin) (want flow kept : List ℕ) (count r e : ℕ) → KeepsInstream b want flow count kept →
    r < count → e < length b.links → instream_link b r ≡ Some e →
    min (slice_index want r) (slice_index flow e) ≤ slice_index kept e
keeps_right b want flow kept count r e keeps l within on =
    let itself : is_on_link b r e ≡ true = ap (λ o. is_at o e) on ∙ elim (eqb_tells e e) [
      | inl h ↦ h.0
      | inr h ↦ absurd (h.1 refl)
    ] in
    omega (
      arith,
      keeps.each e within,
      term_le_greatest count (λ r. is_on_link b r e) (λ r. min (slice_index want r) (slice_index flow e)) r l itself,
    )

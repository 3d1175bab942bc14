-- A text is written month by month: its head, the lines of each month, and its tail.
use Rattle.std.proofs.Common.{◌≡◌, ℕ, ◌+◌, ◌-◌, ◌<◌, ◌≤◌, refl, sym, ap, ◌∙◌, subst, arith, inl, inr, List, [], ◌∷◌}
use Rattle.std.proofs.Common.{◌++◌, length, take, drop, length-append, append_assoc, append-nil, Option, None, Some}
use Rattle.std.proofs.Common.{Result, Ok, Err}
use Rattle.std.specs.Io.KnownBytes.{Appends, append_known}
use Rattle.std.specs.List.{flat_map}
use Rattle.std.proofs.lemmas.List.{take-append-drop, take-append-le}
use Rattle.std.proofs.Math.Seq.{take-append-add, take-length}
use Rattle.water_edge.proofs.Puts.{PutsPrefix}
use Rattle.water_edge.proofs.Outputs.{Extends-kept, Extends-trans, HasFlushed-later, HasFlushed-now, IsKnownPrefix-trans}
use Rattle.water_edge.specs.Edge.{Extends, HasFlushed, Output, Puts, Stays}
use Rattle.result_text.specs.Begun.{IsPrefixOf}

-- a piece that was put whole, whether or not it could be flushed
pub puts_kept : {E : Type 0} (old mid new : Output) (r : Result (Unit {0}) E) (text : List ℕ) →
    Extends old mid text → Stays mid new → Puts old new r text
puts_kept old mid new (Ok u) text h k = Extends-kept old mid new text h k
puts_kept old mid new (Err e) text h k =
    (length text, omega arith, rw (take-length text) (Extends-kept old mid new text h k))

-- all that was taken was flushed, and then a piece more was taken
flushed_before : (old mid now : Output) (bytes piece : List ℕ) → Extends old mid bytes →
    mid.flushed ≡ mid.taken → Extends mid now piece → HasFlushed old now bytes
flushed_before old mid now bytes piece h all k =
    HasFlushed-later old mid now bytes (HasFlushed-now old mid bytes h.taken all) k.passes

-- of the bytes that were flushed, the first are
HasFlushed-less : (old now : Output) (first rest : List ℕ) → HasFlushed old now (first ++ rest) →
    HasFlushed old now first
HasFlushed-less old now first rest h = (
  append_known old.taken first,
  begins old.taken,
  IsKnownPrefix-trans (append_known old.taken first) h.0 now.flushed (rest, goes_on old.taken h.0 h.1) h.2,
)
  where
    begins : (known : Option (List ℕ)) → Appends known (append_known known first) first
    begins None = tt
    begins (Some bytes) = refl

    goes_on : (known all : Option (List ℕ)) → Appends known all (first ++ rest) →
        Appends (append_known known first) all rest
    goes_on None all k = tt
    goes_on (Some bytes) None k = absurd k
    goes_on (Some bytes) (Some whole) k = k ∙ sym (append_assoc bytes first rest)

-- a prefix of the second piece stands after the first, whatever follows it
prefix_after : (start mid now : Output) (a lines rest : List ℕ) (k : ℕ) → k ≤ length lines →
    Extends start mid a →
    Extends mid now (take k lines) → Extends start now (take (length a + k) ((a ++ lines) ++ rest))
prefix_after start mid now a lines rest k bounded before later =
    rw (
      take-append-le (length a + k) (a ++ lines) rest (omega (arith, length-append a lines)),
      take-append-add a lines k,
    ) (Extends-trans start mid now a (take k lines) before later)

-- the months before the last are as many as stand before it
all_but_last : {X : Type 0} (records : List X) (m : X) →
    take (length (records ++ m ∷ []) - 1) (records ++ m ∷ []) ≡ records
all_but_last records m =
    let count : length (records ++ m ∷ []) - 1 ≡ length records = omega (arith, length-append records (m ∷ [])) in
    rw count (take-append-le (length records) records (m ∷ []) (omega arith) ∙ take-length records)

-- `begun` is the head with the lines of some months
module _ {X : Type 0} (begun : List X → List ℕ) (lines : X → List ℕ)
    (more : (months : List X) (e : X) → begun (months ++ e ∷ []) ≡ begun months ++ lines e) where
  -- the lines of later months come after it
  begun_later : (months later : List X) → begun (months ++ later) ≡ begun months ++ flat_map lines later
  begun_later months [] = ap begun (append-nil months) ∙ sym (append-nil (begun months))
  begun_later months (e ∷ later) =
      ap begun (sym (append_assoc months (e ∷ []) later))
      ∙ (begun_later (months ++ e ∷ []) later
      ∙ (ap (λ text. text ++ flat_map lines later) (more months e)
      ∙ append_assoc (begun months) (lines e) (flat_map lines later)))

  -- so what is begun with all months begins with what is begun with some of them, and is no shorter
  begun_split : (months : List X) (n : ℕ) → begun months ≡ begun (take n months) ++ flat_map lines (drop n months)
  begun_split months n = ap begun (sym (take-append-drop n months)) ∙ begun_later (take n months) (drop n months)

  begun_grows : (months : List X) (n : ℕ) → length (begun (take n months)) ≤ length (begun months)
  begun_grows months n = omega (
    arith,
    ap length (begun_split months n),
    length-append (begun (take n months)) (flat_map lines (drop n months)),
  )

  pub month_begun : (months : List X) (e : X) (start mid now : Output) → Extends start mid (begun months) →
      Extends mid now (lines e) → Extends start now (begun (months ++ e ∷ []))
  month_begun months e start mid now before puts =
      subst (λ bytes. Extends start now bytes) (sym (more months e))
      (Extends-trans start mid now (begun months) (lines e) before puts)

  -- a prefix of the lines of a month was put
  pub month_prefix : (text tail : List ℕ) (months : List X) (e : X) (are_all : Type 0) (start mid now : Output) →
      text ≡ begun (months ++ e ∷ []) ++ tail → Extends start mid (begun months) →
      (0 < length months → mid.flushed ≡ mid.taken) → PutsPrefix mid now (lines e) →
      IsPrefixOf begun text (months ++ e ∷ []) are_all start now
  month_prefix text tail months e are_all start mid now is before flushed prefix = record {
    count = length (begun months) + prefix.0;
    whole = λ _. rw (all_but_last months e) (omega arith);
    last = inr (rw (more months e) (omega (arith, prefix.1, length-append (begun months) (lines e))));
    text =
        rw (is, more months e)
        (prefix_after start mid now (begun months) (lines e) tail prefix.0 prefix.1 before prefix.2);
    flushed = λ longer. rw (all_but_last months e)
        (flushed_before start mid now (begun months) (take prefix.0 (lines e)) before
        (flushed (omega (arith, longer, length-append months (e ∷ [])))) prefix.2);
  }

  -- a prefix of the tail
  pub tail_prefix : (text tail : List ℕ) (months : List X) (are_all : Type 0) (start mid now : Output) →
      text ≡ begun months ++ tail → are_all → Extends start mid (begun months) →
      (0 < length months → mid.flushed ≡ mid.taken) → PutsPrefix mid now tail →
      IsPrefixOf begun text months are_all start now
  tail_prefix text tail months are_all start mid now is all before flushed prefix = record {
    count = length (begun months) + prefix.0;
    whole = λ _. (let less = begun_grows months (length months - 1) in omega (arith, less));
    last = inl all;
    text = rw (is, take-append-add (begun months) tail prefix.0)
        (Extends-trans start mid now (begun months) (take prefix.0 tail) before prefix.2);
    flushed = λ longer. HasFlushed-less start now (begun (take (length months - 1) months)) _
        (subst (HasFlushed start now) (begun_split months (length months - 1))
        (flushed_before start mid now (begun months) (take prefix.0 tail) before (flushed (omega (arith, longer)))
        prefix.2));
  }

-- a prefix of the head
pub head_prefix : {X : Type 0} (begun : List X → List ℕ) (text head rest : List ℕ) (are_all : Type 0)
    (start now : Output) → begun [] ≡ head → text ≡ head ++ rest → PutsPrefix start now head →
    IsPrefixOf begun text [] are_all start now
head_prefix begun text head rest are_all start now none is prefix = record {
  count = prefix.0;
  whole = λ some. absurd (omega (arith, some));
  last = inr (rw none prefix.1);
  text = rw (is, take-append-le prefix.0 head rest prefix.1) prefix.2;
  flushed = λ longer. absurd (omega (arith, longer));
}

-- The lines of different amounts, put one after another.
use Rattle.std.proofs.Common.{◌≡◌, ℕ, ◌<◌, ◌≤◌, List, [], ◌∷◌, ◌++◌, length, drop, sym, ap, ◌∙◌}
use Rattle.std.proofs.Common.{arith, append_assoc, append-nil, Result}
use Rattle.std.specs.Prelude.{slice_index, IsErr, ◌==◌}
use Rattle.std.specs.List.{flat_map, prefix_len}
use Rattle.std.specs.List.Sorted.{IsNonDecreasingBy}
use Rattle.std.proofs.lemmas.List.Sorted.{IsNonDecreasingBy-drop}
use Rattle.water_edge.specs.Edge.{Extends, Output, Puts}
use Rattle.water_edge.proofs.Outputs.{Extends-trans}
use Rattle.water_model.specs.declared.types.Basin.{Basin}
use Rattle.water_edge.proofs.Puts.{PutsPrefix, PutsPrefix-fails, PutsPrefix-then, PutsPrefix-cut}
use Rattle.index_seq.specs.Entries.{whole_line}
use Rattle.index_seq.specs.Text.{yearly_lines}
use Rattle.index_seq.specs.declared.entry.EnsembleLine.TheVariants as line
use Rattle.index_seq.proofs.Counting.{first_of_rest}

-- the lines of the lower amounts were put, and those of the rest are still to come
pub record IsPutSoFar (b : Basin) (amounts rest : List ℕ) (old now : Output) (before after : ℕ) : Type 0 where
  pub done : List ℕ
  pub put : Extends old now done
  pub whole : flat_map (whole_line b) (yearly_lines amounts) ≡ done ++ flat_map (whole_line b) (yearly_lines rest)
  pub sorted : IsNonDecreasingBy (λ x. x) rest
  pub later : before ≤ after

-- the line of the first amount of the rest, and then those after its run
rest_lines : (b : Basin) (rest : List ℕ) (count : ℕ) → IsNonDecreasingBy (λ x. x) rest → 0 < length rest →
    count ≡ prefix_len (λ x. x == slice_index rest 0) rest →
    flat_map (whole_line b) (yearly_lines rest)
    ≡ flat_map (whole_line b) (line.Yearly (slice_index rest 0) count ∷ []) ++ flat_map (whole_line b)
    (yearly_lines (drop count rest))
rest_lines b rest count sorted l is =
    ap (flat_map (whole_line b)) (first_of_rest rest count sorted l is)
    ∙ ap (λ t. t ++ flat_map (whole_line b) (yearly_lines (drop count rest)))
    (sym (append-nil (whole_line b (line.Yearly (slice_index rest 0) count))))

pub put_next : (b : Basin) (amounts rest : List ℕ) (count : ℕ) (old mid new : Output)
    (before between after : ℕ) → IsPutSoFar b amounts rest old mid before between →
    0 < length rest → count ≡ prefix_len (λ x. x == slice_index rest 0) rest →
    Extends mid new (flat_map (whole_line b) (line.Yearly (slice_index rest 0) count ∷ [])) → between ≤ after →
    IsPutSoFar b amounts (drop count rest) old new before after
put_next b amounts rest count old mid new before between after s l is here later = record {
  done = s.done ++ piece;
  put = Extends-trans old mid new s.done piece s.put here;
  whole = s.whole
      ∙ (ap (λ t. s.done ++ t) (rest_lines b rest count s.sorted l is)
      ∙ sym (append_assoc s.done piece (flat_map (whole_line b) (yearly_lines (drop count rest)))));
  sorted = IsNonDecreasingBy-drop (λ x. x) count rest s.sorted;
  later = omega (arith, s.later);
}
  where
    piece : List ℕ
    piece = flat_map (whole_line b) (line.Yearly (slice_index rest 0) count ∷ [])

pub put_fails : {E : Type 0} (b : Basin) (amounts rest : List ℕ) (count : ℕ) (old mid new : Output)
    (before between : ℕ) (r : Result (Unit {0}) E) →
    IsPutSoFar b amounts rest old mid before between → 0 < length rest →
    count ≡ prefix_len (λ x. x == slice_index rest 0) rest →
    PutsPrefix mid new (flat_map (whole_line b) (line.Yearly (slice_index rest 0) count ∷ [])) → IsErr r →
    Puts old new r (flat_map (whole_line b) (yearly_lines amounts))
put_fails b amounts rest count old mid new before between r s l is here failed =
    rw (s.whole, rest_lines b rest count s.sorted l is)
    (PutsPrefix-fails old new r (s.done ++ (piece ++ further)) failed
    (PutsPrefix-then old mid new s.done (piece ++ further) s.put (PutsPrefix-cut mid new piece further here)))
  where
    piece : List ℕ
    piece = flat_map (whole_line b) (line.Yearly (slice_index rest 0) count ∷ [])

    further : List ℕ
    further = flat_map (whole_line b) (yearly_lines (drop count rest))

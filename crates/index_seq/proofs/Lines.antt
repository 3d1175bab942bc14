-- The lines of sums that were put in order.
use Rattle.std.proofs.Common.{◌≡◌, ℕ, sym, ap, subst, ◌∙◌, List, [], ◌∷◌, ◌++◌, length}
use Rattle.std.specs.Prelude.{slice_index_or}
use Rattle.std.specs.List.{flat_map}
use Rattle.std.specs.List.Sorted.{IsNonDecreasingBy, IsPermutation}
use Rattle.water_edge.specs.Edge.{Extends, Output}
use Rattle.water_model.specs.Indices.{seniors_first}
use Rattle.water_model.specs.declared.types.Basin.{Basin}
use Rattle.water_model.specs.declared.types.Series.{Series}
use Rattle.water_model.proofs.Order.{seniors_below, flat_same}
use Rattle.index_seq.specs.Ends.{HaveLines}
use Rattle.index_seq.specs.Sums.{HaveSums}
use Rattle.water_edge.proofs.Puts.{PutsPrefix}
use Rattle.water_model.specs.declared.types.MonthRecord.{MonthRecord}
use Rattle.index_seq.specs.Entries.{whole_line}
use Rattle.index_seq.specs.declared.entry.EnsembleLine.{EnsembleLine}
use Rattle.index_seq.specs.Text.{right_lines, ensemble_lines, ensemble_text, yearly_lines}
use Rattle.index_seq.specs.Traces.{AreTraces, years_of, yearly_deliveries}
use Rattle.index_seq.specs.declared.entry.EnsembleLine.TheVariants as line
use Rattle.index_seq.proofs.Counting.{same_lines}
use Rattle.index_seq.proofs.Running.{traces_whole, sums_whole}

pub sorted_lines : (b : Basin) (series : Series) (sums amounts : List (List ℕ)) → HaveSums b series (years_of b) sums →
    length amounts ≡ length sums →
    ((r : ℕ) → IsPermutation (slice_index_or sums r []) (slice_index_or amounts r [])) →
    ((r : ℕ) → IsNonDecreasingBy (λ x. x) (slice_index_or amounts r [])) →
    HaveLines b series amounts
sorted_lines b series sums amounts h count moved sorted = record {
  traces = h.traces;
  whole = traces_whole b series sums h;
  count = count ∙ h.sums.count;
  sorted = sorted;
  lines = ap (λ ls. line.Ensemble b.first (years_of b) ∷ (ls ++ line.Done (years_of b) ∷ []))
      (flat_same (right_lines (λ r. slice_index_or amounts r [])) (right_lines (yearly_deliveries b h.traces))
      (seniors_first b) (λ r k. ap (λ ls. line.Right r ∷ ls)
      (sym (same_lines (slice_index_or sums r []) (slice_index_or amounts r []) (moved r))
      ∙ ap yearly_lines (sums_whole b series sums h r (seniors_below b.rights r k)))));
}

-- these lines are the text of the traces
pub text_whole : (b : Basin) (series : Series) (amounts : List (List ℕ)) (old new : Output) →
    HaveLines b series amounts →
    Extends old new (flat_map (whole_line b) (ensemble_lines b (λ r. slice_index_or amounts r []))) →
    (traces : List (List MonthRecord)) × AreTraces b series traces × Extends old new (ensemble_text b traces)
text_whole b series amounts old new h whole =
    (h.traces, h.whole, subst (λ (ls : List EnsembleLine). Extends old new (flat_map (whole_line b) ls)) h.lines whole)

-- a prefix of these lines is a prefix of the text of the traces
pub text_cut : (b : Basin) (series : Series) (amounts : List (List ℕ)) (old new : Output) →
    HaveLines b series amounts →
    PutsPrefix old new (flat_map (whole_line b) (ensemble_lines b (λ r. slice_index_or amounts r []))) →
    (traces : List (List MonthRecord)) × AreTraces b series traces × PutsPrefix old new (ensemble_text b traces)
text_cut b series amounts old new h cut =
    (h.traces, h.whole, subst (λ (ls : List EnsembleLine). PutsPrefix old new (flat_map (whole_line b) ls)) h.lines cut)

-- A verdict refutes no text for a set that isn't a reach.
use Rattle.std.proofs.Common.{◌≡◌, ◌≢◌, ℕ, true, false, arith, ◌∙◌, inl, inr, List, []}
use Rattle.std.proofs.Common.{◌∷◌, ◌++◌}
use Rattle.std.specs.Prelude.{Some, Err, find, option_map}
use Rattle.result_lines.specs.declared.item.Item.{Item}
use Rattle.result_lines.specs.declared.quantity.Quantity.{Quantity}
use Rattle.water_model.specs.declared.types.Basin.{Basin}
use Rattle.water_model.specs.declared.types.Series.{Series}
use Rattle.result_reader.specs.ReadSoFar.{ReadSoFar}
use Rattle.cert_check.specs.Checking.{Row, first_row, judge, kind_of}
use Rattle.cert_check.specs.Checking.{own_rows, rows, verdict, verdict_at_end, verdict_from}
use Rattle.cert_check.specs.Laws.{NotReachNamesOtherSets}
use Rattle.cert_check.specs.Whole.{lines_of_pieces, rest_of_pieces, pieces_of}
use Rattle.cert_check.specs.declared.refuted.Refuted.{Refuted}
use Rattle.cert_check.specs.declared.refuted.RefutedKind.{RefutedKind}
use Rattle.cert_check.specs.declared.refuted.RefutedKind.TheVariants as kind

-- no row is of the kind of an audit
abbrev AreOthers : List Row → Type 0
AreOthers [] = Unit {0}
AreOthers (row ∷ others) = (row.0 ≢ kind.NotReach) × AreOthers others

found_other : (xs : List Row) {k : RefutedKind} → AreOthers xs →
    option_map (λ (row : Row). row.0) (find (λ (row : Row). row.1) xs) ≡ Some k → k ≢ kind.NotReach
found_other [] h e = cc
found_other ((own, true) ∷ xs) {k} h e = λ is. (let same : own ≡ k = cc in h.0 (same ∙ is))
found_other ((own, false) ∷ xs) h e = found_other xs h.1 e

other_kind : (q : Quantity) → kind_of q ≢ kind.NotReach
other_kind q = grind arith

own_others : (b : Basin) (series : Series) (t : ReadSoFar) (i : Item) → AreOthers (own_rows b series t i)
own_others b series t i = grind (arith, other_kind)

row_other : (b : Basin) (series : Series) (t : ReadSoFar) (i : Item) {k : RefutedKind} →
    first_row b series t i ≡ Some k → k ≢ kind.NotReach
unfolding first_row
row_other b series t i h =
    found_other (rows b series t i) (λ e. cc, (λ e. cc, (λ e. cc, (λ e. cc, own_others b series t i)))) h

judged_other : (b : Basin) (series : Series) (before : List Item) (bytes : List ℕ) {e : Refuted} →
    judge b series before bytes ≡ Err e → e.kind ≢ kind.NotReach
unfolding judge
judged_other b series before bytes h = grind (arith, row_other)

from_other : (b : Basin) (series : Series) (before : List Item) (lines : List (List ℕ)) {e : Refuted} →
    verdict_from b series before lines ≡ Err e → e.kind ≢ kind.NotReach
from_other b series before [] h = cc
from_other b series before (bytes ∷ lines) {e} h =
    (let further = λ (i : Item). from_other b series (before ++ i ∷ []) lines {e = e} in grind (arith, judged_other))

end_other : (rest : List ℕ) (items : List Item) (e : Refuted) → verdict_at_end rest items ≡ Err e →
    e.kind ≢ kind.NotReach
end_other rest items e h = grind arith

verdict_other : (b : Basin) (series : Series) (lines : List (List ℕ)) (rest : List ℕ) {e : Refuted} →
    verdict b series lines rest ≡ Err e → e.kind ≢ kind.NotReach
verdict_other b series lines rest h = grind (arith, from_other, end_other)

pub not_reach_names_other_sets : NotReachNamesOtherSets
not_reach_names_other_sets b series bytes refused (inl refuted) is =
    absurd (verdict_other b series (lines_of_pieces (pieces_of bytes)) (rest_of_pieces (pieces_of bytes)) refuted is)
not_reach_names_other_sets b series bytes refused (inr other) is = other

-- What a comparison needs that goes on month by month.
use Rattle.std.proofs.Common.{◌≡◌, ℕ, suc, ◌+◌, ◌*◌, ◌<◌, ◌≤◌, sym, ◌∙◌, ap, arith, List, [], ◌∷◌, ◌++◌, length}
use Rattle.std.proofs.Common.{append-nil, append_assoc, length-append}
use Rattle.std.proofs.lemmas.List.Elements.{All-weaker}
use Rattle.water_model.specs.History.{FitsBasin}
use Rattle.water_model.specs.Indices.{seniors_first}
use Rattle.water_model.specs.Valid.{IsValidBasin}
use Rattle.water_model.specs.declared.types.Basin.{Basin}
use Rattle.water_model.specs.declared.types.MonthRecord.{MonthRecord}
use Rattle.water_model.proofs.Order.{length-by_seniority}
use Rattle.injury.specs.Common.{HaveDeliveries, common_rights}
use Rattle.injury.specs.Injuries.{injuries_of, injuries}
use Rattle.injury.proofs.Pairs.{IsPair, common_have_one_name, pairs_bounded}
use Rattle.injury.proofs.Put.{injuries-count}

-- the records of two basins have deliveries of their common rights
pub common_deliver : (first second : Basin) (m n : MonthRecord) → FitsBasin first m → FitsBasin second n →
    HaveDeliveries (common_rights first second) m n
common_deliver first second m n f g =
    All-weaker (IsPair first second) (λ p. (p.first < length m.delivered) × (p.second < length n.delivered))
    (λ p one. (
      (let l = one.in_first in let e = f.delivered in omega arith),
      (let l = one.in_second in let e = g.delivered in omega arith),
    )) (common_rights first second) (common_have_one_name first second)

pub common_bounded : (first second : Basin) → IsValidBasin first → length (common_rights first second) ≤ 2000
unfolding common_rights
common_bounded first second valid =
    let bounded = valid.bounded.rights in
    omega (arith, pairs_bounded first second (seniors_first first), length-by_seniority first.rights)

-- one more month
pub injuries_more : (first second : Basin) (records others : List MonthRecord) (m n : MonthRecord) →
    length records ≡ length others →
    injuries first second (records ++ m ∷ []) (others ++ n ∷ [])
    ≡ injuries first second records others ++ injuries_of (common_rights first second) m n
unfolding injuries
injuries_more first second [] [] m n e = append-nil (injuries_of (common_rights first second) m n)
injuries_more first second [] (y ∷ ys) m n e = absurd (omega arith)
injuries_more first second (x ∷ xs) [] m n e = absurd (omega arith)
injuries_more first second (x ∷ xs) (y ∷ ys) m n e =
    ap (λ t. injuries_of (common_rights first second) x y ++ t) (injuries_more first second xs ys m n (omega arith))
    ∙ sym (append_assoc (injuries_of (common_rights first second) x y) (injuries first second xs ys)
    (injuries_of (common_rights first second) m n))

-- in each month there are at most as many injuries as common rights
pub injuries_bounded : (first second : Basin) (records others : List MonthRecord) →
    length (injuries first second records others) ≤ length records * length (common_rights first second)
unfolding injuries
injuries_bounded first second [] others = omega arith
injuries_bounded first second (x ∷ xs) [] = omega arith
injuries_bounded first second (x ∷ xs) (y ∷ ys) =
    omega (
      arith,
      length-append (injuries_of (common_rights first second) x y) (injuries first second xs ys),
      injuries-count (common_rights first second) x y,
      injuries_bounded first second xs ys,
      suc_times (length xs) (length (common_rights first second)),
    )
  where
    suc_times : (a c : ℕ) → suc a * c ≡ a * c + c
    suc_times a c = omega arith

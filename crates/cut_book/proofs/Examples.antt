-- Two account books of an ordinary basin: a gauged river into a lake, a weir with a canal to a farm, and trout below.
use Rattle.std.proofs.Common.{◌≡◌, ℕ, ◌*◌, ◌++◌, Bool, true, false, refl, ap, ◌∙◌, List, [], ◌∷◌, replicate, Some, None}
use Rattle.std.proofs.Common.{arith}
use Rattle.std.specs.Prelude.{codes, filter}
use Rattle.std.specs.List.{flat_map}
use Rattle.std.specs.Fmt.{digits}
use Rattle.finite_sums.specs.Sums.{greatest_where}
use Rattle.water_text.specs.Months.{days_of}
use Rattle.water_text.proofs.DayNumbers.{days_in-days_in_month}
use Rattle.water_model.specs.Indices.{numbers_from, by_seniority}
use Rattle.water_model.specs.declared.types.MonthRecord.{MonthRecord}
use Rattle.water_model.proofs.Worked.{ordinary}
use Rattle.cut_book.specs.Book.{book, book_bytes}
use Rattle.cut_book.specs.Entries.{fields_of, whole_line, has_amount, balance_of}
use Rattle.cut_book.specs.Holders.{holder_of}
use Rattle.cut_book.specs.declared.entry.BookLine.{BookLine}
use Rattle.cut_book.specs.declared.entry.BookLine.TheVariants as line

-- the set of the lake's upper zone is all above the sea, and that of the canal company the farm alone
abbrev above_sea : List Bool
above_sea = true ∷ true ∷ true ∷ true ∷ true ∷ false ∷ []

abbrev by_farm : List Bool
by_farm = false ∷ false ∷ false ∷ true ∷ false ∷ false ∷ []

abbrev july : MonthRecord
july = record {
  index = 0;
  month = record { year = 1960; month = 7 };
  opening = 8000 ∷ [];
  evaporated = 440 ∷ [];
  returned = replicate 6 0;
  used = replicate 5 0;
  supply = 2500 ∷ 7560 ∷ 0 ∷ 0 ∷ 0 ∷ 0 ∷ [];
  want = 4000 ∷ 400 ∷ 1500 ∷ 1000 ∷ 9000 ∷ [];
  plan = record {
    flow = 2500 ∷ 4600 ∷ 1500 ∷ 0 ∷ 1500 ∷ 3100 ∷ [];
    take = 3100 ∷ 0 ∷ 0 ∷ 1000 ∷ 4460 ∷ [];
    out = 0 ∷ 0 ∷ 0 ∷ 0 ∷ 0 ∷ 1500 ∷ [];
  };
  delivered = 3100 ∷ 0 ∷ 1500 ∷ 1000 ∷ 4460 ∷ [];
  cuts = record {
    nodes = 6;
    sets = Some by_farm ∷ Some above_sea ∷ None ∷ None ∷ Some above_sea ∷ [];
  };
  closing = 5460 ∷ [];
}

live_lines : book ordinary july 4 above_sea
    ≡ line.Why (record { year = 1960; month = 7 }) 4 4460 9000 ∷ line.Supply 0 2500 ∷ line.Supply 1 7560 ∷ line.Keep 4
    1500 2 ∷ line.Take 3 1000 ∷ line.Take 0 3100
    ∷ line.Sum 4460 ∷ []
unfolding numbers_from by_seniority greatest_where holder_of
live_lines = refl

live_text : book_bytes ordinary july 4 above_sea
    ≡ codes "why 1960-07 live 4460 9000\nsupply upper 2500\nsupply lake 7560\nkeep r5 1500 fish\ntake dead 1000\n"
    ++ codes "take canalco 3100\nsum 4460\n"
unfolding numbers_from by_seniority greatest_where holder_of whole_line fields_of digits
live_text = refl

-- a book whose one term is what the canal carries, in a month of this many days
abbrev canal_book : ℕ → List BookLine
canal_book days =
    let entered : List BookLine = (filter has_amount (line.Enter 5 (100 * days) ∷ []) ++ []) ++ [] in
    line.Why (record { year = 1960; month = 7 }) 0 3100 4000 ∷ (entered ++ line.Sum (balance_of entered) ∷ [])

canalco_book : book ordinary july 0 by_farm ≡ canal_book (days_of (record { year = 1960; month = 7 }))
unfolding numbers_from by_seniority greatest_where holder_of
canalco_book = refl

days_of_july : days_of (record { year = 1960; month = 7 }) ≡ 31
days_of_july = days_in-days_in_month 1960 7 (omega arith) (omega arith)

canalco_lines : flat_map (whole_line ordinary) (canal_book 31)
    ≡ codes "why 1960-07 canalco 3100 4000\nenter c1 3100\nsum 3100\n"
unfolding whole_line fields_of digits
canalco_lines = refl

canalco_text : book_bytes ordinary july 0 by_farm
    ≡ codes "why 1960-07 canalco 3100 4000\nenter c1 3100\nsum 3100\n"
canalco_text =
    ap (flat_map (whole_line ordinary)) canalco_book
    ∙ (ap (λ days. flat_map (whole_line ordinary) (canal_book days)) days_of_july ∙ canalco_lines)

-- Verdicts on the text of an ordinary basin: gauged and ungauged nodes, a canal, a reservoir with two zones, an
-- instream right and water that comes back.
use Rattle.std.proofs.Common.{ℕ, ◌-◌, refl, List, [], ◌∷◌, ◌++◌, take}
use Rattle.std.specs.Prelude.{None, codes}
use Rattle.std.specs.Fmt.{digits}
use Rattle.finite_sums.specs.Sums.{total, greatest_where}
use Rattle.water_text.specs.Amounts.{read_amount, read_plain}
use Rattle.jiff_core.specs.Calendar.{days_from_civil, day_count, days_of_years, days_of_months}
use Rattle.water_text.specs.Months.{read_month, days_of}
use Rattle.water_text.specs.Names.{is_name}
use Rattle.water_text.specs.Shapes.{has_shape}
use Rattle.water_model.specs.Indices.{numbers_from, members_from, by_seniority}
use Rattle.result_lines.specs.Spelling.{line_of, fields_of}
use Rattle.water_model.specs.History.{calls, calling_right}
use Rattle.result_lines.specs.Text.{month_lines}
use Rattle.water_model.proofs.Worked.{ordinary, ordinary_series}
use Rattle.result_reader.specs.Form.{is_same_shape, fits, due_in_month, due}
use Rattle.result_reader.specs.Reading.{item_with, item_of, read_line}
use Rattle.result_reader.specs.Words.{word_of}
use Rattle.cert_check.specs.Checking.{first_row, judge}
use Rattle.cert_check.specs.Whole.{pieces_of}
use Rattle.cert_check.specs.declared.refuted.RefutedKind.TheVariants as kind
use Rattle.cert_check.proofs.Examples.{Answers, at}

-- the sets of both months
abbrev sets : List (List ℕ)
sets =
    pieces_of (codes "call canalco\nin farm\ncall live\nin upper\nin lake\nin weir\nin farm\nin gauge")
    ++ pieces_of (codes "call city\nin upper\nin lake\nin weir\nin farm\nin gauge\ncalled city live")

abbrev text : List (List ℕ)
text =
    pieces_of (codes "river-result 1\nrun 1960-07 2\nmonth 1960-07\nopen lake 8000\nevap lake 440\nreturn gauge 0")
    ++ pieces_of (codes "flow r1 2500\nflow r2 4600\nflow r3 1500\nflow r4 0\nflow r5 1500\nflow c1 3100")
    ++ pieces_of (codes "deliver dead 1000 1000\ndeliver fish 1500 1500\ndeliver canalco 3100 4000")
    ++ pieces_of (codes "deliver live 4460 9000\ndeliver city 0 400\nout sea 1500")
    ++ sets ++ pieces_of (codes "close lake 5460\nend")
    ++ pieces_of (codes "month 1960-08\nopen lake 5460\nevap lake 273\nreturn gauge 775")
    ++ pieces_of (codes "flow r1 1200\nflow r2 3825\nflow r3 725\nflow r4 0\nflow r5 1500\nflow c1 3100")
    ++ pieces_of (codes "deliver dead 1000 1000\ndeliver fish 1500 1500\ndeliver canalco 3100 3800")
    ++ pieces_of (codes "deliver live 1562 9000\ndeliver city 0 400\nout sea 1500")
    ++ sets ++ pieces_of (codes "close lake 2562\nend\ndone 2")

-- the text up to line k, which is another than its own
abbrev up_to : ℕ → List ℕ → List (List ℕ)
up_to k line = take (k - 1) text ++ line ∷ []

answers : Answers ordinary ordinary_series
    ((text, None)
    ∷ (up_to 5 (codes "evap lake 441"), at 5 kind.Evaporation)
    ∷ (up_to 12 (codes "flow c1 3101"), at 12 kind.Flow)
    ∷ (up_to 14 (codes "deliver fish 1499 1500"), at 14 kind.Delivery)
    ∷ (up_to 33 (codes "called live canalco"), at 33 kind.Called)
    ∷ (up_to 34 (codes "close lake 5459"), at 34 kind.Closing)
    ∷ (up_to 37 (codes "open lake 5461"), at 37 kind.Opening)
    ∷ (up_to 39 (codes "return gauge 774"), at 39 kind.Return)
    ∷ [])
unfolding days_of days_from_civil day_count days_of_years days_of_months digits total greatest_where has_shape
    read_month read_amount read_plain is_name numbers_from members_from by_seniority line_of fields_of month_lines
    calling_right calls is_same_shape fits due_in_month due word_of item_with item_of read_line first_row judge
answers = refl

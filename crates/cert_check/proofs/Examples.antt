-- Verdicts on worked texts: two diversions on a stream.
use Rattle.std.proofs.Common.{◌≡◌, ℕ, ◌+◌, ◌-◌, refl, List, [], ◌∷◌, ◌++◌, take, drop}
use Rattle.std.specs.Prelude.{None, codes, map, Result, Ok, Err, Option, Some}
use Rattle.std.specs.Fmt.{digits}
use Rattle.finite_sums.specs.Sums.{total, greatest_where}
use Rattle.water_text.specs.Amounts.{read_amount, read_plain}
use Rattle.water_text.specs.Months.{read_month}
use Rattle.water_text.specs.Names.{is_name}
use Rattle.water_text.specs.Shapes.{has_shape}
use Rattle.water_model.specs.Indices.{numbers_from, members_from, by_seniority}
use Rattle.result_lines.specs.Spelling.{line_of, fields_of}
use Rattle.water_model.specs.History.{calls, calling_right}
use Rattle.result_lines.specs.Text.{month_lines}
use Rattle.result_lines.specs.declared.item.Item.{Item}
use Rattle.water_model.specs.declared.types.Basin.{Basin}
use Rattle.water_model.specs.declared.types.Series.{Series}
use Rattle.water_model.proofs.Worked.{stream, old, new, no_series}
use Rattle.result_reader.specs.Form.{is_same_shape, fits, due_in_month, due}
use Rattle.result_reader.specs.Reading.{item_with, item_of, read_line}
use Rattle.result_reader.specs.Words.{word_of}
use Rattle.cert_check.specs.Checking.{first_row, judge, verdict}
use Rattle.cert_check.specs.Whole.{pieces_of}
use Rattle.cert_check.specs.declared.refuted.Refuted.{Refuted}
use Rattle.cert_check.specs.declared.refuted.RefutedKind.{RefutedKind}
use Rattle.cert_check.specs.declared.refuted.RefutedKind.TheVariants as kind

-- why a text is refuted, if it is
abbrev pub refusal : Result (List Item) Refuted → Option Refuted
refusal (Ok items) = None
refusal (Err refuted) = Some refuted

abbrev pub at : ℕ → RefutedKind → Option Refuted
at n kind = Some (record { line = n; kind = kind })

-- the lines of a text, and why it is refuted
abbrev pub Case : Type 0
Case = List (List ℕ) × Option Refuted

abbrev pub Answers : Basin → Series → List Case → Type 0
Answers b series cases = map (λ (c : Case). refusal (verdict b series c.0 [])) cases ≡ map (λ (c : Case). c.1) cases

-- a text with other lines in place of n of its own, from line k on
abbrev edited : ℕ → ℕ → List (List ℕ) → List (List ℕ) → List (List ℕ)
edited k n lines text = take (k - 1) text ++ lines ++ drop (k - 1 + n) text

-- With 80 there is enough for the senior right, and too little for the junior.
abbrev plenty : List (List ℕ)
plenty =
    pieces_of (codes "river-result 1\nrun 1900-01 1\nmonth 1900-01\nflow a 60\nflow b 0\ndeliver old 60 60")
    ++ pieces_of (codes "deliver new 20 50\nout mouth 0\ncall new\nin top\nin mid\nin mouth\nend\ndone 1")

of_plenty : Answers (stream 80 (old ∷ new 1920 ∷ [])) no_series
    ((plenty, None)
    -- delivered more than is wanted, and another want
    ∷ (edited 6 1 (codes "deliver old 61 60" ∷ []) plenty, at 6 kind.Delivery)
    ∷ (edited 6 1 (codes "deliver old 60 61" ∷ []) plenty, at 6 kind.Delivery)
    -- not in balance
    ∷ (edited 8 1 (codes "out mouth 1" ∷ []) plenty, at 8 kind.Balance)
    -- a call of the senior right, which isn't short
    ∷ (edited 9 0 (codes "call old" ∷ codes "in top" ∷ []) plenty, at 9 kind.CutNeedless)
    -- a call on the junior right, which no right makes
    ∷ (edited 13 0 (codes "called new old" ∷ []) plenty, at 13 kind.Called)
    ∷ [])
unfolding digits total greatest_where has_shape read_month read_amount read_plain is_name numbers_from members_from
    by_seniority line_of fields_of month_lines calling_right calls is_same_shape fits due_in_month due word_of item_with
    item_of read_line first_row judge
of_plenty = refl

-- With 50 there is too little for the senior right, on which the junior is called.
abbrev scarce : List (List ℕ)
scarce =
    pieces_of (codes "river-result 1\nrun 1900-01 1\nmonth 1900-01\nflow a 50\nflow b 0\ndeliver old 50 60")
    ++ pieces_of (codes "deliver new 0 50\nout mouth 0\ncall old\nin top\nin mid\nin mouth\ncall new\nin top\nin mid")
    ++ pieces_of (codes "in mouth\ncalled new old\nend\ndone 1")

-- the senior right is delivered 40 of the 50 that it could have
abbrev loose : List (List ℕ)
loose = edited 4 4 (pieces_of (codes "flow a 40\nflow b 0\ndeliver old 40 60\ndeliver new 10 50")) scarce

of_scarce : Answers (stream 50 (old ∷ new 1920 ∷ [])) no_series
    ((scarce, None)
    ∷ (loose, at 9 kind.CutLoose)
    -- another first month
    ∷ (edited 2 1 (codes "run 1900-02 1" ∷ []) scarce, at 2 kind.Head)
    -- without the call of the senior right, of the junior, and on the junior
    ∷ (edited 9 4 [] scarce, at 9 kind.CutMissing)
    ∷ (edited 13 4 [] scarce, at 13 kind.CutMissing)
    ∷ (edited 17 1 [] scarce, at 17 kind.Called)
    -- a line that isn't due, and one after the end
    ∷ (take 3 scarce ++ codes "flow b 0" ∷ [], at 4 kind.BadLine)
    ∷ (scarce ++ codes "end" ∷ [], at 20 kind.AfterEnd)
    -- cut off; inside a set a text is not yet refuted for the set
    ∷ ([], at 1 kind.EarlyEnd)
    ∷ (take 18 scarce, at 19 kind.EarlyEnd)
    ∷ (take 10 loose, at 11 kind.EarlyEnd)
    ∷ [])
unfolding digits total greatest_where has_shape read_month read_amount read_plain is_name numbers_from members_from
    by_seniority line_of fields_of month_lines calling_right calls is_same_shape fits due_in_month due word_of item_with
    item_of read_line first_row judge
of_scarce = refl

bytes_after : refusal (verdict (stream 50 (old ∷ new 1920 ∷ [])) no_series scarce (codes "x")) ≡ at 20 kind.AfterEnd
unfolding digits total greatest_where has_shape read_month read_amount read_plain is_name numbers_from members_from
    by_seniority line_of fields_of month_lines calling_right calls is_same_shape fits due_in_month due word_of item_with
    item_of read_line first_row judge
bytes_after = refl

-- Bytes are accepted exactly where they are the text of a history.
use Rattle.std.proofs.Common.{◌≡◌, ℕ, ◌<◌, ◌≤◌, refl, sym, ap, ◌∙◌, arith, List, [], ◌∷◌, ◌++◌, length, map}
use Rattle.std.proofs.Common.{append_assoc, append-nil, inl, inr}
use Rattle.std.specs.Prelude.{Result, Ok, Err, IsOk, is_ok, ◌==◌}
use Rattle.std.specs.List.{flat_map, join_with_byte}
use Rattle.std.proofs.lemmas.Bool.{cases_lt}
use Rattle.std.proofs.lemmas.List.Splits.{join_with_byte-slice_split, length-slice_split}
use Rattle.water_model.specs.History.{IsHistory}
use Rattle.result_lines.specs.Spelling.{line_of, whole_line}
use Rattle.result_lines.specs.Text.{items_of, items_of_head, items_of_month, text_bytes}
use Rattle.water_model.specs.Valid.{IsValidBasin, IsSeriesOf}
use Rattle.result_lines.specs.declared.item.Item.{Item}
use Rattle.result_lines.specs.declared.item.Item.TheVariants as line
use Rattle.water_model.specs.declared.types.Basin.{Basin}
use Rattle.water_model.specs.declared.types.Series.{Series}
use Rattle.water_model.specs.declared.types.MonthRecord.{MonthRecord}
use Rattle.result_reader.proofs.OfTexts.{records_of_text}
use Rattle.result_reader.proofs.OneReading.{lines_of_bytes}
use Rattle.result_reader.proofs.Spelled.{line_short}
use Rattle.cert_check.specs.Checking.{verdict}
use Rattle.cert_check.specs.Laws.{YesExactlyForHistories}
use Rattle.cert_check.specs.Whole.{pieces_of, after_last, lines_of_pieces, rest_of_pieces, text_verdict}
use Rattle.cert_check.specs.declared.refuted.Refuted.{Refuted}
use Rattle.cert_check.proofs.Amounts.{history_texts}
use Rattle.cert_check.proofs.RunGood.{histories_give_yes}
use Rattle.cert_check.proofs.TextVerdicts.{after_last-end, long_rest, short_rest}
use Rattle.cert_check.proofs.RunSound.{yes_gives_history}

-- the bytes are those of the text of a history
abbrev AreOfHistory : Basin → Series → List ℕ → Type 0
AreOfHistory b series bytes = (records : List MonthRecord) × IsHistory b series records × (bytes ≡ text_bytes b records)

-- The text of a history is accepted.

accepted : {b : Basin} {series : Series} {bytes : List ℕ} → IsValidBasin b → IsSeriesOf b series →
    AreOfHistory b series bytes → IsOk (text_verdict b series bytes)
accepted {b} {series} {bytes} valid fits h =
    let items = items_of b h.0 in
    let pieces : pieces_of bytes ≡ map (line_of b) items ++ [] ∷ [] =
    ap pieces_of h.2 ∙ lines_of_bytes b valid items
    (records_of_text b series h.0 valid (history_texts valid fits h.1.partial)) in
    ap is_ok (ap (λ ps. verdict b series (lines_of_pieces ps) (rest_of_pieces ps)) pieces
    ∙ (short_rest b series (map (line_of b) items) [] (omega arith) ∙ histories_give_yes b series h.0 valid fits h.1))

-- A text that is accepted is that of a history.

-- lines with a line feed after each
joined : (b : Basin) (items : List Item) →
    join_with_byte 10 (map (line_of b) items ++ [] ∷ []) ≡ flat_map (whole_line b) items
joined b [] = refl
joined b (i ∷ []) = sym (append-nil (line_of b i ++ 10 ∷ []))
joined b (i ∷ j ∷ items) = ap (λ bytes. line_of b i ++ 10 ∷ bytes) (joined b (j ∷ items))
    ∙ sym (append_assoc (line_of b i) (10 ∷ []) (flat_map (whole_line b) (j ∷ items)))

-- bytes are the text of the lines that they are cut to
pub spelled_text : (b : Basin) {bytes : List ℕ} (items : List Item) →
    pieces_of bytes ≡ map (line_of b) items ++ [] ∷ [] → bytes ≡ flat_map (whole_line b) items
spelled_text b {bytes} items pieces =
    sym (join_with_byte-slice_split 10 bytes) ∙ (ap (join_with_byte 10) pieces ∙ joined b items)

-- the last line of a text is short
last_short : {b : Basin} (records : List MonthRecord) → IsValidBasin b →
    length (after_last (map (line_of b) (items_of b records))) ≤ 128
last_short {b} records valid =
    let same : length (after_last (map (line_of b) (items_of b records))) ≡ length (line_of b (line.Done b.months)) =
    ap (λ ls. length (after_last ls))
    (map-append (items_of_head b ++ flat_map (items_of_month b) records) (line.Done b.months)) ∙ ap length
    (after_last-end (map (line_of b) (items_of_head b ++ flat_map (items_of_month b) records))
    (line_of b (line.Done b.months))) in
    omega (arith, line_short b valid (line.Done b.months) (record { of_basin = tt; numbers = valid.run.months }))
  where
    map-append : (xs : List Item) (i : Item) → map (line_of b) (xs ++ i ∷ []) ≡ map (line_of b) xs ++ line_of b i ∷ []
    map-append [] i = refl
    map-append (x ∷ xs) i = ap (λ ls. line_of b x ∷ ls) (map-append xs i)

pub ok_of : (r : Result (List Item) Refuted) → IsOk r → (items : List Item) × (r ≡ Ok items)
ok_of (Ok items) h = (items, refl)
ok_of (Err e) h = cc

record HasEnd (pieces : List (List ℕ)) : Type 0 where
  prefix : List (List ℕ)
  rest : List ℕ
  are : pieces ≡ prefix ++ rest ∷ []

end_of : (piece : List ℕ) (pieces : List (List ℕ)) → HasEnd (piece ∷ pieces)
end_of piece [] = record { prefix = []; rest = piece; are = refl }
end_of piece (next ∷ pieces) =
    let end = end_of next pieces in
    record { prefix = piece ∷ end.prefix; rest = end.rest; are = ap (λ ps. piece ∷ ps) end.are }

some_end : (pieces : List (List ℕ)) → 0 < length pieces → HasEnd pieces
some_end [] h = absurd (omega arith)
some_end (piece ∷ pieces) h = end_of piece pieces

of_history : {b : Basin} {series : Series} {bytes : List ℕ} → IsValidBasin b → IsOk (text_verdict b series bytes) →
    AreOfHistory b series bytes
of_history {b} {series} {bytes} valid h =
    by_rest (some_end (pieces_of bytes) (omega (arith, length-slice_split (λ byte. byte == 10) bytes)))
    (ok_of (text_verdict b series bytes) h)
  where
    by_rest : HasEnd (pieces_of bytes) → (items : List Item) × (text_verdict b series bytes ≡ Ok items) →
        AreOfHistory b series bytes
    by_rest end ok = elim (cases_lt 128 (length end.rest)) [
      | inl long ↦
          let said =
          yes_gives_history b series (end.prefix ++ end.rest ∷ []) [] ok.0 valid
          (sym (along ∙ long_rest b series end.prefix end.rest long) ∙ ok.1) in
          let last : length end.rest ≡ length (after_last (map (line_of b) (items_of b said.0))) =
          ap length (sym (after_last-end end.prefix end.rest) ∙ ap after_last said.2) in
          absurd (omega (arith, last_short said.0 valid))
      | inr short ↦
          let said =
          yes_gives_history b series end.prefix end.rest ok.0 valid
          (sym (along ∙ short_rest b series end.prefix end.rest short) ∙ ok.1) in
          let pieces : pieces_of bytes ≡ map (line_of b) (items_of b said.0) ++ [] ∷ [] =
          end.are ∙ (ap (λ ls. ls ++ end.rest ∷ []) said.2
          ∙ ap (λ rest. map (line_of b) (items_of b said.0) ++ rest ∷ []) said.3) in (
            said.0,
            said.1,
            spelled_text b (items_of b said.0) pieces,
          )
    ]
      where
        along : text_verdict b series bytes ≡ verdict b series (lines_of_pieces (end.prefix ++ end.rest ∷ []))
            (rest_of_pieces (end.prefix ++ end.rest ∷ []))
        along = ap (λ ps. verdict b series (lines_of_pieces ps) (rest_of_pieces ps)) end.are

pub yes_exactly_for_histories : YesExactlyForHistories
yes_exactly_for_histories b series bytes valid fits = (of_history valid, accepted valid fits)

-- Records with one text are the same.
use Rattle.std.proofs.Common.{◌≡◌, refl, sym, ap, ◌∙◌, List, [], ◌∷◌, ◌++◌, map, append_assoc}
use Rattle.std.specs.Prelude.{Ok}
use Rattle.std.specs.List.{flat_map}
use Rattle.result_lines.specs.Spelling.{line_of, whole_line}
use Rattle.result_lines.specs.Text.{items_of}
use Rattle.water_model.specs.Valid.{IsValidBasin}
use Rattle.result_lines.specs.declared.item.Item.{Item}
use Rattle.water_model.specs.declared.types.Basin.{Basin}
use Rattle.result_reader.specs.Laws.{TextsHaveOneReading}
use Rattle.result_reader.specs.OfText.{IsOfText}
use Rattle.result_reader.specs.Reading.{item_of}
use Rattle.result_reader.proofs.AllRead.{are_all_read}
use Rattle.result_reader.proofs.OfTexts.{AreOfText, records_of_text}
use Rattle.result_reader.proofs.Spelled.{cut_at, cut-first, item-line, line_lacks_feed}
use Rattle.result_reader.proofs.WholeMonth.{one_reading_of_items}

-- no two items are spelled alike
one_item : (b : Basin) → IsValidBasin b → (i j : Item) → IsOfText b i → IsOfText b j → line_of b i ≡ line_of b j → i ≡ j
one_item b valid i j o p e =
    let same : Ok i ≡ Ok j = sym (item-line b valid i o) ∙ (ap (item_of b) e ∙ item-line b valid j p) in cc

-- lines that are the same are of the same items
one_items : (b : Basin) → IsValidBasin b → (xs ys : List Item) → AreOfText b xs → AreOfText b ys →
    map (line_of b) xs ≡ map (line_of b) ys → xs ≡ ys
one_items b valid [] [] g k e = refl
one_items b valid [] (y ∷ ys) g k e = cc
one_items b valid (x ∷ xs) [] g k e = cc
one_items b valid (x ∷ xs) (y ∷ ys) g k e =
    let heads : line_of b x ≡ line_of b y = cc in
    let tails : map (line_of b) xs ≡ map (line_of b) ys = cc in
    let first : x ≡ y = one_item b valid x y g.0 k.0 heads in
    let rest : xs ≡ ys = one_items b valid xs ys g.1 k.1 tails in
    cc

-- the bytes of a text, cut at the line feeds, are its lines
pub lines_of_bytes : (b : Basin) → IsValidBasin b → (xs : List Item) → AreOfText b xs →
    cut_at 10 (flat_map (whole_line b) xs) ≡ map (line_of b) xs ++ [] ∷ []
lines_of_bytes b valid [] g = refl
lines_of_bytes b valid (x ∷ xs) g =
    ap (cut_at 10) (append_assoc (line_of b x) (10 ∷ []) (flat_map (whole_line b) xs))
    ∙ (cut-first 10 (line_of b x) (flat_map (whole_line b) xs) (line_lacks_feed b valid x g.0)
    ∙ ap (λ ls. line_of b x ∷ ls) (lines_of_bytes b valid xs g.1))

-- what stands before one last element
before_last : {X : Type 0} (xs ys : List X) (z : X) → xs ++ z ∷ [] ≡ ys ++ z ∷ [] → xs ≡ ys
before_last [] [] z e = refl
before_last [] (y ∷ []) z e = cc
before_last [] (y ∷ w ∷ ys) z e = cc
before_last (x ∷ []) [] z e = cc
before_last (x ∷ w ∷ xs) [] z e = cc
before_last (x ∷ xs) (y ∷ ys) z e =
    let heads : x ≡ y = cc in
    let tails : xs ++ z ∷ [] ≡ ys ++ z ∷ [] = cc in
    let rest : xs ≡ ys = before_last xs ys z tails in
    cc

pub texts_have_one_reading : TextsHaveOneReading
texts_have_one_reading b series records others valid are be e =
    let first = records_of_text b series records valid are in
    let second = records_of_text b series others valid be in
    one_reading_of_items b series records others (are_all_read b series records are) (are_all_read b series others be)
    (one_items b valid (items_of b records) (items_of b others) first second
    (before_last (map (line_of b) (items_of b records)) (map (line_of b) (items_of b others)) []
    (sym (lines_of_bytes b valid (items_of b records) first)
    ∙ (ap (cut_at 10) e ∙ lines_of_bytes b valid (items_of b others) second))))

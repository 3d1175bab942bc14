-- An `in` line that a piece begins with.
use Rattle.std.proofs.Common.{◌≡◌, ℕ, ◌+◌, ◌-◌, ◌<◌, refl, sym, ap, subst, ◌∙◌, arith, List, [], ◌∷◌, ◌++◌, length}
use Rattle.std.proofs.Common.{take, drop, append_assoc, length-append}
use Rattle.std.proofs.Math.Seq.{take-append_seam}
use Rattle.std.specs.Prelude.{Ok, codes}
use Rattle.water_text.specs.LinesIn.{HasNoFeed, TakesToFeed}
use Rattle.water_model.specs.Entries.{name_in}
use Rattle.water_model.specs.Valid.{IsValidBasin}
use Rattle.water_model.specs.declared.space.Space.TheVariants as space
use Rattle.water_model.specs.declared.types.Basin.{Basin}
use Rattle.result_lines.specs.Spelling.{fields_of, line_of}
use Rattle.result_lines.specs.declared.item.Item.{Item}
use Rattle.result_lines.specs.declared.item.Item.TheVariants as line
use Rattle.result_reader.specs.NodeLines.{member_text}
use Rattle.result_reader.specs.Reading.{item_of}
use Rattle.result_reader.proofs.Sayings.{item_is_said}
use Rattle.result_reader.proofs.Spelled.{item-line, line_lacks_feed}

pub spelled : (b : Basin) (node : ℕ) → codes "in " ++ name_in space.Nodes b node ≡ line_of b (line.Member node)
unfolding line_of fields_of
spelled b node = refl

-- a line of the word and a node's name says so
pub member_said : (b : Basin) → IsValidBasin b → (node : ℕ) → node < length b.nodes →
    item_of b (codes "in " ++ name_in space.Nodes b node) ≡ Ok (line.Member node)
member_said b valid node l =
    ap (item_of b) (spelled b node)
    ∙ item-line b valid (line.Member node) (record { of_basin = l; numbers = tt })

-- a line that says an item is taken to its line feed
said_takes : {b : Basin} → IsValidBasin b → (text piece : List ℕ) {i : Item} → item_of b text ≡ Ok i →
    piece ≡ text ++ 10 ∷ drop (length text + 1) piece → TakesToFeed [] text piece (length text + 1)
said_takes {b} valid text piece {i} says ended =
    let said = item_is_said b text i says in
    record {
      before = text;
      ended = ended;
      count = refl;
      no_feed = subst HasNoFeed (sym said.spelled) (line_lacks_feed b valid i said.of_text);
      held = refl;
      short = said.short;
    }

-- a text and a line feed with which a piece begins, cut off there
text_before : (text piece line : List ℕ) → line ≡ text ++ 10 ∷ [] → piece ≡ line ++ drop (length line) piece →
    piece ≡ text ++ 10 ∷ drop (length text + 1) piece
text_before text piece line is begins =
    begins
    ∙ (ap (λ (l : List ℕ). l ++ drop (length l) piece) is
    ∙ (append_assoc text (10 ∷ []) (drop (length (text ++ 10 ∷ [])) piece)
    ∙ ap (λ (n : ℕ). text ++ (10 ∷ drop n piece)) (length-append text (10 ∷ []))))

cut_off : (text piece line : List ℕ) → line ≡ text ++ 10 ∷ [] → piece ≡ text ++ 10 ∷ drop (length text + 1) piece →
    take (length line - 1) piece ≡ text
cut_off text piece line is whole =
    let count : length line - 1 ≡ length text = omega (arith, ap length is, length-append text (10 ∷ [])) in
    ap (λ (n : ℕ). take n piece) count
    ∙ (ap (take (length text)) whole ∙ take-append_seam text (10 ∷ drop (length text + 1) piece))

-- what is taken of a piece that begins with a node's `in` line
pub record IsMemberTaken (b : Basin) (node : ℕ) (piece text : List ℕ) : Type 0 where
  pub says : item_of b text ≡ Ok (line.Member node)
  pub takes : TakesToFeed [] text piece (length text + 1)

pub member_taken : (b : Basin) → IsValidBasin b → (node : ℕ) → node < length b.nodes → (piece line : List ℕ) →
    line ≡ member_text b node → piece ≡ line ++ drop (length line) piece →
    IsMemberTaken b node piece (take (length line - 1) piece)
member_taken b valid node l piece line is begins =
    let text : List ℕ = codes "in " ++ name_in space.Nodes b node in
    let whole = text_before text piece line is begins in
    let says = member_said b valid node l in
    rw (cut_off text piece line is whole) (record { says = says; takes = said_takes valid text piece says whole })

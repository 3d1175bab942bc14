-- The first indices of texts, kept in a map.
use Rattle.std.specs.Prelude.{◌≡◌, ℕ, ◌<◌, ◌++◌, List, [], ◌∷◌, length, take, count_by, Option, unwrap_or}
use Rattle.std.specs.Borrow.{Bor}
use Rattle.std.specs.Option.{option_map_or, option_or}
use Rattle.indexmap.specs.IndexMap.{IndexMap}
use Rattle.first_index.specs.Indices.{index_at, first_from}
use Rattle.toml_tree.specs.Texts.{is_the_text}

-- a map has the first index of each text
abbrev pub KeepsIndices : {S : Type 0} → IndexMap (Bor (List ℕ)) ℕ S → List (Option (List ℕ)) → Type 0
KeepsIndices indices texts = (q : List ℕ) → index_at indices q ≡ first_from (is_the_text q) 0 texts

-- the texts are added, where the first one's index is `from`
abbrev pub AddsIndices : {S : Type 0} →
    IndexMap (Bor (List ℕ)) ℕ S → IndexMap (Bor (List ℕ)) ℕ S → ℕ → List (Option (List ℕ)) → Type 0
AddsIndices old new from texts =
    (q : List ℕ) → index_at new q ≡ option_or (index_at old q) (first_from (is_the_text q) from texts)

-- only a prefix of the texts is added
abbrev pub AddsPrefix : {S : Type 0} →
    IndexMap (Bor (List ℕ)) ℕ S → IndexMap (Bor (List ℕ)) ℕ S → ℕ → List (Option (List ℕ)) → Type 0
AddsPrefix old new from texts =
    (count : ℕ) × (count < length texts) × AddsIndices old new from (take count texts)

-- how often a map counts a text
abbrev pub counted : {S : Type 0} → IndexMap (Bor (List ℕ)) ℕ S → List ℕ → ℕ
counted counts q = unwrap_or (index_at counts q) 0

-- how many of the texts seen so far are the next text, for each in turn
abbrev pub earlier_from : List (Option (List ℕ)) → List (Option (List ℕ)) → List ℕ
earlier_from seen [] = []
earlier_from seen (text ∷ texts) =
    option_map_or (λ q. count_by (is_the_text q) seen) text 0 ∷ earlier_from (seen ++ text ∷ []) texts

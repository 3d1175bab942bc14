-- The account book of a right: the terms of the bound of a set, and what they add up to.
use Rattle.std.specs.Prelude.{ℕ, Bool, ◌&&◌, not, List, [], ◌∷◌, ◌++◌, filter, slice_index, Option, Some, None}
use Rattle.std.specs.Prelude.{if◌then◌else◌}
use Rattle.std.specs.List.{flat_map}
use Rattle.water_model.specs.Basin.{is_on_link, is_senior}
use Rattle.water_model.specs.Cuts.{enters, leaves, takes_within, kept_on}
use Rattle.water_model.specs.Lookups.{has}
use Rattle.water_model.specs.Entries.{in_order}
use Rattle.water_model.specs.Plans.{carry_of}
use Rattle.water_model.specs.declared.space.Space.{Space}
use Rattle.water_model.specs.declared.space.Space.TheVariants as space
use Rattle.water_model.specs.declared.types.Basin.{Basin}
use Rattle.water_model.specs.declared.types.MonthRecord.{MonthRecord}
use Rattle.cut_book.specs.Entries.{has_amount, balance_of, whole_line}
use Rattle.cut_book.specs.Holders.{holder_of}
use Rattle.cut_book.specs.declared.entry.BookLine.{BookLine}
use Rattle.cut_book.specs.declared.entry.BookLine.TheVariants as line
use Rattle.cut_book.specs.declared.part.Part.{Part}
use Rattle.cut_book.specs.declared.part.Part.TheVariants as part

-- the space that a part goes over
abbrev pub space_of : Part → Space
space_of part.Supplies = space.Nodes
space_of part.Enters = space.Links
space_of part.Keeps = space.Links
space_of part.Takes = space.Rights

-- whether it has a term in the bound of a right's set
abbrev pub counts : Part → Basin → ℕ → List Bool → ℕ → Bool
counts part.Supplies b right set node = has set node
counts part.Enters b right set link = enters b set link
counts part.Keeps b right set link = leaves b set link && not (is_on_link b right link)
counts part.Takes b right set taker = takes_within b set taker && is_senior b taker right

-- the term of a link on which an amount is kept for a holder
abbrev pub keep_terms : ℕ → ℕ → Option ℕ → List BookLine
keep_terms link amount None = []
keep_terms link amount (Some holder) = line.Keep link amount holder ∷ []

-- and its term
abbrev pub terms_at : Part → Basin → MonthRecord → ℕ → ℕ → List BookLine
terms_at part.Supplies b m right node = line.Supply node (slice_index m.supply node) ∷ []
terms_at part.Enters b m right link = line.Enter link (carry_of b m.month link) ∷ []
terms_at part.Keeps b m right link =
    keep_terms link (kept_on b m.delivered right link) (holder_of b m.delivered link (kept_on b m.delivered right link))
terms_at part.Takes b m right taker = line.Take taker (slice_index m.delivered taker) ∷ []

-- the lines of a part: its terms, without those of amount 0
abbrev pub lines_at : Part → Basin → MonthRecord → ℕ → List Bool → ℕ → List BookLine
lines_at of_part b m right set index =
    if counts of_part b right set index then filter has_amount (terms_at of_part b m right index) else []

abbrev pub lines_in : Part → Basin → MonthRecord → ℕ → List Bool → List BookLine
lines_in of_part b m right set = flat_map (lines_at of_part b m right set) (in_order (space_of of_part) b)

-- all terms: supplies, links that enter, what is kept on links, and takes
abbrev pub terms : Basin → MonthRecord → ℕ → List Bool → List BookLine
terms b m right set =
    flat_map (λ p. lines_in p b m right set) (part.Supplies ∷ part.Enters ∷ part.Keeps ∷ part.Takes ∷ [])

-- the account: the terms, and their sum
abbrev pub account : Basin → MonthRecord → ℕ → List Bool → List BookLine
account b m right set = terms b m right set ++ line.Sum (balance_of (terms b m right set)) ∷ []

-- the book: what the right got and wanted, and the account
abbrev pub book : Basin → MonthRecord → ℕ → List Bool → List BookLine
book b m right set =
    line.Why m.month right (slice_index m.delivered right) (slice_index m.want right) ∷ account b m right set

-- and the bytes of each
abbrev pub account_bytes : Basin → MonthRecord → ℕ → List Bool → List ℕ
account_bytes b m right set = flat_map (whole_line b) (account b m right set)

abbrev pub book_bytes : Basin → MonthRecord → ℕ → List Bool → List ℕ
book_bytes b m right set = flat_map (whole_line b) (book b m right set)

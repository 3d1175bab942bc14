-- Where one more unit would help a short right: the nodes of its core, and the links that lead from outside its reach
-- into the core.
use Rattle.std.specs.Prelude.{◌≡◌, ℕ, Bool, ◌&&◌, not, List, [], ◌∷◌, ◌++◌, slice_index, if◌then◌else◌}
use Rattle.std.specs.List.{flat_map}
use Rattle.water_model.specs.Basin.{head_of, tail_of}
use Rattle.water_model.specs.Cuts.{IsReach}
use Rattle.water_model.specs.Lookups.{has}
use Rattle.water_model.specs.Indices.{indices_of}
use Rattle.water_model.specs.declared.types.Basin.{Basin}
use Rattle.water_model.specs.declared.types.MonthRecord.{MonthRecord}
use Rattle.plan_residual.specs.Core.{IsCore}
use Rattle.next_unit.specs.Core.{IsLeastTight}
use Rattle.cut_book.specs.Book.{account_bytes, terms}
use Rattle.cut_book.specs.Entries.{balance_of}
use Rattle.call_list.specs.Entries.{whole_line}
use Rattle.call_list.specs.declared.entry.Entry.{Entry}
use Rattle.call_list.specs.declared.entry.Entry.TheVariants as line

-- the line of a node, if it is in the core
abbrev pub node_lines : List Bool → ℕ → List Entry
node_lines core node = if has core node then line.At node ∷ [] else []

-- the line of a link, if it leads from outside the reach into the core
abbrev pub link_lines : Basin → List Bool → List Bool → ℕ → List Entry
link_lines b reach core link =
    if not (has reach (tail_of b link)) && has core (head_of b link) then line.Carry link ∷ [] else []

-- what the right got and wanted, and those lines, in the order of the basin
abbrev pub helping_lines : Basin → MonthRecord → ℕ → List Bool → List Bool → List Entry
helping_lines b m right reach core =
    line.Where m.month right (slice_index m.delivered right) (slice_index m.want right)
    ∷ (flat_map (node_lines core) (indices_of b.nodes) ++ flat_map (link_lines b reach core) (indices_of b.links))

-- with the account of the core
abbrev pub helping_bytes : Basin → MonthRecord → ℕ → List Bool → List Bool → List ℕ
helping_bytes b m right reach core =
    flat_map (whole_line b) (helping_lines b m right reach core) ++ account_bytes b m right core

-- the text that says it: by the right's core and its reach; what the lines of the account bring, less what they keep,
-- is the bound that the core puts on the right, and this is what it was delivered
pub record IsHelpingText (b : Basin) (m : MonthRecord) (right : ℕ) (text : List ℕ) : Type 0 where
  pub core : List Bool
  pub is_core : IsCore b m right core
  pub least : IsLeastTight b m.month m.supply m.delivered right core
  pub reach : List Bool
  pub is_reach : IsReach b m.month m.supply m.delivered right reach
  pub sum : balance_of (terms b m right core) ≡ slice_index m.delivered right
  pub is : text ≡ helping_bytes b m right reach core

-- Where one more unit would help a short right.
use Rattle.std.proofs.Common.{◌≡◌, ℕ, ◌<◌, Bool, refl, List, [], ◌∷◌, ◌++◌, append-nil, length}
use Rattle.std.specs.List.{flat_map}
use Rattle.std.specs.Prelude.{slice_index}
use Rattle.cut_cert.specs.Sets.{HasCut, cut_at}
use Rattle.cut_book.proofs.Adding.{tight_books_sum_to_delivery}
use Rattle.water_model.specs.History.{FitsBasin, HasReaches, IsShort}
use Rattle.water_model.specs.Indices.{indices_of}
use Rattle.water_model.specs.declared.types.Basin.{Basin}
use Rattle.water_model.specs.declared.types.MonthRecord.{MonthRecord}
use Rattle.plan_residual.specs.Core.{IsCore}
use Rattle.plan_residual.specs.Residual.{HasPlan}
use Rattle.next_unit.specs.Core.{IsLeastTight}
use Rattle.next_unit.proofs.Helping.{short_has_reach}
use Rattle.next_unit.proofs.Least.{core_is_least_tight_cut}
use Rattle.call_list.specs.Helping.{IsHelpingText, helping_bytes, helping_lines, link_lines, node_lines}
use Rattle.call_list.specs.declared.entry.Entry.TheVariants as line

module _ {b : Basin} {m : MonthRecord} {r : ℕ} where
  -- the record has a set of a short right
  pub has_reach_set : FitsBasin b m → HasReaches b m → r < length b.rights → IsShort m r → HasCut b m.cuts r
  has_reach_set fits reaches l short = record {
    in_range = l;
    rights = fits.cuts;
    nodes = fits.cut_nodes;
    held = rw (reaches.short r l short).1 refl;
  }

  -- the core of a short right is its least tight cut
  pub core_least : {core : List Bool} → HasPlan b m → HasReaches b m → r < length b.rights → IsShort m r →
      IsCore b m r core → IsLeastTight b m.month m.supply m.delivered r core
  core_least {core} given reaches l short is_core =
      core_is_least_tight_cut b m r core (cut_at m.cuts r) given l short
      (short_has_reach b m r reaches l short).is_tight is_core

  -- the text by its core and its reach
  pub helping_text : {core : List Bool} → HasPlan b m → HasReaches b m → r < length b.rights → IsShort m r →
      IsCore b m r core → IsHelpingText b m r (helping_bytes b m r (cut_at m.cuts r) core)
  helping_text {core} given reaches l short is_core =
      let least = core_least given reaches l short is_core in record {
        core = core;
        is_core = is_core;
        least = least;
        reach = cut_at m.cuts r;
        is_reach = short_has_reach b m r reaches l short;
        sum = tight_books_sum_to_delivery b m r core least.is_tight;
        is = refl;
      }

-- its lines: the first, those of the nodes and those of the links
pub help_pieces : (b : Basin) (m : MonthRecord) (r : ℕ) (reach core : List Bool) (amount want : ℕ) →
    slice_index m.delivered r ≡ amount → slice_index m.want r ≡ want →
    line.Where m.month r amount want
    ∷ ((flat_map (node_lines core) (indices_of b.nodes) ++ (flat_map (link_lines b reach core) (indices_of b.links)
    ++ [])) ++ [])
    ≡ helping_lines b m r reach core
help_pieces b m r reach core amount want is wants = rw (is, wants) (simp append-nil)

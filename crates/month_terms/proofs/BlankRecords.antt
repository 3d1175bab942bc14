-- The lengths of a blank record's lists.
use Rattle.std.proofs.Common.{◌≡◌, ℕ, Bool, List, Option, None, refl, length}
use Rattle.std.proofs.lemmas.List.{length-replicate}
use Rattle.water_text.specs.declared.month.Month.{Month}
use Rattle.water_model.specs.Blank.{blank_month}
use Rattle.water_model.specs.declared.types.Basin.{Basin}
use Rattle.water_model.specs.declared.types.MonthRecord.{MonthRecord}
use Rattle.month_terms.specs.Terms.{FitsRecord}

pub blank_fits : (b : Basin) (index : ℕ) (month : Month) → FitsRecord b (blank_month b index month)
blank_fits b index month = record {
  fits = record {
    opening = length-replicate (length b.reservoirs) 0;
    evaporated = length-replicate (length b.reservoirs) 0;
    closing = length-replicate (length b.reservoirs) 0;
    returned = length-replicate (length b.nodes) 0;
    supply = length-replicate (length b.nodes) 0;
    used = length-replicate (length b.rights) 0;
    want = length-replicate (length b.rights) 0;
    delivered = length-replicate (length b.rights) 0;
    cuts = length-replicate {A = Option (List Bool)} (length b.rights) None;
    cut_nodes = refl;
  };
  flow = length-replicate (length b.links) 0;
  take = length-replicate (length b.rights) 0;
  out = length-replicate (length b.nodes) 0;
}

-- other closings leave the lengths
pub fits_with_closing : (b : Basin) (m : MonthRecord) (closing : List ℕ) → FitsRecord b m →
    length closing ≡ length b.reservoirs →
    FitsRecord b (record m { closing = closing })
fits_with_closing b m closing h count = record {
  fits = assumption (count, h.fits);
  flow = h.flow;
  take = h.take;
  out = h.out;
}

use Rattle.std.proofs.Common.{◌≡◌, ◌∙◌, ◌<◌, ℕ, List, length, slice_index, ap, arith, subst, sym}
use Rattle.std.proofs.lemmas.List.{with_items_is}
use Rattle.water_model.proofs.Lists.{whole_rows}
use Rattle.senior_hold.specs.Carries.{AreDailies}
use Rattle.senior_hold.specs.MonthNetwork.{take_arc, out_arc}
use Rattle.senior_hold.specs.Spilled.{spilled, spill_most}
use Rattle.senior_hold.proofs.SpilledArcs.{spilled_count}
use Rattle.senior_hold.proofs.sweep.write_uppers.Goals as goal

pub write_spills-requires : goal.write_spills-requires
write_spills-requires c = ap length c.as_mut_slice.ensures.value ∙ c.requires.room.fits_most.out

pub write_bounds-requires : goal.write_bounds-requires
write_bounds-requires c = record {
  valid = c.requires.givens.valid;
  month = c.requires.givens.month;
  arcs = c.requires.givens.layout.are_arcs;
  dailies = subst (AreDailies c.args.givens.now.basin.now) (sym c.deref.ensures.value)
      c.requires.givens.layout.are_dailies;
  want = c.requires.givens.wants.count;
  out = ap length c.as_slice.ensures
      ∙ (ap length (whole_rows _ _ (c.write_spills.auto.most ∙ ap length c.as_mut_slice.ensures.value))
      ∙ (c.write_spills.auto.most ∙ (ap length c.as_mut_slice.ensures.value ∙ c.requires.room.fits_most.out)));
  upper = ap length c.deref_mut.ensures.value ∙ c.requires.room.uppers;
}

pub returns : goal.returns
returns c =
    let b = c.args.givens.now.basin.now in
    let out_len : length c.write_spills.new.most ≡ length c.args.room.now.most.out =
    c.write_spills.auto.most ∙ ap length c.as_mut_slice.ensures.value in
    let upper_len : length c.write_bounds.new.upper ≡ length c.args.room.now.upper.items =
    c.write_bounds.auto.upper ∙ ap length c.deref_mut.ensures.value in
    let upper_is = with_items_is c.args.room.now.upper c.write_bounds.new.upper
    (omega (arith, upper_len, c.args.room.now.upper.ok.0)) in
    let out_is = c.as_slice.ensures ∙ whole_rows _ _ out_len in
    let outs : (n : ℕ) → n < length b.nodes →
    slice_index c.as_slice.result.now n ≡ spill_most b c.args.givens.now.method n =
    λ n l. ap (λ (xs : List ℕ). slice_index xs n) out_is ∙ c.write_spills.ensures n l in
    record {
      room = record {
        fits_most = record {
          flow = c.requires.room.fits_most.flow;
          take = c.requires.room.fits_most.take;
          out = ap length (whole_rows _ _ out_len) ∙ (out_len ∙ c.requires.room.fits_most.out);
        };
        uppers = ap length upper_is ∙ (upper_len ∙ c.requires.room.uppers);
        starts = c.requires.room.starts;
      };
      bounds = record {
        on_links = λ e l. ap (λ (xs : List ℕ). slice_index xs e) upper_is ∙ c.write_bounds.ensures.on_links e l;
        on_takes = λ r l t. ap (λ (xs : List ℕ). slice_index xs (take_arc (spilled b) r)) upper_is
            ∙ c.write_bounds.ensures.on_takes r l t;
        on_outs = λ n l o. ap (λ (xs : List ℕ). slice_index xs (out_arc (spilled b) n)) upper_is
            ∙ (c.write_bounds.ensures.on_outs n l o ∙ outs n (subst (λ (k : ℕ). n < k) (spilled_count b) l));
      };
    }

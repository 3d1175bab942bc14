use Rattle.std.proofs.Common.{◌≡◌, ◌+◌, ◌<◌, ◌≤◌, ◌∙◌, ℕ, List, length, slice_index, arith, ap, ap₂, sym, subst}
use Rattle.water_model.specs.RunOfRiver.{RunsNaturally}
use Rattle.circulation.specs.Contents.{flow_of}
use Rattle.river_net.specs.Net.{total_of}
use Rattle.senior_hold.specs.Spilled.{spills_of, IsSettledPlan}
use Rattle.senior_hold.proofs.Plans.{list_get}
use Rattle.senior_hold.proofs.Rivers.{made_whole}
use Rattle.senior_hold.proofs.SpilledArcs.{spilled_arcs}
use Rattle.water_model.proofs.Lists.{whole_rows}
use Rattle.senior_hold.proofs.sweep.settle_plan.Goals as goal

pub read_spills-requires-clause-spills : goal.read_spills-requires-clause-spills
read_spills-requires-clause-spills c = omega (arith, spilled_arcs c.args.givens.now.basin.now, c.requires.ends.arcs)

pub add_run-requires-clause-fits : goal.add_run-requires-clause-fits
add_run-requires-clause-fits c = λ e l.
    let links_len = c.read_links.auto.into ∙ ap length c.as_mut_slice-2.ensures.value in
    let links_is : c.as_mut_slice-6.result.now ≡ c.read_links.new.into = c.as_mut_slice-6.ensures.value
    ∙ whole_rows _ _ links_len in
    let run_is : c.as_slice-2.result.now ≡ c.natural.new.flow = c.as_slice-2.ensures
    ∙ whole_rows _ _ (c.natural.auto.flow ∙ ap length c.as_mut_slice-4.ensures.value) in
    let spills_is : c.as_slice.result.now ≡ spills_of c.args.givens.now.basin.now (flow_of c.args.circ.now) =
    c.as_slice.ensures ∙ (whole_rows _ _ (c.read_spills.auto.into ∙ ap length c.as_mut_slice.ensures.value)
    ∙ c.read_spills.ensures) in
    let e_in : e < length c.args.givens.now.basin.now.links =
    omega (arith, l, ap length links_is, links_len, c.requires.plan.flow) in
    let flow : slice_index c.as_mut_slice-6.result.now e ≡ flow_of c.args.circ.now e =
    ap (λ (xs : List ℕ). slice_index xs e) links_is ∙ (ap (λ (xs : List ℕ). slice_index xs e) c.read_links.ensures
    ∙ list_get _ (flow_of c.args.circ.now) e
    (omega (arith, e_in, ap length c.as_mut_slice-2.ensures.value, c.requires.plan.flow))) in
    let high = c.nodes-nodes.ensures.kept.flow.high e (omega (arith, e_in, c.requires.ends.arcs)) in
    let small = c.nodes-nodes.ensures.kept.shape.small e (omega (arith, e_in, c.requires.ends.arcs)) in
    let run_most : slice_index c.natural.new.flow e ≤ total_of c.as_slice.result.now =
    c.natural.ensures.small e 0 (omega (
      arith,
      e_in,
      c.natural.auto.flow,
      ap length c.as_mut_slice-4.ensures.value,
      c.requires.room.fits_most.flow,
    )) in
    omega (
      arith,
      flow,
      high,
      small,
      run_most,
      ap (λ (xs : List ℕ). slice_index xs e) run_is,
      ap total_of spills_is,
      c.requires.small,
    )

pub returns-clause-settled : goal.returns-clause-settled
returns-clause-settled c =
    let links_len = c.read_links.auto.into ∙ ap length c.as_mut_slice-2.ensures.value in
    let links_is : c.as_mut_slice-6.result.now ≡ c.read_links.new.into = c.as_mut_slice-6.ensures.value
    ∙ whole_rows _ _ links_len in
    let run_is : c.as_slice-2.result.now ≡ c.natural.new.flow = c.as_slice-2.ensures
    ∙ whole_rows _ _ (c.natural.auto.flow ∙ ap length c.as_mut_slice-4.ensures.value) in
    let spills_is : c.as_slice.result.now ≡ spills_of c.args.givens.now.basin.now (flow_of c.args.circ.now) =
    c.as_slice.ensures ∙ (whole_rows _ _ (c.read_spills.auto.into ∙ ap length c.as_mut_slice.ensures.value)
    ∙ c.read_spills.ensures) in
    let size = ap length links_is ∙ (links_len ∙ c.requires.plan.flow) in
    subst (IsSettledPlan c.args.givens.now.basin.now (flow_of c.args.circ.now))
    (made_whole _ _ _ _ _ _ (c.add_run.auto.flow ∙ ap length c.as_mut_slice-6.ensures.value) (c.read_takes.auto.into
    ∙ ap length c.as_mut_slice-3.ensures.value)
    (c.natural.auto.out ∙ ap length c.as_mut_slice-5.ensures.value))
    (record {
      run = c.natural.new.flow;
      natural = subst (λ (xs : List ℕ).
          RunsNaturally c.args.givens.now.basin.now.nodes c.args.givens.now.basin.now.links xs c.natural.new.flow
          c.natural.new.out) spills_is
          (c.natural.ensures.run c.args.givens.now.basin.now.nodes c.args.givens.now.basin.now.links
          c.requires.givens.layout.is_net
          c.requires.givens.valid.network);
      flow_len = c.add_run.auto.flow ∙ size;
      flow = λ e l. c.add_run.ensures e (omega (arith, l, size))
          ∙ ap₂ (λ (x z : ℕ). x + z)
          (ap (λ (xs : List ℕ). slice_index xs e) links_is
          ∙ (ap (λ (xs : List ℕ). slice_index xs e) c.read_links.ensures
          ∙ list_get _ (flow_of c.args.circ.now) e
          (omega (arith, l, ap length c.as_mut_slice-2.ensures.value, c.requires.plan.flow))))
          (ap (λ (xs : List ℕ). slice_index xs e) run_is);
      take = c.read_takes.ensures;
    })

pub read_spills-requires-clause-arcs : goal.read_spills-requires-clause-arcs
read_spills-requires-clause-arcs c = c.requires.givens.layout.are_arcs

pub read_spills-requires-clause-into : goal.read_spills-requires-clause-into
read_spills-requires-clause-into c = ap length c.as_mut_slice.ensures.value ∙ c.requires.room.fits_most.out

pub read_takes-requires-clause-valid : goal.read_takes-requires-clause-valid
read_takes-requires-clause-valid c = c.requires.givens.valid

pub read_takes-requires-clause-into : goal.read_takes-requires-clause-into
read_takes-requires-clause-into c = ap length c.as_mut_slice-3.ensures.value ∙ c.requires.plan.take

pub read_takes-requires-clause-arcs : goal.read_takes-requires-clause-arcs
read_takes-requires-clause-arcs c = c.requires.givens.layout.are_arcs

pub add_run-requires-clause-count : goal.add_run-requires-clause-count
add_run-requires-clause-count c = ap length (c.as_slice-2.ensures ∙ whole_rows _ _ (c.natural.auto.flow ∙ ap length
    c.as_mut_slice-4.ensures.value))
    ∙ c.natural.auto.flow ∙ ap length c.as_mut_slice-4.ensures.value ∙ c.requires.room.fits_most.flow
    ∙ sym (ap length (c.as_mut_slice-6.ensures.value
    ∙ whole_rows _ _ (c.read_links.auto.into ∙ ap length c.as_mut_slice-2.ensures.value))
    ∙ c.read_links.auto.into ∙ ap length c.as_mut_slice-2.ensures.value ∙ c.requires.plan.flow)

use Rattle.std.proofs.Common.{◌≡◌, ◌<◌, ◌∙◌, refl, sym, ap, arith, length, Bool, true, false, ℕ, Some}
use Rattle.std.specs.Prelude.{if◌then◌else◌, ◌==◌, slice_get, slice_index, unwrap_or, option_map}
use Rattle.water_model.specs.declared.types.Basin.{Basin}
use Rattle.water_model.specs.declared.types.Link.{Link}
use Rattle.water_model.specs.Valid.{IsValidBasin}
use Rattle.water_model.proofs.Valid.{ends}
use Rattle.month_terms.proofs.Adds.{nothing_yet, one_more, sum_within}
use Rattle.cert_check.specs.Ready.{end_at}
use Rattle.cert_check.proofs.balancing.add_flows.Goals as goal

end_is : (b : Basin) (to : Bool) (e : ℕ) {l : Link} → slice_get b.links e ≡ Some l →
    end_at b to e ≡ (if to then l.to else l.from)
end_is b true e h = ap (λ o. unwrap_or (option_map (λ l. l.to) o) 0) h
end_is b false e h = ap (λ o. unwrap_or (option_map (λ l. l.from) o) 0) h

end_below : {b : Basin} (to : Bool) {e : ℕ} → IsValidBasin b → e < length b.links → end_at b to e < length b.nodes
end_below {b} true {e} valid l = (ends b valid e l).1
end_below {b} false {e} valid l = (ends b valid e l).0

pub loop-link-init : goal.loop-link-init
loop-link-init c = λ n.
    nothing_yet (λ e. end_at c.args.basin.now c.args.to e == n) (λ e. slice_index c.args.flow.now e) _

pub add_at-requires-clause-position : goal.add_at-requires-clause-position
add_at-requires-clause-position c =
    let end = end_is c.args.basin.now c.args.to c.loop-link.link c.index.ensures in
    let below : c.loop-link.link < length c.args.basin.now.links =
    omega (arith, c.loop-link-test.true, c.len-link-end.ensures) in
    omega (
      arith,
      end,
      c.end_of.ensures,
      end_below c.args.to c.requires.basin below,
      c.loop-link.auto.sums,
      c.requires.sums,
    )

pub add_at-requires-clause-small : goal.add_at-requires-clause-small
add_at-requires-clause-small c =
    let end = end_is c.args.basin.now c.args.to c.loop-link.link c.index.ensures ∙ sym c.end_of.ensures in
    let below : c.loop-link.link < length c.args.basin.now.links =
    omega (arith, c.loop-link-test.true, c.len-link-end.ensures) in
    omega (
      arith,
      sum_within (length c.args.basin.now.links) c.loop-link.link c.end_of.result
          (λ e. Some (end_at c.args.basin.now c.args.to e)) (λ e. slice_index c.args.flow.now e)
          c.end_of.result _ _ (ap Some end) refl (c.loop-link.invariant c.end_of.result) below,
      c.requires.small c.end_of.result (omega (arith, end, end_below c.args.to c.requires.basin below)),
    )

pub loop-link-preserved : goal.loop-link-preserved
loop-link-preserved c = λ n.
    let end = end_is c.args.basin.now c.args.to c.loop-link.link c.index.ensures ∙ sym c.end_of.ensures in
    c.add_at.ensures.each n
    ∙ one_more c.loop-link.link n (λ e. Some (end_at c.args.basin.now c.args.to e)) (λ e. slice_index c.args.flow.now e)
    c.end_of.result _ _ (ap Some end) (c.loop-link.invariant n)

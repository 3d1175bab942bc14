-- Each right has a core.
use Rattle.std.proofs.Common.{◌≡◌, ℕ, ◌<◌, Bool, refl, ◌∙◌, ap, ap₂, List, length}
use Rattle.std.specs.Prelude.{Some, None, option_map, unwrap_or}
use Rattle.water_model.specs.Basin.{tail_of, taking_node_of_kind, link_of_kind}
use Rattle.water_model.specs.Valid.{HasValidSite, IsValidReservoir}
use Rattle.water_model.specs.declared.types.Basin.{Basin}
use Rattle.water_model.specs.declared.types.MonthRecord.{MonthRecord}
use Rattle.water_model.specs.declared.types.RightKind.{RightKind}
use Rattle.water_model.specs.declared.types.RightKind.TheVariants.{Diversion, Instream, Zone}
use Rattle.water_model.proofs.Valid.{ends, entry_holds, kind_is}
use Rattle.plan_residual.specs.Residual.{HasPlan}
use Rattle.plan_residual.specs.Core.{node_of, node_by_link, IsCore}
use Rattle.plan_residual.proofs.Upstream.{ranks_to, ranked_within}

-- a right has a node
node_is : (b : Basin) (m : MonthRecord) (r : ℕ) → HasPlan b m → r < length b.rights →
    (node : ℕ) × (node < length b.nodes) × (node_of b r ≡ Some node)
node_is b m r given l =
    let k = kind_is b given.valid r l in
    let of : (node : ℕ) × (node < length b.nodes) × (node_by_link b (taking_node_of_kind b k.kind) (link_of_kind k.kind)
    ≡ Some node) = of_kind k.kind k.site in
    (of.0, of.1, ap₂ (λ t o. node_by_link b t o) k.node k.link ∙ of.2)
  where
    of_kind : (k : RightKind) → HasValidSite b k → (node : ℕ) × (node < length b.nodes)
        × (node_by_link b (taking_node_of_kind b k) (link_of_kind k) ≡ Some node)
    of_kind (Diversion node) position = (node, position, refl)
    of_kind (Instream link) position = (tail_of b link, (ends b given.valid link position).0, refl)
    of_kind (Zone reservoir level) position =
        let at = entry_holds (λ v. IsValidReservoir b v) b.reservoirs reservoir given.valid.reservoirs position.0 in
        (at.0.node, at.2.node, ap (λ o. unwrap_or (option_map (λ x. Some x.node) o) None) at.1)

pub core_of : (b : Basin) (m : MonthRecord) (r : ℕ) → HasPlan b m → r < length b.rights →
    (core : List Bool) × IsCore b m r core
core_of b m r given l =
    let node = node_is b m r given l in
    let ranks = ranks_to b m r node.0 given.valid node.1 in (
      ranks.set,
      record {
        node = node.0;
        at = node.2;
        upstream = record {
          one_each = ranks.ranked.one_each;
          holds = ranks.ranked.node;
          closed = ranks.closed;
          least = λ other closed there n h. ranked_within b m r node.0 ranks.set other ranks.ranked closed there n h;
        };
      },
    )

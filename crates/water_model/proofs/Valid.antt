-- What a valid basin's entries are.
use Rattle.std.proofs.Common.{◌≡◌, ℕ, zero, suc, ◌<◌, Bool, true, false, refl, ap, arith, List, [], ◌∷◌, length}
use Rattle.std.proofs.Common.{replicate}
use Rattle.std.specs.Prelude.{slice_get, Some, None, All, unwrap_or, option_map}
use Rattle.water_model.specs.Basin.{head_of, tail_of, taking_node, taking_node_of_kind, node_of_reservoir}
use Rattle.water_model.specs.Basin.{instream_link, link_of_kind}
use Rattle.water_model.specs.Cuts.{node_within}
use Rattle.water_model.specs.History.{is_zone_of, is_zone_of_kind}
use Rattle.water_model.specs.Valid.{IsValidBasin, IsValidLink, IsValidReservoir, IsValidRight, HasValidSite}
use Rattle.water_model.specs.Valid.{is_diversion, is_diversion_kind}
use Rattle.water_model.specs.declared.types.Basin.{Basin}
use Rattle.water_model.specs.declared.types.RightKind.{RightKind}
use Rattle.water_model.proofs.Sets.{has_all}

-- all nodes
abbrev pub all_nodes : Basin → List Bool
all_nodes b = replicate (length b.nodes) true

-- what holds of each entry holds of what is read of it
pub entry_holds : {X : Type 0} (P : X → Type 0) (xs : List X) (k : ℕ) → All P xs → k < length xs →
    (x : X) × (slice_get xs k ≡ Some x) × P x
entry_holds P [] k h l = absurd (omega arith)
entry_holds P (x ∷ xs) zero h l = (x, refl, h 0 x (omega arith))
entry_holds P (x ∷ xs) (suc k) h l = entry_holds P xs k (λ i d m. h (suc i) d (omega arith)) (omega arith)

-- the ends of a valid basin's links are nodes
pub ends : (b : Basin) → IsValidBasin b → (e : ℕ) → e < length b.links →
    (tail_of b e < length b.nodes) × (head_of b e < length b.nodes)
ends b valid e l =
    let entry = entry_holds (λ l. IsValidLink b l) b.links e valid.links l in (
      rw (ap (λ o. unwrap_or (option_map (λ x. x.from) o) 0) entry.1) entry.2.ends.from,
      rw (ap (λ o. unwrap_or (option_map (λ x. x.to) o) 0) entry.1) entry.2.ends.to,
    )

-- a valid basin's reservoir is at a node
pub at_reservoir : (b : Basin) → IsValidBasin b → (v : ℕ) → v < length b.reservoirs →
    node_within (node_of_reservoir b v) (all_nodes b) ≡ true
at_reservoir b valid v l =
    let entry = entry_holds (λ r. IsValidReservoir b r) b.reservoirs v valid.reservoirs l in
    let node : ℕ = entry.0.node in
    let at : node_of_reservoir b v ≡ Some node = ap (λ o. unwrap_or (option_map (λ x. Some x.node) o) None) entry.1 in
    rw at (has_all (length b.nodes) node entry.2.node)

-- what a right's kind says of it
pub record KindIs (b : Basin) (r : ℕ) : Type 0 where
  pub kind : RightKind
  pub node : taking_node b r ≡ taking_node_of_kind b kind
  pub link : instream_link b r ≡ link_of_kind kind
  pub zone : (v : ℕ) → is_zone_of b r v ≡ is_zone_of_kind kind v
  pub diversion : is_diversion b r ≡ is_diversion_kind kind
  pub site : HasValidSite b kind

pub kind_is : (b : Basin) → IsValidBasin b → (r : ℕ) → r < length b.rights → KindIs b r
kind_is b valid r l =
    let entry = entry_holds (λ r. IsValidRight b r) b.rights r valid.rights l in
    record {
      kind = entry.0.kind;
      node = ap (λ o. unwrap_or (option_map (λ x. taking_node_of_kind b x.kind) o) None) entry.1;
      link = ap (λ o. unwrap_or (option_map (λ x. link_of_kind x.kind) o) None) entry.1;
      zone = λ v. ap (λ o. unwrap_or (option_map (λ x. is_zone_of_kind x.kind v) o) false) entry.1;
      diversion = ap (λ o. unwrap_or (option_map (λ x. is_diversion_kind x.kind) o) false) entry.1;
      site = entry.2.site;
    }

pub entry_at : {X : Type 0} (xs : List X) (k : ℕ) → k < length xs → (x : X) × (slice_get xs k ≡ Some x)
entry_at xs k l = let entry = entry_holds (λ x. Unit {0}) xs k (λ i d m. tt) l in (entry.0, entry.1)

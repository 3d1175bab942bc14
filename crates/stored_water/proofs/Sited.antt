-- Where the draws and accounts of a valid basin are.
use Rattle.std.proofs.Common.{◌≡◌, ℕ, ◌<◌, true, refl, ◌∙◌, ap, List, length, subst}
use Rattle.std.proofs.lemmas.Option.{slice_get_within}
use Rattle.std.specs.Prelude.{All, Option, Some, None, slice_get, unwrap_or, option_map, false}
use Rattle.stored_water.proofs.Regrouped.{node_via}
use Rattle.stored_water.specs.DrawLaws.{ValidBasinsAreSited}
use Rattle.water_model.proofs.Valid.{entry_holds}
use Rattle.water_model.specs.Basin.{node_of_reservoir, taking_node}
use Rattle.water_model.specs.Draws.{IsSited}
use Rattle.water_model.specs.Stores.{reservoir_of_kind, reservoir_of_right, storing_node}
use Rattle.water_model.specs.Valid.{HasValidSite, IsValidAccount, IsValidBasin, IsValidDraw, IsValidReservoir}
use Rattle.water_model.specs.Valid.{IsValidRight, is_zone, is_zone_kind}
use Rattle.water_model.specs.declared.types.Account.{Account}
use Rattle.water_model.specs.declared.types.Basin.{Basin}
use Rattle.water_model.specs.declared.types.Draw.{Draw}
use Rattle.water_model.specs.declared.types.Reservoir.{Reservoir}
use Rattle.water_model.specs.declared.types.Right.{Right}
use Rattle.water_model.specs.declared.types.RightKind.{RightKind}
use Rattle.water_model.specs.declared.types.RightKind.TheVariants.{Diversion, Instream, Zone}

-- what holds of each entry holds of the one at an index
pub holds_at : {X : Type 0} (P : X → Type 0) (xs : List X) (k : ℕ) (x : X) → All P xs → slice_get xs k ≡ Some x → P x
holds_at P xs k x all e =
    let entry = entry_holds P xs k all (slice_get_within xs k x e) in
    let same : entry.0 ≡ x = cc in
    subst P same entry.2

-- a zone is in a reservoir of the basin
pub zone_site : (b : Basin) → IsValidBasin b → (r : ℕ) → is_zone b r ≡ true →
    (v : ℕ) × (reservoir_of_right b r ≡ Some v) × (v < length b.reservoirs)
zone_site b valid r = of_get (slice_get b.rights r) refl
  where
    of_kind : (k : RightKind) → HasValidSite b k → is_zone_kind k ≡ true →
        (v : ℕ) × (reservoir_of_kind k ≡ Some v) × (v < length b.reservoirs)
    of_kind (Diversion node) site h = cc
    of_kind (Instream link) site h = cc
    of_kind (Zone reservoir level) site h = (reservoir, refl, site.0)

    of_get : (o : Option Right) → slice_get b.rights r ≡ o →
        unwrap_or (option_map (λ x. is_zone_kind x.kind) o) false ≡ true →
        (v : ℕ) × (unwrap_or (option_map (λ x. reservoir_of_kind x.kind) o) None ≡ Some v)
        × (v < length b.reservoirs)
    of_get None e h = cc
    of_get (Some x) e h = of_kind x.kind (holds_at (λ y. IsValidRight b y) b.rights r x valid.rights e).site h

-- so an account is at a node
pub account_site : (b : Basin) → IsValidBasin b → (k : ℕ) → k < length b.accounts →
    (node : ℕ) × (node < length b.nodes) × (storing_node b k ≡ Some node)
account_site b valid k l =
    let account = entry_holds (λ a. IsValidAccount b a) b.accounts k valid.stores.accounts l in
    let zone = zone_site b valid account.0.zone account.2.zone in
    let reservoir = entry_holds (λ w. IsValidReservoir b w) b.reservoirs zone.0 valid.reservoirs zone.2 in
    let node : ℕ = reservoir.0.node in
    let at : node_of_reservoir b zone.0 ≡ Some node =
    ap (λ o. unwrap_or (option_map (λ (x : Reservoir). Some x.node) o) None) reservoir.1 in (
      node,
      reservoir.2.node,
      ap (λ o. unwrap_or (option_map (λ (a : Account). taking_node b a.zone) o) None) account.1
          ∙ (node_via b account.0.zone zone.0 zone.1 ∙ at),
    )

pub valid_basins_are_sited : ValidBasinsAreSited
valid_basins_are_sited b valid = (
  record { each = sited },
  λ k a e. (let zone = zone_site b valid a.zone
      (holds_at (λ x. IsValidAccount b x) b.accounts k a valid.stores.accounts e).zone in (zone.0, zone.1)),
  λ j d e. (holds_at (λ x. IsValidDraw b x) b.draws j d valid.stores.draws e).diversion,
)
  where
    sited : (j : ℕ) → j < length b.draws → IsSited b j
    sited j l =
        let draw = entry_holds (λ d. IsValidDraw b d) b.draws j valid.stores.draws l in
        let site = account_site b valid draw.0.account draw.2.account in
        record {
          entry = draw.0;
          is_entry = draw.1;
          account = draw.2.account;
          from = site.0;
          from_node = site.1;
          is_from = ap (λ o. unwrap_or (option_map (λ (d : Draw). storing_node b d.account) o) None) draw.1 ∙ site.2;
          to = draw.0.node;
          to_node = draw.2.node;
          is_to = ap (λ o. unwrap_or (option_map (λ (d : Draw). Some d.node) o) None) draw.1;
        }

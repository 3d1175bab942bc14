-- Names of a valid basin.
use Rattle.std.proofs.Common.{◌≡◌, ℕ, ◌<◌, true}
use Rattle.water_text.specs.Names.{is_name}
use Rattle.water_model.proofs.Valid.{entry_at}
use Rattle.water_model.proofs.Lists.{all_at}
use Rattle.water_model.specs.Valid.{IsValidBasin, IsValidNode, IsValidLink, IsValidReservoir, IsValidRight}
use Rattle.water_model.specs.declared.types.Basin.{Basin}
use Rattle.water_model.specs.Entries.{count_in, name_in}
use Rattle.water_model.specs.declared.space.Space.{Space}
use Rattle.water_model.specs.declared.space.Space.TheVariants as space

-- each name is one
pub name_is : (b : Basin) → IsValidBasin b → (s : Space) (at : ℕ) → at < count_in s b → is_name (name_in s b at) ≡ true
name_is b valid space.Nodes at l =
    let n = entry_at b.nodes at l in
    rw n.1 (all_at IsValidNode b.nodes at n.0 valid.nodes n.1).name
name_is b valid space.Links at l =
    let n = entry_at b.links at l in
    rw n.1 (all_at (λ l. IsValidLink b l) b.links at n.0 valid.links n.1).name
name_is b valid space.Reservoirs at l =
    let v = entry_at b.reservoirs at l in
    let n = entry_at b.nodes v.0.node
    (all_at (λ v. IsValidReservoir b v) b.reservoirs at v.0 valid.reservoirs v.1).node in
    rw (v.1, n.1) (all_at IsValidNode b.nodes v.0.node n.0 valid.nodes n.1).name
name_is b valid space.Rights at l =
    let n = entry_at b.rights at l in
    rw n.1 (all_at (λ r. IsValidRight b r) b.rights at n.0 valid.rights n.1).name

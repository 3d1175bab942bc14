-- How the parts of the order join: a file without a fault spells a valid basin.
use Rattle.std.proofs.Common.{◌≡◌, ℕ, ◌+◌, List, [], ◌∷◌, Option, Some, None, option_and_then, All, Bool, true, false}
use Rattle.std.proofs.Common.{refl, sym, ap, ◌∙◌, inl, inr, nat_le, nat_lt, eqb, ◌≢◌, subst, if◌then◌else◌}
use Rattle.std.proofs.lemmas.Bool.{cases_Bool}
use Rattle.std.specs.Prelude.{option_map, length, map, position}
use Rattle.std.specs.List.{position_or_len, find, range_with_len}
use Rattle.std.specs.Option.{option_or}
use Rattle.std.specs.Str.{bytes_eq}
use Rattle.toml.specs.Data.{Members}
use Rattle.water_model.specs.Rights.{has_bad_date, has_zone_fault, priority}
use Rattle.water_model.specs.Valid.{IsAreaTable, IsValidBasin, IsValidReservoir}
use Rattle.water_model.specs.declared.types.AreaPoint.{AreaPoint}
use Rattle.water_model.specs.declared.types.Basin.{Basin}
use Rattle.water_model.specs.declared.types.Reservoir.{Reservoir}
use Rattle.water_model.specs.declared.types.ReturnRow.{ReturnRow}
use Rattle.water_model.specs.declared.types.Right.{Right}
use Rattle.rights_roll.specs.RollFaults.{roll_fault, IsRollRefusal, same_from, has_many_parts}
use Rattle.rights_roll.specs.declared.RollRefused.{RollRefused}
use Rattle.rights_roll.specs.declared.RollRefused.TheVariants as roll
use Rattle.reservoirs.specs.AreaFaults.{fault_after, table_fault}
use Rattle.reservoirs.proofs.Tables.{is_table}
use Rattle.basin_tree.specs.Order.{tree_fault}
use Rattle.basin_tree.specs.declared.walk.Finding.{Finding}
use Rattle.basin_file.specs.BasinFaults.{roll_finding, area_finding, areas_fault, Spells, file_fault, document_fault}
use Rattle.basin_file.specs.BasinFaults.{basin_fault, net_finding}
use Rattle.basin_file.specs.Sound.{IsSoundBasin}
use Rattle.basin_file.specs.Spelled.{basin_of}
use Rattle.toml_tree.specs.Document.{document_of}
use Rattle.water_model.specs.declared.types.Link.{Link}
use Rattle.water_model.specs.declared.types.Node.{Node}
use Rattle.river_net.specs.NetFaults.{net_fault, first_self_link, first_from_outlet, first_without_river}
use Rattle.river_net.specs.NetFaults.{first_on_cycle}
use Rattle.river_net.specs.declared.refused.NetRefused.TheVariants as net
use Rattle.river_net.proofs.NoFault.{faultless_sound}
use Rattle.rights_roll.proofs.Soundness.{sound-from_faultless, roll_fault-is}
use Rattle.std.proofs.lemmas.List.Elements.{All-cons, All-nil}
use Rattle.basin_file.proofs.Passed.{all_clean, or_none}
use Rattle.basin_file.proofs.Whole.{sound_basin}

-- a refused roll is reported as its first fault
pub roll_found : (rights : List Right) (returns : List ReturnRow) (e : RollRefused) (finding : Finding) →
    IsRollRefusal e rights returns → Some finding ≡ roll_finding rights e →
    Some finding ≡ option_and_then (roll_finding rights) (roll_fault rights returns)
roll_found rights returns roll.OutOfMemory finding refusal f = cc
roll_found rights returns _ finding refusal f = f ∙ ap (option_and_then (roll_finding rights)) (sym refusal)

-- what is reported as no fault is none
abbrev IsReported : {F : Type 0} → (F → Option Finding) → Option F → Type 0
IsReported f o = option_and_then f o ≡ None → o ≡ None

or_reported : {F : Type 0} (f : F → Option Finding) (a b : Option F) → IsReported f a → IsReported f b →
    IsReported f (option_or a b)
or_reported f None b x y e = y e
or_reported f (Some a) b x y e = x e

map_reported : {A F : Type 0} (f : F → Option Finding) (g : A → F) → ((a : A) → f (g a) ≢ None) → (o : Option A) →
    IsReported f (option_map g o)
map_reported f g some None e = refl
map_reported f g some (Some a) e = absurd (some a e)

if_reported : {F : Type 0} (f : F → Option Finding) (t : Bool) (a : F) (b : Option F) → f a ≢ None → IsReported f b →
    IsReported f (if t then Some a else b)
if_reported f true a b some rest e = absurd (some e)
if_reported f false a b some rest e = rest e

-- an area table, a network and a roll that are reported as no fault have none
after_reported : (number : ℕ) (before : AreaPoint) (n : ℕ) (points : List AreaPoint) →
    IsReported (area_finding number) (fault_after before n points)
after_reported number before n [] = λ e. refl
after_reported number before n (p ∷ points) =
    if_reported (area_finding number) (nat_le p.storage before.storage) _ _ (λ e. cc)
    (if_reported (area_finding number) (nat_lt p.area before.area) _ _ (λ e. cc)
    (after_reported number p (n + 1) points))

area_reported : (number : ℕ) (points : List AreaPoint) → IsReported (area_finding number) (table_fault points)
area_reported number [] e = cc
area_reported number (p ∷ points) e =
    elim (cases_Bool (eqb p.storage 0)) [
      | inl begins ↦ rw begins (after_reported number p 1 points (rw begins at e))
      | inr other ↦ (let h = rw other at e in cc)
    ]

all_tables : (n : ℕ) (reservoirs : List Reservoir) → areas_fault n reservoirs ≡ None →
    All (λ v. IsAreaTable v.area) reservoirs
all_tables n [] e = All-nil (λ v. IsAreaTable v.area)
all_tables n (v ∷ reservoirs) e =
    let both =
    or_none (option_and_then (area_finding (n + 1)) (table_fault v.area)) (areas_fault (n + 1) reservoirs) e in
    All-cons (λ v. IsAreaTable v.area) v reservoirs (is_table v.area (area_reported (n + 1) v.area both.0))
    (all_tables (n + 1) reservoirs both.1)

net_reported : (nodes : List Node) (links : List Link) → IsReported net_finding (net_fault nodes links)
unfolding net_fault
net_reported nodes links =
    or_reported net_finding _ _ (map_reported net_finding net.SelfLink (λ k e. cc) (first_self_link links))
    (or_reported net_finding _ _
    (map_reported net_finding net.LinkFromOutlet (λ k e. cc) (first_from_outlet nodes links))
    (or_reported net_finding _ _ (map_reported net_finding net.NoRiver (λ k e. cc) (first_without_river nodes links))
    (map_reported net_finding net.DirectedCycle (λ k e. cc) (first_on_cycle nodes links))))

same_reported : (rights : List Right) (keys : List (List ℕ)) (n : ℕ) (rest : List (List ℕ)) →
    IsReported (roll_finding rights) (same_from keys n rest)
same_reported rights keys n [] = λ e. refl
same_reported rights keys n (key ∷ rest) =
    if_reported (roll_finding rights) (nat_lt (position_or_len (bytes_eq key) keys) n) _ _ (λ e. cc)
    (same_reported rights keys (n + 1) rest)

roll_reported : (rights : List Right) (returns : List ReturnRow) →
    IsReported (roll_finding rights) (roll_fault rights returns)
roll_reported rights returns =
    let f = roll_finding rights in
    subst (IsReported f) (sym (roll_fault-is rights returns))
    (or_reported f _ _ (map_reported f roll.BadDate (λ k e. cc) (position has_bad_date rights))
    (or_reported f _ _ (same_reported rights (map priority rights) 0 (map priority rights))
    (or_reported f _ _
    (map_reported f roll.ZoneOrder (λ k e. cc) (find (has_zone_fault rights) (range_with_len 0 (length rights))))
    (map_reported f roll.ReturnParts (λ k e. cc)
    (find (has_many_parts returns) (range_with_len 0 (length rights)))))))

-- a sound basin without a fault is valid
pub valid_of : (b : Basin) → IsSoundBasin b → basin_fault b ≡ None → IsValidBasin b
unfolding basin_fault
valid_of b sound e =
    let network = faultless_sound b.nodes b.links (net_reported b.nodes b.links net.0) in
    let roll = sound-from_faultless b.rights b.returns (roll_reported b.rights b.returns rights.0) in
    assumption (reservoirs, sound, network, roll)
  where
    net : (option_and_then net_finding (net_fault b.nodes b.links) ≡ None) × (option_or (option_and_then
        (roll_finding b.rights) (roll_fault b.rights b.returns)) (areas_fault 0 b.reservoirs) ≡ None)
    net = or_none _ _ e

    rights : (option_and_then (roll_finding b.rights) (roll_fault b.rights b.returns) ≡ None) ×
        (areas_fault 0 b.reservoirs ≡ None)
    rights = or_none _ _ net.1

    reservoirs : All (λ v. IsValidReservoir b v) b.reservoirs
    reservoirs k d h =
        let v = sound.reservoirs k d h in let table = all_tables 0 b.reservoirs rights.1 k d h in assumption

-- the basin of a document without a fault by itself is sound
pub sound_at : (tree : Members) (b : Basin) → b ≡ basin_of tree → tree_fault tree ≡ None → IsSoundBasin b
sound_at tree b is none = rw is (sound_basin tree (all_clean tree none))

pub faultless_files_are_valid : (bytes : List ℕ) → file_fault bytes ≡ None → (b : Basin) × Spells bytes b ×
    IsValidBasin b
faultless_files_are_valid bytes e = by (document_of bytes) refl e
  where
    by : (o : Option Members) → document_of bytes ≡ o → document_fault o ≡ None → (b : Basin) × Spells bytes b ×
        IsValidBasin b
    by None same e = cc
    by (Some tree) same e =
        let both = or_none (tree_fault tree) (basin_fault (basin_of tree)) e in
        let b = basin_of tree in (
          b,
          record { tree = tree; document = same; basin_is = refl },
          valid_of b (sound_at tree b refl both.0) both.1,
        )

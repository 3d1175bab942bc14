-- Lists that are made of other lists, entry by entry.
use Rattle.std.proofs.Common.{◌≡◌, ◌∙◌, ℕ, ◌+◌, ◌<◌, ◌≤◌, List, [], ◌∷◌, ◌++◌, sym, ap, subst, length, map, take}
use Rattle.std.proofs.Common.{get_or}
use Rattle.std.proofs.lemmas.List.{map_more, take_all}
use Rattle.water_model.specs.Valid.{IsValidBasin, IsValidInflow}
use Rattle.water_model.specs.declared.types.Basin.{Basin}
use Rattle.water_model.specs.declared.types.Node.{Node}
use Rattle.water_model.specs.declared.types.Reservoir.{Reservoir}

-- one entry more
pub mapped_more : {X Y : Type 0} (f : X → Y) (xs : List X) (i : ℕ) (x : X) (ys more : List Y) (y : Y) →
    i < length xs → x ≡ get_or xs i x → ys ≡ map f (take i xs) → y ≡ f x → more ≡ ys ++ y ∷ [] →
    more ≡ map f (take (i + 1) xs)
mapped_more f xs i x ys more y l is ys_are y_is more_is =
    more_is
    ∙ ap (λ r. r ++ y ∷ []) ys_are
    ∙ ap (λ z. map f (take i xs) ++ z ∷ []) (y_is ∙ ap f is)
    ∙ sym (map_more f xs i x l)

-- all entries
pub mapped_whole : {X Y : Type 0} (f : X → Y) (xs zs : List X) (i : ℕ) (ys : List Y) → length xs ≤ i → xs ≡ zs →
    ys ≡ map f (take i xs) → ys ≡ map f zs
mapped_whole f xs zs i ys l same ys_are = ys_are ∙ ap (map f) (take_all i xs l ∙ same)

-- the inflow of a node that a loop over the nodes comes to
pub inflow_of_node : (b : Basin) (nodes : List Node) (i : ℕ) (x : Node) → IsValidBasin b → nodes ≡ b.nodes →
    i < length nodes → x ≡ get_or nodes i x → IsValidInflow x.inflow
inflow_of_node b nodes i x valid same l is =
    subst (λ (y : Node). IsValidInflow y.inflow) (sym (is ∙ ap (λ (ns : List Node). get_or ns i x) same))
    (valid.nodes i x (subst (λ (ns : List Node). i < length ns) same l)).inflow

-- and how many points the area table of a reservoir has
pub points_of_reservoir : (b : Basin) (vs : List Reservoir) (i : ℕ) (x : Reservoir) → IsValidBasin b →
    vs ≡ b.reservoirs → i < length vs → x ≡ get_or vs i x → length x.area ≤ 64
points_of_reservoir b vs i x valid same l is =
    subst (λ (y : Reservoir). length y.area ≤ 64) (sym (is ∙ ap (λ (rs : List Reservoir). get_or rs i x) same))
    (valid.reservoirs i x (subst (λ (rs : List Reservoir). i < length rs) same l)).bounded_points

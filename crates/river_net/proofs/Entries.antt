-- What is read of the entries of a list.
use Rattle.std.proofs.Common.{◌≡◌, ℕ, ◌<◌, List, length, ap, arith}
use Rattle.std.specs.Prelude.{All, Some, slice_get, unwrap_or, option_map}
use Rattle.water_model.specs.Network.{HasNodes, tail_in, head_in}
use Rattle.water_model.specs.declared.types.Link.{Link}
use Rattle.water_model.specs.declared.types.Node.{Node}
use Rattle.water_model.proofs.Valid.{entry_holds}

-- what a link says where its entry is given
pub tail_is : (links : List Link) (k : ℕ) (x : Link) → slice_get links k ≡ Some x → tail_in links k ≡ x.from
tail_is links k x at = ap (λ o. unwrap_or (option_map (λ (l : Link). l.from) o) 0) at

-- the head of a link
pub head_is : (links : List Link) (k : ℕ) (x : Link) → slice_get links k ≡ Some x → head_in links k ≡ x.to
head_is links k x at = ap (λ o. unwrap_or (option_map (λ (l : Link). l.to) o) 0) at

-- the ends of links are nodes
pub ends_in : (nodes : List Node) (links : List Link) → All (λ l. HasNodes nodes l) links → (e : ℕ) → e < length links →
    (tail_in links e < length nodes) × (head_in links e < length nodes)
ends_in nodes links h e l =
    let entry = entry_holds (λ l. HasNodes nodes l) links e h l in
    let from = entry.2.from in
    let to = entry.2.to in
    (omega (arith, tail_is links e entry.0 entry.1), omega (arith, head_is links e entry.0 entry.1))

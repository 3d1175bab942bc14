-- The arcs of a month's network by number: the links, what is taken at each node, what leaves the basin at each node,
-- and the draws.
use Rattle.std.specs.Prelude.{◌≡◌, ℕ, ◌+◌, ◌-◌, ◌<◌, ◌==◌, nat_lt, if◌then◌else◌, List, length, slice_get, Some}
use Rattle.water_model.specs.Basin.{tail_of, head_of}
use Rattle.water_model.specs.declared.types.Basin.{Basin}
use Rattle.circulation.specs.declared.Ends.{Ends}
use Rattle.draw_course.specs.Draws.{diversion_of, reservoir_of}
use Rattle.draw_course.specs.declared.draws.DrawNodes.{DrawNodes}
use Rattle.draw_course.specs.declared.arcs.Part.{Part}
use Rattle.draw_course.specs.declared.arcs.Part.TheVariants.{Link, Take, Out, Draw}

-- how many there are, with this many draws
abbrev pub arc_count : Basin → ℕ → ℕ
arc_count b draws = length b.links + (length b.nodes + (length b.nodes + draws))

-- the arc of what is taken at a node, of what leaves the basin there, and of a draw
abbrev pub take_arc : Basin → ℕ → ℕ
take_arc b n = length b.links + n

abbrev pub out_arc : Basin → ℕ → ℕ
out_arc b n = length b.links + (length b.nodes + n)

abbrev pub draw_arc : Basin → ℕ → ℕ
draw_arc b k = length b.links + (length b.nodes + (length b.nodes + k))

-- what an arc stands for
abbrev pub part_of : ℕ → ℕ → ℕ → Part
part_of links nodes arc =
    if nat_lt arc links then Link arc
    else (if nat_lt (arc - links) nodes then Take (arc - links)
    else (if nat_lt (arc - links - nodes) nodes then Out (arc - links - nodes) else Draw (arc - links - nodes - nodes)))

-- it stands for something of the basin
abbrev pub IsPartOf : Basin → ℕ → Part → Type 0
IsPartOf b draws (Link e) = e < length b.links
IsPartOf b draws (Take n) = n < length b.nodes
IsPartOf b draws (Out n) = n < length b.nodes
IsPartOf b draws (Draw k) = k < draws

-- where the arc of a draw leads: to the reservoir's node, or to the outside where the diversion stands there
abbrev pub draw_head : Basin → List DrawNodes → ℕ → ℕ
draw_head b draws k = if diversion_of draws k == reservoir_of draws k then length b.nodes else reservoir_of draws k

-- the tail and the head of an arc
abbrev pub part_tail : Basin → List DrawNodes → Part → ℕ
part_tail b draws (Link e) = tail_of b e
part_tail b draws (Take n) = n
part_tail b draws (Out n) = n
part_tail b draws (Draw k) = diversion_of draws k

abbrev pub part_head : Basin → List DrawNodes → Part → ℕ
part_head b draws (Link e) = head_of b e
part_head b draws (Take n) = length b.nodes
part_head b draws (Out n) = length b.nodes
part_head b draws (Draw k) = draw_head b draws k

-- the ends of the first arcs
pub record AreFirstEnds (b : Basin) (draws : List DrawNodes) (count : ℕ) (ends : List Ends) : Type 0 where
  pub size : length ends ≡ count
  pub each : (a : ℕ) → a < count → slice_get ends a ≡ Some (record {
    from = part_tail b draws (part_of (length b.links) (length b.nodes) a);
    to = part_head b draws (part_of (length b.links) (length b.nodes) a);
  })

-- the ends of all arcs
abbrev pub AreEnds : Basin → List DrawNodes → List Ends → Type 0
AreEnds b draws ends = AreFirstEnds b draws (arc_count b (length draws)) ends

-- an amount for each arc, from those of links, of what is taken, of what leaves the basin, and of draws
abbrev pub part_amount : (links takes outs draws : ℕ → ℕ) → Part → ℕ
part_amount links takes outs draws (Link e) = links e
part_amount links takes outs draws (Take n) = takes n
part_amount links takes outs draws (Out n) = outs n
part_amount links takes outs draws (Draw k) = draws k

abbrev pub amount_at : Basin → (links takes outs draws : ℕ → ℕ) → ℕ → ℕ
amount_at b links takes outs draws a =
    part_amount links takes outs draws (part_of (length b.links) (length b.nodes) a)

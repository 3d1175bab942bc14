-- What the entries of a basin say of one another.
use Rattle.std.specs.Prelude.{ℕ, Bool, false, List, [], Option, Some, None, ◌==◌}
use Rattle.water_model.specs.Lookups.{of_entry}
use Rattle.water_model.specs.Network.{tail_in, head_in, is_river_in, is_outlet_in}
use Rattle.water_model.specs.Rights.{priority_in, is_senior_in, AreStrict}
use Rattle.water_model.specs.declared.types.Basin.{Basin}
use Rattle.water_model.specs.declared.types.RightKind.{RightKind}
use Rattle.water_model.specs.declared.types.RightKind.TheVariants.{Diversion, Instream, Zone}

-- where a link begins and ends
abbrev pub tail_of : Basin → ℕ → ℕ
tail_of b link = tail_in b.links link

abbrev pub head_of : Basin → ℕ → ℕ
head_of b link = head_in b.links link

abbrev pub is_river : Basin → ℕ → Bool
is_river b link = is_river_in b.links link

abbrev pub is_outlet : Basin → ℕ → Bool
is_outlet b node = is_outlet_in b.nodes node

abbrev pub node_of_reservoir : Basin → ℕ → Option ℕ
node_of_reservoir b reservoir = of_entry b.reservoirs reservoir (λ v. Some v.node) None

-- the node at which a right takes water: a diversion's, or that of a zone's reservoir
abbrev pub taking_node_of_kind : Basin → RightKind → Option ℕ
taking_node_of_kind b (Diversion node) = Some node
taking_node_of_kind b (Instream link) = None
taking_node_of_kind b (Zone reservoir level) = node_of_reservoir b reservoir

abbrev pub taking_node : Basin → ℕ → Option ℕ
taking_node b right = of_entry b.rights right (λ r. taking_node_of_kind b r.kind) None

-- the link that an instream right is on
abbrev pub link_of_kind : RightKind → Option ℕ
link_of_kind (Diversion node) = None
link_of_kind (Instream link) = Some link
link_of_kind (Zone reservoir level) = None

abbrev pub instream_link : Basin → ℕ → Option ℕ
instream_link b right = of_entry b.rights right (λ r. link_of_kind r.kind) None

abbrev pub is_at : Option ℕ → ℕ → Bool
is_at None position = false
is_at (Some at) position = at == position

-- whether the right is a diversion or zone that takes at the node
abbrev pub takes_at : Basin → ℕ → ℕ → Bool
takes_at b right node = is_at (taking_node b right) node

-- whether the right is an instream right on the link
abbrev pub is_on_link : Basin → ℕ → ℕ → Bool
is_on_link b right link = is_at (instream_link b right) link

-- whether the right is a zone of the reservoir
abbrev pub is_zone_of_kind : RightKind → ℕ → Bool
is_zone_of_kind (Diversion node) reservoir = false
is_zone_of_kind (Instream link) reservoir = false
is_zone_of_kind (Zone at level) reservoir = is_at (Some at) reservoir

abbrev pub is_zone_of : Basin → ℕ → ℕ → Bool
is_zone_of b right reservoir = of_entry b.rights right (λ r. is_zone_of_kind r.kind reservoir) false

abbrev pub priority_of : Basin → ℕ → List ℕ
priority_of b right = priority_in b.rights right

-- whether right r is senior to right s
abbrev pub is_senior : Basin → ℕ → ℕ → Bool
is_senior b r s = is_senior_in b.rights r s

-- no two rights have one priority
abbrev pub HasStrictPriority : Basin → Type 0
HasStrictPriority b = AreStrict b.rights

-- the names of entries. A reservoir is named by its node
abbrev pub node_name : Basin → ℕ → List ℕ
node_name b node = of_entry b.nodes node (λ n. n.name) []

abbrev pub link_name : Basin → ℕ → List ℕ
link_name b link = of_entry b.links link (λ l. l.name) []

abbrev pub right_name : Basin → ℕ → List ℕ
right_name b right = of_entry b.rights right (λ r. r.name) []

abbrev pub reservoir_name : Basin → ℕ → List ℕ
reservoir_name b reservoir = of_entry b.reservoirs reservoir (λ v. node_name b v.node) []

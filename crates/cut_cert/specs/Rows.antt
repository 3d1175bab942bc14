-- For each node the links and rights that bound a set which holds it, as chains of rising numbers, and what they add.
use Rattle.std.specs.Prelude.{◌≡◌, ◌≢◌, ℕ, ◌+◌, ◌<◌, ◌≤◌, ◌&&◌, not, Bool, List, length, slice_index, slice_index_or}
use Rattle.std.specs.Prelude.{Option, Some, None, is_some, map, if◌then◌else◌}
use Rattle.chains.specs.Chains.{AreChains}
use Rattle.chains.specs.declared.Chains.{Chains}
use Rattle.finite_sums.specs.Sums.{total_where, when}
use Rattle.water_text.specs.declared.month.Month.{Month}
use Rattle.water_model.specs.Basin.{is_at, is_on_link, is_senior, tail_of, head_of, taking_node}
use Rattle.water_model.specs.Cuts.{kept_on}
use Rattle.water_model.specs.Lookups.{has}
use Rattle.water_model.specs.Plans.{carry_of}
use Rattle.water_model.specs.declared.types.Basin.{Basin}
use Rattle.water_model.specs.Rights.{priority}
use Rattle.rights_roll.specs.Priorities.{numbers_of}
use Rattle.rights_roll.specs.RollView.{RollView}
use Rattle.cut_cert.specs.declared.rows.NodeRows.{NodeRows}

-- chains of as many indices and nodes as there is room for
abbrev pub BelongBy : (ℕ → Option ℕ) → Chains → Type 0
BelongBy node_of chains = AreChains node_of (length chains.next.items) (length chains.first.items) chains

-- the sum of the terms of the indices that belong to a node, whichever do and whatever the terms are
abbrev pub IsSumOfRow : Chains → ℕ → (ℕ → ℕ → Type 0) → ℕ → Type 0
IsSumOfRow chains node is_term sum = (node_of : ℕ → Option ℕ) (count nodes : ℕ) (f : ℕ → ℕ) →
    AreChains node_of count nodes chains → ((index one : ℕ) → index < count → is_term index one → one ≡ f index) →
    sum ≡ total_where count (λ s. is_at (node_of s) node) f

-- the nodes at which a link ends and begins, and the latter if the roll has an instream right on the link
abbrev pub ends_at : Basin → ℕ → Option ℕ
ends_at b link = Some (head_of b link)

abbrev pub begins_at : Basin → ℕ → Option ℕ
begins_at b link = Some (tail_of b link)

abbrev pub held_at : Basin → RollView → ℕ → Option ℕ
held_at b roll link = if is_some (slice_index_or roll.first_on link None) then begins_at b link else None

-- the tails of links, and the priorities of rights
abbrev pub AreTails : Basin → NodeRows → Type 0
AreTails b rows = rows.tails.items ≡ map (λ l. l.from) b.links

abbrev pub ArePriorities : Basin → NodeRows → Type 0
ArePriorities b rows = map numbers_of rows.priorities.items ≡ map priority b.rights

-- the rows of a basin by node: the links that end at each node, those that begin there and have an instream right, and
-- the diversions and zones that take there; and the tails of links and the priorities of rights
pub record AreNodeRows (b : Basin) (roll : RollView) (rows : NodeRows) : Type 0 where
  pub enter : AreChains (ends_at b) (length b.links) (length b.nodes) rows.enter
  pub held : AreChains (held_at b roll) (length b.links) (length b.nodes) rows.held
  pub takers : AreChains (taking_node b) (length b.rights) (length b.nodes) rows.takers
  pub tails : AreTails b rows
  pub priorities : ArePriorities b rows

-- what a link brings in from outside a set
abbrev pub carry_in : Basin → Month → List Bool → ℕ → ℕ
carry_in b month cut link = when (not (has cut (tail_of b link))) (carry_of b month link)

-- what seniors of a right keep on a link to outside a set, unless it is the right's own
abbrev pub kept_out : Basin → List ℕ → ℕ → List Bool → ℕ → ℕ
kept_out b delivered right cut link =
    when (not (has cut (head_of b link)) && not (is_on_link b right link)) (kept_on b delivered right link)

-- what a right takes that is senior to another
abbrev pub senior_take : Basin → List ℕ → ℕ → ℕ → ℕ
senior_take b delivered right taker = when (is_senior b taker right) (slice_index delivered taker)

-- the sums of these at a node
abbrev pub brought_to : Basin → Month → List Bool → ℕ → ℕ
brought_to b month cut node = total_where (length b.links) (λ e. is_at (ends_at b e) node) (carry_in b month cut)

abbrev pub kept_from : Basin → List ℕ → ℕ → List Bool → ℕ → ℕ
kept_from b delivered right cut node =
    total_where (length b.links) (λ e. is_at (begins_at b e) node) (kept_out b delivered right cut)

abbrev pub taken_at : Basin → List ℕ → ℕ → ℕ → ℕ
taken_at b delivered right node =
    total_where (length b.rights) (λ s. is_at (taking_node b s) node) (senior_take b delivered right)

-- the part of a node in the capacity of a set that holds it, and in what is kept
abbrev pub node_capacity : Basin → Month → List ℕ → List Bool → ℕ → ℕ
node_capacity b month supply cut node = slice_index supply node + brought_to b month cut node

abbrev pub node_kept : Basin → List ℕ → ℕ → List Bool → ℕ → ℕ
node_kept b delivered right cut node = kept_from b delivered right cut node + taken_at b delivered right node

-- Stored water that belongs to owners: the accounts and draws of a basin, as entries.
use Rattle.std.specs.Prelude.{ℕ, ◌∷◌, Bool, ◌==◌, List, [], length, Option, Some, None}
use Rattle.std.specs.List.{list_any}
use Rattle.finite_sums.specs.Sums.{total_where}
use Rattle.water_model.specs.Lookups.{of_entry}
use Rattle.water_model.specs.Basin.{taking_node, is_at}
use Rattle.water_model.specs.declared.types.Basin.{Basin}
use Rattle.water_model.specs.declared.types.RightKind.{RightKind}
use Rattle.water_model.specs.declared.types.RightKind.TheVariants.{Diversion, Instream, Zone}

-- where an account is: its zone, by the zone's right, the zone's reservoir, and that reservoir's node
abbrev pub zone_of : Basin → ℕ → Option ℕ
zone_of b account = of_entry b.accounts account (λ a. Some a.zone) None

abbrev pub reservoir_of_kind : RightKind → Option ℕ
reservoir_of_kind (Diversion node) = None
reservoir_of_kind (Instream link) = None
reservoir_of_kind (Zone reservoir level) = Some reservoir

abbrev pub reservoir_of_right : Basin → ℕ → Option ℕ
reservoir_of_right b right = of_entry b.rights right (λ r. reservoir_of_kind r.kind) None

abbrev pub reservoir_of : Basin → ℕ → Option ℕ
reservoir_of b account = of_entry b.accounts account (λ a. reservoir_of_right b a.zone) None

abbrev pub storing_node : Basin → ℕ → Option ℕ
storing_node b account = of_entry b.accounts account (λ a. taking_node b a.zone) None

-- the most that an account holds, what it holds when the run begins, and its name
abbrev pub space_of : Basin → ℕ → ℕ
space_of b account = of_entry b.accounts account (λ a. a.space) 0

abbrev pub first_stored : Basin → ℕ → ℕ
first_stored b account = of_entry b.accounts account (λ a. a.stored) 0

abbrev pub account_name : Basin → ℕ → List ℕ
account_name b account = of_entry b.accounts account (λ a. a.name) []

-- whether an account is of a zone, and whether it is in a reservoir
abbrev pub is_of_zone : Basin → ℕ → ℕ → Bool
is_of_zone b account zone = is_at (zone_of b account) zone

abbrev pub is_in_reservoir : Basin → ℕ → ℕ → Bool
is_in_reservoir b account reservoir = is_at (reservoir_of b account) reservoir

-- whether a right is an owned zone: a zone that some account is of
abbrev pub is_owned : Basin → ℕ → Bool
is_owned b right = list_any (λ a. a.zone == right) b.accounts

-- the sum of amounts by account over the accounts of a zone, over those in a reservoir, and over those at a node
abbrev pub sum_in_zone : Basin → (ℕ → ℕ) → ℕ → ℕ
sum_in_zone b amount zone = total_where (length b.accounts) (λ k. is_of_zone b k zone) amount

abbrev pub sum_in_reservoir : Basin → (ℕ → ℕ) → ℕ → ℕ
sum_in_reservoir b amount reservoir = total_where (length b.accounts) (λ k. is_in_reservoir b k reservoir) amount

abbrev pub sum_at_node : Basin → (ℕ → ℕ) → ℕ → ℕ
sum_at_node b amount node = total_where (length b.accounts) (λ k. is_at (storing_node b k) node) amount

-- the nodes between which a draw moves water: where it is taken, and that of its account
abbrev pub drawing_node : Basin → ℕ → Option ℕ
drawing_node b draw = of_entry b.draws draw (λ d. Some d.node) None

abbrev pub drawn_node : Basin → ℕ → Option ℕ
drawn_node b draw = of_entry b.draws draw (λ d. storing_node b d.account) None

-- by what draws are told apart: diversion, account and node
abbrev pub draw_key : Basin → ℕ → List ℕ
draw_key b draw = of_entry b.draws draw (λ d. d.diversion ∷ d.account ∷ d.node ∷ []) []

-- Lists of numbers, and the order of rights.
use Rattle.std.specs.Prelude.{ℕ, zero, suc, Bool, true, false, List, [], ◌∷◌, length, filter, if◌then◌else◌}
use Rattle.water_model.specs.Rights.{is_senior_in}
use Rattle.water_model.specs.Basin.{is_outlet}
use Rattle.water_model.specs.declared.types.Basin.{Basin}
use Rattle.water_model.specs.declared.types.Right.{Right}

-- the `count` numbers from, from + 1, ..
unfoldable pub numbers_from : ℕ → ℕ → List ℕ
numbers_from from zero = []
numbers_from from (suc count) = from ∷ numbers_from (suc from) count

-- the indices of a list: 0, 1, .., below its length
abbrev pub indices_of : {X : Type 0} → List X → List ℕ
indices_of xs = numbers_from 0 (length xs)

-- the indices in a set of nodes, in order, counted from `from`
unfoldable pub members_from : ℕ → List Bool → List ℕ
members_from from [] = []
members_from from (true ∷ set) = from ∷ members_from (suc from) set
members_from from (false ∷ set) = members_from (suc from) set

-- a right put before the first one that it is senior to
abbrev pub put_right : List Right → ℕ → List ℕ → List ℕ
put_right rights right [] = right ∷ []
put_right rights right (other ∷ others) =
    if is_senior_in rights right other then right ∷ other ∷ others else other ∷ put_right rights right others

abbrev pub sort_rights : List Right → List ℕ → List ℕ
sort_rights rights [] = []
sort_rights rights (right ∷ others) = put_right rights right (sort_rights rights others)

-- every right once, seniors first
unfoldable pub by_seniority : List Right → List ℕ
by_seniority rights = sort_rights rights (indices_of rights)

abbrev pub seniors_first : Basin → List ℕ
seniors_first b = by_seniority b.rights

-- the outlets
abbrev pub outlets : Basin → List ℕ
outlets b = filter (λ n. is_outlet b n) (indices_of b.nodes)

-- Cuts of a right, their bounds, and reaches, under any carries and under those of a month. What can come into a set of
-- nodes bounds what goes out of it: the cuts of a flow, after Ahuja, Magnanti and Orlin, Network Flows (1993).
use Rattle.std.specs.Prelude.{◌≡◌, ℕ, ℤ, pos, ◌-ℤ◌, ◌+◌, Bool, false, ◌&&◌, not, List, length, slice_index, Option}
use Rattle.std.specs.Prelude.{Some, None, IsTrue, nat_lt}
use Rattle.finite_sums.specs.Sums.{total_where, greatest_where}
use Rattle.water_model.specs.Lookups.{has}
use Rattle.water_model.specs.Basin.{tail_of, head_of, is_on_link, taking_node, instream_link, is_senior}
use Rattle.water_model.specs.Plans.{carry_of}
use Rattle.water_text.specs.declared.month.Month.{Month}
use Rattle.water_model.specs.declared.types.Basin.{Basin}

-- whether a link enters, and leaves, a set of nodes
abbrev pub enters : Basin → List Bool → ℕ → Bool
enters b cut link = has cut (head_of b link) && not (has cut (tail_of b link))

abbrev pub leaves : Basin → List Bool → ℕ → Bool
leaves b cut link = has cut (tail_of b link) && not (has cut (head_of b link))

-- whether a diversion or zone takes within a set of nodes
abbrev pub node_within : Option ℕ → List Bool → Bool
node_within None cut = false
node_within (Some node) cut = has cut node

abbrev pub takes_within : Basin → List Bool → ℕ → Bool
takes_within b cut right = node_within (taking_node b right) cut

-- what is kept on a link for the instream rights that are senior to a right
abbrev pub kept_on : Basin → List ℕ → ℕ → ℕ → ℕ
kept_on b delivered right link =
    greatest_where (length b.rights) (λ s. is_on_link b s link && is_senior b s right) (λ s. slice_index delivered s)

-- the supply in a set of nodes, and the carry of the links that enter it
abbrev pub supply_within : Basin → List ℕ → List Bool → ℕ
supply_within b supply cut = total_where (length b.nodes) (λ n. has cut n) (λ n. slice_index supply n)

abbrev pub carry_into : Basin → (ℕ → ℕ) → List Bool → ℕ
carry_into b carry cut = total_where (length b.links) (λ e. enters b cut e) (λ e. carry e)

-- the most that can come in
abbrev pub cut_capacity : Basin → (ℕ → ℕ) → List ℕ → List Bool → ℕ
cut_capacity b carry supply cut = supply_within b supply cut + carry_into b carry cut

-- what is kept for seniors on the links that leave the set, other than the right's own, and by takes in the set
abbrev pub kept_leaving : Basin → List ℕ → ℕ → List Bool → ℕ
kept_leaving b delivered right cut =
    total_where (length b.links) (λ e. leaves b cut e && not (is_on_link b right e)) (λ e. kept_on b delivered right e)

abbrev pub kept_within : Basin → List ℕ → ℕ → List Bool → ℕ
kept_within b delivered right cut =
    total_where (length b.rights) (λ s. takes_within b cut s && is_senior b s right) (λ s. slice_index delivered s)

abbrev pub cut_kept : Basin → List ℕ → ℕ → List Bool → ℕ
cut_kept b delivered right cut = kept_leaving b delivered right cut + kept_within b delivered right cut

-- the most that a right can be delivered in a month beside its seniors
abbrev pub cut_bound : Basin → Month → List ℕ → List ℕ → ℕ → List Bool → ℤ
cut_bound b month supply delivered right cut =
    pos (cut_capacity b (carry_of b month) supply cut) -ℤ pos (cut_kept b delivered right cut)

-- whether a set has the node of a diversion or zone, or the tail and not the head of an instream right's link
abbrev pub separates : Basin → Option ℕ → Option ℕ → List Bool → Bool
separates b taking None cut = node_within taking cut
separates b taking (Some link) cut = nat_lt link (length b.links) && leaves b cut link

pub record IsCut (b : Basin) (right : ℕ) (cut : List Bool) : Type 0 where
  pub one_each : length cut ≡ length b.nodes
  pub separates : IsTrue (separates b (taking_node b right) (instream_link b right) cut)

-- a cut whose bound is what the right is delivered
pub record IsTightWithin (b : Basin) (carry : ℕ → ℕ) (supply delivered : List ℕ) (right : ℕ) (cut : List Bool) : Type 0
  where
    pub is_cut : IsCut b right cut
    pub tight : cut_capacity b carry supply cut ≡ slice_index delivered right + cut_kept b delivered right cut

abbrev pub IsTight : Basin → Month → List ℕ → List ℕ → ℕ → List Bool → Type 0
IsTight b month supply delivered right cut = IsTightWithin b (carry_of b month) supply delivered right cut

-- the tight cut that contains every tight cut
pub record IsReachWithin (b : Basin) (carry : ℕ → ℕ) (supply delivered : List ℕ) (right : ℕ) (cut : List Bool) : Type 0
  where
    pub is_tight : IsTightWithin b carry supply delivered right cut
    pub contains : (other : List Bool) → IsTightWithin b carry supply delivered right other →
        (n : ℕ) → IsTrue (has other n) → IsTrue (has cut n)

abbrev pub IsReach : Basin → Month → List ℕ → List ℕ → ℕ → List Bool → Type 0
IsReach b month supply delivered right cut = IsReachWithin b (carry_of b month) supply delivered right cut

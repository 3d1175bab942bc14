-- Sums that grow by one index.
use Rattle.std.proofs.Common.{◌≡◌, ℕ, zero, suc, ◌+◌, ◌<◌, ◌≤◌, Bool, false, refl, sym, ◌∙◌, ap, subst}
use Rattle.std.proofs.Common.{arith, List, [], ◌∷◌, length}
use Rattle.std.specs.Prelude.{◌==◌, slice_index, slice_get, slice_set, Option, Some, None, if◌then◌else◌, unwrap_or}
use Rattle.std.specs.Prelude.{option_map}
use Rattle.std.proofs.lemmas.Option.{slice_get_within}
use Rattle.std.proofs.lemmas.Bool.Decides.{nat_tests}
use Rattle.finite_sums.specs.Sums.{total_where, when}
use Rattle.finite_sums.proofs.Totals.{total_more, total_grows, total_where_start}
use Rattle.water_model.specs.Basin.{is_at, node_of_reservoir}
use Rattle.water_model.specs.History.{is_zone_of, is_zone_of_kind}
use Rattle.water_model.specs.Valid.{IsValidBasin, IsValidReservoir, IsValidRight, HasValidSite}
use Rattle.water_model.specs.declared.types.Basin.{Basin}
use Rattle.water_model.specs.declared.types.Reservoir.{Reservoir}
use Rattle.water_model.specs.declared.types.Right.{Right}
use Rattle.water_model.specs.declared.types.RightKind.{RightKind}
use Rattle.water_model.specs.declared.types.RightKind.TheVariants.{Diversion, Instream, Zone}
use Rattle.water_model.proofs.Valid.{entry_holds}

same_numbers : (k j x : ℕ) → when (suc k == suc j) x ≡ when (k == j) x
same_numbers k j x = grind (arith, nat_tests)

-- a number added at an index of a list
pub added : (xs : List ℕ) (position x k : ℕ) → position < length xs →
    slice_index (slice_set xs position (slice_index xs position + x)) k ≡ slice_index xs k + when (position == k) x
added [] position x k l = absurd (omega arith)
added (y ∷ xs) zero x zero l = refl
added (y ∷ xs) zero x (suc k) l = other (slice_index xs k) k x
  where
    other : (z k x : ℕ) → z ≡ z + when (0 == suc k) x
    other z k x = grind (arith, nat_tests)
added (y ∷ xs) (suc position) x zero l = other y position x
  where
    other : (z k x : ℕ) → z ≡ z + when (suc k == 0) x
    other z k x = grind (arith, nat_tests)
added (y ∷ xs) (suc position) x (suc k) l =
    added xs position x k (omega arith) ∙ ap (λ d. slice_index xs k + d) (sym (same_numbers position k x))

-- a sum over one index more, where the key of that index is known
pub one_more : (n k : ℕ) (key : ℕ → Option ℕ) (f : ℕ → ℕ) (at sum base : ℕ) → key n ≡ Some at →
    sum ≡ base + total_where n (λ v. is_at (key v) k) f →
    sum + when (at == k) (f n) ≡ base + total_where (n + 1) (λ v. is_at (key v) k) f
one_more n k key f at sum base e h =
    let more = total_more n (λ v. if is_at (key v) k then f v else 0) in
    let here : (if is_at (key n) k then f n else 0) ≡ when (at == k) (f n) = ap (λ o. if is_at o k then f n else 0) e in
    omega (arith, more, here, h)

when_same : (k x : ℕ) → when (k == k) x ≡ x
when_same k x = grind (arith, nat_tests)

-- and it is within the whole sum
pub sum_within : (m n k : ℕ) (key : ℕ → Option ℕ) (f : ℕ → ℕ) (at sum base : ℕ) → key n ≡ Some at → at ≡ k →
    sum ≡ base + total_where n (λ v. is_at (key v) k) f → n < m →
    sum + f n ≤ base + total_where m (λ v. is_at (key v) k) f
sum_within m n k key f at sum base e same h l =
    let more = one_more n k key f at sum base e h in
    let all = total_grows (n + 1) m (λ v. if is_at (key v) k then f v else 0) (omega arith) in
    let here : when (at == k) (f n) ≡ f n = rw same (when_same k (f n)) in
    omega (arith, more, all, here)

-- what a reservoir's entry says of its node
pub reservoir_node : (b : Basin) (v : ℕ) (entry : Reservoir) → slice_get b.reservoirs v ≡ Some entry →
    node_of_reservoir b v ≡ Some entry.node
reservoir_node b v entry e = ap (λ o. unwrap_or (option_map (λ x. Some x.node) o) None) e

pub node_within : (b : Basin) (v : ℕ) (entry : Reservoir) → IsValidBasin b → slice_get b.reservoirs v ≡ Some entry →
    entry.node < length b.nodes
node_within b v entry valid e =
    let found =
    entry_holds (λ r. IsValidReservoir b r) b.reservoirs v valid.reservoirs
    (slice_get_within b.reservoirs v entry e) in
    let some : Some found.0 ≡ Some entry = sym found.1 ∙ e in
    let same : found.0 ≡ entry = cc in
    subst (λ x. x.node < length b.nodes) same found.2.node

pub nothing_yet : (p : ℕ → Bool) (f : ℕ → ℕ) (x : ℕ) → x ≡ x + total_where 0 p f
nothing_yet p f x = omega (arith, total_where_start p f)

-- whether a right is a zone of a reservoir, by its entry's kind
pub zone_by_kind : (b : Basin) (r v : ℕ) (right : Right) → slice_get b.rights r ≡ Some right →
    is_zone_of b r v ≡ is_zone_of_kind right.kind v
zone_by_kind b r v right e = ap (λ o. unwrap_or (option_map (λ x. is_zone_of_kind x.kind v) o) false) e

pub index_valid : (b : Basin) (r : ℕ) (right : Right) → IsValidBasin b → slice_get b.rights r ≡ Some right →
    HasValidSite b right.kind
index_valid b r right valid e =
    let found = entry_holds (λ x. IsValidRight b x) b.rights r valid.rights (slice_get_within b.rights r right e) in
    let some : Some found.0 ≡ Some right = sym found.1 ∙ e in
    let same : found.0 ≡ right = cc in
    subst (λ (x : Right). HasValidSite b x.kind) same found.2.site

pub zone_within : (b : Basin) (r at level : ℕ) (right : Right) → IsValidBasin b → slice_get b.rights r ≡ Some right →
    right.kind ≡ Zone at level →
    at < length b.reservoirs
zone_within b r at level right valid e kind = (subst (HasValidSite b) kind (index_valid b r right valid e)).0

-- a zone's take is added at its reservoir
pub zone_more : (b : Basin) (take closing : List ℕ) (r v at level sum : ℕ) (right : Right) →
    slice_get b.rights r ≡ Some right → right.kind ≡ Zone at level →
    sum ≡ total_where r (λ k. is_zone_of b k v) (λ k. slice_index take k) →
    sum + when (at == v) (slice_index take r) ≡ total_where (r + 1) (λ k. is_zone_of b k v) (λ k. slice_index take k)
zone_more b take closing r v at level sum right e kind h =
    let more = total_more r (λ k. if is_zone_of b k v then slice_index take k else 0) in
    let here : is_zone_of b r v ≡ (at == v) = zone_by_kind b r v right e ∙ ap (λ k. is_zone_of_kind k v) kind in
    let same : (if is_zone_of b r v then slice_index take r else 0) ≡ when (at == v) (slice_index take r) =
    ap (λ t. if t then slice_index take r else 0) here in
    omega (arith, more, same, h)

-- and a right that is no zone adds nothing
pub no_zone_more : (b : Basin) (take : List ℕ) (r v sum : ℕ) (right : Right) → slice_get b.rights r ≡ Some right →
    ((at level : ℕ) → right.kind ≡ Zone at level → ⊥) →
    sum ≡ total_where r (λ k. is_zone_of b k v) (λ k. slice_index take k) →
    sum ≡ total_where (r + 1) (λ k. is_zone_of b k v) (λ k. slice_index take k)
no_zone_more b take r v sum right e other h =
    let more = total_more r (λ k. if is_zone_of b k v then slice_index take k else 0) in
    let none : is_zone_of b r v ≡ false = zone_by_kind b r v right e ∙ of_kind right.kind other in
    let same : (if is_zone_of b r v then slice_index take r else 0) ≡ 0 =
    ap (λ t. if t then slice_index take r else 0) none in
    omega (arith, more, same, h)
  where
    of_kind : (kind : RightKind) → ((at level : ℕ) → kind ≡ Zone at level → ⊥) → is_zone_of_kind kind v ≡ false
    of_kind (Diversion node) other = refl
    of_kind (Instream link) other = refl
    of_kind (Zone at level) other = absurd (other at level refl)

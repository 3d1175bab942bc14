-- Draws one after the other, and lists by index.
use Rattle.std.proofs.Common.{◌≡◌, ℕ, zero, suc, ◌+◌, ◌*◌, ◌/◌, ◌%◌, ◌^◌, ◌<◌, refl, sym, ap, ◌∙◌, arith, List, [], ◌∷◌}
use Rattle.std.proofs.Common.{◌++◌, add-one, add-zero, add-suc, append_assoc, append-nil}
use Rattle.std.proofs.lemmas.Grind.{common_steps}
use Rattle.std.proofs.Math.Nat.{mod-add-mod}
use Rattle.std.proofs.lemmas.Bool.Decides.{nat_tests}
use Rattle.std.proofs.lemmas.Bool.{ne_eqb, eq-eqb}
use Rattle.basin_gen.specs.Entries.{lower_zone_at, upper_zone_at, zone_at}
use Rattle.basin_gen.specs.Generator.{draws_of_node, draws_of_nodes}
use Rattle.basin_gen.specs.Draws.{next, drawn, later, list_of}
use Rattle.water_model.specs.declared.types.Right.{Right}

pub later_none : (x : ℕ) → later x 0 ≡ x
unfolding later
later_none x = refl

pub later_more : (x n : ℕ) → later x (n + 1) ≡ next (later x n)
unfolding later
later_more x n = rw add-one refl

pub later_later : (x m n : ℕ) → later (later x m) n ≡ later x (m + n)
unfolding later
later_later x m zero = sym (ap (later x) (add-zero m))
later_later x m (suc n) = ap next (later_later x m n) ∙ sym (ap (later x) (add-suc m n))

pub list_of_none : {X : Type 0} → (f : ℕ → X) → list_of 0 f ≡ []
unfolding list_of
list_of_none f = refl

pub list_of_more : {X : Type 0} → (n : ℕ) (f : ℕ → X) → list_of (n + 1) f ≡ list_of n f ++ f n ∷ []
unfolding list_of
list_of_more n f = rw add-one refl

-- an entry more, in a list that is made entry by entry, alone or after others
pub list_grows : {X : Type 0} → (n : ℕ) (f : ℕ → X) (made now : List X) (x : X) → now ≡ made ++ x ∷ [] → x ≡ f n →
    made ≡ list_of n f → now ≡ list_of (n + 1) f
list_grows n f made now x push is before =
    push
    ∙ (ap (λ l. l ++ x ∷ []) before ∙ (ap (λ y. list_of n f ++ y ∷ []) is ∙ sym (list_of_more n f)))

pub list_appends : {X : Type 0} → (first : List X) (n : ℕ) (f : ℕ → X) (made now : List X) (x : X) →
    now ≡ made ++ x ∷ [] → x ≡ f n → made ≡ first ++ list_of n f → now ≡ first ++ list_of (n + 1) f
list_appends first n f made now x push is before =
    push
    ∙ (ap (λ l. l ++ x ∷ []) before
    ∙ (append_assoc first (list_of n f) (x ∷ [])
    ∙ ap (λ l. first ++ l) (list_grows n f (list_of n f) (list_of n f ++ x ∷ []) x refl is refl)))

-- as the code computes
pub next_wrapped : (x : ℕ) → (x * 6364136223846793005 % 2 ^ 64 + 1442695040888963407) % 2 ^ 64 ≡ next x
unfolding next
next_wrapped x = mod-add-mod (x * 6364136223846793005) (2 ^ 64) 1442695040888963407

pub drawn_wrapped : (x k : ℕ) →
    (x * 6364136223846793005 % 2 ^ 64 + 1442695040888963407) % 2 ^ 64 / 2 ^ 33 % k ≡ drawn x k
unfolding drawn
drawn_wrapped x k = ap (λ y. y / 2 ^ 33 % k) (next_wrapped x)

pub drawn_below : (x k : ℕ) → 0 < k → drawn x k < k
unfolding drawn
drawn_below x k h = omega arith

-- a node more
pub node_draws : (x i : ℕ) → later (later x (draws_of_nodes i)) (draws_of_node i) ≡ later x (draws_of_nodes (i + 1))
node_draws x i =
    let counts : draws_of_nodes i + draws_of_node i ≡ draws_of_nodes (i + 1) = grind (arith, nat_tests) in
    later_later x (draws_of_nodes i) (draws_of_node i) ∙ ap (later x) counts

-- two draws more
pub later_two : (x j : ℕ) → next (next (later x (2 * j))) ≡ later x (2 * (j + 1))
unfolding later
later_two x j = let two : suc (suc (2 * j)) ≡ 2 * (j + 1) = omega arith in ap (later x) two

-- the zones of a reservoir
pub zone_even : (j x : ℕ) → lower_zone_at j x ≡ zone_at (2 * j) x
unfolding zone_at
zone_even j x = let half : 2 * j / 2 ≡ j = omega arith in rw (eq-eqb (2 * j % 2) 0 (omega arith), half) refl

pub zone_odd : (j x : ℕ) → upper_zone_at j x ≡ zone_at (2 * j + 1) x
unfolding zone_at
zone_odd j x =
    let half : (2 * j + 1) / 2 ≡ j = omega arith in
    rw (ne_eqb ((2 * j + 1) % 2) 0 (λ e. omega arith), half) refl

pub zones_more : (j : ℕ) (f : ℕ → Right) →
    list_of (2 * (j + 1)) f ≡ list_of (2 * j) f ++ f (2 * j) ∷ [] ++ f (2 * j + 1) ∷ []
zones_more j f =
    let two : 2 * (j + 1) ≡ 2 * j + 1 + 1 = omega arith in
    rw two (list_of_more (2 * j + 1) f ∙ ap (λ l. l ++ f (2 * j + 1) ∷ []) (list_of_more (2 * j) f))

pub ruleset draws
    = (later_none, later_more, later_two, node_draws, list_of_none, list_of_more, zones_more, append_assoc, append-nil)

pub ruleset draws_in_place = (draws, common_steps)

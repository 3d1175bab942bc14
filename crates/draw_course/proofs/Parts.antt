-- What an arc stands for, by its number.
use Rattle.std.proofs.Common.{◌≡◌, ℕ, ◌+◌, ◌-◌, ◌<◌, ◌≤◌, Bool, true, false, ◌∙◌, ap, arith, inl, inr}
use Rattle.std.proofs.Common.{length}
use Rattle.std.proofs.lemmas.Bool.{cases_lt}
use Rattle.std.proofs.lemmas.Bool.Decides.{nat_tests}
use Rattle.std.specs.Prelude.{nat_lt, if◌then◌else◌}
use Rattle.finite_sums.specs.Sums.{total}
use Rattle.finite_sums.proofs.Totals.{total_append}
use Rattle.water_model.specs.declared.types.Basin.{Basin}
use Rattle.draw_course.specs.Arcs.{arc_count, take_arc, out_arc, draw_arc, part_of, part_amount, amount_at}
use Rattle.draw_course.specs.declared.arcs.Part.TheVariants.{Link, Take, Out, Draw}

yes : {A : Type 0} (t : Bool) (x y : A) → t ≡ true → (if t then x else y) ≡ x
yes t x y h = ap (λ (t : Bool). if t then x else y) h

no : {A : Type 0} (t : Bool) (x y : A) → t ≡ false → (if t then x else y) ≡ y
no t x y h = ap (λ (t : Bool). if t then x else y) h

is_below : (m n : ℕ) → m < n → nat_lt m n ≡ true
is_below m n l = grind (arith, nat_tests)

is_above : (m n : ℕ) → n ≤ m → nat_lt m n ≡ false
is_above m n l = grind (arith, nat_tests)

pub part_link : (links nodes e : ℕ) → e < links → part_of links nodes e ≡ Link e
part_link links nodes e l = yes (nat_lt e links) _ _ (is_below e links l)

pub part_take : (links nodes n : ℕ) → n < nodes → part_of links nodes (links + n) ≡ Take n
part_take links nodes n l =
    let e : links + n - links ≡ n = omega arith in
    no (nat_lt (links + n) links) _ _ (is_above (links + n) links (omega arith))
    ∙ yes (nat_lt (links + n - links) nodes) _ _ (is_below (links + n - links) nodes (omega (arith, e, l)))
    ∙ ap Take e

pub part_out : (links nodes n : ℕ) → n < nodes → part_of links nodes (links + (nodes + n)) ≡ Out n
part_out links nodes n l =
    let a = links + (nodes + n) in
    let e : a - links - nodes ≡ n = omega arith in
    no (nat_lt a links) _ _ (is_above a links (omega arith))
    ∙ no (nat_lt (a - links) nodes) _ _ (is_above (a - links) nodes (omega arith))
    ∙ yes (nat_lt (a - links - nodes) nodes) _ _ (is_below (a - links - nodes) nodes (omega (arith, e, l)))
    ∙ ap Out e

pub part_draw : (links nodes k : ℕ) → part_of links nodes (links + (nodes + (nodes + k))) ≡ Draw k
part_draw links nodes k =
    let a = links + (nodes + (nodes + k)) in
    let e : a - links - nodes - nodes ≡ k = omega arith in
    no (nat_lt a links) _ _ (is_above a links (omega arith))
    ∙ no (nat_lt (a - links) nodes) _ _ (is_above (a - links) nodes (omega arith))
    ∙ no (nat_lt (a - links - nodes) nodes) _ _ (is_above (a - links - nodes) nodes (omega arith))
    ∙ ap Draw e

-- the amount of an arc by what it stands for
pub amount_link : (b : Basin) (f g h i : ℕ → ℕ) (e : ℕ) → e < length b.links → amount_at b f g h i e ≡ f e
amount_link b f g h i e l = ap (part_amount f g h i) (part_link (length b.links) (length b.nodes) e l)

pub amount_take : (b : Basin) (f g h i : ℕ → ℕ) (n : ℕ) → n < length b.nodes → amount_at b f g h i (take_arc b n) ≡ g n
amount_take b f g h i n l = ap (part_amount f g h i) (part_take (length b.links) (length b.nodes) n l)

pub amount_out : (b : Basin) (f g h i : ℕ → ℕ) (n : ℕ) → n < length b.nodes → amount_at b f g h i (out_arc b n) ≡ h n
amount_out b f g h i n l = ap (part_amount f g h i) (part_out (length b.links) (length b.nodes) n l)

pub amount_draw : (b : Basin) (f g h i : ℕ → ℕ) (k : ℕ) → amount_at b f g h i (draw_arc b k) ≡ i k
amount_draw b f g h i k = ap (part_amount f g h i) (part_draw (length b.links) (length b.nodes) k)

-- the kinds of arcs
pub data IsArc (b : Basin) (draws a : ℕ) : Type 0 where
  is_link : a < length b.links → IsArc b draws a
  is_take : (n : ℕ) → n < length b.nodes → take_arc b n ≡ a → IsArc b draws a
  is_out : (n : ℕ) → n < length b.nodes → out_arc b n ≡ a → IsArc b draws a
  is_draw : (k : ℕ) → k < draws → draw_arc b k ≡ a → IsArc b draws a

pub arc_is : (b : Basin) (draws a : ℕ) → a < arc_count b draws → IsArc b draws a
arc_is b draws a l = elim (cases_lt a (length b.links)) [
  | inl link ↦ is_link link
  | inr past_links ↦ elim (cases_lt a (length b.links + length b.nodes)) [
    | inl take ↦ is_take (a - length b.links) (omega arith) (omega arith)
    | inr past_takes ↦ elim (cases_lt a (length b.links + (length b.nodes + length b.nodes))) [
      | inl out ↦ is_out (a - length b.links - length b.nodes) (omega arith) (omega arith)
      | inr draw ↦ is_draw (a - length b.links - length b.nodes - length b.nodes) (omega arith) (omega arith)
    ]
  ]
]

-- a sum over all arcs
pub arcs_total : (b : Basin) (draws : ℕ) (f : ℕ → ℕ) →
    total (arc_count b draws) f ≡ total (length b.links) f
    + (total (length b.nodes) (λ n. f (take_arc b n))
    + (total (length b.nodes) (λ n. f (out_arc b n)) + total draws (λ k. f (draw_arc b k))))
arcs_total b draws f =
    omega (
      arith,
      total_append (length b.links) (length b.nodes + (length b.nodes + draws)) f,
      total_append (length b.nodes) (length b.nodes + draws) (λ k. f (length b.links + k)),
      total_append (length b.nodes) draws (λ k. f (length b.links + (length b.nodes + k))),
    )

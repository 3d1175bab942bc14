-- How many lines may still come.
use Rattle.std.proofs.Common.{inl, inr, ◌≡◌, ℕ, zero, suc, ◌+◌, ◌*◌, ◌^◌, ◌≤◌, Bool, refl, ap, ◌∙◌, arith}
use Rattle.std.proofs.Common.{List, [], ◌∷◌, ◌++◌, length, map, length-append, mul_comm}
use Rattle.std.specs.Prelude.{Some}
use Rattle.std.specs.List.{flat_map}
use Rattle.std.proofs.Math.Nat.{mul-le-mul}
use Rattle.std.proofs.lemmas.List.Sums.{sum_by-append, sum_by-cons}
use Rattle.water_model.proofs.Entries.{bounded_in, length-in_order}
use Rattle.water_model.proofs.Order.{length-numbers_from}
use Rattle.water_model.specs.Entries.{count_in, in_order}
use Rattle.water_model.specs.Indices.{numbers_from}
use Rattle.result_lines.specs.Text.{section_space}
use Rattle.water_model.specs.Hydrology.{run_month}
use Rattle.water_model.specs.Valid.{IsValidBasin}
use Rattle.result_lines.specs.declared.item.Item.{Item}
use Rattle.result_lines.specs.declared.item.Section.{Section}
use Rattle.result_lines.specs.declared.item.Section.TheVariants as section
use Rattle.result_lines.specs.declared.item.TheConstants.{SECTIONS}
use Rattle.water_model.specs.declared.types.Basin.{Basin}
use Rattle.result_reader.specs.Due.{opened, take_line, step}
use Rattle.result_reader.specs.Form.{shape_of, shapes_at, shapes_in, due, due_in_month}
use Rattle.result_reader.specs.Form.{due_for_month, due_from}
use Rattle.result_reader.specs.Standing.{most_for, max_lines}
use Rattle.result_reader.specs.declared.shape.Shape.{Shape}
use Rattle.result_reader.specs.declared.shape.Shape.TheVariants as shape
use Rattle.result_reader.proofs.Grammar.{plain, IsPlain, call, other}
use Rattle.result_reader.proofs.Steps.{step_open, step_shut, Within, takes}

-- each line that is due is at least one line
most_for-some : (b : Basin) (d : Shape) → 1 ≤ most_for b d
most_for-some b d = grind arith

-- n lines for each entry of a list
max_lines-map : (b : Basin) (f : ℕ → Shape) (n : ℕ) → ((x : ℕ) → most_for b (f x) ≡ n) → (xs : List ℕ) →
    max_lines b (map f xs) ≡ n * length xs
max_lines-map b f n h [] = omega arith
max_lines-map b f n h (x ∷ xs) =
    sum_by-cons (most_for b) (f x) (map f xs)
    ∙ more (most_for b (f x)) (max_lines b (map f xs)) (length xs) (h x) (max_lines-map b f n h xs)
  where
    more : (w m k : ℕ) → w ≡ n → m ≡ n * k → w + m ≡ n * suc k
    more w m k e g = omega arith

-- the lines that a line opens are fewer than those that were due for it
opened-fewer : (b : Basin) (i : Item) → max_lines b (opened b i) + 1 ≤ most_for b (shape_of i)
opened-fewer b i = by_item (plain b i)
  where
    by_item : IsPlain b i → max_lines b (opened b i) + 1 ≤ most_for b (shape_of i)
    by_item (call right is) =
        rw is (omega (
          arith,
          max_lines-map b (λ n. shape.Member n) 1 (λ n. refl) (numbers_from 0 (length b.nodes)),
          length-numbers_from 0 (length b.nodes),
        ))
    by_item (other none still nothing empty) = rw none (most_for-some b (shape_of i))

within-fewer : (b : Basin) (ds es : List Shape) → Within ds es → max_lines b ds ≤ max_lines b es
within-fewer b ds [] h = rw h (omega arith)
within-fewer b ds (e ∷ es) (inl (o, k)) = omega (arith, within-fewer b ds es k, sum_by-cons (most_for b) e es)
within-fewer b ds (e ∷ es) (inr (rest, is, k)) =
    rw is (omega (arith, within-fewer b rest es k, sum_by-cons (most_for b) e es, sum_by-cons (most_for b) e rest))

take_line-fewer : (b : Basin) (ds : List Shape) (i : Item) (es : List Shape) → take_line b ds i ≡ Some es →
    max_lines b es + 1 ≤ max_lines b ds
take_line-fewer b ds i es h =
    let t = takes b ds i es h in
    let fewer = within-fewer b (shape_of i ∷ t.0) ds t.2 in
    rw (t.1, sum_by-append (most_for b) (opened b i) t.0)
    (omega (arith, opened-fewer b i, fewer, sum_by-cons (most_for b) (shape_of i) t.0))

-- with each line that comes fewer are left
pub step-fewer : (b : Basin) (must : Bool) (ds : List Shape) (i : Item) (es : List Shape) → step b must ds i ≡ Some es →
    max_lines b es + 1 ≤ max_lines b ds
step-fewer b must ds i es h = grind (arith, step_shut, take_line-fewer, step_open)

-- At first.

-- n more lines than lines that are due
abbrev Exceeds : Basin → List Shape → ℕ → Type 0
Exceeds b ds n = max_lines b ds ≡ length ds + n

exceed_both : (b : Basin) (ds es : List Shape) (n m : ℕ) → Exceeds b ds n → Exceeds b es m →
    Exceeds b (ds ++ es) (n + m)
exceed_both b ds es n m h k = sum_by-append (most_for b) ds es ∙ omega (arith, length-append ds es)

-- how many more for an entry of a section: for a right that may have a `call` the nodes
abbrev more_for : Section → Basin → ℕ
more_for (section.Amounts q) b = 0
more_for section.Deliveries b = 0
more_for section.Calls b = length b.nodes
more_for section.Called b = 0

exceed_entry : (b : Basin) (k : Section) (x : ℕ) → Exceeds b (shapes_at k b x) (more_for k b)
exceed_entry b k x = grind arith

exceed_entries : (b : Basin) (k : Section) (xs : List ℕ) →
    Exceeds b (flat_map (shapes_at k b) xs) (more_for k b * length xs)
exceed_entries b k [] = omega arith
exceed_entries b k (x ∷ xs) =
    exceed_both b (shapes_at k b x) (flat_map (shapes_at k b) xs) (more_for k b) (more_for k b * length xs)
    (exceed_entry b k x) (exceed_entries b k xs)
    ∙ ap (λ n. length (flat_map (shapes_at k b) (x ∷ xs)) + n) (step (more_for k b) (length xs))
  where
    step : (n k : ℕ) → n + n * k ≡ n * suc k
    step n k = omega arith

-- and for all sections of some
abbrev more_in : Basin → List Section → ℕ
more_in b [] = 0
more_in b (k ∷ ks) = more_for k b * count_in (section_space k) b + more_in b ks

exceed_sections : (b : Basin) (ks : List Section) → Exceeds b (flat_map (λ k. shapes_in k b) ks) (more_in b ks)
exceed_sections b [] = refl
exceed_sections b (k ∷ ks) =
    exceed_both b (shapes_in k b) (flat_map (λ k. shapes_in k b) ks) (more_for k b * count_in (section_space k) b)
    (more_in b ks) (exceed_entries b k (in_order (section_space k) b)
    ∙ ap (λ n. length (shapes_in k b) + more_for k b * n) (length-in_order (section_space k) b)) (exceed_sections b ks)

-- what is due in a month: a line for each, and for each right that may have a `call` the nodes
pub most_in_month : (b : Basin) →
    max_lines b (due_in_month b) ≡ length (due_in_month b) + length b.nodes * length b.rights
unfolding due_in_month
most_in_month b =
    exceed_both b (flat_map (λ k. shapes_in k b) SECTIONS) (shape.End ∷ []) (more_in b SECTIONS) 0
    (exceed_sections b SECTIONS) refl
    ∙ ap (λ n. length (due_in_month b) + n) (all (length b.reservoirs) (length b.nodes) (length b.links)
    (length b.rights))
  where
    all : (v n e r : ℕ) →
        0 * v + (0 * v + (0 * n + (0 * r + (0 * e + (0 * r + (0 * n + (n * r + (0 * r + (0 * v + 0))))))))) + 0 ≡ n * r
    all v n e r = omega arith

-- what is due in a month is not much
bounded_entry : (b : Basin) (k : Section) (x : ℕ) → length (shapes_at k b x) ≤ 1
bounded_entry b k x = grind arith

bounded_entries : (b : Basin) (k : Section) (xs : List ℕ) → length (flat_map (shapes_at k b) xs) ≤ length xs
bounded_entries b k [] = omega arith
bounded_entries b k (x ∷ xs) =
    omega (
      arith,
      length-append (shapes_at k b x) (flat_map (shapes_at k b) xs),
      bounded_entry b k x,
      bounded_entries b k xs,
    )

bounded_sections : (b : Basin) → IsValidBasin b → (ks : List Section) →
    length (flat_map (λ k. shapes_in k b) ks) ≤ 4000 * length ks
bounded_sections b valid [] = omega arith
bounded_sections b valid (k ∷ ks) =
    omega (
      arith,
      length-append (shapes_in k b) (flat_map (λ k. shapes_in k b) ks),
      bounded_entries b k (in_order (section_space k) b),
      length-in_order (section_space k) b,
      bounded_in (section_space k) b valid,
      bounded_sections b valid ks,
    )

pub bounded_due : (b : Basin) → IsValidBasin b → length (due_in_month b) ≤ 50000
unfolding due_in_month
bounded_due b valid =
    omega (
      arith,
      length-append (flat_map (λ k. shapes_in k b) SECTIONS) (shape.End ∷ []),
      bounded_sections b valid SECTIONS,
    )

-- what is due in a run
months : (b : Basin) (n from count : ℕ) → max_lines b (due_in_month b) ≡ n →
    max_lines b (flat_map (due_for_month b) (numbers_from from count)) ≡ count * (1 + n)
unfolding numbers_from
months b n from zero h = omega arith
months b n from (suc count) h =
    sum_by-append (most_for b) (due_for_month b from) (flat_map (due_for_month b) (numbers_from (suc from) count))
    ∙ more (max_lines b (due_for_month b from))
    (max_lines b (flat_map (due_for_month b) (numbers_from (suc from) count)))
    (sum_by-cons (most_for b) (shape.Month (run_month b from)) (due_in_month b) ∙ ap (λ k. 1 + k) h)
    (months b n (suc from) count h)
  where
    more : (x y : ℕ) → x ≡ 1 + n → y ≡ count * (1 + n) → x + y ≡ suc count * (1 + n)
    more x y e g = omega arith

pub most_in_run : (b : Basin) (n : ℕ) → max_lines b (due_in_month b) ≡ n → max_lines b (due b) ≡ b.months * (1 + n) + 3
unfolding due
most_in_run b n h =
    sum_by-cons (most_for b) shape.Title (shape.Run ∷ due_from b 0 b.months)
    ∙ (ap (λ k. 1 + k) (sum_by-cons (most_for b) shape.Run (due_from b 0 b.months) ∙ ap (λ k. 1 + k)
    (sum_by-append (most_for b) (flat_map (due_for_month b) (numbers_from 0 b.months)) (shape.Done b.months ∷ [])))
    ∙ last (max_lines b (flat_map (due_for_month b) (numbers_from 0 b.months))) (months b n 0 b.months h))
  where
    last : (x : ℕ) → x ≡ b.months * (1 + n) → 1 + (1 + (x + 1)) ≡ b.months * (1 + n) + 3
    last x e = omega arith

-- a bound on a run's lines
pub most_of_run : (b : Basin) (dues count nodes rights : ℕ) → dues ≡ length (due_in_month b) → count ≡ b.months →
    nodes ≡ length b.nodes → rights ≡ length b.rights → max_lines b (due b) ≡ count * (1 + dues + rights * nodes) + 3
most_of_run b dues count nodes rights d m n r =
    most_in_run b (length (due_in_month b) + length b.nodes * length b.rights) (most_in_month b)
    ∙ rw (d, m, n, r) (same b.months (length (due_in_month b)) (length b.nodes) (length b.rights))
  where
    same : (m d n r : ℕ) → m * (1 + (d + n * r)) + 3 ≡ m * (1 + d + r * n) + 3
    same m d n r = ap (λ k. m * k + 3) (let p : n * r ≡ r * n = mul_comm n r in omega arith)

-- which is small
pub bounded_lines : (dues count nodes rights : ℕ) → dues ≤ 50000 → count ≤ 1200 → nodes ≤ 2000 → rights ≤ 2000 →
    count * (1 + dues + rights * nodes) + 3 ≤ 5 * 10 ^ 9
bounded_lines dues count nodes rights d m n r = grind (arith, mul-le-mul)

pub ruleset run_lines = (bounded_due, bounded_lines, most_of_run)

-- The machine accepts the prefixes of what has the form.
use Rattle.std.proofs.Common.{◌≡◌, ℕ, zero, suc, ◌<◌, Bool, true, false, refl, sym, ◌∙◌, ap, subst, arith, List, []}
use Rattle.std.proofs.Common.{◌∷◌, ◌++◌, length, inl}
use Rattle.std.specs.Prelude.{◌&&◌, not, Option, Some, None}
use Rattle.std.specs.List.{flat_map}
use Rattle.std.specs.Option.{option_and_then}
use Rattle.std.proofs.lemmas.List.Folds.{list_all-append}
use Rattle.water_model.specs.declared.types.Basin.{Basin}
use Rattle.water_model.specs.Indices.{numbers_from}
use Rattle.result_reader.specs.Form.{shape_of, is_optional, is_allowed, shapes_at, due, due_in_month}
use Rattle.result_reader.specs.Form.{due_from, IsPrefix}
use Rattle.result_reader.specs.Due.{is_call, is_member, is_member_shape, opened, step, Due, all_due}
use Rattle.result_reader.specs.Due.{due_after}
use Rattle.result_lines.specs.declared.item.Item.{Item}
use Rattle.result_lines.specs.declared.item.Item.TheVariants as line
use Rattle.result_lines.specs.declared.item.Section.{Section}
use Rattle.result_reader.specs.declared.shape.Shape.{Shape}
use Rattle.result_reader.specs.declared.shape.Shape.TheVariants as shape
use Rattle.result_reader.proofs.Steps.{nodes_from, accepts, accepts_step, steps_to, StepsTo, accepts_within}
use Rattle.result_reader.proofs.Steps.{within_itself, Takes, takes}
use Rattle.result_reader.proofs.Grammar.{has_no_members, fills_accepted, accepted_fills, plain, IsPlain, call, other}
use Rattle.result_reader.proofs.Steps.{fits_itself, take_fits, step_open, step_shut}

-- No `in` line is due at first.

pub append_no_members : (xs ys : List Shape) → has_no_members xs ≡ true → has_no_members ys ≡ true →
    has_no_members (xs ++ ys) ≡ true
append_no_members xs ys h k = list_all-append (λ d. not (is_member_shape d)) xs ys ∙ rw (h, k) refl

flat_no_members : {X : Type 0} (f : X → List Shape) → ((x : X) → has_no_members (f x) ≡ true) → (xs : List X) →
    has_no_members (flat_map f xs) ≡ true
flat_no_members f h [] = refl
flat_no_members f h (x ∷ xs) = append_no_members (f x) (flat_map f xs) (h x) (flat_no_members f h xs)

at_no_members : (section : Section) (b : Basin) (entry : ℕ) → has_no_members (shapes_at section b entry) ≡ true
at_no_members s b entry = grind arith

pub in_month_no_members : (b : Basin) → has_no_members (due_in_month b) ≡ true
unfolding due_in_month
in_month_no_members b = grind (arith, append_no_members, flat_no_members, at_no_members)

pub from_no_members : (b : Basin) (i count : ℕ) → has_no_members (due_from b i count) ≡ true
from_no_members b i count = grind (arith, append_no_members, flat_no_members, in_month_no_members)

pub due_no_members : (b : Basin) → has_no_members (due b) ≡ true
unfolding due
due_no_members b = from_no_members b 0 b.months

-- Whatever is due can be completed.

-- a line that fills a line that is due
abbrev filler : Shape → Item
filler shape.Title = line.Title
filler shape.Run = line.Run (record { year = 1800; month = 1 }) 1
filler (shape.Month month) = line.Month month
filler (shape.Amount q entry) = line.Amount q entry 0
filler (shape.Deliver right) = line.Deliver right 0 0
filler (shape.Call right) = line.Call right
filler (shape.Member node) = line.Member node
filler (shape.Called right) = line.Called right right
filler shape.End = line.End
filler (shape.Done months) = line.Done months

-- what can be completed
pub record Completes (b : Basin) (must : Bool) (ds : List Shape) : Type 0 where
  pub rest : List Item
  pub accepted : accepts b must ds rest ≡ true

completes : (b : Basin) (ds : List Shape) → Completes b false ds
completes b [] = record { rest = []; accepted = refl }
completes b (d ∷ ds) = by_shape d (completes b ds)
  where
    needed : (i : Item) → is_allowed b i ≡ true → opened b i ≡ [] → is_call i ≡ false → Completes b false ds →
        Completes b false (shape_of i ∷ ds)
    needed i allowed none still c = record {
      rest = i ∷ c.rest;
      accepted =
          accepts_step b false (shape_of i ∷ ds) (opened b i ++ ds) i c.rest
          (take_fits b (shape_of i) ds i (fits_itself b i allowed)) ∙ rw (none, still) c.accepted;
    }

    left_out : (d : Shape) → is_optional d ≡ true → Completes b false ds → Completes b false (d ∷ ds)
    left_out d o c =
        record {
          rest = c.rest;
          accepted = accepts_within b false ds (d ∷ ds) c.rest (inl (o, within_itself ds)) c.accepted;
        }

    by_shape : (d : Shape) → Completes b false ds → Completes b false (d ∷ ds)
    by_shape shape.Title c = needed line.Title refl refl refl c
    by_shape shape.Run c = needed (filler shape.Run) refl refl refl c
    by_shape (shape.Month month) c = needed (line.Month month) refl refl refl c
    by_shape (shape.Amount q entry) c = needed (line.Amount q entry 0) refl refl refl c
    by_shape (shape.Deliver right) c = needed (line.Deliver right 0 0) refl refl refl c
    by_shape (shape.Call right) c = left_out (shape.Call right) refl c
    by_shape (shape.Member node) c = left_out (shape.Member node) refl c
    by_shape (shape.Called right) c = left_out (shape.Called right) refl c
    by_shape shape.End c = needed line.End refl refl refl c
    by_shape (shape.Done months) c = needed (line.Done months) refl refl refl c

-- after a `call` there is a node to name
abbrev CanGoOn : Due → Type 0
CanGoOn s = s.must ≡ true → (node : ℕ) × (ds : List Shape) × (s.dues ≡ shape.Member node ∷ ds)

completes_all : (b : Basin) (s : Due) → CanGoOn s → Completes b s.must s.dues
completes_all b s h = by_must s.must refl
  where
    by_must : (m : Bool) → s.must ≡ m → Completes b s.must s.dues
    by_must false e = rw e (completes b s.dues)
    by_must true e = named (h e)
      where
        named : (node : ℕ) × (ds : List Shape) × (s.dues ≡ shape.Member node ∷ ds) → Completes b s.must s.dues
        named (node, ds, is) = rw (e, is) (record {
          rest = line.Member node ∷ (completes b ds).rest;
          accepted = accepts_step b true (shape.Member node ∷ ds) ds (line.Member node) (completes b ds).rest
              (take_fits b (shape.Member node) ds (line.Member node) (fits_itself b (line.Member node) refl))
              ∙ (completes b ds).accepted;
        })

-- what some lines leave due
abbrev LeavesDue : Basin → Due → List Item → List Item → Type 0
LeavesDue b s items others = (t : Due) × (due_after b s items ≡ Some t) × (accepts b t.must t.dues others ≡ true)

accepted_prefix : (b : Basin) (s : Due) (items others : List Item) → accepts b s.must s.dues (items ++ others) ≡ true →
    LeavesDue b s items others
accepted_prefix b s [] others h = (s, refl, h)
accepted_prefix b s (i ∷ is) others h =
    by_step (steps_to b s.must s.dues i (is ++ others) h) (λ t j. accepted_prefix b t is others j)
  where
    by_step : StepsTo b s.must s.dues i (is ++ others) →
        ((t : Due) → accepts b t.must t.dues (is ++ others) ≡ true → LeavesDue b t is others) →
        LeavesDue b s (i ∷ is) others
    by_step (es, e, j) further =
        let t = further (record { must = is_call i; dues = es }) j in
        (t.0, rw e t.1, t.2)

-- the first of the lines comes, and then the others
due_first : (b : Basin) (s t : Due) (i : Item) (is : List Item) → due_after b s (i ∷ is) ≡ Some t →
    (es : List Shape) × (step b s.must s.dues i ≡ Some es) ×
    (due_after b (record { must = is_call i; dues = es }) is ≡ Some t)
due_first b s t i is h = by_step (step b s.must s.dues i) refl
  where
    after : Option (List Shape) → Option Due
    after o = option_and_then (λ ds. due_after b (record { must = is_call i; dues = ds }) is) o

    by_step : (o : Option (List Shape)) → step b s.must s.dues i ≡ o → (es : List Shape) ×
        (step b s.must s.dues i ≡ Some es) × (due_after b (record { must = is_call i; dues = es }) is ≡ Some t)
    by_step None e = let none : None ≡ Some t = sym (ap after e) ∙ h in cc
    by_step (Some es) e = (es, e, sym (ap after e) ∙ h)

accepted_after : (b : Basin) (s t : Due) (items others : List Item) → due_after b s items ≡ Some t →
    accepts b t.must t.dues others ≡ true → accepts b s.must s.dues (items ++ others) ≡ true
accepted_after b s t [] others h a = let same : s ≡ t = cc in rw same a
accepted_after b s t (i ∷ is) others h a =
    let f = due_first b s t i is h in
    accepts_step b s.must s.dues f.0 i (is ++ others) f.1
    ∙ accepted_after b (record { must = is_call i; dues = f.0 }) t is others f.2 a

-- A `call` opens an `in` line of the first node.

pub step_can_go_on : (b : Basin) → 0 < length b.nodes → (must : Bool) (ds : List Shape) (i : Item) (es : List Shape) →
    step b must ds i ≡ Some es → CanGoOn (record { must = is_call i; dues = es })
unfolding numbers_from
step_can_go_on b some must ds i es h = by_guard (must && not (is_member i)) refl
  where
    first : (b : Basin) → 0 < length b.nodes → (right : ℕ) (rest : List Shape) →
        (node : ℕ) × (ds : List Shape) × (opened b (line.Call right) ++ rest ≡ shape.Member node ∷ ds)
    first b some right rest = by_count (length b.nodes) some
      where
        by_count : (n : ℕ) → 0 < n → (node : ℕ) × (ds : List Shape) ×
            (nodes_from 0 n ++ rest ≡ shape.Member node ∷ ds)
        by_count zero l = absurd (omega arith)
        by_count (suc n) l = (0, nodes_from 1 n ++ rest, refl)

    by_opening : Takes b ds i es → IsPlain b i → CanGoOn (record { must = is_call i; dues = es })
    by_opening (rest, is, _) (call right here) t =
        let f = first b some right rest in
        (f.0, f.1, is ∙ (ap (λ x. opened b x ++ rest) here ∙ f.2))
    by_opening (rest, is, _) (other none still nothing empty) t = let no : false ≡ true = sym still ∙ t in cc

    by_guard : (g : Bool) → must && not (is_member i) ≡ g → CanGoOn (record { must = is_call i; dues = es })
    by_guard true g = let none : None ≡ Some es = sym (step_shut b must ds i g) ∙ h in cc
    by_guard false g = by_opening (takes b ds i es (sym (step_open b must ds i g) ∙ h)) (plain b i)

pub due_can_go_on : (b : Basin) → 0 < length b.nodes → (s t : Due) (items : List Item) → CanGoOn s →
    due_after b s items ≡ Some t → CanGoOn t
due_can_go_on b some s t [] c h = let same : s ≡ t = cc in subst CanGoOn same c
due_can_go_on b some s t (i ∷ is) c h =
    let f = due_first b s t i is h in
    due_can_go_on b some (record { must = is_call i; dues = f.0 }) t is
    (step_can_go_on b some s.must s.dues i f.0 f.1) f.2

-- The prefixes are what the machine accepts.

pub prefix_due : (b : Basin) (items : List Item) → IsPrefix b items → (t : Due) ×
    (due_after b (all_due b) items ≡ Some t)
prefix_due b items f =
    let l = accepted_prefix b (all_due b) items f.rest (fills_accepted b (due b) (items ++ f.rest) f.whole) in
    (l.0, l.1)

pub due_prefix : (b : Basin) → 0 < length b.nodes → (items : List Item) (t : Due) →
    due_after b (all_due b) items ≡ Some t → IsPrefix b items
due_prefix b some items t h =
    let c : Completes b t.must t.dues = completes_all b t (due_can_go_on b some (all_due b) t items (λ no. cc) h) in
    record {
      rest = c.rest;
      whole = accepted_fills b (due b) (items ++ c.rest) (due_no_members b)
          (accepted_after b (all_due b) t items c.rest h c.accepted);
    }

-- one more line
pub due_more : (b : Basin) (s t : Due) (items : List Item) (i : Item) → due_after b s items ≡ Some t →
    due_after b s (items ++ i ∷ []) ≡ option_and_then (λ ds. Some (record { must = is_call i; dues = ds }))
    (step b t.must t.dues i)
due_more b s t [] i h = let same : s ≡ t = cc in rw same refl
due_more b s t (x ∷ xs) i h =
    let f = due_first b s t x xs h in
    rw f.1 (due_more b (record { must = is_call x; dues = f.0 }) t xs i f.2)

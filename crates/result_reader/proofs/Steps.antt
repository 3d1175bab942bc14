-- A small machine that accepts the prefixes of what fills the lines that are due, and its steps.
use Rattle.std.proofs.Common.{map, arith, ◌≡◌, ℕ, Bool, true, false, refl, sym, ◌∙◌, ap, subst, List, [], ◌∷◌, ◌++◌}
use Rattle.std.proofs.Common.{inl}
use Rattle.std.proofs.Common.{inr}
use Rattle.std.specs.Prelude.{◌&&◌, not, ◌⊎◌, Option, Some, None, if◌then◌else◌, ◌==◌, slice_index}
use Rattle.std.specs.List.{list_all}
use Rattle.std.specs.Option.{option_map_or}
use Rattle.std.proofs.lemmas.Bool.{and_parts}
use Rattle.std.proofs.lemmas.Slice.Eq.{bytes_eq-Decides}
use Rattle.result_lines.specs.declared.quantity.Quantity.{Quantity}
use Rattle.result_lines.specs.declared.quantity.Quantity.TheVariants as quantity
use Rattle.water_model.specs.declared.types.Basin.{Basin}
use Rattle.result_reader.specs.Form.{shape_of, number_of, key_of, is_same_shape, is_optional, is_allowed, fits}
use Rattle.result_reader.specs.Due.{is_call, is_member, opened, take_line, step}
use Rattle.water_model.specs.Indices.{numbers_from}
use Rattle.result_lines.specs.declared.item.Item.{Item}
use Rattle.result_reader.specs.declared.shape.Shape.{Shape}
use Rattle.result_reader.specs.declared.shape.Shape.TheVariants as shape

-- whether the lines come to an end
abbrev pub accepts : Basin → Bool → List Shape → List Item → Bool
accepts b must ds [] = not must && list_all is_optional ds
accepts b must ds (item ∷ items) = option_map_or (λ es. accepts b (is_call item) es items) (step b must ds item) false

-- `in` lines of this many nodes, from one on
abbrev pub nodes_from : ℕ → ℕ → List Shape
nodes_from k n = map (λ j. shape.Member j) (numbers_from k n)

-- Shapes with one key are equal.

abbrev quantity_at : ℕ → Quantity
quantity_at n =
    if n == 0 then quantity.Opening
    else (if n == 1 then quantity.Evaporated
    else (if n == 2 then quantity.Returned
    else (if n == 3 then quantity.Used
    else (if n == 4 then quantity.Flow
    else (if n == 5 then quantity.Outflow else quantity.Closing)))))

quantity_at-number_of : (q : Quantity) → quantity_at (number_of q) ≡ q
quantity_at-number_of q = grind arith

abbrev of_key : List ℕ → Shape
of_key [] = shape.Title
of_key (w ∷ xs) =
    if w == 0 then shape.Title
    else (if w == 1 then shape.Run
    else (if w == 2 then shape.Month (record { year = slice_index xs 0; month = slice_index xs 1 })
    else (if w == 3 then shape.Amount (quantity_at (slice_index xs 0)) (slice_index xs 1)
    else (if w == 4 then shape.Deliver (slice_index xs 0)
    else (if w == 5 then shape.Call (slice_index xs 0)
    else (if w == 6 then shape.Member (slice_index xs 0)
    else (if w == 7 then shape.Called (slice_index xs 0)
    else (if w == 8 then shape.End else shape.Done (slice_index xs 0)))))))))

of_key-key_of : (s : Shape) → of_key (key_of s) ≡ s
of_key-key_of s = grind (arith, quantity_at-number_of)

pub same_shape_is : (a b : Shape) → is_same_shape a b ≡ true → a ≡ b
unfolding is_same_shape
same_shape_is a b h = grind (arith, bytes_eq-Decides, of_key-key_of)

pub same_shape_itself : (a : Shape) → is_same_shape a a ≡ true
unfolding is_same_shape
same_shape_itself a = (bytes_eq-Decides (key_of a) (key_of a)).1 refl

-- What fits.

pub fits_shape : (b : Basin) (d : Shape) (i : Item) → fits b d i ≡ true → d ≡ shape_of i
unfolding fits
fits_shape b d i h = same_shape_is d (shape_of i) (and_parts (is_same_shape d (shape_of i)) (is_allowed b i) h).0

pub fits_itself : (b : Basin) (i : Item) → is_allowed b i ≡ true → fits b (shape_of i) i ≡ true
unfolding fits
fits_itself b i h = rw (same_shape_itself (shape_of i)) h

-- One step.

pub take_fits : (b : Basin) (d : Shape) (ds : List Shape) (i : Item) → fits b d i ≡ true →
    take_line b (d ∷ ds) i ≡ Some (opened b i ++ ds)
take_fits b d ds i h = rw h refl

pub take_skips : (b : Basin) (d : Shape) (ds : List Shape) (i : Item) → fits b d i ≡ false → is_optional d ≡ true →
    take_line b (d ∷ ds) i ≡ take_line b ds i
take_skips b d ds i h o = rw (h, o) refl

pub take_stops : (b : Basin) (d : Shape) (ds : List Shape) (i : Item) → fits b d i ≡ false → is_optional d ≡ false →
    take_line b (d ∷ ds) i ≡ None
take_stops b d ds i h o = rw (h, o) refl

-- The same with some optional lines more.

abbrev pub Within : List Shape → List Shape → Type 0
Within ds [] = ds ≡ []
Within ds (e ∷ es) = ((is_optional e ≡ true) × Within ds es) ⊎ ((rest : List Shape) × (ds ≡ e ∷ rest) × Within rest es)

pub within_itself : (ds : List Shape) → Within ds ds
within_itself [] = refl
within_itself (d ∷ ds) = inr (ds, refl, within_itself ds)

within_trans : (cs ds es : List Shape) → Within cs ds → Within ds es → Within cs es
within_trans cs ds [] h k = subst (λ (xs : List Shape). Within cs xs) k h
within_trans cs ds (e ∷ es) h (inl (o, k)) = inl (o, within_trans cs ds es h k)
within_trans cs ds (e ∷ es) h (inr (rest, same, k)) =
    by_kept (λ xs j. within_trans xs rest es j k) (subst (λ (xs : List Shape). Within cs xs) same h)
  where
    by_kept : ((xs : List Shape) → Within xs rest → Within xs es) → Within cs (e ∷ rest) → Within cs (e ∷ es)
    by_kept further (inl (o, j)) = inl (o, further cs j)
    by_kept further (inr (first, is, j)) = inr (first, is, further first j)

within_after : (xs ds es : List Shape) → Within ds es → Within (xs ++ ds) (xs ++ es)
within_after [] ds es h = h
within_after (x ∷ xs) ds es h = inr (xs ++ ds, refl, within_after xs ds es h)

-- what a line leaves: after the line that is due for it, with optional lines before that left out
abbrev pub Takes : Basin → List Shape → Item → List Shape → Type 0
Takes b ds i after = (rest : List Shape) × (after ≡ opened b i ++ rest) × Within (shape_of i ∷ rest) ds

pub takes : (b : Basin) (ds : List Shape) (i : Item) (after : List Shape) → take_line b ds i ≡ Some after →
    Takes b ds i after
takes b [] i after h = let none : None ≡ Some after = h in cc
takes b (d ∷ ds) i after h = by_fit (fits b d i) refl (is_optional d) refl (λ k. takes b ds i after k)
  where
    by_fit : (f : Bool) → fits b d i ≡ f → (p : Bool) → is_optional d ≡ p →
        (take_line b ds i ≡ Some after → Takes b ds i after) → Takes b (d ∷ ds) i after
    by_fit true f p q further =
        let is : Some (opened b i ++ ds) ≡ Some after = sym (take_fits b d ds i f) ∙ h in
        (ds, cc, inr (ds, ap (λ x. x ∷ ds) (sym (fits_shape b d i f)), within_itself ds))
    by_fit false f true q further =
        let t = further (sym (take_skips b d ds i f q) ∙ h) in
        (t.0, t.1, inl (q, t.2))
    by_fit false f false q further = let none : None ≡ Some after = sym (take_stops b d ds i f q) ∙ h in cc

abbrev TakesWithin : Basin → List Shape → Item → List Shape → Type 0
TakesWithin b es i less = (more : List Shape) × (take_line b es i ≡ Some more) × Within less more

take_within : (b : Basin) (ds es : List Shape) (i : Item) (less : List Shape) → Within ds es →
    take_line b ds i ≡ Some less → TakesWithin b es i less
take_within b ds [] i less w h = let none : None ≡ Some less = sym (ap (λ xs. take_line b xs i) w) ∙ h in cc
take_within b ds (e ∷ es) i less w h =
    by_fit w (fits b e i) refl (is_optional e) refl (λ xs j k. take_within b xs es i less j k)
  where
    by_fit : Within ds (e ∷ es) → (f : Bool) → fits b e i ≡ f → (p : Bool) → is_optional e ≡ p →
        ((xs : List Shape) → Within xs es → take_line b xs i ≡ Some less → TakesWithin b es i less) →
        TakesWithin b (e ∷ es) i less
    by_fit (inl (o, j)) true f p q further =
        let t : Takes b ds i less = takes b ds i less h in
        let left : Within t.0 ds =
        within_trans t.0 (shape_of i ∷ t.0) ds (inl (ap is_optional (sym (fits_shape b e i f)) ∙ o, within_itself t.0))
        t.2 in (
          opened b i ++ es,
          take_fits b e es i f,
          subst (λ (xs : List Shape). Within xs (opened b i ++ es)) (sym t.1)
              (within_after (opened b i) t.0 es (within_trans t.0 ds es left j)),
        )
    by_fit (inr (rest, is, j)) true f p q further =
        let same : Some (opened b i ++ rest) ≡ Some less =
        sym (take_fits b e rest i f) ∙ (sym (ap (λ xs. take_line b xs i) is) ∙ h) in
        let less_is : opened b i ++ rest ≡ less = cc in (
          opened b i ++ es,
          take_fits b e es i f,
          subst (λ (xs : List Shape). Within xs (opened b i ++ es)) less_is (within_after (opened b i) rest es j),
        )
    by_fit (inl (o, j)) false f p q further =
        let t = further ds j h in
        (t.0, take_skips b e es i f o ∙ t.1, t.2)
    by_fit (inr (rest, is, j)) false f true q further =
        let t = further rest j (sym (take_skips b e rest i f q) ∙ (sym (ap (λ xs. take_line b xs i) is) ∙ h)) in
        (t.0, take_skips b e es i f q ∙ t.1, t.2)
    by_fit (inr (rest, is, j)) false f false q further =
        let none : None ≡ Some less = sym (take_stops b e rest i f q) ∙ (sym (ap (λ xs. take_line b xs i) is) ∙ h) in cc

both : (p q t : Bool) → p && q ≡ true → (q ≡ true → t ≡ true) → p && t ≡ true
both true q t h k = k h
both false q t h k = h

within_optional : (ds es : List Shape) → Within ds es → list_all is_optional ds ≡ true → list_all is_optional es ≡ true
within_optional ds [] w h = refl
within_optional ds (e ∷ es) (inl (o, k)) h = rw o (within_optional ds es k h)
within_optional ds (e ∷ es) (inr (rest, is, k)) h = grind (arith, both, within_optional rest es k)

-- Optional lines more take nothing away.

pub accepts_step : (b : Basin) (must : Bool) (ds es : List Shape) (i : Item) (is : List Item) →
    step b must ds i ≡ Some es → accepts b must ds (i ∷ is) ≡ accepts b (is_call i) es is
accepts_step b must ds es i is h = rw h refl

pub step_open : (b : Basin) (must : Bool) (ds : List Shape) (i : Item) → must && not (is_member i) ≡ false →
    step b must ds i ≡ take_line b ds i
step_open b must ds i h = rw h refl

pub step_shut : (b : Basin) (must : Bool) (ds : List Shape) (i : Item) → must && not (is_member i) ≡ true →
    step b must ds i ≡ None
step_shut b must ds i h = rw h refl

-- what a line leaves, where the whole is accepted
abbrev pub StepsTo : Basin → Bool → List Shape → Item → List Item → Type 0
StepsTo b must ds i is = (es : List Shape) × (step b must ds i ≡ Some es) × (accepts b (is_call i) es is ≡ true)

pub steps_to : (b : Basin) (must : Bool) (ds : List Shape) (i : Item) (is : List Item) →
    accepts b must ds (i ∷ is) ≡ true → StepsTo b must ds i is
steps_to b must ds i is h = by_step (step b must ds i) refl
  where
    by_step : (s : Option (List Shape)) → step b must ds i ≡ s → StepsTo b must ds i is
    by_step None e = let no : false ≡ true = sym (ap (λ s. option_map_or (λ es. accepts b (is_call i) es is) s false) e)
        ∙ h in cc
    by_step (Some es) e = (es, e, sym (accepts_step b must ds es i is e) ∙ h)

pub accepts_within : (b : Basin) (must : Bool) (ds es : List Shape) (items : List Item) → Within ds es →
    accepts b must ds items ≡ true → accepts b must es items ≡ true
accepts_within b must ds es [] w h = grind (arith, both, within_optional)
accepts_within b must ds es (i ∷ is) w h =
    by_guard (must && not (is_member i)) refl (steps_to b must ds i is h)
    (λ xs cs j. accepts_within b (is_call i) xs cs is j)
  where
    by_guard : (g : Bool) → must && not (is_member i) ≡ g → StepsTo b must ds i is →
        ((xs cs : List Shape) → Within xs cs → accepts b (is_call i) xs is ≡ true →
        accepts b (is_call i) cs is ≡ true) → accepts b must es (i ∷ is) ≡ true
    by_guard true e s further = let none : None ≡ Some s.0 = sym (step_shut b must ds i e) ∙ s.1 in cc
    by_guard false e s further =
        let taken : take_line b ds i ≡ Some s.0 = sym (step_open b must ds i e) ∙ s.1 in
        let t : TakesWithin b es i s.0 = take_within b ds es i s.0 w taken in
        let stepped : step b must es i ≡ Some t.0 = step_open b must es i e ∙ t.1 in
        accepts_step b must es t.0 i is stepped ∙ further s.0 t.0 t.2 s.2

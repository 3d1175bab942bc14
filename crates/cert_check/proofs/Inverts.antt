-- The lines of a text, from its form.
use Rattle.std.proofs.Common.{◌≡◌, ℕ, Bool, true, false, refl, sym, ap, subst, ◌∙◌, arith, inl, inr, List, [], ◌∷◌}
use Rattle.std.proofs.Common.{◌++◌, length, map, append_assoc}
use Rattle.std.specs.Prelude.{Option, Some, None, ◌==◌, if◌then◌else◌}
use Rattle.std.specs.List.{flat_map}
use Rattle.std.proofs.lemmas.Bool.{cases_eq}
use Rattle.std.proofs.lemmas.Bool.Decides.{nat_tests}
use Rattle.water_text.specs.declared.month.Month.{Month}
use Rattle.water_model.specs.Indices.{members_from}
use Rattle.result_lines.specs.Text.{call_items}
use Rattle.result_lines.specs.declared.item.Item.{Item}
use Rattle.result_lines.specs.declared.item.Item.TheVariants as line
use Rattle.water_model.specs.declared.types.Basin.{Basin}
use Rattle.water_model.proofs.Order.{Has, flat_same, map_same}
use Rattle.result_reader.specs.Form.{shape_of, is_optional, fits, IsFollowedBy, Fills}
use Rattle.result_reader.specs.declared.shape.Shape.{Shape}
use Rattle.result_reader.specs.declared.shape.Shape.TheVariants as shape
use Rattle.result_reader.proofs.Steps.{fits_shape}
use Rattle.cert_check.proofs.Callers.{called_line}

-- what a line says beside its word and its first name
pub record Fields : Type 0 where
  pub first : Month
  pub one : ℕ
  pub two : ℕ

abbrev pub no_month : Month
no_month = record { year = 0; month = 0 }

abbrev pub no_fields : Fields
no_fields = record { first = no_month; one = 0; two = 0 }

abbrev pub fields_in : Item → Fields
fields_in (line.Run first months) = record { first = first; one = months; two = 0 }
fields_in (line.Amount q v n) = record { first = no_month; one = n; two = 0 }
fields_in (line.Deliver v n w) = record { first = no_month; one = n; two = w }
fields_in (line.Called v n) = record { first = no_month; one = n; two = 0 }
fields_in other = no_fields

abbrev pub with_fields : Shape → Fields → Item
with_fields shape.Title f = line.Title
with_fields shape.Run f = line.Run f.first f.one
with_fields (shape.Month month) f = line.Month month
with_fields (shape.Amount q v) f = line.Amount q v f.one
with_fields (shape.Deliver v) f = line.Deliver v f.one f.two
with_fields (shape.Call v) f = line.Call v
with_fields (shape.Member v) f = line.Member v
with_fields (shape.Called v) f = line.Called v f.one
with_fields shape.End f = line.End
with_fields (shape.Done n) f = line.Done n

rebuilt : (i : Item) → i ≡ with_fields (shape_of i) (fields_in i)
rebuilt i = grind arith

fitting : (b : Basin) (d : Shape) {i : Item} → fits b d i ≡ true → i ≡ with_fields d (fields_in i)
fitting b d {i} h = rebuilt i ∙ ap (λ s. with_fields s (fields_in i)) (sym (fits_shape b d i h))

-- a line that is due and may not be left out
pub record OneLine (b : Basin) (d : Shape) (ds : List Shape) (items : List Item) : Type 0 where
  pub fields : Fields
  pub members : List Item
  pub others : List Item
  pub are : items ≡ with_fields d fields ∷ (members ++ others)
  pub followed : IsFollowedBy b (with_fields d fields) members
  pub rest : Fills b ds others

pub one_line : (b : Basin) (d : Shape) (ds : List Shape) (items : List Item) → is_optional d ≡ false →
    Fills b (d ∷ ds) items → OneLine b d ds items
one_line b d ds items o (inl (optional, h)) = let both : false ≡ true = sym o ∙ optional in cc
one_line b d ds items o (inr (i, members, others, f, followed, are, h)) = record {
  fields = fields_in i;
  members = members;
  others = others;
  are = are ∙ ap (λ x. x ∷ (members ++ others)) (fitting b d f);
  followed = subst (λ (x : Item). IsFollowedBy b x members) (fitting b d f) followed;
  rest = h;
}

-- no index comes twice
abbrev pub AreApart : List ℕ → Type 0
AreApart [] = Unit {0}
AreApart (x ∷ xs) = (Has xs x → ⊥) × AreApart xs

abbrev with_index : {Y : Type 0} → (ℕ → Y) → ℕ → Y → ℕ → Y
with_index f x y k = if k == x then y else f k

here : {Y : Type 0} (f : ℕ → Y) (x : ℕ) (y : Y) → with_index f x y x ≡ y
here f x y = grind (arith, nat_tests)

elsewhere : {Y : Type 0} (f : ℕ → Y) (x : ℕ) (y : Y) (k : ℕ) → (k ≡ x → ⊥) → with_index f x y k ≡ f k
elsewhere f x y k h = grind (arith, nat_tests)

-- the lines of a section that has one for each index
pub record Lines (b : Basin) (line_at : ℕ → Shape) (xs : List ℕ) (ds : List Shape) (items : List Item) : Type 0 where
  pub fields : ℕ → Fields
  pub others : List Item
  pub are : items ≡ map (λ x. with_fields (line_at x) (fields x)) xs ++ others
  pub rest : Fills b ds others

pub each_line : {b : Basin} {line_at : ℕ → Shape} → ((x : ℕ) → is_optional (line_at x) ≡ false) →
    ((x : ℕ) (f : Fields) (members : List Item) → IsFollowedBy b (with_fields (line_at x) f) members → members ≡ []) →
    (xs : List ℕ) → AreApart xs → {ds : List Shape} {items : List Item} → Fills b (map line_at xs ++ ds) items →
    Lines b line_at xs ds items
each_line {b} {line_at} o alone [] apart {ds} {items} h =
    record { fields = λ x. no_fields; others = items; are = refl; rest = h }
each_line {b} {line_at} o alone (x ∷ xs) apart {ds} {items} h =
    let first = one_line b (line_at x) (map line_at xs ++ ds) items (o x) h in
    let later = each_line o alone xs apart.1 first.rest in
    let fields : ℕ → Fields = with_index later.fields x first.fields in
    record {
      fields = fields;
      others = later.others;
      are = first.are ∙ (ap (λ ms. with_fields (line_at x) first.fields ∷ (ms ++ first.others))
          (alone x first.fields first.members first.followed)
          ∙ pair (with_fields (line_at x) first.fields) (with_fields (line_at x) (fields x)) first.others
          (map (λ k. with_fields (line_at k) (fields k)) xs ++ later.others)
          (ap (λ f. with_fields (line_at x) f) (sym (here later.fields x first.fields))) (later.are
          ∙ ap (λ ls. ls ++ later.others)
          (map_same (λ k. with_fields (line_at k) (later.fields k)) (λ k. with_fields (line_at k) (fields k)) xs
          (λ k m. ap (λ f. with_fields (line_at k) f)
          (sym (elsewhere later.fields x first.fields k (λ e. apart.0 (subst (λ (y : ℕ). Has xs y) e m))))))));
      rest = later.rest;
    }
  where
    pair : (i j : Item) (is js : List Item) → i ≡ j → is ≡ js → i ∷ is ≡ j ∷ js
    pair i j is js e f = rw (e, f) refl

-- the calls of a month
pub record CallLines (b : Basin) (xs : List ℕ) (ds : List Shape) (items : List Item) : Type 0 where
  pub cut : ℕ → Option (List Bool)
  pub sized : (r : ℕ) (set : List Bool) → cut r ≡ Some set → (length set ≡ length b.nodes) × Has xs r
  pub others : List Item
  pub are : items ≡ flat_map (λ r. call_items r (cut r)) xs ++ others
  pub rest : Fills b ds others

pub each_call : {b : Basin} (xs : List ℕ) → AreApart xs → {ds : List Shape} {items : List Item} →
    Fills b (map (λ r. shape.Call r) xs ++ ds) items → CallLines b xs ds items
each_call {b} [] apart {ds} {items} h =
    record {
      cut = λ r. None;
      sized = λ r set e. (let never : None ≡ Some set = e in cc);
      others = items;
      are =
          refl;
      rest = h;
    }
each_call {b} (x ∷ xs) apart {ds} {items} (inl (optional, h)) =
    let later = each_call xs apart.1 h in
    let none : later.cut x ≡ None = unset later (later.cut x) refl in
    record {
      cut = later.cut;
      sized = λ r set e. (let s = later.sized r set e in (s.0, inr s.1));
      others = later.others;
      are = later.are ∙ ap (λ o. (call_items x o ++ flat_map (λ r. call_items r (later.cut r)) xs) ++ later.others)
          (sym none);
      rest = later.rest;
    }
  where
    unset : (l : CallLines b xs ds items) (o : Option (List Bool)) → l.cut x ≡ o → l.cut x ≡ None
    unset l None e = e
    unset l (Some set) e = absurd (apart.0 (l.sized x set e).1)
each_call {b} (x ∷ xs) apart {ds} (inr (i, members, others, f, followed, are, h)) =
    let later = each_call xs apart.1 h in
    let is : i ≡ line.Call x = fitting b (shape.Call x) f in
    let group : IsFollowedBy b (line.Call x) members = subst (λ (y : Item). IsFollowedBy b y members) is followed in
    let cut : ℕ → Option (List Bool) = with_index later.cut x (Some group.0) in
    record {
      cut = cut;
      sized = λ r set e. sized later group.0 group.1 r set e;
      others = later.others;
      are = are ∙ (ap (λ j. j ∷ (members ++ others)) is
          ∙ (ap (λ ms. line.Call x ∷ (ms ++ others)) group.3 ∙ whole later group.0));
      rest = later.rest;
    }
  where
    sized : (l : CallLines b xs ds others) (own : List Bool) → length own ≡ length b.nodes → (r : ℕ) (set : List Bool) →
        with_index l.cut x (Some own) r ≡ Some set → (length set ≡ length b.nodes) × Has (x ∷ xs) r
    sized l own size r set e = elim (cases_eq r x) [
      | inl same ↦ (let both : Some own ≡ Some set =
          sym (here l.cut x (Some own)) ∙ (ap (λ k. with_index l.cut x (Some own) k) (sym same) ∙ e) in
          let eq : own ≡ set = cc in (sym (ap length eq) ∙ size, inl same))
      | inr other ↦ (let s = l.sized r set (sym (elsewhere l.cut x (Some own) r other) ∙ e) in (s.0, inr s.1))
    ]

    whole : (l : CallLines b xs ds others) (own : List Bool) →
        line.Call x ∷ (map (λ n. line.Member n) (members_from 0 own) ++ others)
        ≡ (call_items x (with_index l.cut x (Some own) x) ++ flat_map
        (λ r. call_items r (with_index l.cut x (Some own) r)) xs) ++ l.others
    whole l own = ap (λ os. line.Call x ∷ (map (λ n. line.Member n) (members_from 0 own) ++ os)) l.are
        ∙ (ap (λ os. line.Call x ∷ (map (λ n. line.Member n) (members_from 0 own) ++ (os ++ l.others)))
        (flat_same (λ r. call_items r (l.cut r)) (λ r. call_items r (with_index l.cut x (Some own) r)) xs
        (λ k m. ap (call_items k)
        (sym (elsewhere l.cut x (Some own) k (λ e. apart.0 (subst (λ (y : ℕ). Has xs y) e m))))))
        ∙ (ap (λ ys. line.Call x ∷ ys) (sym (append_assoc (map (λ n. line.Member n) (members_from 0 own))
        (flat_map (λ r. call_items r (with_index l.cut x (Some own) r)) xs) l.others))
        ∙ ap (λ o. (call_items x o ++ flat_map (λ r. call_items r (with_index l.cut x (Some own) r)) xs) ++ l.others)
        (sym (here l.cut x (Some own)))))

-- the callers of a month
pub record CalledLines (b : Basin) (ds : List Shape) (items : List Item) : Type 0 where
  pub dues : List (ℕ × ℕ)
  pub others : List Item
  pub are : items ≡ map called_line dues ++ others
  pub rest : Fills b ds others

pub each_called : {b : Basin} (xs : List ℕ) {ds : List Shape} {items : List Item} →
    Fills b (map (λ r. shape.Called r) xs ++ ds) items → CalledLines b ds items
each_called {b} [] {ds} {items} h = record { dues = []; others = items; are = refl; rest = h }
each_called {b} (x ∷ xs) {ds} {items} (inl (optional, h)) = each_called xs h
each_called {b} (x ∷ xs) {ds} (inr (i, members, others, f, followed, are, h)) =
    let later = each_called xs h in
    let is : i ≡ line.Called x (fields_in i).one = fitting b (shape.Called x) f in
    let none : members ≡ [] = subst (λ (y : Item). IsFollowedBy b y members) is followed in
    record {
      dues = (x, (fields_in i).one) ∷ later.dues;
      others = later.others;
      are = are ∙ (ap (λ ms. i ∷ (ms ++ others)) none
          ∙ (ap (λ j. j ∷ others) is ∙ ap (λ os. line.Called x (fields_in i).one ∷ os) later.are));
      rest = later.rest;
    }

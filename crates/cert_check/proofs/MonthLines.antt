-- The lines that fill what is due for a month.
use Rattle.std.proofs.Common.{◌≡◌, ℕ, Bool, refl, sym, ap, subst, ◌∙◌, List, [], ◌∷◌, ◌++◌, length, map, append_assoc}
use Rattle.std.specs.Prelude.{Option, Some, None, filter, is_some}
use Rattle.std.specs.List.{flat_map}
use Rattle.water_model.specs.Basin.{taking_node}
use Rattle.water_model.specs.Entries.{in_order}
use Rattle.water_model.specs.Indices.{seniors_first}
use Rattle.result_lines.specs.Quantities.{entries_with_line, has_line, space_of}
use Rattle.result_lines.specs.Text.{call_items}
use Rattle.water_model.specs.Valid.{IsValidBasin}
use Rattle.result_lines.specs.declared.item.Item.{Item}
use Rattle.result_lines.specs.declared.item.Item.TheVariants as line
use Rattle.result_lines.specs.declared.item.Section.{Section}
use Rattle.result_lines.specs.declared.item.Section.TheVariants as section
use Rattle.result_lines.specs.declared.item.TheConstants.{SECTIONS}
use Rattle.result_lines.specs.declared.quantity.Quantity.{Quantity}
use Rattle.result_lines.specs.declared.quantity.Quantity.TheVariants as quantity
use Rattle.water_model.specs.declared.types.Basin.{Basin}
use Rattle.result_lines.proofs.Quantities.{flat_map_if, flat_map_one}
use Rattle.result_reader.specs.Form.{Fills, due_in_month, shapes_in}
use Rattle.result_reader.specs.declared.shape.Shape.{Shape}
use Rattle.result_reader.specs.declared.shape.Shape.TheVariants as shape
use Rattle.cert_check.proofs.Callers.{called_line}
use Rattle.cert_check.proofs.Inverts.{Fields, no_fields, one_line, each_line, each_call, each_called}
use Rattle.cert_check.proofs.Sheets.{Sheet, sheet_lines, filter_apart, in_order_apart, seniors_apart}
use Rattle.cert_check.proofs.Month.{onto, spread}

-- what the lines of a section give
record Content : Type 0 where
  fields : ℕ → Fields
  cut : ℕ → Option (List Bool)
  dues : List (ℕ × ℕ)

-- and the lines that it gives
abbrev content_lines : Basin → Section → Content → List Item
content_lines b (section.Amounts q) c = map (λ x. line.Amount q x (c.fields x).one) (entries_with_line b q)
content_lines b section.Deliveries c = map (λ x. line.Deliver x (c.fields x).one (c.fields x).two) (seniors_first b)
content_lines b section.Calls c = flat_map (λ r. call_items r (c.cut r)) (seniors_first b)
content_lines b section.Called c = map called_line c.dues

abbrev AreSized : Basin → Content → Type 0
AreSized b c = (r : ℕ) (set : List Bool) → c.cut r ≡ Some set → length set ≡ length b.nodes

-- the lines of one section
record SectionLines (b : Basin) (k : Section) (ds : List Shape) (items : List Item) : Type 0 where
  content : Content
  sized : AreSized b content
  others : List Item
  are : items ≡ content_lines b k content ++ others
  rest : Fills b ds others

section_filled : {b : Basin} → IsValidBasin b → (k : Section) {ds : List Shape} {items : List Item} →
    Fills b (shapes_in k b ++ ds) items → SectionLines b k ds items
section_filled {b} valid (section.Amounts q) {ds} {items} h =
    let l = each_line (λ x. refl) (λ x f ms e. e) (entries_with_line b q)
    (filter_apart (λ x. has_line b q x) (in_order (space_of q) b) (in_order_apart valid (space_of q)))
    (subst (λ (xs : List Shape). Fills b (xs ++ ds) items)
    (flat_map_if (λ x. has_line b q x) (λ x. shape.Amount q x) (in_order (space_of q) b)) h) in
    record {
      content = record { fields = l.fields; cut = λ r. None; dues = [] };
      sized = λ r set e. (let never : None ≡ Some set = e in cc);
      others = l.others;
      are = l.are;
      rest = l.rest;
    }
section_filled {b} valid section.Deliveries {ds} {items} h =
    let l = each_line (λ x. refl) (λ x f ms e. e) (seniors_first b)
    (seniors_apart valid)
    (subst (λ (xs : List Shape). Fills b (xs ++ ds) items) (flat_map_one (λ r. shape.Deliver r) (seniors_first b)) h) in
    record {
      content = record { fields = l.fields; cut = λ r. None; dues = [] };
      sized = λ r set e. (let never : None ≡ Some set = e in cc);
      others = l.others;
      are = l.are;
      rest = l.rest;
    }
section_filled {b} valid section.Calls {ds} {items} h =
    let l = each_call (seniors_first b) (seniors_apart valid)
    (subst (λ (xs : List Shape). Fills b (xs ++ ds) items) (flat_map_one (λ r. shape.Call r) (seniors_first b)) h) in
    record {
      content = record { fields = λ x. no_fields; cut = l.cut; dues = [] };
      sized = λ r set e. (l.sized r set e).0;
      others = l.others;
      are = l.are;
      rest = l.rest;
    }
section_filled {b} valid section.Called {ds} {items} h =
    let l = each_called (filter (λ r. is_some (taking_node b r)) (seniors_first b))
    (subst (λ (xs : List Shape). Fills b (xs ++ ds) items)
    (flat_map_if (λ r. is_some (taking_node b r)) (λ r. shape.Called r) (seniors_first b)) h) in
    record {
      content = record { fields = λ x. no_fields; cut = λ r. None; dues = l.dues };
      sized = λ r set e. (let never : None ≡ Some set = e in cc);
      others = l.others;
      are = l.are;
      rest = l.rest;
    }

-- what the lines of some sections give, one for each
abbrev Contents : List Section → Type 0
Contents [] = Unit {0}
Contents (k ∷ ks) = Content × Contents ks

abbrev AllSized : (ks : List Section) → Basin → Contents ks → Type 0
AllSized [] b cs = Unit {0}
AllSized (k ∷ ks) b cs = AreSized b cs.0 × AllSized ks b cs.1

abbrev all_lines : (ks : List Section) → Basin → Contents ks → List Item → List Item
all_lines [] b cs ys = ys
all_lines (k ∷ ks) b cs ys = content_lines b k cs.0 ++ all_lines ks b cs.1 ys

all_lines-then : (ks : List Section) (b : Basin) (cs : Contents ks) (ys zs : List Item) →
    all_lines ks b cs ys ++ zs ≡ all_lines ks b cs (ys ++ zs)
all_lines-then [] b cs ys zs = refl
all_lines-then (k ∷ ks) b cs ys zs = append_assoc (content_lines b k cs.0) (all_lines ks b cs.1 ys) zs
    ∙ ap (λ xs. content_lines b k cs.0 ++ xs) (all_lines-then ks b cs.1 ys zs)

record AllLines (b : Basin) (ks : List Section) (ds : List Shape) (items : List Item) : Type 0 where
  contents : Contents ks
  sized : AllSized ks b contents
  others : List Item
  are : items ≡ all_lines ks b contents others
  rest : Fills b ds others

sections_filled : {b : Basin} → IsValidBasin b → (ks : List Section) {ds : List Shape} {items : List Item} →
    Fills b (onto (λ k. shapes_in k b) ks ds) items → AllLines b ks ds items
sections_filled {b} valid [] {ds} {items} h = record { contents = tt; sized = tt; others = items; are = refl; rest = h }
sections_filled {b} valid (k ∷ ks) {ds} h =
    let first = section_filled valid k h in
    let later = sections_filled valid ks first.rest in
    record {
      contents = (first.content, later.contents);
      sized = (first.sized, later.sized);
      others = later.others;
      are = first.are ∙ ap (λ xs. content_lines b k first.content ++ xs) later.are;
      rest = later.rest;
    }

-- The sheet of all sections, in their order.

abbrev amount_in : Contents SECTIONS → Quantity → ℕ → ℕ
amount_in cs quantity.Opening x = (cs.0.fields x).one
amount_in cs quantity.Evaporated x = (cs.1.0.fields x).one
amount_in cs quantity.Returned x = (cs.1.1.0.fields x).one
amount_in cs quantity.Used x = (cs.1.1.1.0.fields x).one
amount_in cs quantity.Flow x = (cs.1.1.1.1.0.fields x).one
amount_in cs quantity.Outflow x = (cs.1.1.1.1.1.1.0.fields x).one
amount_in cs quantity.Closing x = (cs.1.1.1.1.1.1.1.1.1.0.fields x).one

abbrev sheet_of : Contents SECTIONS → Sheet
sheet_of cs = record {
  amount = amount_in cs;
  delivered = λ x. (cs.1.1.1.1.1.0.fields x).one;
  want = λ x. (cs.1.1.1.1.1.0.fields x).two;
  cut = cs.1.1.1.1.1.1.1.0.cut;
}

-- the lines of a month give a sheet
pub record MonthLines (b : Basin) (ds : List Shape) (items : List Item) : Type 0 where
  pub sheet : Sheet
  pub dues : List (ℕ × ℕ)
  pub sized : (r : ℕ) (set : List Bool) → sheet.cut r ≡ Some set → length set ≡ length b.nodes
  pub others : List Item
  pub are : items ≡ sheet_lines b sheet dues ++ others
  pub rest : Fills b ds others

pub inner_filled : {b : Basin} → IsValidBasin b → {ds : List Shape} {items : List Item} →
    Fills b (due_in_month b ++ ds) items → MonthLines b ds items
unfolding due_in_month
inner_filled {b} valid {ds} {items} h =
    let l = sections_filled valid SECTIONS
    (subst (λ (xs : List Shape). Fills b xs items) due_is h) in
    let last = one_line b shape.End ds l.others refl l.rest in
    let end : l.others ≡ line.End ∷ last.others = last.are ∙ ap (λ ms. line.End ∷ (ms ++ last.others)) last.followed in
    record {
      sheet = sheet_of l.contents;
      dues = l.contents.1.1.1.1.1.1.1.1.0.dues;
      sized = l.sized.1.1.1.1.1.1.1.0;
      others = last.others;
      are = l.are ∙ (ap (λ ys. all_lines SECTIONS b l.contents ys) end
          ∙ sym (all_lines-then SECTIONS b l.contents (line.End ∷ []) last.others));
      rest = last.rest;
    }
  where
    due_is : (flat_map (λ k. shapes_in k b) SECTIONS ++ shape.End ∷ []) ++ ds ≡ onto (λ k. shapes_in k b) SECTIONS
        (shape.End ∷ ds)
    due_is = append_assoc (flat_map (λ k. shapes_in k b) SECTIONS) (shape.End ∷ []) ds
        ∙ spread (λ k. shapes_in k b) SECTIONS (shape.End ∷ ds)

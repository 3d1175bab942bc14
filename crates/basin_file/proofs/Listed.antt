-- The entries that a table lists: their rows, the indices of their names, of which no two in one space are alike, and
-- the rights by their tables.
use Rattle.std.proofs.lemmas.Bool.{ltb-false, cases_Bool, not-false}
use Rattle.std.proofs.Common.{◌≡◌, ◌≢◌, ℕ, zero, suc, ◌+◌, ◌<◌, ◌≤◌, ◌∙◌, Bool, true, false, cond, ap, sym, refl}
use Rattle.std.proofs.Common.{get_or, inl, inr, arith, List, [], ◌∷◌, ◌++◌, length, map, All, slice_get, append_assoc}
use Rattle.std.proofs.Common.{not, Option, Some, None, option_and_then, is_some, codes, ◌-◌, option_map, nat_lt, subst}
use Rattle.std.proofs.Common.{length-append}
use Rattle.std.specs.Prelude.{unwrap_or}
use Rattle.std.specs.Option.{option_map_or}
use Rattle.std.specs.Str.{bytes_eq}
use Rattle.std.proofs.lemmas.Bool.Decides.{nat_tests}
use Rattle.std.proofs.lemmas.List.Elements.{All-append, All-head, All-tail, filter_passes}
use Rattle.std.proofs.lemmas.List.Quantifiers.{position-Some}
use Rattle.std.proofs.lemmas.Option.{slice_get-get_or, slice_get_within, slice_get-map}
use Rattle.std.proofs.lemmas.Slice.Eq.{bytes_eq-Decides}
use Rattle.toml.specs.Data.{Data, table, Items, no_items, item, get_item, Members, as_array, get_member, as_str}
use Rattle.toml.specs.View.{items_of}
use Rattle.first_index.proofs.First.{first_is_position}
use Rattle.first_index.specs.Indices.{first_from}
use Rattle.toml_tree.specs.Items.{items_len}
use Rattle.toml_tree.specs.Texts.{texts_after, is_the_text}
use Rattle.toml_tree.specs.Values.{text_at}
use Rattle.water_model.specs.Lookups.{of_entry}
use Rattle.water_model.specs.Valid.{AreRanked, is_diversion_kind, rank_of_kind}
use Rattle.water_model.specs.declared.types.Right.{Right}
use Rattle.water_model.specs.declared.types.RightKind.{RightKind}
use Rattle.water_model.specs.declared.types.RightKind.TheVariants as kind
use Rattle.water_model.proofs.Lists.{all_at, get_before}
use Rattle.water_model.proofs.Valid.{entry_at}
use Rattle.basin_tree.specs.declared.tables.BasinTable.{BasinTable}
use Rattle.basin_tree.specs.declared.tables.BasinTable.TheVariants.{Diversion, Instream, Zone}
use Rattle.basin_tree.specs.declared.tables.Space.{Space}
use Rattle.basin_tree.specs.Indices.{named_at, own_key, texts_in, texts_of}
use Rattle.basin_file.specs.BasinFaults.{is_in_table}
use Rattle.basin_file.specs.Spelled.{rows_after, small, number_at, rows_in}
use Rattle.basin_file.specs.Upgraded.{listed, rights_in}
use Rattle.basin_file.proofs.Passed.{listing, AreClean, Fits, IsClean, IsListed, clean_at, entry_of, fits_at, rest_of}
use Rattle.std.proofs.lemmas.List.{length-map}
use Rattle.water_text.specs.Names.{is_name}
use Rattle.basin_tree.specs.declared.tables.Kind.TheVariants.{Name, Refers}
use Rattle.basin_tree.specs.Entries.{items_at}
use Rattle.basin_tree.specs.Tables.{keys_of, required}
use Rattle.basin_tree.specs.declared.tables.Space.TheVariants.{Rights}
use Rattle.basin_tree.specs.NameFaults.{own_space, rights_before}

-- what holds of the one at each index holds of each
pub all_by : {X : Type 0} (P : X → Type 0) (xs : List X) →
    ((k : ℕ) (x : X) → slice_get xs k ≡ Some x → P x) → All P xs
all_by P xs f k d h = f k (get_or xs k d) (slice_get-get_or xs k d h)

pub map_alike : {X Y Z : Type 0} (f : Y → Z) (g : X → Y) (h : X → Z) (xs : List X) → All (λ x. f (g x) ≡ h x) xs →
    map f (map g xs) ≡ map h xs
map_alike f g h [] all = refl
map_alike {X = X} f g h (x ∷ xs) all = λ i. All-head same x xs all i ∷ map_alike f g h xs (All-tail same x xs all) i
  where
    same : X → Type 0
    same x = f (g x) ≡ h x

-- the items of a list at a key, and none where there is no list
abbrev pub items_in : Option Data → Items
items_in value = unwrap_or (option_and_then as_array value) no_items

-- what is listed are the rows that were put
listed_rows : {X : Type 0} (row : X → Members) (xs : List X) →
    items_of (map (λ x. table (row x)) xs) ≡ listing (map row xs)
listed_rows row [] = refl
listed_rows row (x ∷ xs) = ap (item (table (row x))) (listed_rows row xs)

pub items_listed : {X : Type 0} (row : X → Members) (xs : List X) → items_in (listed row xs) ≡ listing (map row xs)
items_listed row [] = refl
items_listed row (x ∷ xs) = listed_rows row (x ∷ xs)

-- the rows of a listing, how many they are, its items and its texts
pub rows_listing : (rows : List Members) → rows_after (listing rows) ≡ rows
rows_listing [] = refl
rows_listing (row ∷ rows) = ap (λ rest. row ∷ rest) (rows_listing rows)

pub len_listing : (rows : List Members) → items_len (listing rows) ≡ length rows
len_listing [] = refl
len_listing (row ∷ rows) = ap suc (len_listing rows)

pub item_listing : (rows : List Members) (n : ℕ) →
    get_item n (listing rows) ≡ option_map (λ row. table row) (slice_get rows n)
item_listing [] n = refl
item_listing (row ∷ rows) zero = refl
item_listing (row ∷ rows) (suc n) = item_listing rows n

pub texts_listing : (key : List ℕ) (rows : List Members) → texts_after key (listing rows) ≡ map (text_at key) rows
texts_listing key [] = refl
texts_listing key (row ∷ rows) = ap (λ rest. text_at key row ∷ rest) (texts_listing key rows)

pub len_items : {X : Type 0} (f : X → Data) (xs : List X) → items_len (items_of (map f xs)) ≡ length xs
len_items f [] = refl
len_items f (x ∷ xs) = ap suc (len_items f xs)

-- an index that passes is not before the first
pub first_le : {X : Type 0} (p : X → Bool) (n : ℕ) (xs : List X) (i : ℕ) (x : X) → slice_get xs i ≡ Some x →
    p x ≡ true →
    (at : ℕ) × (first_from p n xs ≡ Some at) × (at ≤ n + i)
first_le p n [] i x there passes = cc
first_le p n (y ∷ xs) zero x there passes =
    let same : y ≡ x = cc in let here : p y ≡ true = rw same passes in (n, rw here refl, omega arith)
first_le p n (y ∷ xs) (suc i) x there passes =
    elim (cases_Bool (p y)) [
      | inl here ↦ (n, rw here refl, omega arith)
      | inr other ↦ (let rest = first_le p (n + 1) xs i x there passes in
          let within : rest.0 ≤ n + 1 + i = rest.2 in
          (rest.0, rw other rest.1, omega arith))
    ]

-- the text stands at its first index
pub text_first : (q : List ℕ) (texts : List (Option (List ℕ))) (at : ℕ) → first_from (is_the_text q) 0 texts ≡ Some at →
    slice_get texts at ≡ Some (Some q)
text_first q texts at e =
    let found = position-Some (is_the_text q) texts at None (sym (first_is_position (is_the_text q) texts) ∙ e) in
    slice_get-get_or texts at None found.0 ∙ ap (λ t. Some t) (is_text (get_or texts at None) found.1)
  where
    is_text : (t : Option (List ℕ)) → is_the_text q t ≡ true → t ≡ Some q
    is_text None e = cc
    is_text (Some t) e = ap (λ s. Some s) (sym ((bytes_eq-Decides q t).0 e))

-- no two of some entries have one name
abbrev pub HaveOwn : {X : Type 0} → (X → List ℕ) → List X → Type 0
HaveOwn name xs = (i j : ℕ) → i < j → j < length xs → of_entry xs i name [] ≢ of_entry xs j name []

-- so the name of an entry stands first at its index
pub index_found : {X : Type 0} (name : X → List ℕ) (n : ℕ) (xs : List X) (k : ℕ) → k < length xs → HaveOwn name xs →
    first_from (is_the_text (of_entry xs k name [])) n (map (λ x. Some (name x)) xs) ≡ Some (n + k)
index_found name n [] k within own = absurd (omega arith)
index_found name n (x ∷ xs) zero within own =
    let same : n ≡ n + 0 = omega arith in rw ((bytes_eq-Decides (name x) (name x)).1 refl) (ap Some same)
index_found name n (x ∷ xs) (suc k) within own =
    elim (cases_Bool (bytes_eq (of_entry xs k name []) (name x))) [
      | inl same ↦ absurd (own 0 (suc k) (omega arith) within
          (sym ((bytes_eq-Decides (of_entry xs k name []) (name x)).0 same)))
      | inr other ↦ (let more : n + 1 + k ≡ n + suc k = omega arith in
          rw other (index_found name (n + 1) xs k (omega arith)
          (λ i j before below. own (suc i) (suc j) (omega arith) (omega arith)) ∙ ap Some more))
    ]

-- and is read as the index
pub index_read : (tree : Members) (space : Space) (q : List ℕ) (k : ℕ) → named_at tree space q ≡ Some k → k < 4000 →
    option_map_or small (named_at tree space q) 0 ≡ k
index_read tree space q k named bounded = rw named (fits k bounded)
  where
    fits : (n : ℕ) → n < 4000 → small n ≡ n
    fits n h = grind (arith, nat_tests)

-- where no kind of a rank that may come is of a table, none of the rights is
none_in : (t : BasinTable) (least : ℕ) (rights : List Right) →
    ((its : RightKind) → least ≤ rank_of_kind its → is_in_table t its ≡ false) → AreRanked least rights →
    rights_in t rights ≡ []
none_in t least [] other ranked = refl
none_in t least (r ∷ rights) other ranked =
    rw (other r.kind ranked.0)
    (none_in t (rank_of_kind r.kind) rights (λ its low. other its (let first = ranked.0 in omega arith)) ranked.1)

-- after a right of a later table no diversion stands, nor an instream right after a zone
no_diversion : (its : RightKind) → 1 ≤ rank_of_kind its → is_in_table Diversion its ≡ false
no_diversion (kind.Diversion node) low = absurd (omega arith)
no_diversion _ low = refl

no_instream : (its : RightKind) → 2 ≤ rank_of_kind its → is_in_table Instream its ≡ false
no_instream (kind.Instream link) low = absurd (omega arith)
no_instream _ low = refl

-- so the rights of the three tables are all, in their order
pub rights_by_table : (least : ℕ) (rights : List Right) → AreRanked least rights →
    rights_in Diversion rights ++ rights_in Instream rights ++ rights_in Zone rights ≡ rights
rights_by_table least [] ranked = refl
rights_by_table least (r ∷ rights) ranked = by r.kind ranked.1 (rights_by_table (rank_of_kind r.kind) rights ranked.1)
  where
    i : List Right
    i = rights_in Instream rights

    z : List Right
    z = rights_in Zone rights

    part : BasinTable → RightKind → List Right
    part t its = cond (is_in_table t its) (r ∷ rights_in t rights) (rights_in t rights)

    by : (its : RightKind) → AreRanked (rank_of_kind its) rights → rights_in Diversion rights ++ i ++ z ≡ rights →
        part Diversion its ++ part Instream its ++ part Zone its ≡ r ∷ rights
    by (kind.Diversion node) after rest = ap (λ rs. r ∷ rs) rest
    by (kind.Instream link) after rest =
        let none = none_in Diversion 1 rights no_diversion after in
        (λ j. none j ++ (r ∷ i) ++ z) ∙ ap (λ rs. r ∷ rs) (sym (λ j. none j ++ i ++ z) ∙ rest)
    by (kind.Zone reservoir level) after rest =
        let none = none_in Diversion 2 rights (λ its low. no_diversion its (omega arith)) after in
        let nor = none_in Instream 2 rights no_instream after in
        (λ j. none j ++ nor j ++ (r ∷ z)) ∙ ap (λ rs. r ∷ rs) (sym (λ j. none j ++ nor j ++ z) ∙ rest)

-- a diversion has the same index among the diversions as among the rights
pub diversion_same : (rights : List Right) → AreRanked 0 rights → (k : ℕ) → k < length (rights_in Diversion rights) →
    slice_get (rights_in Diversion rights) k ≡ slice_get rights k
diversion_same rights ranked k within =
    let d = rights_in Diversion rights in
    let i = rights_in Instream rights in
    let z = rights_in Zone rights in
    let it = entry_at d k within in
    it.1 ∙ sym (ap (λ rs. slice_get rs k) (sym (rights_by_table 0 rights ranked))
    ∙ get_before (d ++ i) z k it.0 (get_before d i k it.0 it.1))

-- and stands among them, as no other right is one
within_first : {X : Type 0} (p : X → Bool) (xs ys : List X) (k : ℕ) → All (λ y. p y ≡ false) ys →
    of_entry (xs ++ ys) k p false ≡ true → k < length xs
within_first {X = X} p [] ys k none is = by (slice_get ys k) refl is
  where
    by : (o : Option X) → slice_get ys k ≡ o → unwrap_or (option_map p o) false ≡ true → k < 0
    by None at is = cc
    by (Some y) at is = let never : true ≡ false = sym is ∙ all_at (λ y. p y ≡ false) ys k y none at in cc
within_first p (x ∷ xs) ys zero none is = omega arith
within_first p (x ∷ xs) ys (suc k) none is = let h : k < length xs = within_first p xs ys k none is in omega arith

pub diversion_within : (rights : List Right) → AreRanked 0 rights → (k : ℕ) →
    of_entry rights k (λ r. is_diversion_kind r.kind) false ≡ true → k < length (rights_in Diversion rights)
diversion_within rights ranked k is =
    let i = rights_in Instream rights in
    let z = rights_in Zone rights in
    within_first (λ r. is_diversion_kind r.kind) (rights_in Diversion rights) (i ++ z) k
    (All-append (λ r. is_diversion_kind r.kind ≡ false) i z (others Instream instream) (others Zone zone))
    (ap (λ rs. of_entry rs k (λ r. is_diversion_kind r.kind) false)
    (sym (append_assoc (rights_in Diversion rights) i z) ∙ rights_by_table 0 rights ranked) ∙ is)
  where
    instream : (its : RightKind) → is_in_table Instream its ≡ true → is_diversion_kind its ≡ false
    instream (kind.Diversion node) is = cc
    instream _ is = refl

    zone : (its : RightKind) → is_in_table Zone its ≡ true → is_diversion_kind its ≡ false
    zone (kind.Diversion node) is = cc
    zone _ is = refl

    others : (t : BasinTable) → ((its : RightKind) → is_in_table t its ≡ true → is_diversion_kind its ≡ false) →
        All (λ r. is_diversion_kind r.kind ≡ false) (rights_in t rights)
    others t f = λ j d h. f _ (filter_passes (λ r. is_in_table t r.kind) rights j d h)

-- so no two diversions have one name where no two rights have
pub diversions_own : (rights : List Right) → AreRanked 0 rights → HaveOwn (λ r. r.name) rights →
    HaveOwn (λ r. r.name) (rights_in Diversion rights)
diversions_own rights ranked own i j before within same =
    own i j before there
    (name_of i (diversion_same rights ranked i (omega arith))
    ∙ (same ∙ sym (name_of j (diversion_same rights ranked j within))))
  where
    there : j < length rights
    there =
        let it = entry_at (rights_in Diversion rights) j within in
        slice_get_within rights j it.0 (sym (diversion_same rights ranked j within) ∙ it.1)

    name_of : (k : ℕ) → slice_get (rights_in Diversion rights) k ≡ slice_get rights k →
        of_entry rights k (λ r. r.name) [] ≡ of_entry (rights_in Diversion rights) k (λ r. r.name) []
    name_of k e = ap (λ (o : Option Right). unwrap_or (option_map (λ r. r.name) o) []) (sym e)

-- a text at a required key
some_text : {format : ℕ} {tree : Members} (key : List ℕ) (o : Option Data) → Fits format tree (required key Name) o →
    (q : List ℕ) × (option_and_then as_str o ≡ Some q) × (is_name q ≡ true)
some_text key None fits = let never : true ≡ false = fits.present in cc
some_text key (Some d) fits = by (as_str d) fits.kinds fits.names
  where
    by : (text : Option (List ℕ)) → not (is_some text) ≡ false →
        option_map_or (λ q. not (is_name q)) text false ≡ false →
        (q : List ℕ) × (text ≡ Some q) × (is_name q ≡ true)
    by None some good = cc
    by (Some q) some good = (q, refl, not-false (is_name q) good)

-- a text that names an entry
pub record Names (tree : Members) (space : Space) (text : Option (List ℕ)) : Type 0 where
  pub q : List ℕ
  pub at : ℕ
  pub text_is : text ≡ Some q
  pub named : named_at tree space q ≡ Some at

names_by : {format : ℕ} (tree : Members) (key : List ℕ) (space : Space) (o : Option Data) →
    Fits format tree (required key (Refers space)) o → Names tree space (option_and_then as_str o)
names_by tree key space None fits = let never : true ≡ false = fits.present in cc
names_by tree key space (Some d) fits = by (as_str d) fits.kinds fits.refers
  where
    found : (q : List ℕ) (o : Option ℕ) → named_at tree space q ≡ o → not (is_some o) ≡ false →
        Names tree space (Some q)
    found q None e some = cc
    found q (Some at) e some = record { q = q; at = at; text_is = refl; named = e }

    by : (text : Option (List ℕ)) → not (is_some text) ≡ false →
        option_map_or (λ q. not (is_some (named_at tree space q))) text false ≡ false → Names tree space text
    by None some good = cc
    by (Some q) some good = found q (named_at tree space q) refl good

-- what is named is below the count of its space, and so is its number
pub at_within : {tree : Members} {space : Space} {text : Option (List ℕ)} → (its : Names tree space text) →
    its.at < length (texts_of tree space)
at_within {tree = tree} {space = space} its =
    slice_get_within (texts_of tree space) its.at (Some its.q) (text_first its.q (texts_of tree space) its.at its.named)

pub number_within : {tree : Members} {space : Space} (key : List ℕ) (row : Members) →
    Names tree space (text_at key row) → number_at tree space key row < length (texts_of tree space)
number_within {tree = tree} {space = space} key row its =
    rw (its.text_is, its.named) (small_within its.at (length (texts_of tree space)) (at_within its))
  where
    small_within : (m n : ℕ) → m < n → small m < n
    small_within m n h = grind (arith, nat_tests)

-- and it is the index, where the space has at most 4,000 names
pub number_is : {tree : Members} {space : Space} (key : List ℕ) (row : Members) →
    (its : Names tree space (text_at key row)) →
    length (texts_of tree space) ≤ 4000 → named_at tree space its.q ≡ Some (number_at tree space key row)
number_is {tree = tree} {space = space} key row its bounded =
    let within = at_within its in
    let number : number_at tree space key row ≡ its.at =
    rw its.text_is (index_read tree space its.q its.at its.named (omega arith)) in
    rw number its.named

module _ (tree : Members) (clean : AreClean tree) where
  pub name_there : (t : BasinTable) (k : ℕ) (row : Members) →
      slice_get (keys_of t) 0 ≡ Some (required (codes "name") Name) → IsClean tree (entry_of t k row) →
      (q : List ℕ) × (text_at (codes "name") row ≡ Some q) × (is_name q ≡ true)
  name_there t k row at its =
      some_text (codes "name") (get_member (codes "name") row) (fits_at tree (entry_of t k row) its 0 _ at)

  -- the texts that name the entries of a table
  pub texts_in-rows : (t : BasinTable) → IsListed t → texts_in tree t ≡ map (text_at (own_key t)) (rows_in tree t)
  texts_in-rows t h =
      ap (texts_after (own_key t)) (clean.tidy t h).lists ∙ texts_listing (own_key t) (rows_in tree t)

  pub length-rows_in : (t : BasinTable) → IsListed t → length (rows_in tree t) ≡ items_len (items_at tree t)
  length-rows_in t h = sym (ap items_len (clean.tidy t h).lists ∙ len_listing (rows_in tree t))

-- a text of a clean row that should name an entry does
pub refers_there : (tree : Members) (t : BasinTable) (k : ℕ) (row : Members) (i : ℕ) (key : List ℕ) (space : Space) →
    slice_get (keys_of t) i ≡ Some (required key (Refers space)) → IsClean tree (entry_of t k row) →
    Names tree space (text_at key row)
refers_there tree t k row i key space at its =
    names_by tree key space (get_member key row) (fits_at tree (entry_of t k row) its i _ at)

-- a text stands at no index before this one
abbrev IsFirst : List (Option (List ℕ)) → ℕ → List ℕ → Type 0
IsFirst texts k q = option_map_or (λ at. nat_lt at k) (first_from (is_the_text q) 0 texts) false ≡ false

-- each text, after n others, is the first of its kind among all
abbrev pub AreOwn : List (Option (List ℕ)) → ℕ → List (Option (List ℕ)) → Type 0
AreOwn all n texts = (k : ℕ) (q : List ℕ) → slice_get texts k ≡ Some (Some q) → IsFirst all (n + k) q

own_append : (all : List (Option (List ℕ))) (n : ℕ) (xs ys : List (Option (List ℕ))) → AreOwn all n xs →
    AreOwn all (n + length xs) ys → AreOwn all n (xs ++ ys)
own_append all n [] ys a b k q at =
    let same : n + 0 + k ≡ n + k = omega arith in subst (λ (m : ℕ). IsFirst all m q) same (b k q at)
own_append all n (x ∷ xs) ys a b zero q at = a zero q at
own_append all n (x ∷ xs) ys a b (suc k) q at =
    let same : n + 1 + k ≡ n + suc k = omega arith in
    subst (λ (m : ℕ). IsFirst all m q) same (own_append all (n + 1) xs ys
    (λ j r there. (let up : n + suc j ≡ n + 1 + j = omega arith in
    subst (λ (m : ℕ). IsFirst all m r) up (a (suc j) r there)))
    (λ j r there. (let up : n + suc (length xs) + j ≡ n + 1 + length xs + j = omega arith in
    subst (λ (m : ℕ). IsFirst all m r) up (b j r there))) k q at)

-- where each text is, no two indices have one text
pub own_texts : (texts : List (Option (List ℕ))) → AreOwn texts 0 texts → (i j : ℕ) (q : List ℕ) → i < j →
    slice_get texts i ≡ Some (Some q) → slice_get texts j ≡ Some (Some q) → ⊥
own_texts texts own i j q before one other =
    let first = first_le (is_the_text q) 0 texts i (Some q) one ((bytes_eq-Decides q q).1 refl) in
    let within : first.0 ≤ 0 + i = first.2 in
    let low = ltb-false first.0 (0 + j) (rw (first.1) at (own j q other)) in
    omega arith

-- what is named at one index is one text
pub same_text : (tree : Members) (space : Space) (q r : List ℕ) (at : ℕ) → named_at tree space q ≡ Some at →
    named_at tree space r ≡ Some at → q ≡ r
same_text tree space q r at one other =
    let a = text_first q (texts_of tree space) at one in let b = text_first r (texts_of tree space) at other in cc

-- where the names of entries are such texts, no two of them have one name
pub own_names : {X : Type 0} (name : X → List ℕ) (entries : List X) (texts : List (Option (List ℕ))) →
    map (λ x. Some (name x)) entries ≡ texts → AreOwn texts 0 texts → HaveOwn name entries
own_names {X = X} name entries texts same own i j before within equal =
    let one = entry_at entries i (omega arith) in
    let other = entry_at entries j within in
    let names : name one.0 ≡ name other.0 = rw (one.1, other.1) at equal in
    own_texts texts own i j (name one.0) before (text_at_index i one.0 one.1)
    (rw names (text_at_index j other.0 other.1))
  where
    text_at_index : (k : ℕ) (x : X) → slice_get entries k ≡ Some x → slice_get texts k ≡ Some (Some (name x))
    text_at_index k x there = rw (← same) (rw (slice_get-map (λ y. Some (name y)) entries k) (rw there refl))

module _ (tree : Members) (clean : AreClean tree) where
  pub table_own : (t : BasinTable) → IsListed t → (space : Space) → own_space t ≡ Some space →
      AreOwn (texts_of tree space) (rights_before tree t) (texts_in tree t)
  table_own t h space is k q at =
      by (slice_get (rows_in tree t) k) refl (sym (slice_get-map (text_at (own_key t)) (rows_in tree t) k)
      ∙ (ap (λ ts. slice_get ts k) (sym (texts_in-rows tree clean t h)) ∙ at))
    where
      by : (o : Option Members) → slice_get (rows_in tree t) k ≡ o →
          option_map (text_at (own_key t)) o ≡ Some (Some q) →
          IsFirst (texts_of tree space) (rights_before tree t + k) q
      by None there text = cc
      by (Some row) there text =
          let its : text_at (own_key t) row ≡ Some q = cc in
          let same : k + 1 - 1 ≡ k = omega arith in
          subst (λ (n : ℕ). IsFirst (texts_of tree space) (rights_before tree t + n) q) same
          (rw (is, its) at (rest_of tree (entry_of t k row) (clean_at tree clean t h k row there)).same)

  -- the names of rights, over their three tables
  pub rights_own : AreOwn (texts_of tree Rights) 0 (texts_of tree Rights)
  rights_own =
      own_append all 0 (texts_in tree Diversion ++ texts_in tree Instream) (texts_in tree Zone)
      (own_append all 0 (texts_in tree Diversion) (texts_in tree Instream) (table_own Diversion tt Rights refl)
      (subst (λ (n : ℕ). AreOwn all n (texts_in tree Instream)) (len Diversion tt) (table_own Instream tt Rights refl)))
      (subst (λ (n : ℕ). AreOwn all n (texts_in tree Zone)) both (table_own Zone tt Rights refl))
    where
      all : List (Option (List ℕ))
      all = texts_of tree Rights

      len : (t : BasinTable) → IsListed t → items_len (items_at tree t) ≡ 0 + length (texts_in tree t)
      len t h =
          let texts : length (texts_in tree t) ≡ length (rows_in tree t) =
          ap (λ ts. length ts) (texts_in-rows tree clean t h) ∙ length-map (rows_in tree t) (text_at (own_key t)) in
          let rows = length-rows_in tree clean t h in
          omega arith

      both : items_len (items_at tree Diversion) + items_len (items_at tree Instream) ≡ 0 + length
          (texts_in tree Diversion ++ texts_in tree Instream)
      both =
          let a = len Diversion tt in
          let b = len Instream tt in
          rw length-append (omega arith)

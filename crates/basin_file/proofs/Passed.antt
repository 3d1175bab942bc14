-- A document has no fault by itself exactly where its top and its entries are clean.
use Rattle.std.proofs.Common.{◌≡◌, ℕ, zero, suc, ◌+◌, List, [], ◌∷◌, ◌++◌, map, Bool, true, false, not, ◌&&◌, ◌||◌}
use Rattle.std.proofs.Common.{Option, Some, None, option_map, option_and_then, unwrap_or, is_some, slice_get, Ordering}
use Rattle.std.proofs.Common.{Less, Equal, Greater, refl, sym, ap, ◌∙◌, inl, inr, option_to_list, arith, zero-add, All}
use Rattle.std.proofs.Common.{get_or, length}
use Rattle.std.proofs.lemmas.Bool.{and_parts, both_ways, cases_Bool, false_from_ne_true, not-false, or_from, or_parts}
use Rattle.std.proofs.lemmas.List.{drop_at, take_at}
use Rattle.std.proofs.lemmas.List.Elements.{All-append, All-cons, All-drop, All-head, All-nil, All-same, All-tail}
use Rattle.std.proofs.lemmas.List.Elements.{All-take}
use Rattle.std.proofs.lemmas.List.Folds.{list_any_at, list_any_none}
use Rattle.std.proofs.lemmas.Map.Text.{is_eq-slice_cmp}
use Rattle.std.proofs.lemmas.Slice.Eq.{bytes_eq-Decides}
use Rattle.std.specs.Cmp.Lexicographic.{slice_cmp}
use Rattle.std.specs.List.{AllByRecursion as Each, find, flat_map, list_any}
use Rattle.std.specs.Option.{option_or, option_map_or}
use Rattle.std.specs.Ordering.{nat_cmp, is_eq, match_ordering}
use Rattle.std.specs.Str.{bytes_eq}
use Rattle.toml.specs.Data.{Data, Items, no_items, item, table, Members, no_members, member, get_member, as_array}
use Rattle.toml.specs.Data.{as_table}
use Rattle.toml.specs.View.{items_of}
use Rattle.toml_tree.specs.Items.{items_all}
use Rattle.basin_tree.specs.declared.tables.BasinTable.{BasinTable}
use Rattle.basin_tree.specs.declared.tables.BasinTable.TheVariants.{Top, Node, Link, Reservoir, Diversion, Instream}
use Rattle.basin_tree.specs.declared.tables.BasinTable.TheVariants.{Zone, Return}
use Rattle.basin_tree.specs.declared.tables.Kind.{Kind}
use Rattle.basin_tree.specs.declared.tables.Kind.TheVariants.{Tables}
use Rattle.basin_tree.specs.Entries.{Entry, entries_after, entries_in, entries_of, items_at, found_at}
use Rattle.basin_tree.specs.KeyFaults.{any_value, format_of, has_no_nodes, has_unknown, is_known, lacks_key, runs_late}
use Rattle.basin_tree.specs.KeyFaults.{shuts_no_canal}
use Rattle.basin_tree.specs.Kinds.{has_kind}
use Rattle.basin_tree.specs.NameFaults.{is_bad_name, names_none, same_name, stands_at_outlet, too_many}
use Rattle.basin_tree.specs.Order.{Pass, found_by, first_fault, passes, tree_fault}
use Rattle.basin_tree.specs.Ranges.{in_range}
use Rattle.basin_tree.specs.Tables.{KeyRow, keys_of, table_name, listed}
use Rattle.basin_file.specs.Spelled.{rows_after, rows_in}
use Rattle.water_model.proofs.Lists.{all_at}

pub or_none : {X : Type 0} (a b : Option X) → option_or a b ≡ None → (a ≡ None) × (b ≡ None)
or_none None b e = (refl, e)
or_none (Some x) b e = cc

map_none : {X Y : Type 0} (f : X → Y) (a : Option X) → option_map f a ≡ None → a ≡ None
map_none f None e = refl
map_none f (Some x) e = cc

-- a test that none of a list passes
none_any : {X : Type 0} (p : X → Bool) (xs : List X) → list_any p xs ≡ false → All (λ x. p x ≡ false) xs
none_any p xs e = λ k d h. false_from_ne_true (p (get_or xs k d))
    (λ is. both_ways (list_any p xs) e (list_any_at p xs k d h is))

none_found : {X : Type 0} (p : X → Bool) (xs : List X) → All (λ x. p x ≡ false) xs → find p xs ≡ None
none_found p [] all = refl
none_found p (x ∷ xs) all =
    rw (All-head (λ x. p x ≡ false) x xs all) (none_found p xs (All-tail (λ x. p x ≡ false) x xs all))

all_unfound : {X : Type 0} (p : X → Bool) (xs : List X) → find p xs ≡ None → All (λ x. p x ≡ false) xs
all_unfound p [] e = All-nil (λ x. p x ≡ false)
all_unfound p (x ∷ xs) e =
    elim (cases_Bool (p x)) [
      | inl there ↦ (let h = rw there at e in cc)
      | inr other ↦ All-cons (λ x. p x ≡ false) x xs other (all_unfound p xs (rw other at e))
    ]

-- an entry that no test of a list finds
abbrev PassesAll : List Pass → Members → Entry → Type 0
PassesAll list tree e = Each (λ pass. pass.1 tree e ≡ false) list

all_pass : (list : List Pass) (tree : Members) → first_fault list tree ≡ None →
    All (PassesAll list tree) (entries_of tree)
all_pass [] tree e = λ k d h. tt
all_pass (pass ∷ list) tree e =
    let both = or_none (found_by pass tree) (first_fault list tree) e in
    let here = all_unfound (pass.1 tree) (entries_of tree)
    (map_none (found_at pass.0) (find (pass.1 tree) (entries_of tree)) both.0) in
    let rest = all_pass list tree both.1 in
    λ k d h. (here k d h, rest k d h)

none_first : (list : List Pass) (tree : Members) → All (PassesAll list tree) (entries_of tree) →
    first_fault list tree ≡ None
none_first [] tree all = refl
none_first (pass ∷ list) tree all =
    ap (λ (o : Option Entry). option_or (option_map (found_at pass.0) o) (first_fault list tree))
    (none_found (pass.1 tree) (entries_of tree) (λ k d h. (all k d h).0))
    ∙ none_first list tree (λ k d h. (all k d h).1)

abbrev pub IsClean : Members → Entry → Type 0
IsClean tree e = PassesAll passes tree e

-- a value, or none, that fits a key
pub record Fits (format : ℕ) (tree : Members) (key : KeyRow) (o : Option Data) : Type 0 where
  pub present : (key.is_required && not (is_some o)) ≡ false
  pub kinds : option_map_or (λ d. not (has_kind format key.kind d)) o false ≡ false
  pub ranges : option_map_or (λ d. not (in_range key.kind d)) o false ≡ false
  pub names : option_map_or (is_bad_name key.kind) o false ≡ false
  pub refers : option_map_or (names_none tree key.kind) o false ≡ false

-- what a clean entry keeps beside that its values fit
pub record IsRest (tree : Members) (e : Entry) : Type 0 where
  pub known : has_unknown (format_of tree) e.table e.row ≡ false
  pub nodes : has_no_nodes e.table e.row ≡ false
  pub canal : shuts_no_canal e.table e.row ≡ false
  pub late : runs_late e.table e.row ≡ false
  pub many : too_many tree e ≡ false
  pub same : same_name tree e ≡ false
  pub outlets : stands_at_outlet e.table tree e.row ≡ false

module _ (tree : Members) (e : Entry) where
  abbrev pub FitsKey : KeyRow → Type 0
  FitsKey key = Fits (format_of tree) tree key (get_member key.name e.row)

  -- an entry is clean where its values fit and it keeps the rest
  pub clean_by : All FitsKey (keys_of e.table) → IsRest tree e → IsClean tree e
  clean_by fits rest =
      let missing = or_from (lacks_key e.table e.row || has_no_nodes e.table e.row) (shuts_no_canal e.table e.row)
      (or_from (lacks_key e.table e.row) (has_no_nodes e.table e.row)
      (list_any_none (λ key. key.is_required && not (is_some (get_member key.name e.row))) (keys_of e.table)
      (λ k d h. (fits k d h).present)) rest.nodes) rest.canal in
      let kinds = value (λ kind d. not (has_kind (format_of tree) kind d)) (λ key f. f.kinds) in
      let ranges = or_from (any_value (λ kind d. not (in_range kind d)) e.table e.row) (runs_late e.table e.row)
      (value (λ kind d. not (in_range kind d)) (λ key f. f.ranges)) rest.late in
      let names = value is_bad_name (λ key f. f.names) in
      let refers = value (names_none tree) (λ key f. f.refers) in
      (rest.known, (missing, (kinds, (ranges, (names, (rest.many, (rest.same, (refers, (rest.outlets, tt)))))))))
    where
      value : (test : Kind → Data → Bool) →
          ((key : KeyRow) → FitsKey key → option_map_or (test key.kind) (get_member key.name e.row) false ≡ false) →
          any_value test e.table e.row ≡ false
      value test f =
          list_any_none (λ key. option_map_or (test key.kind) (get_member key.name e.row) false) (keys_of e.table)
          (λ k d h. f _ (fits k d h))

  -- and the other way round
  module _ (clean : IsClean tree e) where
    lacks : (lacks_key e.table e.row ≡ false) × (has_no_nodes e.table e.row ≡ false)
    lacks = or_parts (lacks_key e.table e.row) (has_no_nodes e.table e.row)
        (or_parts (lacks_key e.table e.row || has_no_nodes e.table e.row) (shuts_no_canal e.table e.row) clean.1.0).0

    in_time : (any_value (λ kind d. not (in_range kind d)) e.table e.row ≡ false) × (runs_late e.table e.row ≡ false)
    in_time = or_parts (any_value (λ kind d. not (in_range kind d)) e.table e.row) (runs_late e.table e.row)
        clean.1.1.1.0

    pub rest_of : IsRest tree e
    rest_of = record {
      known = clean.0;
      nodes = lacks.1;
      canal = (or_parts (lacks_key e.table e.row || has_no_nodes e.table e.row) (shuts_no_canal e.table e.row)
          clean.1.0).1;
      late = in_time.1;
      many = clean.1.1.1.1.1.0;
      same = clean.1.1.1.1.1.1.0;
      outlets = clean.1.1.1.1.1.1.1.1.0;
    }

    pub fits_at : (i : ℕ) (key : KeyRow) → slice_get (keys_of e.table) i ≡ Some key → FitsKey key
    fits_at i key at = all_at FitsKey (keys_of e.table) i key (λ k d h. record {
      present = none_any (λ key. key.is_required && not (is_some (get_member key.name e.row))) (keys_of e.table) lacks.0
          k d h;
      kinds = value (λ kind d. not (has_kind (format_of tree) kind d)) clean.1.1.0 k d h;
      ranges = value (λ kind d. not (in_range kind d)) in_time.0 k d h;
      names = value is_bad_name clean.1.1.1.1.0 k d h;
      refers = value (names_none tree) clean.1.1.1.1.1.1.1.0 k d h;
    }) at
      where
        value : (test : Kind → Data → Bool) → any_value test e.table e.row ≡ false →
            All (λ key. option_map_or (test key.kind) (get_member key.name e.row) false ≡ false) (keys_of e.table)
        value test =
            none_any (λ key. option_map_or (test key.kind) (get_member key.name e.row) false) (keys_of e.table)

-- the items of a list of tables
abbrev pub listing : List Members → Items
listing rows = items_of (map (λ row. table row) rows)

listing_all : (items : Items) → items_all (λ x. is_some (as_table x)) items ≡ true → items ≡ listing (rows_after items)
listing_all no_items e = refl
listing_all (item d ds) e =
    let both = and_parts (is_some (as_table d)) (items_all (λ x. is_some (as_table x)) ds) e in
    by d both.0 (listing_all ds both.1)
  where
    by : (d : Data) → is_some (as_table d) ≡ true → ds ≡ listing (rows_after ds) →
        item d ds ≡ listing (option_to_list (as_table d) ++ rows_after ds)
    by (table row) some rest = ap (item (table row)) rest
    by _ some rest = cc

-- the entries of such a list, by the indices of their rows
abbrev pub entry_of : BasinTable → ℕ → Members → Entry
entry_of t k row = record { table = t; number = k + 1; row = row }

entries_listing : (t : BasinTable) (n : ℕ) (rows : List Members) (k : ℕ) →
    slice_get (entries_after t n (listing rows)) k ≡ option_map (entry_of t (n + k)) (slice_get rows k)
entries_listing t n [] k = refl
entries_listing t n (row ∷ rows) zero =
    let same : n ≡ n + 0 = omega arith in ap (λ (m : ℕ). Some (entry_of t m row)) same
entries_listing t n (row ∷ rows) (suc k) =
    let same : n + 1 + k ≡ n + suc k = omega arith in
    entries_listing t (n + 1) rows k ∙ ap (λ (m : ℕ). option_map (entry_of t m) (slice_get rows k)) same

pub entries_are : (tree : Members) (t : BasinTable) (rows : List Members) → items_at tree t ≡ listing rows → (k : ℕ) →
    slice_get (entries_in tree t) k ≡ option_map (entry_of t k) (slice_get rows k)
entries_are tree t rows lists k =
    ap (λ items. slice_get (entries_after t 0 items) k) lists
    ∙ (entries_listing t 0 rows k ∙ ap (λ (m : ℕ). option_map (entry_of t m) (slice_get rows k)) (zero-add k))

all_lists : {A X : Type 0} (P : X → Type 0) (g : A → List X) (lists : List A) → All P (flat_map g lists) →
    All (λ a. All P (g a)) lists
all_lists P g [] all = All-nil (λ a. All P (g a))
all_lists P g (a ∷ lists) all =
    All-cons (λ a. All P (g a)) a lists
    (All-same P (g a) _ (sym (take_at (g a) (flat_map g lists) _ refl)) (All-take P (length (g a)) _ all))
    (all_lists P g lists
    (All-same P (flat_map g lists) _ (sym (drop_at (g a) (flat_map g lists) _ refl)) (All-drop P (length (g a)) _ all)))

all_flat : {A X : Type 0} (P : X → Type 0) (g : A → List X) (lists : List A) → Each (λ a. All P (g a)) lists →
    All P (flat_map g lists)
all_flat P g [] each = All-nil P
all_flat P g (a ∷ lists) each = All-append P (g a) (flat_map g lists) each.0 (all_flat P g lists each.1)

-- the tables that the top lists, with their places
abbrev pub IsListed : BasinTable → Type 0
IsListed Top = ⊥
IsListed _ = Unit {0}

place : (t : BasinTable) → IsListed t → (i : ℕ) × (needed : Bool) × (slice_get listed i ≡ Some t) ×
    (slice_get (keys_of Top) (i + 3)
    ≡ Some (record { name = table_name t; is_required = needed; kind = Tables; since = 1 }))
place Top h = absurd h
place Node h = (0, true, refl, refl)
place Link h = (1, false, refl, refl)
place Reservoir h = (2, false, refl, refl)
place Diversion h = (3, false, refl, refl)
place Instream h = (4, false, refl, refl)
place Zone h = (5, false, refl, refl)
place Return h = (6, false, refl, refl)

-- a table lists tables, and they are clean
pub record IsTidy (tree : Members) (t : BasinTable) : Type 0 where
  pub lists : items_at tree t ≡ listing (rows_in tree t)
  pub clean : All (IsClean tree) (entries_in tree t)

abbrev pub top_entry : Members → Entry
top_entry tree = record { table = Top; number = 0; row = tree }

pub record AreClean (tree : Members) : Type 0 where
  pub top : IsClean tree (top_entry tree)
  pub tidy : (t : BasinTable) → IsListed t → IsTidy tree t

-- the list at a key of tables
tables_in : (format : ℕ) (o : Option Data) → option_map_or (λ d. not (has_kind format Tables d)) o false ≡ false →
    items_all (λ x. is_some (as_table x)) (unwrap_or (option_and_then as_array o) no_items) ≡ true
tables_in format None k = refl
tables_in format (Some d) k = by (as_array d) (not-false _ k)
  where
    by : (a : Option Items) → option_map_or (items_all (λ x. is_some (as_table x))) a false ≡ true →
        items_all (λ x. is_some (as_table x)) (unwrap_or a no_items) ≡ true
    by None e = cc
    by (Some items) e = e

pub all_clean : (tree : Members) → tree_fault tree ≡ None → AreClean tree
unfolding tree_fault
all_clean tree e =
    let all = all_pass passes tree e in
    let top = all 0 (top_entry tree) (omega arith) in
    record {
      top = top;
      tidy = λ t is_listed.
          (let at = place t is_listed in
          let fits = fits_at tree (top_entry tree) top (at.0 + 3) _ at.3 in
          record {
            lists = listing_all (items_at tree t)
                (tables_in (format_of tree) (get_member (table_name t) tree) fits.kinds);
            clean = all_at (λ t. All (IsClean tree) (entries_in tree t)) listed at.0 t
                (all_lists (IsClean tree) (entries_in tree) listed (All-tail (IsClean tree) (top_entry tree) _ all))
                at.2;
          });
    }

pub no_tree_fault : (tree : Members) → AreClean tree → tree_fault tree ≡ None
unfolding tree_fault
no_tree_fault tree are =
    none_first passes tree
    (All-cons (IsClean tree) (top_entry tree) _ are.top
    (all_flat (IsClean tree) (entries_in tree) listed (
      each Node tt,
      (
        each Link tt,
        (
          each Reservoir tt,
          (each Diversion tt, (each Instream tt, (each Zone tt, (each Return tt, tt)))),
        ),
      ),
    )))
  where
    each : (t : BasinTable) → IsListed t → All (IsClean tree) (entries_in tree t)
    each t is_listed = (are.tidy t is_listed).clean

-- a row of a clean document
pub clean_at : (tree : Members) → AreClean tree → (t : BasinTable) → IsListed t → (k : ℕ) (row : Members) →
    slice_get (rows_in tree t) k ≡ Some row → IsClean tree (entry_of t k row)
clean_at tree are t is_listed k row at =
    let its = are.tidy t is_listed in
    all_at (IsClean tree) (entries_in tree t) k (entry_of t k row) its.clean
    (entries_are tree t (rows_in tree t) its.lists k ∙ ap (option_map (entry_of t k)) at)

-- a key that a table doesn't have in the format isn't there
pub absent : (format : ℕ) (t : BasinTable) (key : List ℕ) (row : Members) → has_unknown format t row ≡ false →
    is_known format (keys_of t) key ≡ false → get_member key row ≡ None
absent format t key no_members e other = refl
absent format t key (member name d ms) e other =
    let both = or_parts (not (is_known format (keys_of t) name)) (has_unknown format t ms) e in
    by (slice_cmp nat_cmp key name) refl (not-false (is_known format (keys_of t) name) both.0)
    (absent format t key ms both.1 other)
  where
    by : (o : Ordering) → slice_cmp nat_cmp key name ≡ o → is_known format (keys_of t) name ≡ true →
        get_member key ms ≡ None →
        match_ordering o (get_member key ms) (Some d) (get_member key ms) ≡ None
    by Less e known rest = rest
    by Greater e known rest = rest
    by Equal e known rest =
        let same : bytes_eq key name ≡ true = sym (is_eq-slice_cmp key name) ∙ ap is_eq e in
        let is : key ≡ name = (bytes_eq-Decides key name).0 same in
        let known_key : is_known format (keys_of t) key ≡ true = rw is known in
        let never : true ≡ false = sym known_key ∙ other in cc

-- What a clean document spells is sound: each entry is valid, and so are all together.
use Rattle.std.proofs.lemmas.Bool.{leb-false, eqb-true, not-false}
use Rattle.std.proofs.Common.{◌≡◌, ℕ, zero, suc, ◌+◌, ◌*◌, ◌^◌, ◌<◌, ◌≤◌, ◌==◌, List, [], ◌∷◌, ◌++◌, length, map, Bool}
use Rattle.std.proofs.Common.{nat_lt, true, false, Option, Some, None, option_map, option_and_then, ap, unwrap_or}
use Rattle.std.proofs.Common.{is_some, slice_get, refl, sym, ◌∙◌, arith, codes, length-append, zero-add, not, IsTrue}
use Rattle.std.proofs.Common.{◌≢◌, ◌-◌, take, count_by, append_assoc, All}
use Rattle.std.proofs.lemmas.Bool.Decides.{nat_tests}
use Rattle.std.proofs.lemmas.List.{length-map, append-nil, map-append, take_all}
use Rattle.std.proofs.lemmas.Option.{slice_get-map}
use Rattle.std.specs.Option.{option_map_or}
use Rattle.toml.specs.Data.{Data, Items, Members, get, get_item, get_member, as_array, as_bool, as_table, no_items}
use Rattle.toml.specs.Data.{table}
use Rattle.toml_tree.specs.Items.{items_all, items_len}
use Rattle.toml_tree.specs.Values.{text_at, integer_at, text_or_empty, integer_of}
use Rattle.water_text.specs.Names.{is_name}
use Rattle.water_model.specs.Basin.{is_outlet, node_of_reservoir}
use Rattle.water_model.specs.Lookups.{of_entry}
use Rattle.water_model.specs.Valid.{HasValidSite, IsValidVolume, IsValidNode, IsValidLink, IsValidRight, IsValidReturn}
use Rattle.water_model.specs.Valid.{is_diversion_kind, HasValidFormat, IsValidRun, HasBoundedEntries, AreRanked}
use Rattle.water_model.specs.Valid.{rank_of_kind, rows_of, IsAlwaysOpen, IsRightAlone, IsWithoutStores, HasSoundStores}
use Rattle.water_model.specs.Valid.{is_series, is_zone_kind, is_zone_with_rule}
use Rattle.water_model.specs.Stores.{first_stored, sum_in_reservoir}
use Rattle.water_model.specs.declared.types.Basin.{Basin}
use Rattle.finite_sums.specs.Sums.{total}
use Rattle.water_model.specs.declared.types.Node as node
use Rattle.water_model.specs.declared.types.Right.{Right}
use Rattle.water_model.specs.declared.types.RightKind.{RightKind}
use Rattle.water_model.specs.declared.types.RightKind.TheVariants as kind
use Rattle.basin_tree.specs.declared.tables.BasinTable.{BasinTable}
use Rattle.basin_tree.specs.declared.tables.BasinTable.TheVariants.{Node, Link, Reservoir, Diversion, Instream, Zone}
use Rattle.basin_tree.specs.declared.tables.BasinTable.TheVariants.{Return}
use Rattle.basin_tree.specs.declared.tables.Kind.TheVariants.{Name, Refers, Tables, Want}
use Rattle.basin_tree.specs.declared.tables.Space.{Space}
use Rattle.basin_tree.specs.declared.tables.Space.TheVariants.{Nodes, Links, Reservoirs, Diversions, Rights}
use Rattle.basin_tree.specs.NameFaults.{is_outlet_at, rights_before}
use Rattle.basin_tree.specs.Indices.{own_key, texts_in, texts_of, named_at}
use Rattle.basin_tree.specs.Tables.{keys_of, required}
use Rattle.basin_file.specs.Sound.{IsSoundReservoir, IsSoundBasin}
use Rattle.basin_file.specs.Spelled.{name_at, rows_in, number_at, node_of, link_of, reservoir_of, right_of, volume_of}
use Rattle.basin_file.specs.Spelled.{diversion_of, instream_of, zone_of, return_of, rights_of, basin_of, want_of, IsPlain}
use Rattle.basin_file.proofs.Counts.{bounded_by, bounded_pass, count_taken, count_where-entries, counts_within}
use Rattle.basin_file.proofs.Counts.{earlier_at}
use Rattle.basin_file.proofs.Listed.{item_listing, HaveOwn, texts_listing, all_by, map_alike, name_there, refers_there}
use Rattle.basin_file.proofs.Listed.{texts_in-rows, length-rows_in, number_within, number_is, own_names, own_texts}
use Rattle.basin_file.proofs.Listed.{rights_own, same_text, table_own}
use Rattle.basin_file.proofs.Values.{whole_in, volume_valid, want_valid, monthly_in, points_valid, bounded_points}
use Rattle.basin_file.proofs.Values.{inflow_valid, carry_valid, always_open, no_text, first_valid, run_ends}
use Rattle.basin_file.proofs.Passed.{AreClean, Fits, IsClean, IsListed, IsRest, clean_at, entry_of, fits_at, rest_of}
use Rattle.basin_file.proofs.Passed.{top_entry, absent}
use Rattle.std.proofs.lemmas.List.Elements.{All-append, All-map}
use Rattle.std.proofs.lemmas.Slice.Eq.{bytes_eq-Decides}
use Rattle.toml_tree.specs.Texts.{texts_after, is_the_text, earlier_like}
use Rattle.water_model.specs.declared.types.ReturnRow.{ReturnRow}
use Rattle.water_model.proofs.Valid.{entry_at, entry_holds}
use Rattle.basin_tree.specs.Entries.{Entry, items_at}
use Rattle.basin_tree.specs.KeyFaults.{format_of, is_known}
use Rattle.basin_tree.specs.Kinds.{has_kind}

-- at least one node is listed
some_items : {format : ℕ} {tree : Members} (o : Option Data) → Fits format tree (required (codes "node") Tables) o →
    option_map_or (λ items. items_len items == 0) (option_and_then as_array o) false ≡ false →
    1 ≤ items_len (unwrap_or (option_and_then as_array o) no_items)
some_items None fits n = let never : true ≡ false = fits.present in cc
some_items (Some d) fits n = by (as_array d) fits.kinds n
  where
    positive : (n : ℕ) → (n == 0) ≡ false → 1 ≤ n
    positive n e = grind (arith, nat_tests)

    by : (a : Option Items) → not (option_map_or (items_all (λ x. is_some (as_table x))) a false) ≡ false →
        option_map_or (λ items. items_len items == 0) a false ≡ false → 1 ≤ items_len (unwrap_or a no_items)
    by None e n = cc
    by (Some items) e n = positive (items_len items) n

ranked_more : (g : Members → Right) (n : ℕ) → ((members : Members) → rank_of_kind (g members).kind ≡ n) →
    (rows : List Members) (least : ℕ) (others : List Right) → least ≤ n →
    ((m : ℕ) → m ≤ n → AreRanked m others) → AreRanked least (map g rows ++ others)
ranked_more g n same [] least others low rest = rest least low
ranked_more g n same (members ∷ rows) least others low rest = (
  rw (same members) low,
  ranked_more g n same rows (rank_of_kind (g members).kind) others
      (rw (same members) (omega arith)) rest,
)

-- without accounts nothing is stored in them
nothing_stored : (b : Basin) (v : ℕ) → length b.accounts ≡ 0 → sum_in_reservoir b (first_stored b) v ≡ 0
unfolding total
nothing_stored b v none = rw none refl

-- what holds of each right holds at its index
no_rule : (rights : List Right) (r : ℕ) → r < length rights → All (λ x. is_zone_with_rule x ≡ false) rights →
    of_entry rights r is_zone_with_rule false ≡ false
no_rule rights r l all =
    let entry = entry_holds (λ x. is_zone_with_rule x ≡ false) rights r all l in
    ap (λ o. unwrap_or (option_map is_zone_with_rule o) false) entry.1 ∙ entry.2

-- what a document spells is of format 1 or 2
pub plain_of : (tree : Members) (b : Basin) → b ≡ basin_of tree → IsPlain b
plain_of tree b is = rw is (record {
  format = (whole_in 1 2 1 (get_member (codes "format") tree) (omega arith) (omega arith)).1;
  due = refl;
})

module _ (tree : Members) (clean : AreClean tree) where
  length_texts : (t : BasinTable) → IsListed t → length (texts_in tree t) ≡ length (rows_in tree t)
  length_texts t h =
      ap (λ ts. length ts) (texts_in-rows tree clean t h) ∙ length-map (rows_in tree t) (text_at (own_key t))

  bounded_table : (limit before : ℕ) (t : BasinTable) → IsListed t →
      ((k : ℕ) (row : Members) → IsRest tree (entry_of t k row) → nat_lt limit (before + (k + 1)) ≡ false) →
      before ≤ limit → before + length (rows_in tree t) ≤ limit
  bounded_table limit before t h many = bounded_by limit before (rows_in tree t)
      (λ k row at. many k row (rest_of tree (entry_of t k row) (clean_at tree clean t h k row at)))

  bounded_nodes : length (rows_in tree Node) ≤ 2000
  bounded_nodes =
      let h = bounded_table 2000 0 Node tt (λ k row rest. rw zero-add rest.many) (omega arith) in omega arith

  bounded_links : length (rows_in tree Link) ≤ 4000
  bounded_links =
      let h = bounded_table 4000 0 Link tt (λ k row rest. rw zero-add rest.many) (omega arith) in omega arith

  bounded_diversions : 0 + length (rows_in tree Diversion) ≤ 2000
  bounded_diversions = bounded_table 2000 0 Diversion tt (λ k row rest. rest.many) (omega arith)

  bounded_rights : length (rights_of tree) ≤ 2000
  bounded_rights =
      let diversions = length-rows_in tree clean Diversion tt in
      let instreams = length-rows_in tree clean Instream tt in
      let low = bounded_diversions in
      let more = bounded_table 2000 (rights_before tree Instream) Instream tt (λ k row rest. rest.many) (omega arith) in
      let most = bounded_table 2000 (rights_before tree Zone) Zone tt (λ k row rest. rest.many) (omega arith) in
      rw (
        length-append,
        length-append,
        length-map (rows_in tree Diversion) (diversion_of tree),
        length-map (rows_in tree Instream) (instream_of tree),
        length-map (rows_in tree Zone) (zone_of tree),
      ) (omega arith)

  some_node : 1 ≤ length (rows_in tree Node)
  some_node =
      rw (length-rows_in tree clean Node tt)
      (some_items (get_member (codes "node") tree) (fits_at tree (top_entry tree) clean.top 3 _ refl)
      (rest_of tree (top_entry tree) clean.top).nodes)

  counted : {X : Type 0} (t : BasinTable) → IsListed t → (spells : Members → X) →
      length (texts_in tree t) ≡ length (map spells (rows_in tree t))
  counted t h spells = length_texts t h ∙ sym (length-map (rows_in tree t) spells)

  bounded_node_texts : length (texts_of tree Nodes) ≤ 4000
  bounded_node_texts = let same = length_texts Node tt in let bounded = bounded_nodes in omega arith

  -- the right at an index among the diversions is one
  prefix_diversion : (rows : List Members) (more others : List Right) (k : ℕ) → k < length rows →
      of_entry (map (diversion_of tree) rows ++ more ++ others) k (λ r. is_diversion_kind r.kind) false ≡ true
  prefix_diversion [] more others k h = absurd (omega arith)
  prefix_diversion (row ∷ rows) more others zero h = refl
  prefix_diversion (row ∷ rows) more others (suc k) h = prefix_diversion rows more others k (omega arith)

  -- the node at an index is an outlet where the document says so
  outlet_at : (at : ℕ) → is_outlet (basin_of tree) at ≡ is_outlet_at tree at
  outlet_at at =
      ap (λ (o : Option node.Node). unwrap_or (option_map (λ n. n.outlet) o) false)
      (slice_get-map node_of (rows_in tree Node) at)
      ∙ (by (slice_get (rows_in tree Node) at)
      ∙ ap (λ (o : Option Data). option_map_or (λ outlet. outlet)
      (option_and_then as_bool (option_and_then (get (codes "outlet")) o)) false)
      (sym (ap (get_item at) (clean.tidy Node tt).lists ∙ item_listing (rows_in tree Node) at)))
    where
      truth : (o : Option Bool) → unwrap_or o false ≡ option_map_or (λ outlet. outlet) o false
      truth None = refl
      truth (Some b) = refl

      by : (o : Option Members) → unwrap_or (option_map (λ n. n.outlet) (option_map node_of o)) false
          ≡ option_map_or (λ outlet. outlet)
          (option_and_then as_bool (option_and_then (get (codes "outlet")) (option_map (λ row. table row) o))) false
      by None = refl
      by (Some row) = truth (option_and_then as_bool (get_member (codes "outlet") row))

  module _ (t : BasinTable) (k : ℕ) (row : Members) (its : IsClean tree (entry_of t k row)) where
    -- a text that should name an entry has a number below the count of the names in its space
    number : (i : ℕ) (key : List ℕ) (space : Space) (n : ℕ) →
        slice_get (keys_of t) i ≡ Some (required key (Refers space)) → length (texts_of tree space) ≡ n →
        number_at tree space key row < n
    number i key space n at len =
        let within = number_within key row (refers_there tree t k row i key space at its) in rw len at within

    name_of_row : slice_get (keys_of t) 0 ≡ Some (required (codes "name") Name) →
        (text_at (codes "name") row ≡ Some (name_at (codes "name") row)) × IsTrue (is_name (name_at (codes "name") row))
    name_of_row at =
        let there = name_there tree clean t k row at its in
        (rw there.1 (rw there.2 refl), rw (there.1) (rw (there.2) there.2))

  node_valid : (k : ℕ) (row : Members) → IsClean tree (entry_of Node k row) → IsValidNode (node_of row)
  node_valid k row its =
      record {
        name = (name_of_row Node k row its refl).1;
        inflow =
            inflow_valid (get_member (codes "inflow") row);
      }

  link_valid : (k : ℕ) (row : Members) → IsClean tree (entry_of Link k row) →
      IsValidLink (basin_of tree) (link_of tree row)
  link_valid k row its = record {
    name = (name_of_row Link k row its refl).1;
    ends = record {
      from = number Link k row its 1 (codes "from") Nodes _ refl (counted Node tt node_of);
      to = number Link k row its 2 (codes "to") Nodes _ refl (counted Node tt node_of);
    };
    carry = carry_valid (get_member (codes "per_day") row) (get_member (codes "closed") row);
  }

  reservoir_sound : (k : ℕ) (row : Members) → IsClean tree (entry_of Reservoir k row) →
      IsSoundReservoir (basin_of tree) (reservoir_of tree row)
  reservoir_sound k row its = record {
    node = number Reservoir k row its 0 (codes "node") Nodes _ refl (counted Node tt node_of);
    inner =
        (let there = refers_there tree Reservoir k row 0 (codes "node") Nodes refl its in
        let named = number_is (codes "node") row there bounded_node_texts in
        outlet_at (number_at tree Nodes (codes "node") row)
        ∙ (rw (there.text_is, named) at (rest_of tree (entry_of Reservoir k row) its).outlets));
    opening = (whole_in 0 (16 * 10 ^ 9) 0 (get_member (codes "opening") row) (omega arith) (omega arith)).1;
    points = points_valid (get_member (codes "area") row);
    bounded_points = bounded_points (get_member (codes "area") row)
        (rest_of tree (entry_of Reservoir k row) its).many;
    rate = monthly_in 10000 (get_member (codes "rate") row);
  }

  -- what each right keeps, whatever its kind
  right_valid : (t : BasinTable) (k : ℕ) (row : Members) (its : RightKind) (volume : Option ℕ) →
      IsClean tree (entry_of t k row) → slice_get (keys_of t) 0 ≡ Some (required (codes "name") Name) →
      HasValidSite (basin_of tree) its → IsValidVolume its volume 0 →
      IsValidRight (basin_of tree) (right_of its volume row)
  right_valid t k row its volume clean at site valid = record {
    name = (name_of_row t k row clean at).1;
    order = (whole_in 0 1000000 0 (get_member (codes "order") row) (omega arith) (omega arith)).1;
    site = site;
    want = want_valid (get_member (codes "want") row);
    volume = valid;
    season = record { twelve = refl; others = λ _. refl };
  }

  diversion_valid : (k : ℕ) (row : Members) → IsClean tree (entry_of Diversion k row) →
      IsValidRight (basin_of tree) (diversion_of tree row)
  diversion_valid k row its =
      let value = get_member (codes "volume") row in
      right_valid Diversion k row (kind.Diversion (number_at tree Nodes (codes "node") row)) (volume_of value) its refl
      (number Diversion k row its 1 (codes "node") Nodes _ refl (counted Node tt node_of))
      (volume_valid (number_at tree Nodes (codes "node") row) value)

  instream_valid : (k : ℕ) (row : Members) → IsClean tree (entry_of Instream k row) →
      IsValidRight (basin_of tree) (instream_of tree row)
  instream_valid k row its =
      right_valid Instream k row (kind.Instream (number_at tree Links (codes "link") row)) None its refl
      (number Instream k row its 1 (codes "link") Links _ refl (counted Link tt (link_of tree))) refl

  zone_valid : (k : ℕ) (row : Members) → IsClean tree (entry_of Zone k row) →
      IsValidRight (basin_of tree) (zone_of tree row)
  zone_valid k row its =
      let level = whole_in 1 16 1 (get_member (codes "level") row) (omega arith) (omega arith) in
      let count = counted Reservoir tt (reservoir_of tree) in
      let at = number Zone k row its 1 (codes "reservoir") Reservoirs _ refl count in
      right_valid Zone k row (kind.Zone (number_at tree Reservoirs (codes "reservoir") row)
      (integer_at (codes "level") 1 16 1 row)) None its refl (at, level.0, level.1) refl

  own_diversion : (k : ℕ) (row : Members) → IsClean tree (entry_of Return k row) →
      number_at tree Diversions (codes "diversion") row < length (rows_in tree Diversion)
  own_diversion k row its =
      number Return k row its 0 (codes "diversion") Diversions _ refl (length_texts Diversion tt)

  return_valid : (k : ℕ) (row : Members) → IsClean tree (entry_of Return k row) →
      IsValidReturn (basin_of tree) (return_of tree row)
  return_valid k row its = record {
    right =
        (let own = own_diversion k row its in
        let same = length-map (rows_in tree Diversion) (diversion_of tree) in
        rw (length-append, length-append) (omega arith));
    diversion = prefix_diversion (rows_in tree Diversion) _ _ _ (own_diversion k row its);
    node = number Return k row its 1 (codes "node") Nodes _ refl (counted Node tt node_of);
    part = whole_in 1 10000 1 (get_member (codes "part") row) (omega arith) (omega arith);
    lag = whole_in 1 120 1 (get_member (codes "lag") row) (omega arith) (omega arith);
    rest = omega arith;
  }

  -- a row's diversion is the one that its text names
  right_is : (k : ℕ) (row : Members) → IsClean tree (entry_of Return k row) →
      (q : List ℕ) × (text_at (codes "diversion") row ≡ Some q) ×
      (named_at tree Diversions q ≡ Some (return_of tree row).right)
  right_is k row its =
      let there = refers_there tree Return k row 0 (codes "diversion") Diversions refl its in
      let same = length_texts Diversion tt in
      let bounded = bounded_diversions in
      (there.q, there.text_is, number_is (codes "diversion") row there (omega arith))

  abbrev is_of : ℕ → ReturnRow → Bool
  is_of right entry = entry.right == right

  abbrev is_row_of : ℕ → Members → Bool
  is_row_of right row = is_of right (return_of tree row)

  abbrev names_it : List ℕ → Members → Bool
  names_it q row = is_the_text q (text_at (codes "diversion") row)

  -- fewer than 8 rows of its diversion stand before a row
  bounded_before : (right k : ℕ) (row : Members) → slice_get (rows_in tree Return) k ≡ Some row →
      is_row_of right row ≡ true → count_by (is_row_of right) (take k (rows_in tree Return)) < 8
  bounded_before right k row at is_row =
      let its = clean_at tree clean Return tt k row at in
      let text = right_is k row its in
      let same : (return_of tree row).right ≡ right = eqb-true (return_of tree row).right right is_row in
      let within = counts_within (is_row_of right) (names_it text.0) k (rows_in tree Return)
      (all_by (λ other. is_row_of right other ≡ true → names_it text.0 other ≡ true) (rows_in tree Return)
      (λ j other there. alike j other there text.0 (rw same at text.2))) in
      let earlier : earlier_like (texts_after (codes "diversion") (items_at tree Return)) (k + 1 - 1)
      ≡ count_by (names_it text.0) (take k (rows_in tree Return)) =
      ap (λ ts. earlier_like ts (k + 1 - 1)) texts
      ∙ earlier_at (text_at (codes "diversion")) (rows_in tree Return) (k + 1 - 1) k row text.0 (omega arith) at text.1
      in
      let few = leb-false 8 (earlier_like (texts_after (codes "diversion") (items_at tree Return)) (k + 1 - 1))
      (rest_of tree (entry_of Return k row) its).many in
      omega arith
    where
      alike : (j : ℕ) (other : Members) → slice_get (rows_in tree Return) j ≡ Some other → (q : List ℕ) →
          named_at tree Diversions q ≡ Some right → is_row_of right other ≡ true → names_it q other ≡ true
      alike j other at q named is_row =
          let text = right_is j other (clean_at tree clean Return tt j other at) in
          let its : (return_of tree other).right ≡ right = eqb-true (return_of tree other).right right is_row in
          let same : q ≡ text.0 = same_text tree Diversions q text.0 right named (rw its at text.2) in
          rw text.1 ((bytes_eq-Decides q text.0).1 same)

      texts : texts_after (codes "diversion") (items_at tree Return)
          ≡ map (text_at (codes "diversion")) (rows_in tree Return)
      texts = ap (texts_after (codes "diversion")) (clean.tidy Return tt).lists
          ∙ texts_listing (codes "diversion") (rows_in tree Return)

  bounded_rows : (right : ℕ) → rows_of (basin_of tree) right ≤ 8
  bounded_rows right =
      let rows = rows_in tree Return in
      let few = bounded_pass (is_row_of right) 8 rows (bounded_before right) (length rows) (omega arith) in
      let same = count_taken (return_of tree) (is_of right) (length rows) rows in
      let all = ap (count_by (is_of right)) (take_all (length rows) (map (return_of tree) rows)
      (omega (arith, length-map rows (return_of tree)))) in
      rw (count_where-entries (is_of right) (map (return_of tree) rows)) (omega arith)

  -- the names of what a table's rows spell are their texts
  names : {X : Type 0} (t : BasinTable) (h : IsListed t) (spells : Members → X) (name : X → List ℕ) →
      ((k : ℕ) (row : Members) → IsClean tree (entry_of t k row) →
      Some (name (spells row)) ≡ text_at (own_key t) row) →
      map (λ x. Some (name x)) (map spells (rows_in tree t)) ≡ texts_in tree t
  names t h spells name same =
      map_alike (λ x. Some (name x)) spells (text_at (own_key t)) (rows_in tree t)
      (all_by (λ row. Some (name (spells row)) ≡ text_at (own_key t) row) (rows_in tree t)
      (λ k row at. same k row (clean_at tree clean t h k row at)))
      ∙ sym (texts_in-rows tree clean t h)

  nodes_own : HaveOwn (λ n. n.name) (map node_of (rows_in tree Node))
  nodes_own =
      own_names (λ n. n.name) (map node_of (rows_in tree Node)) (texts_of tree Nodes)
      (names Node tt node_of (λ n. n.name) (λ k row its. sym (name_of_row Node k row its refl).0))
      (table_own tree clean Node tt Nodes refl)

  links_own : HaveOwn (λ l. l.name) (map (link_of tree) (rows_in tree Link))
  links_own =
      own_names (λ l. l.name) (map (link_of tree) (rows_in tree Link)) (texts_of tree Links)
      (names Link tt (link_of tree) (λ l. l.name) (λ k row its. sym (name_of_row Link k row its refl).0))
      (table_own tree clean Link tt Links refl)

  own_rights : HaveOwn (λ r. r.name) (rights_of tree)
  own_rights =
      own_names (λ r. r.name) (rights_of tree) (texts_of tree Rights)
      (rw (map-append (λ (r : Right). Some r.name), map-append (λ (r : Right). Some r.name))
      (λ i. names Diversion tt (diversion_of tree) (λ r. r.name)
      (λ k row its. sym (name_of_row Diversion k row its refl).0) i
      ++ names Instream tt (instream_of tree) (λ r. r.name)
      (λ k row its. sym (name_of_row Instream k row its refl).0) i
      ++ names Zone tt (zone_of tree) (λ r. r.name)
      (λ k row its. sym (name_of_row Zone k row its refl).0) i))
      (rights_own tree clean)

  -- a reservoir's node is the one that its text names
  node_is : (k : ℕ) (row : Members) → IsClean tree (entry_of Reservoir k row) →
      (q : List ℕ) × (text_at (codes "node") row ≡ Some q) ×
      (named_at tree Nodes q ≡ Some (reservoir_of tree row).node)
  node_is k row its =
      let there = refers_there tree Reservoir k row 0 (codes "node") Nodes refl its in
      (there.q, there.text_is, number_is (codes "node") row there bounded_node_texts)

  reservoirs_own : (i j : ℕ) → i < j → j < length (basin_of tree).reservoirs →
      node_of_reservoir (basin_of tree) i ≢ node_of_reservoir (basin_of tree) j
  reservoirs_own i j before within equal =
      let len = length-map (rows_in tree Reservoir) (reservoir_of tree) in
      let one = entry_at (rows_in tree Reservoir) i (omega arith) in
      let other = entry_at (rows_in tree Reservoir) j (omega arith) in
      let text = node_is i one.0 (clean_at tree clean Reservoir tt i one.0 one.1) in
      let text2 = node_is j other.0 (clean_at tree clean Reservoir tt j other.0 other.1) in
      let nodes : Some (reservoir_of tree one.0).node ≡ Some (reservoir_of tree other.0).node =
      (rw (
        slice_get-map (reservoir_of tree) (rows_in tree Reservoir) i,
        slice_get-map (reservoir_of tree) (rows_in tree Reservoir) j,
        one.1,
        other.1,
      ) at equal) in
      let same : text.0 ≡ text2.0 =
      same_text tree Nodes text.0 text2.0 (reservoir_of tree one.0).node text.2 (text2.2 ∙ sym nodes) in
      own_texts (texts_of tree Reservoirs) (table_own tree clean Reservoir tt Reservoirs refl) i j text.0 before
      (index i one.0 text.0 one.1 text.1) (rw same (index j other.0 text2.0 other.1 text2.1))
    where
      index : (k : ℕ) (row : Members) (q : List ℕ) → slice_get (rows_in tree Reservoir) k ≡ Some row →
          text_at (codes "node") row ≡ Some q →
          slice_get (texts_of tree Reservoirs) k ≡ Some (Some q)
      index k row q there text =
          rw (texts_in-rows tree clean Reservoir tt)
          (rw (slice_get-map (text_at (codes "node")) (rows_in tree Reservoir) k) (rw there (rw text refl)))

  all_valid : {X : Type 0} (P : X → Type 0) (t : BasinTable) → IsListed t → (spells : Members → X) →
      ((k : ℕ) (row : Members) → IsClean tree (entry_of t k row) → P (spells row)) →
      All P (map spells (rows_in tree t))
  all_valid P t h spells valid =
      All-map P spells (rows_in tree t)
      (all_by (λ row. P (spells row)) (rows_in tree t) (λ k row at. valid k row (clean_at tree clean t h k row at)))

  -- the same of all rights
  all_rights : (P : Right → Type 0) → ((k : ℕ) (row : Members) → IsClean tree (entry_of Diversion k row) →
      P (diversion_of tree row)) →
      ((k : ℕ) (row : Members) → IsClean tree (entry_of Instream k row) → P (instream_of tree row)) →
      ((k : ℕ) (row : Members) → IsClean tree (entry_of Zone k row) → P (zone_of tree row)) →
      All P (rights_of tree)
  all_rights P d i z =
      All-append P _ _ (All-append P _ _ (all_valid P Diversion tt (diversion_of tree) d)
      (all_valid P Instream tt (instream_of tree) i)) (all_valid P Zone tt (zone_of tree) z)

  run_valid : IsValidRun (basin_of tree)
  run_valid =
      let months = whole_in 1 1200 1 (get_member (codes "months") tree) (omega arith) (omega arith) in
      record {
        first = first_valid (text_or_empty (codes "first_month") tree);
        months = months;
        ends = run_ends (text_or_empty (codes "first_month") tree) (integer_at (codes "months") 1 1200 1 tree) months.0
            months.1 (rest_of tree (top_entry tree) clean.top).late;
      }

  bounded_entries : HasBoundedEntries (basin_of tree)
  bounded_entries = record {
    some_node = rw (length-map (rows_in tree Node) node_of) some_node;
    nodes = rw (length-map (rows_in tree Node) node_of) bounded_nodes;
    links = rw (length-map (rows_in tree Link) (link_of tree)) bounded_links;
    rights = bounded_rights;
    rows = λ right h. bounded_rows right;
    accounts = omega arith;
    draws = omega arith;
  }

  ranked : AreRanked 0 (rights_of tree)
  ranked = rw append_assoc
      (ranked_more (diversion_of tree) 0 (λ members. refl) (rows_in tree Diversion) 0 _ (omega arith)
      (λ m low. ranked_more (instream_of tree) 1 (λ members. refl) (rows_in tree Instream) m _ (omega arith)
      (λ m2 low2. rw (← append-nil (map (zone_of tree) (rows_in tree Zone)))
      (ranked_more (zone_of tree) 2 (λ members. refl) (rows_in tree Zone) m2 [] (omega arith) (λ m3 low3. tt)))))

  -- a key of format 2 isn't there in format 1
  lacks : format_of tree ≡ 1 → (e : Entry) (key : List ℕ) → IsClean tree e → is_known 1 (keys_of e.table) key ≡ false →
      get_member key e.row ≡ None
  lacks first e key its other =
      absent 1 e.table key e.row (rw first at (rest_of tree e its).known) other

  -- in format 1 no right has its wants in the series
  plain_wants : (t : BasinTable) (k : ℕ) (row : Members) (i : ℕ) →
      slice_get (keys_of t) i ≡ Some (required (codes "want") Want) →
      format_of tree ≡ 1 → IsClean tree (entry_of t k row) →
      is_series (want_of (get_member (codes "want") row)) ≡ false
  plain_wants t k row i at first its =
      by (get_member (codes "want") row) (rw first at (fits_at tree (entry_of t k row) its i _ at).kinds)
    where
      by : (o : Option Data) → option_map_or (λ d. not (has_kind 1 Want d)) o false ≡ false → is_series (want_of o) ≡ false
      by None e = refl
      by (Some d) e = no_text d (not-false _ e)

  -- it is 1 or 2
  format_within : (1 ≤ format_of tree) × (format_of tree ≤ 2)
  format_within = whole_in 1 2 1 (get_member (codes "format") tree) (omega arith) (omega arith)

  -- no right has what only stored water has
  rights_alone : All IsRightAlone (rights_of tree)
  rights_alone =
      all_rights IsRightAlone
      (λ k row its. record { used = refl; volume = λ e. cc; season = refl })
      (λ k row its. record { used = refl; volume = λ e. refl; season = refl })
      (λ k row its. record { used = refl; volume = λ e. refl; season = refl })

  without_stores : IsWithoutStores (basin_of tree)
  without_stores = record {
    unit = refl;
    accounts = refl;
    draws = refl;
    rights = rights_alone;
    rests = all_valid (λ row. row.rest ≡ 0) Return tt (return_of tree) (λ k row its. refl);
    due = λ k d l. absurd (omega arith);
  }

  stores_sound : HasSoundStores (basin_of tree)
  stores_sound = record {
    accounts = λ k d l. absurd (omega arith);
    draws = λ k d l. absurd (omega arith);
    alone = λ r l _. no_rule (rights_of tree) r l
        (all_rights (λ x. is_zone_with_rule x ≡ false) (λ k row its. refl) (λ k row its. refl) (λ k row its. refl));
    stored = λ v l. omega (arith, nothing_stored (basin_of tree) v refl);
    names = λ i j below l. absurd (omega arith);
    own_draws = λ i j below l. absurd (omega arith);
  }

  format_valid : HasValidFormat (basin_of tree)
  format_valid = record {
    format = (let within = format_within in (within.0, omega arith));
    year_start = whole_in 1 12 10 (get_member (codes "year_start") tree) (omega arith) (omega arith);
    first = λ first. record {
      year_start = ap (integer_of 1 12 10) (lacks first (top_entry tree) (codes "year_start") clean.top refl);
      open_canals = all_valid (λ l. IsAlwaysOpen l.carry) Link tt (link_of tree)
          (λ k row its. always_open (get_member (codes "per_day") row) (get_member (codes "closed") row)
          (lacks first (entry_of Link k row) (codes "closed") its refl));
      volumes = all_rights (λ r. r.volume ≡ None)
          (λ k row its. ap volume_of (lacks first (entry_of Diversion k row) (codes "volume") its refl))
          (λ k row its. refl) (λ k row its. refl);
      no_series = all_rights (λ r. is_series r.want ≡ false)
          (λ k row its. plain_wants Diversion k row 3 refl first its)
          (λ k row its. plain_wants Instream k row 3 refl first its)
          (λ k row its. plain_wants Zone k row 4 refl first its);
    };
    second = λ _. without_stores;
  }

  pub sound_basin : IsSoundBasin (basin_of tree)
  sound_basin = record {
    format = format_valid;
    run = run_valid;
    bounded = bounded_entries;
    nodes = all_valid IsValidNode Node tt node_of node_valid;
    links = all_valid (IsValidLink (basin_of tree)) Link tt (link_of tree) link_valid;
    reservoirs = all_valid (IsSoundReservoir (basin_of tree)) Reservoir tt (reservoir_of tree)
        reservoir_sound;
    rights = all_rights (λ r. IsValidRight (basin_of tree) r) diversion_valid instream_valid
        zone_valid;
    ranked = ranked;
    returns = all_valid (IsValidReturn (basin_of tree)) Return tt (return_of tree) return_valid;
    due = record { rows = omega arith; amounts = λ k d l. absurd (omega arith); bounded = λ k l. omega arith };
    names = record { nodes = nodes_own; links = links_own; rights = own_rights; reservoirs = reservoirs_own };
    stores = stores_sound;
  }

-- The table of a valid basin has no fault: its rows are fields that fit, each of its entries is clean, and it can be
-- printed and read back.
use Rattle.std.proofs.lemmas.Bool.{and_right, le-leb, lt-leb, eq-eqb, le-ltb}
use Rattle.std.proofs.Common.{◌≡◌, ℕ, suc, ◌+◌, ◌-◌, ◌*◌, ◌/◌, ◌^◌, ◌<◌, ◌≤◌, ◌∙◌, Bool, true, false, not, ◌&&◌, ◌==◌}
use Rattle.std.proofs.Common.{nat_le, nat_lt, ap, sym, subst, refl, arith, List, [], ◌∷◌, ◌++◌, length, length-append}
use Rattle.std.proofs.Common.{All, map, take, slice_get, count_by, is_none, is_some, codes}
use Rattle.std.specs.Prelude.{Option, Some, None, option_map, option_and_then, unwrap_or, if◌then◌else◌}
use Rattle.std.proofs.lemmas.List.{length-map}
use Rattle.std.proofs.lemmas.List.Elements.{All-head, All-tail}
use Rattle.std.proofs.lemmas.Bool.Decides.{nat_tests}
use Rattle.std.proofs.lemmas.Option.{slice_get-map, slice_get_within}
use Rattle.std.proofs.lemmas.Slice.Eq.{bytes_eq-Decides}
use Rattle.std.specs.Option.{option_map_or, option_or}
use Rattle.std.specs.Str.{IsUtf8, is_utf8}
use Rattle.std.proofs.lemmas.Str.{is_utf8-from_IsUtf8}
use Rattle.toml.specs.Data.{Data, table, Members, get, get_item, as_array, as_bool, as_str, members_depth}
use Rattle.toml.specs.Data.{members_have_valid_dates}
use Rattle.toml.specs.View.{items_of}
use Rattle.toml_tree.specs.Items.{items_len}
use Rattle.toml_tree.specs.Texts.{is_the_text, earlier_like}
use Rattle.toml_tree.specs.Values.{text_at, integer_of, integer_at}
use Rattle.water_text.specs.Months.{month_after, month_within, read_month}
use Rattle.water_text.specs.declared.month.Month.{Month}
use Rattle.water_text.proofs.MonthLaws.{read_month-month_digits}
use Rattle.water_model.specs.Basin.{is_outlet, node_name, link_name, reservoir_name, right_name}
use Rattle.water_model.specs.Lookups.{of_entry}
use Rattle.water_model.specs.Valid.{HasValidSite, IsAreaTable, IsValidBasin, IsValidLink, IsValidNode, IsValidReservoir}
use Rattle.water_model.specs.Valid.{IsValidReturn}
use Rattle.water_model.specs.declared.types.Basin.{Basin}
use Rattle.water_model.specs.declared.types.Carry.{Carry}
use Rattle.water_model.specs.declared.types.Carry.TheVariants.{River, Canal}
use Rattle.water_model.specs.declared.types.Link as link
use Rattle.water_model.specs.declared.types.Node as node
use Rattle.water_model.specs.declared.types.Reservoir as reservoir
use Rattle.water_model.specs.declared.types.Reservoir.{Reservoir}
use Rattle.water_model.specs.declared.types.ReturnRow.{ReturnRow}
use Rattle.water_model.specs.declared.types.Right.{Right}
use Rattle.water_model.specs.declared.types.RightKind.{RightKind}
use Rattle.water_model.specs.declared.types.RightKind.TheVariants as kind
use Rattle.water_model.proofs.Lists.{all_at, get_before, once}
use Rattle.river_net.proofs.NoFault.{sound_faultless}
use Rattle.river_net.specs.declared.refused.NetRefused.{NetRefused}
use Rattle.rights_roll.proofs.Soundness.{roll_fault-sound}
use Rattle.rights_roll.specs.RollFaults.{roll_fault}
use Rattle.rights_roll.specs.declared.RollRefused.{RollRefused}
use Rattle.reservoirs.proofs.Tables.{no_fault}
use Rattle.reservoirs.specs.declared.TableRefused.{TableRefused}
use Rattle.basin_tree.specs.declared.tables.BasinTable.{BasinTable}
use Rattle.basin_tree.specs.declared.tables.BasinTable.TheVariants as which
use Rattle.basin_tree.specs.declared.tables.Kind.TheVariants.{CalendarMonths, Inflow, Integer, Want}
use Rattle.basin_tree.specs.declared.tables.Space.{Space}
use Rattle.basin_tree.specs.declared.tables.Space.TheVariants.{Nodes, Links, Reservoirs, Diversions, Rights}
use Rattle.basin_tree.specs.declared.walk.Finding.{Finding}
use Rattle.basin_tree.specs.Entries.{Entry, entries_in, items_at}
use Rattle.basin_tree.specs.Indices.{named_at, own_key}
use Rattle.basin_tree.specs.KeyFaults.{format_of, runs_late}
use Rattle.basin_tree.specs.NameFaults.{is_outlet_at, own_space, repeats_name, rights_before, same_name, stands_before}
use Rattle.basin_tree.specs.Tables.{optional, required, second, table_name}
use Rattle.basin_file.specs.BasinFaults.{area_finding, areas_fault, basin_fault, document_fault, is_in_table}
use Rattle.basin_file.specs.BasinFaults.{net_finding, roll_finding}
use Rattle.basin_file.specs.Spelled.{IsPlain, basin_of, rows_after}
use Rattle.basin_file.specs.Upgraded.{basin_table, closed_data, inflow_data, link_row, listed, node_row, number}
use Rattle.basin_file.specs.Upgraded.{per_day_data, point_data, reservoir_row, return_row, right_row, rights_in}
use Rattle.basin_file.specs.Upgraded.{row_of_kind, want_data}
use Rattle.toml.specs.Parse.{parse_document}
use Rattle.toml_tree.specs.Document.{document_of}
use Rattle.basin_file.proofs.Counts.{before_less, count_where-entries, counts_within, earlier_at}
use Rattle.basin_file.proofs.Fitting.{ArePlain, Field, clean_fields, closed_in, dated, in_field, inflow_in, month}
use Rattle.basin_file.proofs.Fitting.{named, per_day_in, plain_fields, points, rate, refers, tables, truth, volume_in}
use Rattle.basin_file.proofs.Fitting.{want_in, whole}
use Rattle.basin_file.proofs.Listed.{item_listing, len_items, len_listing, rows_listing, all_by}
use Rattle.basin_file.proofs.Passed.{IsClean, IsListed, IsTidy, entries_are, entry_of, listing, no_tree_fault}
use Rattle.basin_file.proofs.Passed.{top_entry}
use Rattle.basin_file.proofs.TableSpells.{IsRightIn, all_rights, diversion_named, link_at, link_named, lists}
use Rattle.basin_file.proofs.TableSpells.{node_named, reservoir_named, return_texts, right_named, rights_sound}
use Rattle.basin_file.proofs.TableSpells.{rows_for, table_spells, text_there, top_at, whole_there}

-- a name that first stands at its own index is no earlier entry's
owns : (tree : Members) (t : BasinTable) (k : ℕ) (row : Members) (space : Space) (q : List ℕ) (j : ℕ) →
    own_space t ≡ Some space → text_at (own_key t) row ≡ Some q → named_at tree space q ≡ Some j →
    rights_before tree t + (k + 1 - 1) ≤ j → same_name tree (entry_of t k row) ≡ false
owns tree t k row space q j own text its low =
    ap (λ (o : Option Space). option_map_or (repeats_name tree (entry_of t k row)) o false) own
    ∙ (ap (λ (o : Option (List ℕ)). option_map_or (stands_before tree space (rights_before tree t + (k + 1 - 1))) o
    false) text
    ∙ (ap (λ (o : Option ℕ). option_map_or (λ at. nat_lt at (rights_before tree t + (k + 1 - 1))) o false) its
    ∙ le-ltb j (rights_before tree t + (k + 1 - 1)) low))

-- the entry at an index has the name of the index
named_there : {X : Type 0} (tree : Members) (space : Space) (name : X → List ℕ) (xs : List X) (k : ℕ) (x : X) →
    slice_get xs k ≡ Some x → named_at tree space (of_entry xs k name []) ≡ Some k →
    named_at tree space (name x) ≡ Some k
named_there tree space name xs k x at its =
    ap (λ o. named_at tree space (unwrap_or (option_map name o) [])) (sym at) ∙ its

-- a table that isn't required may have no entry
never : (n : ℕ) → false ≡ true → 1 ≤ n
never n e = cc

-- a table of rows that are clean is tidy
tidy_rows : {X : Type 0} {tree : Members} (t : BasinTable) (row : X → Members) (xs : List X) →
    items_at tree t ≡ listing (map row xs) →
    ((k : ℕ) (x : X) → slice_get xs k ≡ Some x → IsClean tree (entry_of t k (row x))) → IsTidy tree t
tidy_rows {X = X} {tree = tree} t row xs its clean = record {
  lists = its ∙ ap listing (sym (ap rows_after its ∙ rows_listing (map row xs)));
  clean = all_by (IsClean tree) (entries_in tree t) (λ k e at. by k e (slice_get xs k) refl
      (sym (ap (option_map (entry_of t k)) (slice_get-map row xs k))
      ∙ (sym (entries_are tree t (map row xs) its k) ∙ at)));
}
  where
    by : (k : ℕ) (e : Entry) (o : Option X) → slice_get xs k ≡ o →
        option_map (entry_of t k) (option_map row o) ≡ Some e → IsClean tree e
    by k e None there is = cc
    by k e (Some x) there is = let same : entry_of t k (row x) ≡ e = cc in subst (IsClean tree) same (clean k x there)

-- an entry of the second of two lists
there_right : {X : Type 0} (xs ys : List X) (k : ℕ) (x : X) → slice_get ys k ≡ Some x →
    slice_get (xs ++ ys) (length xs + k) ≡ Some x
there_right {X = X} [] ys k x e = subst (λ (n : ℕ). slice_get ys n ≡ Some x) (omega arith) e
there_right {X = X} (y ∷ xs) ys k x e =
    let more : suc (length xs + k) ≡ suc (length xs) + k = omega arith in
    subst (λ (n : ℕ). slice_get (y ∷ (xs ++ ys)) n ≡ Some x) more (there_right xs ys k x e)

module _ (b : Basin) (valid : IsValidBasin b) where
  abbrev tree : Members
  tree = basin_table b

  format : format_of (basin_table b) ≡ 2
  format = ap (integer_of 1 2 1) (top_at b (codes "format"))

  -- the fields of each row
  abbrev node_fields : (n : node.Node) → IsValidNode n → List (Field tree 2)
  node_fields n h =
      in_field tree (optional (codes "inflow") Inflow) (Some (inflow_data n.inflow)) (inflow_in tree n.inflow h.inflow)
      ∷ named tree n.name h.name ∷ truth tree (codes "outlet") n.outlet ∷ []

  abbrev link_fields : (l : link.Link) → IsValidLink b l → List (Field tree 2)
  link_fields l h =
      in_field tree (second (codes "closed") CalendarMonths) (closed_data l.carry) (closed_in tree l.carry h.carry)
      ∷ refers tree (codes "from") Nodes (node_name b l.from) l.from (node_named b valid l.from h.ends.from)
      ∷ named tree l.name h.name
      ∷ in_field tree (optional (codes "per_day") (Integer 0 (10 ^ 9))) (per_day_data l.carry)
      (per_day_in tree l.carry h.carry)
      ∷ refers tree (codes "to") Nodes (node_name b l.to) l.to (node_named b valid l.to h.ends.to) ∷ []

  abbrev reservoir_fields : (v : reservoir.Reservoir) → IsValidReservoir b v → List (Field tree 2)
  reservoir_fields v h =
      points tree v.area h.points
      ∷ refers tree (codes "node") Nodes (node_name b v.node) v.node (node_named b valid v.node h.node)
      ∷ whole tree (codes "opening") true 1 0 (16 * 10 ^ 9) v.opening (omega arith) h.opening ∷ rate tree v.rate h.rate
      ∷ []

  abbrev return_fields : (row : ReturnRow) → IsValidReturn b row → List (Field tree 2)
  return_fields row h =
      refers tree (codes "diversion") Diversions (right_name b row.right) row.right
      (diversion_named b valid row.right h.diversion)
      ∷ whole tree (codes "lag") true 1 1 120 row.lag h.lag.0 h.lag.1
      ∷ refers tree (codes "node") Nodes (node_name b row.node) row.node (node_named b valid row.node h.node)
      ∷ whole tree (codes "part") true 1 1 10000 row.part h.part.0 h.part.1 ∷ []

  module _ (t : BasinTable) (r : Right) (h : IsRightIn b t r) where
    abbrev order_field : Field tree 2
    order_field = whole tree (codes "order") false 1 0 1000000 r.order (omega arith) h.0.order

    abbrev want_field : Field tree 2
    want_field =
        in_field tree (required (codes "want") Want) (Some (want_data r.want)) (want_in tree r.want h.0.want)

    abbrev fields_of : (its : RightKind) → HasValidSite b its → List (Field tree 2)
    fields_of (kind.Diversion node) index =
        dated tree r.date h.1 ∷ named tree r.name h.0.name
        ∷ refers tree (codes "node") Nodes (node_name b node) node (node_named b valid node index) ∷ order_field
        ∷ in_field tree (second (codes "volume") (Integer 0 (16 * 10 ^ 9))) (option_map number r.volume)
        (volume_in tree r.kind r.volume r.used h.0.volume) ∷ want_field ∷ []
    fields_of (kind.Instream link) index =
        dated tree r.date h.1 ∷ refers tree (codes "link") Links (link_name b link) link (link_named b valid link index)
        ∷ named tree r.name h.0.name ∷ order_field ∷ want_field ∷ []
    fields_of (kind.Zone reservoir level) site =
        dated tree r.date h.1 ∷ whole tree (codes "level") true 1 1 16 level site.1 site.2 ∷ named tree r.name h.0.name
        ∷ order_field
        ∷ refers tree (codes "reservoir") Reservoirs (reservoir_name b reservoir) reservoir
        (reservoir_named b valid reservoir site.0) ∷ want_field ∷ []

    plain_right : ArePlain 2 (right_row b r)
    plain_right = by r.kind h.0.site
      where
        by : (its : RightKind) → HasValidSite b its → ArePlain 2 (row_of_kind b r its)
        by (kind.Diversion node) site = plain_fields tree (fields_of (kind.Diversion node) site)
        by (kind.Instream link) site = plain_fields tree (fields_of (kind.Instream link) site)
        by (kind.Zone reservoir level) site = plain_fields tree (fields_of (kind.Zone reservoir level) site)

  abbrev right_table : BasinTable → Field tree 4
  right_table t = tables tree (table_name t) false (right_row b) (IsRightIn b t) (rights_in t b.rights) (never _)
      (rights_sound b valid t) (plain_right t)

  abbrev top_fields : List (Field tree 4)
  top_fields =
      right_table which.Diversion ∷ month tree b.first valid.run.first
      ∷ whole tree (codes "format") true 1 1 2 2 (omega arith) (omega arith) ∷ right_table which.Instream
      ∷ tables tree (codes "link") false (link_row b) (IsValidLink b) b.links (never _) valid.links
      (λ l h. plain_fields tree (link_fields l h))
      ∷ whole tree (codes "months") true 1 1 1200 b.months valid.run.months.0 valid.run.months.1
      ∷ tables tree (codes "node") true node_row IsValidNode b.nodes (λ e. valid.bounded.some_node) valid.nodes
      (λ n h. plain_fields tree (node_fields n h))
      ∷ tables tree (codes "reservoir") false (reservoir_row b) (IsValidReservoir b) b.reservoirs (never _)
      valid.reservoirs (λ v h. plain_fields tree (reservoir_fields v h))
      ∷ tables tree (codes "return") false (return_row b) (IsValidReturn b) b.returns (never _) valid.returns
      (λ row h. plain_fields tree (return_fields row h))
      ∷ whole tree (codes "year_start") false 2 1 12 b.year_start valid.format.year_start.0 valid.format.year_start.1
      ∷ right_table which.Zone ∷ []

  -- so the table is shallow and has no dates of TOML
  pub table_is_plain : ArePlain 4 (basin_table b)
  unfolding basin_table
  table_is_plain = plain_fields tree top_fields

  node_clean : (k : ℕ) (n : node.Node) → slice_get b.nodes k ≡ Some n →
      IsClean tree (entry_of which.Node k (node_row n))
  node_clean k n at =
      let within = slice_get_within b.nodes k n at in
      clean_fields tree which.Node (k + 1) (node_fields n (all_at IsValidNode b.nodes k n valid.nodes at)) format
      (refl, refl, refl) refl refl refl
      (le-ltb 2000 (k + 1) (omega (arith, within, valid.bounded.nodes)))
      (owns tree which.Node k (node_row n) Nodes n.name k refl refl
      (named_there tree Nodes (λ n. n.name) b.nodes k n at (node_named b valid k within)) (omega arith)) refl

  link_clean : (k : ℕ) (l : link.Link) → slice_get b.links k ≡ Some l →
      IsClean tree (entry_of which.Link k (link_row b l))
  link_clean k l at =
      let within = slice_get_within b.links k l at in
      clean_fields tree which.Link (k + 1) (link_fields l (all_at (IsValidLink b) b.links k l valid.links at)) format
      (refl, refl, refl) refl
      ((λ i. is_some (link_at b l (codes "closed") i) && not (is_some (link_at b l (codes "per_day") i)))
      ∙ canal l.carry)
      refl (le-ltb 4000 (k + 1) (omega (arith, within, valid.bounded.links)))
      (owns tree which.Link k (link_row b l) Links l.name k refl
      (text_there (codes "name") (link_row b l) l.name (link_at b l (codes "name")))
      (named_there tree Links (λ l. l.name) b.links k l at (link_named b valid k within)) (omega arith)) refl
    where
      canal : (c : Carry) → (is_some (closed_data c) && not (is_some (per_day_data c))) ≡ false
      canal River = refl
      canal (Canal per_day shut) = and_right (is_some (closed_data (Canal per_day shut))) false refl

  outlet_same : (at : ℕ) → is_outlet_at tree at ≡ is_outlet b at
  outlet_same at =
      ap truth (ap (get_item at) (lists b valid which.Node tt) ∙ (item_listing (map node_row b.nodes) at
      ∙ ap (option_map (λ row. table row)) (slice_get-map node_row b.nodes at))) ∙ by (slice_get b.nodes at)
    where
      truth : Option Data → Bool
      truth o =
          option_map_or (λ outlet. outlet) (option_and_then as_bool (option_and_then (get (codes "outlet")) o)) false

      by : (o : Option node.Node) → truth (option_map (λ row. table row) (option_map node_row o))
          ≡ unwrap_or (option_map (λ n. n.outlet) o) false
      by None = refl
      by (Some n) = refl

  reservoir_clean : (k : ℕ) (v : reservoir.Reservoir) → slice_get b.reservoirs k ≡ Some v →
      IsClean tree (entry_of which.Reservoir k (reservoir_row b v))
  reservoir_clean k v at =
      let h = all_at (IsValidReservoir b) b.reservoirs k v valid.reservoirs at in
      clean_fields tree which.Reservoir (k + 1) (reservoir_fields v h) format (refl, refl, refl) refl refl refl
      (le-ltb 64 (items_len (items_of (map point_data v.area)))
      (omega (arith, len_items point_data v.area, h.bounded_points)))
      (owns tree which.Reservoir k (reservoir_row b v) Reservoirs (node_name b v.node) k refl refl
      (named_there tree Reservoirs (λ v. node_name b v.node) b.reservoirs k v at
      (reservoir_named b valid k (slice_get_within b.reservoirs k v at))) (omega arith))
      (ap (λ (o : Option ℕ). option_map_or (is_outlet_at tree) o false) (node_named b valid v.node h.node)
      ∙ (outlet_same v.node ∙ h.inner))

  count : (t : BasinTable) → IsListed t → items_len (items_at tree t) ≡ length (rows_for b t)
  count t h = ap items_len (lists b valid t h) ∙ len_listing (rows_for b t)

  right_clean : (t : BasinTable) (k : ℕ) (r : Right) → slice_get (rights_in t b.rights) k ≡ Some r →
      IsClean tree (entry_of t k (right_row b r))
  right_clean t k r at =
      let h = all_at (IsRightIn b t) (rights_in t b.rights) k r (rights_sound b valid t) at in
      by t r.kind h h.0.site h.2 at
    where
      d : List Right
      d = rights_in which.Diversion b.rights

      i : List Right
      i = rights_in which.Instream b.rights

      z : List Right
      z = rights_in which.Zone b.rights

      -- its index among all rights gives what it owes beside its fields
      rest : (t : BasinTable) (row : Members) (j : ℕ) → own_space t ≡ Some Rights →
          text_at (own_key t) row ≡ Some r.name → slice_get (d ++ i ++ z) j ≡ Some r → rights_before tree t + k ≡ j →
          (nat_lt 2000 (rights_before tree t + (k + 1)) ≡ false) × (same_name tree (entry_of t k row) ≡ false)
      rest t row j own text there same =
          let whole : slice_get b.rights j ≡ Some r =
          ap (λ rs. slice_get rs j) (sym (all_rights b valid)) ∙ there in
          let within = slice_get_within b.rights j r whole in (
            le-ltb 2000 (rights_before tree t + (k + 1)) (omega (arith, within, same, valid.bounded.rights)),
            owns tree t k row Rights r.name j own text
                (named_there tree Rights (λ r. r.name) b.rights j r whole (right_named b valid j within))
                (omega (arith, same)),
          )

      by : (t : BasinTable) (its : RightKind) → IsRightIn b t r → HasValidSite b its → is_in_table t its ≡ true →
          slice_get (rights_in t b.rights) k ≡ Some r → IsClean tree (entry_of t k (row_of_kind b r its))
      by which.Diversion (kind.Diversion node) h site is at =
          let owed = rest which.Diversion (row_of_kind b r (kind.Diversion node)) k refl refl
          (get_before (d ++ i) z k r (get_before d i k r at)) (omega arith) in
          clean_fields tree which.Diversion (k + 1) (fields_of which.Diversion r h (kind.Diversion node) site) format
          (refl, refl, refl) refl refl refl owed.0 owed.1 refl
      by which.Instream (kind.Instream link) h site is at =
          let owed = rest which.Instream (row_of_kind b r (kind.Instream link)) (length d + k) refl refl
          (get_before (d ++ i) z (length d + k) r (there_right d i k r at))
          (omega (arith, count which.Diversion tt, length-map d (right_row b))) in
          clean_fields tree which.Instream (k + 1) (fields_of which.Instream r h (kind.Instream link) site) format
          (refl, refl, refl) refl refl refl owed.0 owed.1 refl
      by which.Zone (kind.Zone reservoir level) h site is at =
          let owed = rest which.Zone (row_of_kind b r (kind.Zone reservoir level)) (length (d ++ i) + k) refl refl
          (there_right (d ++ i) z k r at)
          (omega (
            arith,
            count which.Diversion tt,
            count which.Instream tt,
            length-map d (right_row b),
            length-map i (right_row b),
            length-append d i,
          )) in
          clean_fields tree which.Zone (k + 1)
          (fields_of which.Zone r h (kind.Zone reservoir level) site) format
          (refl, refl, refl) refl refl refl owed.0 owed.1 refl
      by _ _ h site is at = cc

  return_clean : (k : ℕ) (row : ReturnRow) → slice_get b.returns k ≡ Some row →
      IsClean tree (entry_of which.Return k (return_row b row))
  return_clean k row at =
      clean_fields tree which.Return (k + 1) (return_fields row h) format (refl, refl, refl) refl refl refl
      (ap (λ (ts : List (Option (List ℕ))). nat_le 8 (earlier_like ts (k + 1 - 1))) (return_texts b valid)
      ∙ (ap (nat_le 8) (earlier_at text b.returns (k + 1 - 1) k row (right_name b row.right) (omega arith) at refl)
      ∙ lt-leb 8 _ less)) refl refl
    where
      h : IsValidReturn b row
      h = all_at (IsValidReturn b) b.returns k row valid.returns at

      text : ReturnRow → Option (List ℕ)
      text entry = Some (right_name b entry.right)

      alike : (entry : ReturnRow) → IsValidReturn b entry →
          is_the_text (right_name b row.right) (text entry) ≡ true → (entry.right == row.right) ≡ true
      alike entry its e = eq-eqb entry.right row.right
          (once (right_name b) (length b.rights) valid.names.rights entry.right row.right its.right h.right
          (sym ((bytes_eq-Decides (right_name b row.right) (right_name b entry.right)).0 e)))

      less : count_by (λ entry. is_the_text (right_name b row.right) (text entry)) (take k b.returns) < 8
      less =
          let prefix = counts_within (λ (entry : ReturnRow). is_the_text (right_name b row.right) (text entry))
          (λ (entry : ReturnRow). entry.right == row.right) k b.returns (λ j d l. alike _ (valid.returns j d l)) in
          let before = before_less (λ (entry : ReturnRow). entry.right == row.right) b.returns k row at
          (eq-eqb row.right row.right refl) in
          let most : count_by (λ (entry : ReturnRow). entry.right == row.right) b.returns ≤ 8 =
          subst (λ (n : ℕ). n ≤ 8) (count_where-entries (λ (entry : ReturnRow). entry.right == row.right) b.returns)
          (valid.bounded.rows row.right h.right) in
          omega arith

  top_clean : IsClean tree (top_entry tree)
  unfolding basin_table
  top_clean =
      clean_fields tree which.Top 0 top_fields format (refl, refl, refl)
      (ap (λ (o : Option Data). option_map_or (λ items. items_len items == 0) (option_and_then as_array o) false)
      (top_at b (codes "node")) ∙ some_nodes b.nodes valid.bounded.some_node) refl late refl refl refl
    where
      some_nodes : (nodes : List node.Node) → 1 ≤ length nodes →
          option_map_or (λ items. items_len items == 0) (option_and_then as_array (listed node_row nodes)) false ≡ false
      some_nodes [] some = absurd (omega arith)
      some_nodes (n ∷ nodes) some = positive _
        where
          positive : (m : ℕ) → (suc m == 0) ≡ false
          positive m = grind (arith, nat_tests)

      ends : (y m months : ℕ) → 1 ≤ m → 1 ≤ months → 12 * y + m + months ≤ 36001 →
          y + (m - 1 + (months - 1)) / 12 ≤ 2999
      ends y m months first some h = omega arith

      in_time : is_none (month_within b.first (b.months - 1)) ≡ false
      in_time =
          rw (le-leb (month_after b.first (b.months - 1)).year 2999
          (ends b.first.year b.first.month b.months valid.run.first.month.0 valid.run.months.0 valid.run.ends)) refl

      late : runs_late which.Top (basin_table b) ≡ false
      late =
          (λ i. option_map_or (λ first. is_none (month_within first (months i - 1)))
          (read_month (unwrap_or (option_and_then as_str (top_at b (codes "first_month") i)) [])) false)
          ∙ (ap (λ (o : Option Month). option_map_or (λ first. is_none (month_within first (b.months - 1))) o false)
          (read_month-month_digits b.first valid.run.first) ∙ in_time)
        where
          months : integer_at (codes "months") 1 1200 1 (basin_table b) ≡ b.months
          months = whole_there (codes "months") 1 1200 1 (basin_table b) b.months (top_at b (codes "months"))
              valid.run.months.0 valid.run.months.1

  tidy : (t : BasinTable) → IsListed t → IsTidy tree t
  tidy which.Top h = absurd h
  tidy which.Node h = tidy_rows which.Node node_row b.nodes (lists b valid which.Node h) node_clean
  tidy which.Link h = tidy_rows which.Link (link_row b) b.links (lists b valid which.Link h) link_clean
  tidy which.Reservoir h =
      tidy_rows which.Reservoir (reservoir_row b) b.reservoirs (lists b valid which.Reservoir h) reservoir_clean
  tidy which.Return h = tidy_rows which.Return (return_row b) b.returns (lists b valid which.Return h) return_clean
  tidy t h = tidy_rows t (right_row b) (rights_in t b.rights) (lists b valid t h) (right_clean t)

-- a valid basin has no fault
areas_none : (n : ℕ) (reservoirs : List Reservoir) → All (λ v. IsAreaTable v.area) reservoirs →
    areas_fault n reservoirs ≡ None
areas_none n [] all = refl
areas_none n (v ∷ reservoirs) all =
    ap (λ (o : Option TableRefused). option_or (option_and_then (area_finding (n + 1)) o)
    (areas_fault (n + 1) reservoirs)) (no_fault v.area (All-head (λ v. IsAreaTable v.area) v reservoirs all))
    ∙ areas_none (n + 1) reservoirs (All-tail (λ v. IsAreaTable v.area) v reservoirs all)

basin_none : (b : Basin) → IsValidBasin b → basin_fault (record b { format = 2 }) ≡ None
unfolding basin_fault
basin_none b valid =
    ap (λ (o : Option NetRefused). option_or (option_and_then net_finding o)
    (option_or (option_and_then (roll_finding b.rights) (roll_fault b.rights b.returns))
    (areas_fault 0 b.reservoirs)))
    (sound_faultless b.nodes b.links (λ k l h. (valid.links k l h).ends) valid.network)
    ∙ (ap (λ (o : Option RollRefused). option_or (option_and_then (roll_finding b.rights) o)
    (areas_fault 0 b.reservoirs)) (roll_fault-sound b.rights b.returns valid.roll)
    ∙ areas_none 0 b.reservoirs (λ k d h. (valid.reservoirs k d h).table))

-- so its table has none
pub table_is_sound : (b : Basin) → IsValidBasin b → IsPlain b → document_fault (Some (basin_table b)) ≡ None
table_is_sound b valid plain =
    ap (λ (o : Option Finding). option_or o (basin_fault (basin_of (basin_table b))))
    (no_tree_fault (basin_table b) (record { top = top_clean b valid; tidy = tidy b valid }))
    ∙ (ap basin_fault (table_spells b valid plain) ∙ basin_none b valid)

-- what is printed of it is read back
pub read_back : (b : Basin) → IsValidBasin b → (text : List ℕ) (ms : Members) → ms ≡ basin_table b → IsUtf8 text →
    (members_depth ms ≤ 80 → parse_document text ≡ Some ms) →
    document_of text ≡ Some (basin_table b)
read_back b valid text ms is utf8 reads =
    by_test (is_utf8 text) (is_utf8-from_IsUtf8 text utf8) (reads (short ms is) ∙ ap (λ (t : Members). Some t) is)
  where
    short : (ms : Members) → ms ≡ basin_table b → members_depth ms ≤ 80
    short ms is = rw is (let its = table_is_plain b valid in omega (arith, its.shallow))

    by_test : (t : Bool) → t ≡ true → parse_document text ≡ Some (basin_table b) →
        (if t then parse_document text else None) ≡ Some (basin_table b)
    by_test true e h = h
    by_test false e h = cc

-- and no date of it is invalid
pub no_dates : (b : Basin) → IsValidBasin b → (ms : Members) → ms ≡ basin_table b →
    members_have_valid_dates ms ≡ false → ⊥
no_dates b valid ms is h =
    let its = table_is_plain b valid in
    let clash : true ≡ false = sym its.dates ∙ (ap members_have_valid_dates (sym is) ∙ h) in
    cc

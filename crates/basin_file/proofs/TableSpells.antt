-- The table of a basin spells the basin: each entry is read back from its row.
use Rattle.std.proofs.Common.{◌≡◌, ℕ, ◌+◌, ◌*◌, ◌^◌, ◌<◌, ◌≤◌, ◌∙◌, ◌++◌, Bool, true, false, ap, sym, refl, arith, All}
use Rattle.std.proofs.Common.{List, [], length, map, slice_get, replicate, codes}
use Rattle.std.specs.Prelude.{Option, Some, None, option_map, option_and_then, unwrap_or, if◌then◌else◌}
use Rattle.std.specs.Option.{option_map_or}
use Rattle.std.proofs.lemmas.Bool.{not-false}
use Rattle.std.proofs.lemmas.List.{map-append, map-id}
use Rattle.std.proofs.lemmas.List.Elements.{All-filter, filter_passes}
use Rattle.std.proofs.lemmas.Option.{slice_get_within}
use Rattle.toml.specs.Data.{Data, string, array, Members, get_member, as_str}
use Rattle.first_index.specs.Indices.{first_from}
use Rattle.toml_tree.specs.Texts.{texts_after, is_the_text}
use Rattle.toml_tree.specs.Values.{monthly_of, text_at, integer_at, integer_of}
use Rattle.water_text.specs.Days.{is_date}
use Rattle.water_text.specs.Names.{is_name}
use Rattle.water_model.specs.Basin.{node_name, link_name, reservoir_name, right_name}
use Rattle.water_model.specs.Lookups.{of_entry}
use Rattle.water_model.specs.Rights.{has_bad_date}
use Rattle.water_model.specs.Valid.{IsRightAlone, IsWithoutStores, is_zone_kind}
use Rattle.water_model.specs.Valid.{HasValidSite, IsMonthly, IsValidBasin, IsValidLink, IsValidNode, IsValidReservoir}
use Rattle.water_model.specs.Valid.{IsValidReturn, IsValidRight, IsValidVolume, is_diversion_kind}
use Rattle.water_model.specs.declared.types.Basin.{Basin}
use Rattle.water_model.specs.declared.types.Link as link
use Rattle.water_model.specs.declared.types.Node as node
use Rattle.water_model.specs.declared.types.Reservoir as reservoir
use Rattle.water_model.specs.declared.types.ReturnRow.{ReturnRow}
use Rattle.water_model.specs.declared.types.Right.{Right}
use Rattle.water_model.specs.declared.types.RightKind.{RightKind}
use Rattle.water_model.specs.declared.types.RightKind.TheVariants as kind
use Rattle.water_model.proofs.Valid.{entry_at}
use Rattle.water_model.proofs.Entries.{bounded_reservoirs}
use Rattle.water_model.proofs.Lists.{all_at, once}
use Rattle.basin_tree.specs.Entries.{items_at}
use Rattle.basin_tree.specs.Indices.{named_at, texts_of}
use Rattle.basin_tree.specs.declared.tables.BasinTable.{BasinTable}
use Rattle.basin_tree.specs.declared.tables.BasinTable.TheVariants.{Top, Node, Link, Reservoir, Diversion, Instream}
use Rattle.basin_tree.specs.declared.tables.BasinTable.TheVariants.{Zone, Return}
use Rattle.basin_tree.specs.declared.tables.Space.{Space}
use Rattle.basin_tree.specs.declared.tables.Space.TheVariants.{Nodes, Links, Reservoirs, Diversions, Rights}
use Rattle.basin_file.specs.BasinFaults.{is_in_table}
use Rattle.basin_file.specs.Spelled.{basin_of, carry_of, date_of, diversion_of, first_of, instream_of, IsPlain}
use Rattle.basin_file.specs.Spelled.{link_of, name_at, name_of, node_of, number_at, reservoir_of, return_of, right_of}
use Rattle.basin_file.specs.Spelled.{rows_after, rows_in, small, volume_of, want_of, zone_of}
use Rattle.basin_file.specs.Upgraded.{basin_table, day_text, link_row, node_row, number, numbers, reservoir_row}
use Rattle.basin_file.specs.Upgraded.{return_row, right_row, rights_in, row_of_kind, keys_of_kind, link_keys, top_keys}
use Rattle.basin_file.specs.Upgraded.{want_data}
use Rattle.basin_file.proofs.Fields.{looked_up, value_at}
use Rattle.basin_file.proofs.Listed.{HaveOwn, diversion_same, diversion_within, diversions_own, index_found, index_read}
use Rattle.basin_file.proofs.Listed.{items_in, items_listed, rights_by_table, rows_listing, texts_listing, all_by}
use Rattle.basin_file.proofs.Listed.{map_alike}
use Rattle.basin_file.proofs.Values.{area_read, carry_read, date_read, first_read, inflow_read}
use Rattle.basin_file.proofs.Values.{monthly_read, name_read, volume_read, want_read, whole_read}
use Rattle.basin_file.proofs.Passed.{IsListed, listing}

-- the values at the keys of the whole table, of a link and of a diversion, some of which may lack their values
pub top_at : (b : Basin) (key : List ℕ) → get_member key (basin_table b) ≡ value_at key (top_keys b)
unfolding basin_table
top_at b key = looked_up key (top_keys b) refl

pub link_at : (b : Basin) (l : link.Link) (key : List ℕ) → get_member key (link_row b l) ≡ value_at key (link_keys b l)
link_at b l key = looked_up key (link_keys b l) refl

diversion_at : (b : Basin) (r : Right) (node : ℕ) (key : List ℕ) →
    get_member key (row_of_kind b r (kind.Diversion node)) ≡ value_at key (keys_of_kind b r (kind.Diversion node))
diversion_at b r node key = looked_up key (keys_of_kind b r (kind.Diversion node)) refl

-- a text, a name and a number at a key
pub text_there : (key : List ℕ) (row : Members) (text : List ℕ) → get_member key row ≡ Some (string text) →
    text_at key row ≡ Some text
text_there key row text at = ap (λ (o : Option Data). option_and_then as_str o) at

name_there : (key : List ℕ) (row : Members) (text : List ℕ) → get_member key row ≡ Some (string text) →
    is_name text ≡ true → name_at key row ≡ text
name_there key row text at good = ap (λ (o : Option Data). name_of (unwrap_or (option_and_then as_str o) [])) at
    ∙ name_read text good

pub whole_there : (key : List ℕ) (least most default : ℕ) (row : Members) (n : ℕ) →
    get_member key row ≡ Some (number n) → least ≤ n → n ≤ most →
    integer_at key least most default row ≡ n
whole_there key least most default row n at low high =
    ap (integer_of least most default) at ∙ whole_read least most default n low high

no_volume : (link : ℕ) (volume : Option ℕ) (used : ℕ) → IsValidVolume (kind.Instream link) volume used → None ≡ volume
no_volume link None used valid = refl
no_volume link (Some n) used valid = let both : false ≡ true = valid.0 in cc

-- the keys that each right has make it
right_there : (kind : RightKind) (volume : Option ℕ) (row : Members) (b : Basin) (r : Right) → IsValidRight b r →
    is_date r.date ≡ true → IsRightAlone r →
    get_member (codes "name") row ≡ Some (string r.name) →
    get_member (codes "date") row ≡ Some (string (day_text r.date)) →
    get_member (codes "order") row ≡ Some (number r.order) → get_member (codes "want") row ≡ Some (want_data r.want) →
    kind ≡ r.kind → volume ≡ r.volume →
    right_of kind volume row ≡ r
right_there kind volume row b r valid date alone name at order want is has = λ i. record {
  name = name_there (codes "name") row r.name name valid.name i;
  date = (ap (λ (o : Option Data). date_of (unwrap_or (option_and_then as_str o) [])) at ∙ date_read r.date date) i;
  order = whole_there (codes "order") 0 1000000 0 row r.order order (omega arith) valid.order i;
  kind = is i;
  want = (ap want_of want ∙ want_read r.want valid.want) i;
  volume = has i;
  used = sym alone.used i;
  season = sym alone.season i;
}

-- the name of a right stands at one key in each table
kind_name : (b : Basin) (r : Right) (its : RightKind) → text_at (codes "name") (row_of_kind b r its) ≡ Some r.name
kind_name b r (kind.Diversion node) = refl
kind_name b r (kind.Instream link) = refl
kind_name b r (kind.Zone reservoir level) = refl

-- a right that stands in a table
abbrev pub IsRightIn : Basin → BasinTable → Right → Type 0
IsRightIn b t r = IsValidRight b r × (is_date r.date ≡ true) × (is_in_table t r.kind ≡ true)

-- what spells the rights of a table
abbrev spells_of : BasinTable → Members → Members → Right
spells_of Instream = instream_of
spells_of Zone = zone_of
spells_of _ = diversion_of

-- the rows of each table
abbrev pub rows_for : Basin → BasinTable → List Members
rows_for b Node = map node_row b.nodes
rows_for b Link = map (link_row b) b.links
rows_for b Reservoir = map (reservoir_row b) b.reservoirs
rows_for b Return = map (return_row b) b.returns
rows_for b t = map (right_row b) (rights_in t b.rights)

module _ (b : Basin) (valid : IsValidBasin b) where
  pub lists : (t : BasinTable) → IsListed t → items_at (basin_table b) t ≡ listing (rows_for b t)
  lists Top h = absurd h
  lists Node h = ap items_in (top_at b (codes "node")) ∙ items_listed node_row b.nodes
  lists Link h = ap items_in (top_at b (codes "link")) ∙ items_listed (link_row b) b.links
  lists Reservoir h = ap items_in (top_at b (codes "reservoir")) ∙ items_listed (reservoir_row b) b.reservoirs
  lists Diversion h =
      ap items_in (top_at b (codes "diversion")) ∙ items_listed (right_row b) (rights_in Diversion b.rights)
  lists Instream h =
      ap items_in (top_at b (codes "instream")) ∙ items_listed (right_row b) (rights_in Instream b.rights)
  lists Zone h = ap items_in (top_at b (codes "zone")) ∙ items_listed (right_row b) (rights_in Zone b.rights)
  lists Return h = ap items_in (top_at b (codes "return")) ∙ items_listed (return_row b) b.returns

  -- the texts that stand for the entries of a table
  texts : {X : Type 0} (t : BasinTable) (key : List ℕ) (row : X → Members) (name : X → List ℕ) (xs : List X) →
      items_at (basin_table b) t ≡ listing (map row xs) → ((x : X) → text_at key (row x) ≡ Some (name x)) →
      texts_after key (items_at (basin_table b) t) ≡ map (λ x. Some (name x)) xs
  texts t key row name xs its each =
      ap (texts_after key) its
      ∙ (texts_listing key (map row xs)
      ∙ map_alike (text_at key) row (λ x. Some (name x)) xs (λ k d h. each _))

  pub return_texts : texts_after (codes "diversion") (items_at (basin_table b) Return)
      ≡ map (λ row. Some (right_name b row.right)) b.returns
  return_texts =
      texts Return (codes "diversion") (return_row b) (λ row. right_name b row.right) b.returns (lists Return tt)
      (λ row. refl)

  right_texts : (t : BasinTable) → items_at (basin_table b) t ≡ listing (map (right_row b) (rights_in t b.rights)) →
      texts_after (codes "name") (items_at (basin_table b) t) ≡ map (λ r. Some r.name) (rights_in t b.rights)
  right_texts t its = texts t (codes "name") (right_row b) (λ r. r.name) (rights_in t b.rights) its
      (λ r. kind_name b r r.kind)

  -- names stand at their indices
  found : {X : Type 0} (space : Space) (name : X → List ℕ) (xs : List X) →
      texts_of (basin_table b) space ≡ map (λ x. Some (name x)) xs → HaveOwn name xs → (k : ℕ) → k < length xs →
      named_at (basin_table b) space (of_entry xs k name []) ≡ Some k
  found space name xs its own k within =
      let same : 0 + k ≡ k = omega arith in
      ap (λ ts. first_from (is_the_text (of_entry xs k name [])) 0 ts) its
      ∙ (index_found name 0 xs k within own ∙ ap Some same)

  pub node_named : (k : ℕ) → k < length b.nodes → named_at (basin_table b) Nodes (node_name b k) ≡ Some k
  node_named =
      found Nodes (λ n. n.name) b.nodes
      (texts Node (codes "name") node_row (λ n. n.name) b.nodes (lists Node tt) (λ n. refl)) valid.names.nodes

  pub link_named : (k : ℕ) → k < length b.links → named_at (basin_table b) Links (link_name b k) ≡ Some k
  link_named =
      found Links (λ l. l.name) b.links
      (texts Link (codes "name") (link_row b) (λ l. l.name) b.links (lists Link tt)
      (λ l. text_there (codes "name") (link_row b l) l.name (link_at b l (codes "name")))) valid.names.links

  -- a name is that of one node, and so that of one reservoir
  reservoirs_own : HaveOwn (λ v. node_name b v.node) b.reservoirs
  reservoirs_own i j before within same =
      let one = entry_at b.reservoirs i (omega arith) in
      let other = entry_at b.reservoirs j within in
      let names : node_name b one.0.node ≡ node_name b other.0.node = rw (one.1, other.1) at same in
      let at : one.0.node ≡ other.0.node =
      once (node_name b) (length b.nodes) valid.names.nodes one.0.node other.0.node (its i one.0 one.1)
      (its j other.0 other.1) names in
      valid.names.reservoirs i j before within (rw (one.1, other.1) (ap Some at))
    where
      its : (k : ℕ) (v : reservoir.Reservoir) → slice_get b.reservoirs k ≡ Some v → v.node < length b.nodes
      its k v at = (all_at (IsValidReservoir b) b.reservoirs k v valid.reservoirs at).node

  pub reservoir_named : (k : ℕ) → k < length b.reservoirs →
      named_at (basin_table b) Reservoirs (reservoir_name b k) ≡ Some k
  reservoir_named =
      found Reservoirs (λ v. node_name b v.node) b.reservoirs
      (texts Reservoir (codes "node") (reservoir_row b) (λ v. node_name b v.node) b.reservoirs (lists Reservoir tt)
      (λ v. refl)) reservoirs_own

  pub diversion_named : (k : ℕ) → of_entry b.rights k (λ r. is_diversion_kind r.kind) false ≡ true →
      named_at (basin_table b) Diversions (right_name b k) ≡ Some k
  diversion_named k is =
      let within = diversion_within b.rights valid.ranked k is in
      ap (λ (o : Option Right). first_from (is_the_text (unwrap_or (option_map (λ r. r.name) o) [])) 0
      (texts_of (basin_table b) Diversions))
      (sym (diversion_same b.rights valid.ranked k within))
      ∙ found Diversions (λ r. r.name) (rights_in Diversion b.rights) (right_texts Diversion (lists Diversion tt))
      (diversions_own b.rights valid.ranked valid.names.rights) k within

  pub all_rights : rights_in Diversion b.rights ++ rights_in Instream b.rights ++ rights_in Zone b.rights ≡ b.rights
  all_rights = rights_by_table 0 b.rights valid.ranked

  pub right_named : (k : ℕ) → k < length b.rights → named_at (basin_table b) Rights (right_name b k) ≡ Some k
  right_named =
      found Rights (λ r. r.name) b.rights (
      (λ i. right_texts Diversion (lists Diversion tt) i ++ right_texts Instream (lists Instream tt) i
      ++ right_texts Zone (lists Zone tt) i)
      ∙ (sym (map-append name (rights_in Diversion b.rights ++ rights_in Instream b.rights) (rights_in Zone b.rights)
      ∙ ap (λ ts. ts ++ map name (rights_in Zone b.rights))
      (map-append name (rights_in Diversion b.rights) (rights_in Instream b.rights)))
      ∙ ap (map name) all_rights)
      ) valid.names.rights
    where
      name : Right → Option (List ℕ)
      name r = Some r.name

  -- so a text that is such a name is read as the index
  index_there : (space : Space) (key : List ℕ) (row : Members) (q : List ℕ) (k : ℕ) →
      get_member key row ≡ Some (string q) → named_at (basin_table b) space q ≡ Some k → k < 4000 →
      number_at (basin_table b) space key row ≡ k
  index_there space key row q k at its bounded =
      ap (λ (o : Option Data). option_map_or small
      (named_at (basin_table b) space (unwrap_or (option_and_then as_str o) [])) 0) at
      ∙ index_read (basin_table b) space q k its bounded

  node_there : (key : List ℕ) (row : Members) (k : ℕ) → get_member key row ≡ Some (string (node_name b k)) →
      k < length b.nodes → number_at (basin_table b) Nodes key row ≡ k
  node_there key row k at within =
      index_there Nodes key row (node_name b k) k at (node_named k within) (omega (arith, valid.bounded.nodes))

  node_back : (n : node.Node) → IsValidNode n → node_of (node_row n) ≡ n
  node_back n h = λ i. record {
    name = name_there (codes "name") (node_row n) n.name refl h.name i;
    outlet = n.outlet;
    inflow = inflow_read n.inflow h.inflow i;
  }

  link_back : (l : link.Link) → IsValidLink b l → link_of (basin_table b) (link_row b l) ≡ l
  link_back l h = λ i. record {
    name = name_there (codes "name") (link_row b l) l.name (link_at b l (codes "name")) h.name i;
    from = node_there (codes "from") (link_row b l) l.from (link_at b l (codes "from")) h.ends.from i;
    to = node_there (codes "to") (link_row b l) l.to (link_at b l (codes "to")) h.ends.to i;
    carry = ((λ j. carry_of (link_at b l (codes "per_day") j) (link_at b l (codes "closed") j))
        ∙ carry_read l.carry h.carry) i;
  }

  reservoir_back : (v : reservoir.Reservoir) → IsValidReservoir b v →
      reservoir_of (basin_table b) (reservoir_row b v) ≡ v
  reservoir_back v h = λ i. record {
    node = node_there (codes "node") (reservoir_row b v) v.node refl h.node i;
    opening = whole_read 0 (16 * 10 ^ 9) 0 v.opening (omega arith) h.opening i;
    area = area_read v.area h.points i;
    rate = monthly_read 10000 v.rate h.rate i;
  }

  return_back : (row : ReturnRow) → IsValidReturn b row × (row.rest ≡ 0) →
      return_of (basin_table b) (return_row b row) ≡ row
  return_back row both = let h = both.0 in λ i. record {
    right = index_there Diversions (codes "diversion") (return_row b row) (right_name b row.right) row.right refl
        (diversion_named row.right h.diversion) (omega (arith, h.right, valid.bounded.rights)) i;
    node = node_there (codes "node") (return_row b row) row.node refl h.node i;
    part = whole_read 1 10000 1 row.part h.part.0 h.part.1 i;
    lag = whole_read 1 120 1 row.lag h.lag.0 h.lag.1 i;
    rest = sym both.1 i;
  }

  right_back : (t : BasinTable) (r : Right) → IsRightIn b t r × IsRightAlone r →
      spells_of t (basin_table b) (right_row b r) ≡ r
  right_back t r both = by t r.kind refl both.0.0.site both.0.0.volume both.0.2
    where
      by : (t : BasinTable) (its : RightKind) → r.kind ≡ its → HasValidSite b its → IsValidVolume its r.volume r.used →
          is_in_table t its ≡ true → spells_of t (basin_table b) (row_of_kind b r its) ≡ r
      by Diversion (kind.Diversion node) e index volume is =
          right_there _ _ (row_of_kind b r (kind.Diversion node)) b r both.0.0 both.0.1 both.1 refl refl refl
          (diversion_at b r node (codes "want"))
          (ap (λ (n : ℕ). kind.Diversion n)
          (node_there (codes "node") (row_of_kind b r (kind.Diversion node)) node refl index) ∙ sym e)
          (ap volume_of (diversion_at b r node (codes "volume")) ∙ volume_read (kind.Diversion node) r.volume r.used volume)
      by Instream (kind.Instream link) e index volume is =
          right_there _ None (row_of_kind b r (kind.Instream link)) b r both.0.0 both.0.1 both.1 refl refl refl refl
          (ap (λ (n : ℕ). kind.Instream n)
          (index_there Links (codes "link") (row_of_kind b r (kind.Instream link)) (link_name b link) link refl
          (link_named link index) (omega (arith, valid.bounded.links))) ∙ sym e)
          (no_volume link r.volume r.used volume)
      by Zone (kind.Zone reservoir level) e index volume is =
          right_there _ None (row_of_kind b r (kind.Zone reservoir level)) b r both.0.0 both.0.1 both.1 refl refl refl refl
          ((λ i. kind.Zone (index_there Reservoirs (codes "reservoir") (row_of_kind b r (kind.Zone reservoir level))
          (reservoir_name b reservoir) reservoir refl (reservoir_named reservoir index.0)
          (omega (arith, index.0, bounded_reservoirs b valid)) i)
          (whole_read 1 16 1 level index.1 index.2 i)) ∙ sym e)
          (sym (both.1.volume (ap is_zone_kind e)))
      by _ _ e index volume is = cc

  pub rights_sound : (t : BasinTable) → All (IsRightIn b t) (rights_in t b.rights)
  rights_sound t k d h =
      let its = All-filter (λ r. is_in_table t r.kind) (λ r. IsValidRight b r × (is_date r.date ≡ true)) b.rights
      (λ j e l. (valid.rights j e l, dates j e l)) k d h in
      (its.0, its.1, filter_passes (λ r. is_in_table t r.kind) b.rights k d h)
    where
      dates : All (λ r. is_date r.date ≡ true) b.rights
      dates = all_by (λ r. is_date r.date ≡ true) b.rights
          (λ j r at. not-false (is_date r.date)
          (sym (ap (λ (o : Option Right). unwrap_or (option_map has_bad_date o) false) at)
          ∙ valid.roll.dates j (slice_get_within b.rights j r at)))

  -- the entries of a table
  back : {X : Type 0} (t : BasinTable) (row : X → Members) (spells : Members → X) (P : X → Type 0) (xs : List X) →
      items_at (basin_table b) t ≡ listing (map row xs) → All P xs → ((x : X) → P x → spells (row x) ≡ x) →
      map spells (rows_in (basin_table b) t) ≡ xs
  back t row spells P xs its all f =
      ap (λ items. map spells (rows_after items)) its
      ∙ (ap (map spells) (rows_listing (map row xs))
      ∙ (map_alike spells row (λ x. x) xs (λ k d h. f _ (all k d h)) ∙ map-id xs))

  rights_back : IsWithoutStores b → (t : BasinTable) → items_at (basin_table b) t ≡ listing (map (right_row b) (rights_in t b.rights)) →
      map (spells_of t (basin_table b)) (rows_in (basin_table b) t) ≡ rights_in t b.rights
  rights_back alone t its =
      back t (right_row b) (spells_of t (basin_table b)) (λ r. IsRightIn b t r × IsRightAlone r) (rights_in t b.rights) its
      (λ k d h. (rights_sound t k d h, All-filter (λ r. is_in_table t r.kind) IsRightAlone b.rights alone.rights k d h))
      (right_back t)

-- the table of a valid basin without stores spells it, in format 2
pub table_spells : (b : Basin) → IsValidBasin b → IsPlain b → basin_of (basin_table b) ≡ record b { format = 2 }
table_spells b valid plain = let alone = valid.format.second plain.format in λ i. record {
  format = ap (integer_of 1 2 1) (top_at b (codes "format")) i;
  unit = sym alone.unit i;
  due = sym plain.due i;
  accounts = sym alone.accounts i;
  draws = sym alone.draws i;
  first = (ap (λ (o : Option Data). first_of (unwrap_or (option_and_then as_str o) [])) (top_at b (codes "first_month"))
      ∙ first_read b.first valid.run.first) i;
  months = whole_there (codes "months") 1 1200 1 (basin_table b) b.months (top_at b (codes "months"))
      valid.run.months.0 valid.run.months.1 i;
  year_start = whole_there (codes "year_start") 1 12 10 (basin_table b) b.year_start (top_at b (codes "year_start"))
      valid.format.year_start.0 valid.format.year_start.1 i;
  nodes = back b valid Node node_row node_of IsValidNode b.nodes (lists b valid Node tt)
      valid.nodes (node_back b valid) i;
  links = back b valid Link (link_row b) (link_of (basin_table b)) (IsValidLink b) b.links (lists b valid Link tt)
      valid.links (link_back b valid) i;
  reservoirs = back b valid Reservoir (reservoir_row b) (reservoir_of (basin_table b)) (IsValidReservoir b) b.reservoirs
      (lists b valid Reservoir tt) valid.reservoirs (reservoir_back b valid) i;
  rights = ((λ j. rights_back b valid alone Diversion (lists b valid Diversion tt) j
      ++ rights_back b valid alone Instream (lists b valid Instream tt) j
      ++ rights_back b valid alone Zone (lists b valid Zone tt) j) ∙ all_rights b valid) i;
  returns = back b valid Return (return_row b) (return_of (basin_table b))
      (λ row. IsValidReturn b row × (row.rest ≡ 0)) b.returns (lists b valid Return tt)
      (λ k d h. (valid.returns k d h, alone.rests k d h)) (return_back b valid) i;
}

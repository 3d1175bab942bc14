-- Keys with values that fit them, and entries whose rows are such keys: the fields of format 2.
use Rattle.std.proofs.lemmas.Bool.{and_right, and_from, and_parts, or_from}
use Rattle.std.proofs.Common.{◌≡◌, ℕ, ◌+◌, ◌*◌, ◌^◌, ◌≤◌, ◌∙◌, Bool, true, false, not, ap, sym, subst, refl, arith}
use Rattle.std.proofs.Common.{List, [], ◌∷◌, length, map, is_some, codes, All, nat_cmp, get_or}
use Rattle.std.specs.Prelude.{Option, Some, None, option_map, if◌then◌else◌}
use Rattle.std.proofs.lemmas.List.Elements.{All-cons, All-head, All-nil, All-tail}
use Rattle.std.specs.Cmp.Lexicographic.{slice_cmp}
use Rattle.std.specs.List.{list_all}
use Rattle.std.specs.Option.{option_map_or}
use Rattle.std.specs.Ordering.{is_eq}
use Rattle.toml.specs.Data.{Data, string, boolean, array, table, Items, no_items, item, Members, get_member, as_array}
use Rattle.toml.specs.Data.{as_table, depth, items_depth, members_depth, has_valid_dates, items_have_valid_dates}
use Rattle.toml.specs.Data.{members_have_valid_dates}
use Rattle.toml.specs.View.{items_of}
use Rattle.toml_tree.specs.Items.{items_all}
use Rattle.water_text.specs.Months.{IsMonth, month_digits}
use Rattle.water_text.specs.Names.{is_name}
use Rattle.water_text.proofs.MonthLaws.{read_month-month_digits}
use Rattle.water_text.specs.declared.month.Month.{Month}
use Rattle.water_text.specs.Days.{is_date}
use Rattle.water_text.specs.declared.day.Day.{Day}
use Rattle.water_model.specs.Valid.{IsValidWant}
use Rattle.water_model.specs.Valid.{IsMonthly, IsValidCarry, IsValidInflow, IsValidPoint, IsValidVolume}
use Rattle.water_model.specs.declared.types.AreaPoint.{AreaPoint}
use Rattle.water_model.specs.declared.types.Carry.{Carry}
use Rattle.water_model.specs.declared.types.Carry.TheVariants.{River, Canal}
use Rattle.water_model.specs.declared.types.Want as wanting
use Rattle.water_model.specs.declared.types.Want.TheVariants as wants
use Rattle.water_model.specs.declared.types.Inflow as inflow
use Rattle.water_model.specs.declared.types.Inflow.TheVariants as inflows
use Rattle.water_model.specs.declared.types.RightKind.{RightKind}
use Rattle.basin_tree.specs.declared.tables.BasinTable.{BasinTable}
use Rattle.basin_tree.specs.declared.tables.Kind.{Kind}
use Rattle.basin_tree.specs.declared.tables.Kind.TheVariants.{Tables, Integer, Truth, Name, Refers, MonthText, DateText}
use Rattle.basin_tree.specs.declared.tables.Kind.TheVariants.{Monthly, Want, CalendarMonths, Inflow, Points}
use Rattle.basin_tree.specs.declared.tables.Space.{Space}
use Rattle.basin_tree.specs.Entries.{Entry}
use Rattle.basin_tree.specs.KeyFaults.{format_of, has_no_nodes, has_unknown, is_known, runs_late, shuts_no_canal}
use Rattle.basin_tree.specs.Kinds.{has_kind, is_listed, is_integer_value}
use Rattle.basin_tree.specs.NameFaults.{is_bad_name, names_none, same_name, stands_at_outlet, too_many}
use Rattle.basin_tree.specs.Indices.{named_at}
use Rattle.basin_tree.specs.Ranges.{in_range, number_in, pair_in}
use Rattle.basin_tree.specs.Tables.{KeyRow, keys_of, required, optional, second}
use Rattle.basin_file.specs.Upgraded.{want_data}
use Rattle.basin_file.specs.Upgraded.{closed_data, day_text, inflow_data, listed, number, numbers, per_day_data, Keyed}
use Rattle.basin_file.specs.Upgraded.{point_data, row_of, shut_months, some_items, with_some}
use Rattle.basin_file.proofs.Fields.{ascend, looked_up, value_at}
use Rattle.basin_file.proofs.Listed.{len_items}
use Rattle.basin_file.proofs.Passed.{Fits, IsClean, clean_by}
use Rattle.basin_file.proofs.Values.{between, date_shape, month_shape}

-- data that is shallow, with no date of TOML that can't be printed
pub record IsPlain (n : ℕ) (d : Data) : Type 0 where
  pub shallow : depth d ≤ n
  pub dates : has_valid_dates d ≡ true

pub record ArePlainItems (n : ℕ) (ds : Items) : Type 0 where
  pub shallow : items_depth ds ≤ n
  pub dates : items_have_valid_dates ds ≡ true

pub record ArePlain (n : ℕ) (ms : Members) : Type 0 where
  pub shallow : members_depth ms ≤ n
  pub dates : members_have_valid_dates ms ≡ true

abbrev pub IsPlainOption : ℕ → Option Data → Type 0
IsPlainOption n None = Unit {0}
IsPlainOption n (Some d) = IsPlain n d

pub plain_text : (s : List ℕ) (n : ℕ) → IsPlain n (string s)
plain_text s n = record { shallow = omega arith; dates = refl }

pub plain_number : (k n : ℕ) → IsPlain n (number k)
plain_number k n = record { shallow = omega arith; dates = refl }

pub plain_items : {X : Type 0} (n : ℕ) (f : X → Data) (xs : List X) → All (λ x. IsPlain n (f x)) xs →
    ArePlainItems n (items_of (map f xs))
plain_items n f [] all = record { shallow = omega arith; dates = refl }
plain_items n f (x ∷ xs) all =
    let here = All-head (λ x. IsPlain n (f x)) x xs all in
    let rest = plain_items n f xs (All-tail (λ x. IsPlain n (f x)) x xs all) in
    record { shallow = omega (arith, here.shallow, rest.shallow); dates = rw here.dates rest.dates }

pub plain_array : (n : ℕ) (ds : Items) → ArePlainItems n ds → IsPlain (n + 1) (array ds)
plain_array n ds h = record { shallow = omega (arith, h.shallow); dates = h.dates }

pub plain_numbers : (n : ℕ) (ns : List ℕ) → ArePlainItems n (numbers ns)
plain_numbers n ns = plain_items n number ns (λ k d h. plain_number _ n)

-- items that pass a test
pub items_pass : {X : Type 0} (test : Data → Bool) (f : X → Data) (xs : List X) → All (λ x. test (f x) ≡ true) xs →
    items_all test (items_of (map f xs)) ≡ true
items_pass test f [] all = refl
items_pass test f (x ∷ xs) all = rw (All-head (λ x. test (f x) ≡ true) x xs all)
    (items_pass test f xs (All-tail (λ x. test (f x) ≡ true) x xs all))

whole_items : (ns : List ℕ) → items_all is_integer_value (numbers ns) ≡ true
whole_items ns = items_pass is_integer_value number ns (λ k d h. refl)

pub monthly_items : (most : ℕ) (ns : List ℕ) → IsMonthly most ns → items_all (number_in 0 most) (numbers ns) ≡ true
monthly_items most ns h =
    items_pass (number_in 0 most) number ns (λ k d l. between 0 (get_or ns k d) most (omega arith) (h.each k d l))

pub twelve_items : (most : ℕ) (ns : List ℕ) → IsMonthly most ns →
    is_listed is_integer_value 12 (array (numbers ns)) ≡ true
twelve_items most ns h = rw (len_items number ns, h.twelve, whole_items ns) refl

months_in : (from : ℕ) (shut : List Bool) → 1 ≤ from → from + length shut ≤ 13 →
    items_all (number_in 1 12) (numbers (shut_months from shut)) ≡ true
months_in from [] low high = refl
months_in from (true ∷ shut) low high =
    rw (between 1 from 12 low (omega arith)) (months_in (from + 1) shut (omega arith) (omega arith))
months_in from (false ∷ shut) low high = months_in (from + 1) shut (omega arith) (omega arith)

pub point_items : (area : List AreaPoint) → All IsValidPoint area →
    items_all (λ x. option_map_or pair_in (as_array x) true) (items_of (map point_data area)) ≡ true
point_items area all = items_pass (λ x. option_map_or pair_in (as_array x) true) point_data area
    (λ k d h. and_from _ _
    (between 0 (get_or area k d).storage (16 * 10 ^ 9) (omega arith) (all k d h).storage)
    (between 0 (get_or area k d).area (10 ^ 9) (omega arith) (all k d h).area))

-- a key of format 2 with its value, if it has one, which fits it and is plain
pub record Field (tree : Members) (n : ℕ) : Type 0 where
  pub key : KeyRow
  pub value : Option Data
  pub fits : Fits 2 tree key value
  pub plain : IsPlainOption n value

module _ (tree : Members) where
  -- a value by the four tests of its kind
  pub fits_by : (key : KeyRow) (d : Data) → has_kind 2 key.kind d ≡ true → in_range key.kind d ≡ true →
      is_bad_name key.kind d ≡ false → names_none tree key.kind d ≡ false → Fits 2 tree key (Some d)
  fits_by key d p q r s =
      let present = and_right key.is_required false refl in
      record { present = present; kinds = ap not p; ranges = ap not q; names = r; refers = s }

  abbrev field : {n : ℕ} (key : KeyRow) (d : Data) → has_kind 2 key.kind d ≡ true → in_range key.kind d ≡ true →
      is_bad_name key.kind d ≡ false → names_none tree key.kind d ≡ false → IsPlain n d → Field tree n
  field key d p q r s plain = record { key = key; value = Some d; fits = fits_by key d p q r s; plain = plain }

  abbrev pub whole : {n : ℕ} (key : List ℕ) (needed : Bool) (since least most k : ℕ) → least ≤ k → k ≤ most →
      Field tree n
  whole {n = n} key needed since least most k low high =
      field (record { name = key; is_required = needed; kind = Integer least most; since = since }) (number k) refl
      (between least k most low high) refl refl (plain_number k n)

  abbrev pub named : (text : List ℕ) → is_name text ≡ true → Field tree 2
  named text good =
      field (required (codes "name") Name) (string text) refl refl (ap not good) refl (plain_text text 2)

  abbrev pub truth : (key : List ℕ) → Bool → Field tree 2
  truth key t =
      field (optional key Truth) (boolean t) refl refl refl refl (record { shallow = omega arith; dates = refl })

  abbrev pub refers : (key : List ℕ) (space : Space) (q : List ℕ) (k : ℕ) → named_at tree space q ≡ Some k →
      Field tree 2
  refers key space q k named =
      field (required key (Refers space)) (string q) refl refl refl (ap (λ (o : Option ℕ). not (is_some o)) named)
      (plain_text q 2)

  abbrev pub dated : (d : Day) → is_date d ≡ true → Field tree 2
  dated d good =
      field (required (codes "date") DateText) (string (day_text d)) (date_shape d good) refl refl refl (plain_text _ 2)

  abbrev pub month : (m : Month) → IsMonth m → Field tree 4
  month m good =
      field (required (codes "first_month") MonthText) (string (month_digits m)) (month_shape m good)
      (ap (λ (o : Option Month). is_some o) (read_month-month_digits m good)) refl refl (plain_text _ 4)

  abbrev pub rate : (ns : List ℕ) → IsMonthly 10000 ns → Field tree 2
  rate ns h =
      field (optional (codes "rate") (Monthly 10000)) (array (numbers ns)) (twelve_items 10000 ns h)
      (monthly_items 10000 ns h) refl refl (plain_array 1 (numbers ns) (plain_numbers 1 ns))

  abbrev pub points : (area : List AreaPoint) → All IsValidPoint area → Field tree 2
  points area h =
      field (optional (codes "area") Points) (array (items_of (map point_data area)))
      (items_pass (is_listed is_integer_value 2) point_data area (λ k d h. refl)) (point_items area h) refl refl
      (plain_array 1 (items_of (map point_data area)) (plain_items 1 point_data area
      (λ k d l. plain_array 0 _ (plain_numbers 0 ((get_or area k d).storage ∷ (get_or area k d).area ∷ [])))))

  -- fields whose value depends on what is written
  abbrev pub InField : KeyRow → ℕ → Option Data → Type 0
  InField key n o = Fits 2 tree key o × IsPlainOption n o

  abbrev pub in_field : {n : ℕ} (key : KeyRow) (o : Option Data) → InField key n o → Field tree n
  in_field key o its = record { key = key; value = o; fits = its.0; plain = its.1 }

  pub no_field : (n : ℕ) (name : List ℕ) (kind : Kind) (since : ℕ) →
      InField (record { name = name; is_required = false; kind = kind; since = since }) n None
  no_field n name kind since = (record { present = refl; kinds = refl; ranges = refl; names = refl; refers = refl }, tt)

  abbrev of_field : {n : ℕ} (f : Field tree n) → InField f.key n f.value
  of_field f = (f.fits, f.plain)

  pub want_in : (want : wanting.Want) → IsValidWant want →
      InField (required (codes "want") Want) 2 (Some (want_data want))
  want_in wants.Series h =
      of_field (field (required (codes "want") Want) (string (codes "series")) refl refl refl refl (plain_text _ 2))
  want_in (wants.Monthly ns) h =
      of_field (field (required (codes "want") Want) (array (numbers ns)) (rw (twelve_items (10 ^ 9) ns h) refl)
      (monthly_items (10 ^ 9) ns h) refl refl (plain_array 1 (numbers ns) (plain_numbers 1 ns)))

  pub inflow_in : (i : inflow.Inflow) → IsValidInflow i →
      InField (optional (codes "inflow") Inflow) 2 (Some (inflow_data i))
  inflow_in (inflows.Monthly ns) h =
      of_field (field (optional (codes "inflow") Inflow) (array (numbers ns)) (rw (twelve_items (10 ^ 9) ns h) refl)
      (monthly_items (10 ^ 9) ns h) refl refl (plain_array 1 (numbers ns) (plain_numbers 1 ns)))
  inflow_in inflows.Gauged h =
      of_field (field (optional (codes "inflow") Inflow) (string (codes "gauged")) refl refl refl refl (plain_text _ 2))

  pub per_day_in : (c : Carry) → IsValidCarry c →
      InField (optional (codes "per_day") (Integer 0 (10 ^ 9))) 2 (per_day_data c)
  per_day_in River h = no_field 2 (codes "per_day") (Integer 0 (10 ^ 9)) 1
  per_day_in (Canal per_day shut) h = of_field (whole (codes "per_day") false 1 0 (10 ^ 9) per_day (omega arith) h.0)

  pub closed_in : (c : Carry) → IsValidCarry c → InField (second (codes "closed") CalendarMonths) 2 (closed_data c)
  closed_in River h = no_field 2 (codes "closed") CalendarMonths 2
  closed_in (Canal per_day shut) h = by (numbers (shut_months 1 shut)) (whole_items (shut_months 1 shut))
      (months_in 1 shut (omega arith) (omega (arith, h.1)))
      (plain_numbers 1 (shut_months 1 shut))
    where
      by : (ds : Items) → items_all is_integer_value ds ≡ true → items_all (number_in 1 12) ds ≡ true →
          ArePlainItems 1 ds → InField (second (codes "closed") CalendarMonths) 2 (some_items ds)
      by no_items p q plain = no_field 2 (codes "closed") CalendarMonths 2
      by (item d ds) p q plain =
          of_field (field (second (codes "closed") CalendarMonths) (array (item d ds)) p q refl refl
          (plain_array 1 (item d ds) plain))

  pub volume_in : (its : RightKind) (volume : Option ℕ) (used : ℕ) → IsValidVolume its volume used →
      InField (second (codes "volume") (Integer 0 (16 * 10 ^ 9))) 2 (option_map number volume)
  volume_in its None used h = no_field 2 (codes "volume") (Integer 0 (16 * 10 ^ 9)) 2
  volume_in its (Some n) used h = of_field (whole (codes "volume") false 2 0 (16 * 10 ^ 9) n (omega arith) h.1)

  -- a table of entries, of which there has to be one where it is required
  pub tables_in : {X : Type 0} (key : List ℕ) (needed : Bool) (row : X → Members) (xs : List X) →
      (needed ≡ true → 1 ≤ length xs) → All (λ x. ArePlain 2 (row x)) xs →
      InField (record { name = key; is_required = needed; kind = Tables; since = 1 }) 4 (listed row xs)
  tables_in key false row [] some all = no_field 4 key Tables 1
  tables_in key true row [] some all = let none = some refl in absurd (omega arith)
  tables_in {X = X} key needed row (x ∷ xs) some all =
      of_field (field (record { name = key; is_required = needed; kind = Tables; since = 1 })
      (array (items_of (map (λ x. table (row x)) (x ∷ xs))))
      (items_pass (λ x. is_some (as_table x)) (λ x. table (row x)) (x ∷ xs) (λ k d h. refl)) refl refl refl
      (plain_array 3 _ (plain_items 3 (λ x. table (row x)) (x ∷ xs) (λ k d h. deeper _ (all k d h)))))
    where
      deeper : (x : X) → ArePlain 2 (row x) → IsPlain 3 (table (row x))
      deeper x h = record { shallow = omega (arith, h.shallow); dates = h.dates }

  abbrev pub tables : {X : Type 0} (key : List ℕ) (needed : Bool) (row : X → Members) (P : X → Type 0) (xs : List X) →
      (needed ≡ true → 1 ≤ length xs) → All P xs → ((x : X) → P x → ArePlain 2 (row x)) → Field tree 4
  tables key needed row P xs some all plain =
      in_field (record { name = key; is_required = needed; kind = Tables; since = 1 }) (listed row xs)
      (tables_in key needed row xs some (λ k d h. plain _ (all k d h)))

  module _ {n : ℕ} where
    abbrev pub keyed : List (Field tree n) → List Keyed
    keyed fields = map (λ f. (f.key.name, f.value)) fields

    abbrev pub key_at : List ℕ → List (Field tree n) → Option KeyRow
    key_at k [] = None
    key_at k (f ∷ fs) = if is_eq (slice_cmp nat_cmp k f.key.name) then Some f.key else key_at k fs

    -- fields in rising order, which are the keys of a table
    abbrev pub AreKeysOf : BasinTable → List (Field tree n) → Type 0
    AreKeysOf t fields = (ascend (keyed fields) ≡ true) ×
        (list_all (λ f. is_known 2 (keys_of t) f.key.name) fields ≡ true) ×
        (map (λ key. key_at key.name fields) (keys_of t) ≡ map (λ key. Some key) (keys_of t))

    pub plain_fields : (fields : List (Field tree n)) → ArePlain n (row_of (keyed fields))
    plain_fields [] = record { shallow = omega arith; dates = refl }
    plain_fields (f ∷ fs) = by f.value f.plain (plain_fields fs)
      where
        by : (o : Option Data) → IsPlainOption n o → ArePlain n (row_of (keyed fs)) →
            ArePlain n (with_some f.key.name o (row_of (keyed fs)))
        by None h rest = rest
        by (Some d) h rest =
            record { shallow = omega (arith, h.shallow, rest.shallow); dates = rw h.dates rest.dates }

    known_names : (t : BasinTable) (fields : List (Field tree n)) →
        list_all (λ f. is_known 2 (keys_of t) f.key.name) fields ≡ true →
        has_unknown 2 t (row_of (keyed fields)) ≡ false
    known_names t [] h = refl
    known_names t (f ∷ fs) h =
        let both = and_parts (is_known 2 (keys_of t) f.key.name)
        (list_all (λ f. is_known 2 (keys_of t) f.key.name) fs) h in
        by f.value both.0 (known_names t fs both.1)
      where
        by : (o : Option Data) → is_known 2 (keys_of t) f.key.name ≡ true →
            has_unknown 2 t (row_of (keyed fs)) ≡ false →
            has_unknown 2 t (with_some f.key.name o (row_of (keyed fs))) ≡ false
        by None known rest = rest
        by (Some d) known rest =
            or_from (not (is_known 2 (keys_of t) f.key.name)) (has_unknown 2 t (row_of (keyed fs))) (ap not known) rest

    -- the value at a key fits it
    fits_key : (key : KeyRow) (fields : List (Field tree n)) → key_at key.name fields ≡ Some key →
        Fits 2 tree key (value_at key.name (keyed fields))
    fits_key key [] e = cc
    fits_key key (f ∷ fs) e = by (is_eq (slice_cmp nat_cmp key.name f.key.name)) e (fits_key key fs)
      where
        by : (t : Bool) → (if t then Some f.key else key_at key.name fs) ≡ Some key →
            (key_at key.name fs ≡ Some key → Fits 2 tree key (value_at key.name (keyed fs))) →
            Fits 2 tree key (if t then f.value else value_at key.name (keyed fs))
        by true e rest = let same : f.key ≡ key = cc in subst (λ (k : KeyRow). Fits 2 tree k f.value) same f.fits
        by false e rest = rest e

    abbrev FitsIn : List (Field tree n) → KeyRow → Type 0
    FitsIn fields key = Fits (format_of tree) tree key (get_member key.name (row_of (keyed fields)))

    fits_keys : (fields : List (Field tree n)) (keys : List KeyRow) → format_of tree ≡ 2 →
        ascend (keyed fields) ≡ true →
        map (λ key. key_at key.name fields) keys ≡ map (λ key. Some key) keys → All (FitsIn fields) keys
    fits_keys fields [] format rising e = All-nil (FitsIn fields)
    fits_keys fields (key ∷ keys) format rising e =
        let here : key_at key.name fields ≡ Some key = cc in
        let rest : map (λ key. key_at key.name fields) keys ≡ map (λ key. Some key) keys = cc in
        All-cons (FitsIn fields) key keys
        (subst (λ (f : ℕ). Fits f tree key (get_member key.name (row_of (keyed fields)))) (sym format)
        (subst (Fits 2 tree key) (sym (looked_up key.name (keyed fields) rising)) (fits_key key fields here)))
        (fits_keys fields keys format rising rest)

    -- an entry of such fields is clean where it keeps what else an entry has to
    abbrev filled : BasinTable → ℕ → List (Field tree n) → Entry
    filled t number fields = record { table = t; number = number; row = row_of (keyed fields) }

    pub clean_fields : (t : BasinTable) (number : ℕ) (fields : List (Field tree n)) → format_of tree ≡ 2 →
        AreKeysOf t fields → has_no_nodes t (row_of (keyed fields)) ≡ false →
        shuts_no_canal t (row_of (keyed fields)) ≡ false → runs_late t (row_of (keyed fields)) ≡ false →
        too_many tree (filled t number fields) ≡ false → same_name tree (filled t number fields) ≡ false →
        stands_at_outlet t tree (row_of (keyed fields)) ≡ false → IsClean tree (filled t number fields)
    clean_fields t number fields format keys nodes canal late many same outlets =
        clean_by tree (filled t number fields) (fits_keys fields (keys_of t) format keys.0 keys.2)
        (let known = ap (λ f. has_unknown f t (row_of (keyed fields))) format
        ∙ known_names t fields keys.1 in assumption)

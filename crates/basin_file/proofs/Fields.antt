-- Members that are added to a table, and rows by their keys in rising order: what stands at each, and that they can be
-- put from the last to the first.
use Rattle.std.proofs.Common.{◌≡◌, ℕ, ap, refl, false, List, [], ◌∷◌, length, String, Global, string_bytes, Ordering}
use Rattle.std.proofs.Common.{Less, Equal, Greater, ◌∙◌, sym, Bool, true, ◌&&◌, nat_cmp}
use Rattle.std.specs.Prelude.{◌==◌, Option, Some, None, if◌then◌else◌}
use Rattle.std.specs.Ordering.{match_ordering, is_eq, is_lt}
use Rattle.std.specs.String.{string_cmp}
use Rattle.std.specs.BTreeMap.{insert_entry}
use Rattle.std.specs.Cmp.Lexicographic.{slice_cmp}
use Rattle.std.proofs.lemmas.Bool.{and_parts}
use Rattle.std.proofs.lemmas.Map.Text.{is_eq-slice_cmp}
use Rattle.std.proofs.lemmas.Slice.Eq.{bytes_eq-Decides}
use Rattle.toml.specs.Data.{array, Members, member, Data, no_members, get_member, is_before}
use Rattle.toml.specs.View.{view, items_view, members_view}
use Rattle.toml.specs.declared.value.Value.{Value}
use Rattle.basin_file.specs.Upgraded.{Keyed, row_of, some_items, with_member, with_option, with_some}

-- a key that is put into the map of a table
pub view-insert : (k : String Global) (v : Value) (es : List (String Global × Value)) →
    members_view (insert_entry string_cmp es k v) ≡ with_member (string_bytes k) (view v) (members_view es)
view-insert k v [] = refl
view-insert k v (e ∷ es) = by_order (string_cmp k e.0) (view-insert k v es)
  where
    by_order : (o : Ordering) →
        members_view (insert_entry string_cmp es k v) ≡ with_member (string_bytes k) (view v) (members_view es) →
        members_view (match_ordering o ((k, v) ∷ e ∷ es) ((e.0, v) ∷ es) (e ∷ insert_entry string_cmp es k v))
        ≡ match_ordering o (member (string_bytes k) (view v) (member (string_bytes e.0) (view e.1) (members_view es)))
        (member (string_bytes e.0) (view v) (members_view es))
        (member (string_bytes e.0) (view e.1) (with_member (string_bytes k) (view v) (members_view es)))
    by_order Less further = refl
    by_order Equal further = refl
    by_order Greater further = ap (member (string_bytes e.0) (view e.1)) further

-- a list is put unless it is empty
pub listed-put : (key : List ℕ) (values : List Value) (ms : Members) → (length values == 0) ≡ false →
    with_member key (array (items_view values)) ms ≡ with_option key (some_items (items_view values)) ms
listed-put key [] ms h = cc
listed-put key (v ∷ values) ms h = refl

-- the keys of a row, put from the last to the first
abbrev pub put_of : List Keyed → Members
put_of [] = no_members
put_of (f ∷ fs) = with_option f.0 f.1 (put_of fs)

-- the value at a key
abbrev pub value_at : List ℕ → List Keyed → Option Data
value_at k [] = None
value_at k (f ∷ fs) = if is_eq (slice_cmp nat_cmp k f.0) then f.1 else value_at k fs

abbrev pub leads : List ℕ → List Keyed → Bool
leads k [] = true
leads k (f ∷ fs) = is_lt (slice_cmp nat_cmp k f.0) && leads k fs

-- each key is before all after it
abbrev pub ascend : List Keyed → Bool
ascend [] = true
ascend (f ∷ fs) = leads f.0 fs && ascend fs

no_value : (k : List ℕ) (fs : List Keyed) → leads k fs ≡ true → value_at k fs ≡ None
no_value k [] h = refl
no_value k (f ∷ fs) h =
    let both = and_parts (is_lt (slice_cmp nat_cmp k f.0)) (leads k fs) h in
    by (slice_cmp nat_cmp k f.0) both.0 (no_value k fs both.1)
  where
    by : (o : Ordering) → is_lt o ≡ true → value_at k fs ≡ None →
        (if is_eq o then f.1 else value_at k fs) ≡ None
    by Less l rest = rest
    by Equal l rest = cc
    by Greater l rest = cc

-- a key has its own value
pub looked_up : (k : List ℕ) (fs : List Keyed) → ascend fs ≡ true → get_member k (row_of fs) ≡ value_at k fs
looked_up k [] h = refl
looked_up k (f ∷ fs) h =
    let both = and_parts (leads f.0 fs) (ascend fs) h in
    by f.1 (slice_cmp nat_cmp k f.0) refl both.0 (looked_up k fs both.1)
  where
    by : (o : Option Data) (c : Ordering) → slice_cmp nat_cmp k f.0 ≡ c → leads f.0 fs ≡ true →
        get_member k (row_of fs) ≡ value_at k fs →
        get_member k (with_some f.0 o (row_of fs)) ≡ (if is_eq c then o else value_at k fs)
    by (Some d) Less e first rest = rw e rest
    by (Some d) Greater e first rest = rw e rest
    by (Some d) Equal e first rest = rw e refl
    by None Less e first rest = rest
    by None Greater e first rest = rest
    by None Equal e first rest =
        let same : k ≡ f.0 = (bytes_eq-Decides k f.0).0 (sym (is_eq-slice_cmp k f.0) ∙ ap is_eq e) in
        rest ∙ no_value k fs (rw same first)

leads_row : (k : List ℕ) (fs : List Keyed) → leads k fs ≡ true → is_before k (row_of fs) ≡ true
leads_row k [] h = refl
leads_row k (f ∷ fs) h =
    let both = and_parts (is_lt (slice_cmp nat_cmp k f.0)) (leads k fs) h in by f.1 both.0 (leads_row k fs both.1)
  where
    by : (o : Option Data) → is_lt (slice_cmp nat_cmp k f.0) ≡ true → is_before k (row_of fs) ≡ true →
        is_before k (with_some f.0 o (row_of fs)) ≡ true
    by None first rest = rest
    by (Some d) first rest = first

-- a key that is before the others is put first
put_first : (key : List ℕ) (o : Option Data) (ms : Members) → is_before key ms ≡ true →
    with_option key o ms ≡ with_some key o ms
put_first key None ms h = refl
put_first key (Some d) no_members h = refl
put_first key (Some d) (member other e rest) h = by (slice_cmp nat_cmp key other) h
  where
    by : (o : Ordering) → is_lt o ≡ true →
        match_ordering o (member key d (member other e rest)) (member other d rest)
        (member other e (with_member key d rest)) ≡ member key d (member other e rest)
    by Less l = refl
    by Equal l = cc
    by Greater l = cc

pub put_in_order : (fs : List Keyed) → ascend fs ≡ true → put_of fs ≡ row_of fs
put_in_order [] h = refl
put_in_order (f ∷ fs) h =
    let both = and_parts (leads f.0 fs) (ascend fs) h in
    ap (with_option f.0 f.1) (put_in_order fs both.1) ∙ put_first f.0 f.1 (row_of fs) (leads_row f.0 fs both.0)

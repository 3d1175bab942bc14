-- A month's lines say its record.
use Rattle.std.proofs.Common.{◌≡◌, ℕ, ◌+◌, ◌<◌, Bool, refl, sym, ap, subst, ◌∙◌, arith, List, [], ◌∷◌, ◌++◌, length}
use Rattle.std.proofs.Common.{map, fold}
use Rattle.std.specs.Prelude.{Option, Some, None, is_some, slice_index, slice_set, if◌then◌else◌}
use Rattle.std.specs.List.{flat_map}
use Rattle.std.proofs.Math.ListN.{length-set}
use Rattle.water_model.specs.Basin.{taking_node}
use Rattle.water_model.specs.History.{cut_of}
use Rattle.water_model.specs.Indices.{seniors_first}
use Rattle.result_lines.specs.Quantities.{amounts_of, entries_with_line, with_amounts}
use Rattle.result_lines.specs.Text.{call_items, called_items, lines_in}
use Rattle.result_lines.specs.declared.item.Item.{Item}
use Rattle.result_lines.specs.declared.item.Item.TheVariants as line
use Rattle.result_lines.specs.declared.item.Section.{Section}
use Rattle.result_lines.specs.declared.item.Section.TheVariants as section
use Rattle.result_lines.specs.declared.quantity.Quantity.{Quantity}
use Rattle.water_model.specs.declared.types.Basin.{Basin}
use Rattle.water_model.specs.declared.types.Series.{Series}
use Rattle.water_model.specs.declared.types.MonthRecord.{MonthRecord}
use Rattle.result_lines.proofs.Quantities.{amount_lines, amounts_with, cuts_with, flat_map_one, with_own, with_twice}
use Rattle.result_reader.specs.ReadSoFar.{ReadSoFar, read_item, with_now}
use Rattle.result_reader.proofs.Sets.{put_sets, length-put_sets}
use Rattle.result_reader.proofs.Telling.{set_all, fold-both, tell_call, put_cut}

-- what lines make of the current month. They end no month
pub record Reads (b : Basin) (series : Series) (t : ReadSoFar) (items : List Item) (now : MonthRecord) : Type 0 where
  pub now_is : (fold (read_item b series) t items).now ≡ now
  pub months_are : (fold (read_item b series) t items).months ≡ t.months

-- lines that make the same of each month
abbrev pub Makes : Basin → Series → List Item → (MonthRecord → MonthRecord) → Type 0
Makes b series items f = (t : ReadSoFar) → Reads b series t items (f t.now)

-- lines that set one list each
makes_each : (b : Basin) (series : Series) (item : ℕ → Item) (f : ℕ → MonthRecord → MonthRecord) →
    ((x : ℕ) (t : ReadSoFar) → read_item b series t (item x) ≡ with_now t (f x t.now)) → (xs : List ℕ) →
    Makes b series (map item xs) (λ m. fold (λ n x. f x n) m xs)
makes_each b series item f h [] t = record { now_is = refl; months_are = refl }
makes_each b series item f h (x ∷ xs) t =
    let rest = makes_each b series item f h xs (read_item b series t (item x)) in
    record {
      now_is = rest.now_is ∙ ap (λ u. fold (λ n x. f x n) u.now xs) (h x t);
      months_are = rest.months_are ∙ ap (λ u. u.months) (h x t);
    }

-- the lines of a quantity
read_list : (q : Quantity) (a : ℕ → ℕ) (xs : List ℕ) (m : MonthRecord) →
    fold (λ n x. with_amounts q n (slice_set (amounts_of q n) x (a x))) m xs ≡ with_amounts q m
    (set_all xs a (amounts_of q m))
read_list q a [] m = sym (with_own q m)
read_list q a (x ∷ xs) m =
    let ys : List ℕ = slice_set (amounts_of q m) x (a x) in
    read_list q a xs (with_amounts q m ys)
    ∙ (ap (λ zs. with_amounts q (with_amounts q m ys) (set_all xs a zs)) (amounts_with q m ys)
    ∙ with_twice q m ys (set_all xs a ys))

pub makes_amounts : (b : Basin) (series : Series) (q : Quantity) (a : ℕ → ℕ) (xs : List ℕ) →
    Makes b series (map (λ x. line.Amount q x (a x)) xs) (λ m. with_amounts q m (set_all xs a (amounts_of q m)))
makes_amounts b series q a xs t =
    let h = makes_each b series (λ x. line.Amount q x (a x))
    (λ x m. with_amounts q m (slice_set (amounts_of q m) x (a x))) (λ x t. refl) xs t in
    record { now_is = h.now_is ∙ read_list q a xs t.now; months_are = h.months_are }

abbrev pub with_sets : MonthRecord → List (Option (List Bool)) → MonthRecord
with_sets m sets = record m { cuts = record m.cuts { sets = sets } }

pub reads_calls : (b : Basin) (series : Series) (cut : ℕ → Option (List Bool)) →
    ((r : ℕ) (set : List Bool) → cut r ≡ Some set → length set ≡ length b.nodes) → (xs : List ℕ) (t : ReadSoFar) →
    ((r : ℕ) (set : List Bool) → cut r ≡ Some set → r < length t.now.cuts.sets) →
    Reads b series t (flat_map (λ r. call_items r (cut r)) xs) (with_sets t.now (put_sets xs cut t.now.cuts.sets))
reads_calls b series cut sized [] t within = record { now_is = refl; months_are = refl }
reads_calls b series cut sized (r ∷ rs) t within =
    by_set (cut r) refl (λ u w. reads_calls b series cut sized rs u w)
  where
    by_set : (o : Option (List Bool)) → cut r ≡ o →
        ((u : ReadSoFar) → ((s : ℕ) (set : List Bool) → cut s ≡ Some set → s < length u.now.cuts.sets) →
        Reads b series u (flat_map (λ r. call_items r (cut r)) rs) (with_sets u.now (put_sets rs cut u.now.cuts.sets)))
        → Reads b series t (call_items r (cut r) ++ flat_map (λ r. call_items r (cut r)) rs)
        (with_sets t.now (put_sets (r ∷ rs) cut t.now.cuts.sets))
    by_set None e further = rw e (further t within)
    by_set (Some set) e further =
        let after : ReadSoFar = record (put_cut t r set) { calling = Some r } in
        let so_far : fold (read_item b series) t (call_items r (Some set)) ≡ after =
        tell_call b series r set t (within r set e) (sized r set e) in
        let rest =
        further after (λ s other i. omega (arith, within s other i, length-set t.now.cuts.sets r (Some set))) in
        rw e (record {
          now_is = ap (λ u. u.now)
              (fold-both (read_item b series) t (call_items r (Some set)) (flat_map (λ r. call_items r (cut r)) rs)
              ∙ ap (λ u. fold (read_item b series) u (flat_map (λ r. call_items r (cut r)) rs)) so_far) ∙ rest.now_is;
          months_are =
              ap (λ u. u.months)
              (fold-both (read_item b series) t (call_items r (Some set)) (flat_map (λ r. call_items r (cut r)) rs)
              ∙ ap (λ u. fold (read_item b series) u (flat_map (λ r. call_items r (cut r)) rs)) so_far) ∙
              rest.months_are;
        })

-- `called` lines change nothing of the month
pub makes_called : (b : Basin) (series : Series) (caller_of : ℕ → Option ℕ) (xs : List ℕ) →
    Makes b series (flat_map (λ r. called_items r (caller_of r)) xs) (λ m. m)
makes_called b series caller_of [] t = record { now_is = refl; months_are = refl }
makes_called b series caller_of (r ∷ rs) t = by_caller (caller_of r) refl (λ u. makes_called b series caller_of rs u)
  where
    by_caller : (o : Option ℕ) → caller_of r ≡ o →
        ((u : ReadSoFar) → Reads b series u (flat_map (λ r. called_items r (caller_of r)) rs) u.now) →
        Reads b series t (called_items r (caller_of r) ++ flat_map (λ r. called_items r (caller_of r)) rs) t.now
    by_caller None e further = rw e (further t)
    by_caller (Some caller) e further =
        let rest = further (record t { calling = None; called = t.called + 1 }) in
        rw e (record { now_is = rest.now_is; months_are = rest.months_are })

-- the number that a right takes, by what is delivered
abbrev pub take_of : Basin → (ℕ → ℕ) → ℕ → ℕ
take_of b a r = if is_some (taking_node b r) then a r else 0

abbrev pub with_delivered : Basin → (ℕ → ℕ) → (ℕ → ℕ) → List ℕ → MonthRecord → MonthRecord
with_delivered b a w xs m = record m {
  delivered = set_all xs a m.delivered;
  want = set_all xs w m.want;
  plan = record m.plan { take = set_all xs (take_of b a) m.plan.take };
}

pub makes_deliveries : (b : Basin) (series : Series) (a w : ℕ → ℕ) (xs : List ℕ) →
    Makes b series (map (λ r. line.Deliver r (a r) (w r)) xs) (with_delivered b a w xs)
makes_deliveries b series a w [] t = record { now_is = refl; months_are = refl }
makes_deliveries b series a w (x ∷ xs) t =
    let rest = makes_deliveries b series a w xs (with_now t (with_delivered b a w (x ∷ []) t.now)) in
    record { now_is = rest.now_is; months_are = rest.months_are }

-- What a section's lines make of a month, by the record that they are of.
abbrev pub with_section : Basin → MonthRecord → Section → MonthRecord → MonthRecord
with_section b m (section.Amounts q) now =
    with_amounts q now (set_all (entries_with_line b q) (λ x. slice_index (amounts_of q m) x) (amounts_of q now))
with_section b m section.Deliveries now =
    with_delivered b (λ r. slice_index m.delivered r) (λ r. slice_index m.want r) (seniors_first b) now
with_section b m section.Calls now = with_sets now (put_sets (seniors_first b) (λ r. cut_of m r) now.cuts.sets)
with_section b m section.Called now = now

-- the record has room for the sets that were read
abbrev pub HasRoom : MonthRecord → MonthRecord → Type 0
HasRoom m now = (r : ℕ) (set : List Bool) → cut_of m r ≡ Some set → r < length now.cuts.sets

sets_stay : (b : Basin) (m : MonthRecord) (k : Section) (now : MonthRecord) →
    length (with_section b m k now).cuts.sets ≡ length now.cuts.sets
sets_stay b m (section.Amounts q) now = grind (arith, cuts_with, set_all)
sets_stay b m section.Deliveries now = refl
sets_stay b m section.Calls now = length-put_sets (seniors_first b) (λ r. cut_of m r) now.cuts.sets
sets_stay b m section.Called now = refl

section_read : (b : Basin) (series : Series) (m : MonthRecord) (caller_of : ℕ → Option ℕ) →
    ((r : ℕ) (set : List Bool) → cut_of m r ≡ Some set → length set ≡ length b.nodes) →
    (k : Section) (t : ReadSoFar) → HasRoom m t.now →
    Reads b series t (lines_in k b m caller_of) (with_section b m k t.now)
section_read b series m caller_of sized (section.Amounts q) t room =
    subst (λ (items : List Item). Reads b series t items (with_section b m (section.Amounts q) t.now))
    (sym (amount_lines q b m caller_of))
    (makes_amounts b series q (λ x. slice_index (amounts_of q m) x) (entries_with_line b q) t)
section_read b series m caller_of sized section.Deliveries t room =
    subst (λ (items : List Item). Reads b series t items (with_section b m section.Deliveries t.now))
    (sym (flat_map_one (λ r. line.Deliver r (slice_index m.delivered r) (slice_index m.want r)) (seniors_first b)))
    (makes_deliveries b series (λ r. slice_index m.delivered r) (λ r. slice_index m.want r) (seniors_first b) t)
section_read b series m caller_of sized section.Calls t room =
    reads_calls b series (λ r. cut_of m r) sized (seniors_first b) t room
section_read b series m caller_of sized section.Called t room = makes_called b series caller_of (seniors_first b) t

pub sections_read : (b : Basin) (series : Series) (m : MonthRecord) (caller_of : ℕ → Option ℕ) →
    ((r : ℕ) (set : List Bool) → cut_of m r ≡ Some set → length set ≡ length b.nodes) →
    (ks : List Section) (t : ReadSoFar) → HasRoom m t.now →
    Reads b series t (flat_map (λ k. lines_in k b m caller_of) ks) (fold (λ now k. with_section b m k now) t.now ks)
sections_read b series m caller_of sized [] t room = record { now_is = refl; months_are = refl }
sections_read b series m caller_of sized (k ∷ ks) t room =
    let first = section_read b series m caller_of sized k t room in
    let after : ReadSoFar = fold (read_item b series) t (lines_in k b m caller_of) in
    let rest = sections_read b series m caller_of sized ks after
    (λ r set e. omega (arith, room r set e, ap (λ now. length now.cuts.sets) first.now_is, sets_stay b m k t.now)) in
    let both = fold-both (read_item b series) t (lines_in k b m caller_of) (flat_map (λ k. lines_in k b m caller_of) ks)
    in
    record {
      now_is = ap (λ u. u.now) both
          ∙ (rest.now_is ∙ ap (λ now. fold (λ now k. with_section b m k now) now ks) first.now_is);
      months_are = ap (λ u. u.months) both ∙ (rest.months_are ∙ first.months_are);
    }

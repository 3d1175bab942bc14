-- A text's lines say all numbers of its records.
use Rattle.std.proofs.Common.{◌≡◌, ℕ, zero, suc, ◌+◌, ◌<◌, ◌≤◌, Bool, true, false, refl, sym, ap, subst, ◌∙◌}
use Rattle.std.proofs.Common.{arith, inl, inr, List, [], ◌∷◌, ◌++◌, length, map, replicate, take, append_assoc}
use Rattle.std.proofs.Common.{zero-add, length-append}
use Rattle.std.specs.Prelude.{Option, Some, None, option_map, ◌⊎◌, is_some, slice_index, slice_get, slice_set, filter}
use Rattle.std.specs.Prelude.{unwrap_or, ◌==◌}
use Rattle.std.specs.List.{list_any}
use Rattle.std.proofs.lemmas.Bool.{cases_lt, cases_Bool, or_parts}
use Rattle.std.proofs.lemmas.Option.{slice_get_past}
use Rattle.std.proofs.lemmas.List.{length-replicate}
use Rattle.std.proofs.Math.Seq.{take-append_seam}
use Rattle.finite_sums.proofs.Totals.{total_zero}
use Rattle.water_model.proofs.Entries.{in_order-has}
use Rattle.water_model.proofs.Order.{Has, filter-has, has-filter, seniors_have, seniors_below}
use Rattle.water_model.specs.Basin.{taking_node, instream_link}
use Rattle.water_model.specs.History.{IsNextMonth, cut_of}
use Rattle.water_model.specs.Hydrology.{returned_at, used_of, inflow_at}
use Rattle.water_model.specs.Hydrology.{stored_at}
use Rattle.water_model.specs.Lookups.{of_entry}
use Rattle.water_model.specs.Entries.{count_in, in_order}
use Rattle.water_model.specs.Indices.{numbers_from, seniors_first}
use Rattle.result_lines.specs.Quantities.{amounts_of, entries_with_line, has_line, space_of}
use Rattle.water_model.specs.Plans.{delivery_by_link}
use Rattle.result_lines.specs.declared.quantity.Quantity.{Quantity}
use Rattle.water_model.specs.declared.types.Basin.{Basin}
use Rattle.water_model.specs.declared.types.Series.{Series}
use Rattle.water_model.specs.declared.types.MonthRecord.{MonthRecord}
use Rattle.result_reader.specs.Records.{IsTextMonth, AreTextMonths}
use Rattle.result_reader.proofs.MonthRead.{take_of}
use Rattle.water_model.proofs.Valid.{entry_at}
use Rattle.water_model.proofs.Lists.{get_after, no_numbers}
use Rattle.result_reader.proofs.Sets.{all_sets}
use Rattle.result_reader.proofs.Telling.{set_all, set_all-whole}
use Rattle.result_reader.proofs.WholeMonth.{IsAllRead, AreAllRead}

-- Lists of numbers.

-- a list was read where each of its numbers was read or 0
read_list : (xs zs : List ℕ) (n : ℕ) → length zs ≡ n →
    ((k : ℕ) → k < n → Has xs k ⊎ ((Has xs k → ⊥) × (slice_index zs k ≡ 0))) →
    set_all xs (λ k. slice_index zs k) (replicate n 0) ≡ zs
read_list xs zs n len each = grind (arith, set_all-whole, length-replicate, no_numbers)

-- numbers that are equal at the indices that are set
pub set_all-same : (xs : List ℕ) (a c : ℕ → ℕ) (ys : List ℕ) → ((k : ℕ) → Has xs k → a k ≡ c k) →
    set_all xs a ys ≡ set_all xs c ys
set_all-same [] a c ys h = refl
set_all-same (x ∷ xs) a c ys h =
    ap (λ n. set_all xs a (slice_set ys x n)) (h x (inl refl))
    ∙ set_all-same xs a c (slice_set ys x (c x)) (λ k m. h k (inr m))

-- an index that passes a test was read, and one that doesn't has 0
by_filter : (p : ℕ → Bool) (xs zs : List ℕ) (k : ℕ) → Has xs k → (p k ≡ false → slice_index zs k ≡ 0) →
    Has (filter p xs) k ⊎ ((Has (filter p xs) k → ⊥) × (slice_index zs k ≡ 0))
by_filter p xs zs k h none = elim (cases_Bool (p k)) [
  | inl passes ↦ inl (has-filter p xs k h passes)
  | inr fails ↦ inr (λ m. (let both : false ≡ true = sym fails ∙ (filter-has p xs k m).1 in cc), none fails)
]

map-numbers : (f : ℕ → ℕ) (from n : ℕ) (ys : List ℕ) → length ys ≡ n →
    ((k : ℕ) → k < n → slice_index ys k ≡ f (from + k)) → map f (numbers_from from n) ≡ ys
unfolding numbers_from
map-numbers f from zero [] e h = refl
map-numbers f from zero (y ∷ ys) e h = absurd (omega arith)
map-numbers f from (suc n) [] e h = absurd (omega arith)
map-numbers f from (suc n) (y ∷ ys) e h =
    pair (f from) y (map f (numbers_from (suc from) n)) ys (ap f (plus from) ∙ sym (h 0 (omega arith)))
    (map-numbers f (suc from) n ys (omega arith) (λ k l. h (suc k) (omega arith) ∙ ap f (shift from k)))
  where
    pair : (x y : ℕ) (xs ys : List ℕ) → x ≡ y → xs ≡ ys → x ∷ xs ≡ y ∷ ys
    pair x y xs ys e f = rw (e, f) refl

    plus : (from : ℕ) → from ≡ from + 0
    plus from = omega arith

    shift : (from k : ℕ) → from + suc k ≡ suc from + k
    shift from k = omega arith

-- Returns, use and takes that no line gives.

none_passes : {X : Type 0} (p : X → Bool) (xs : List X) (k : ℕ) (x : X) → list_any p xs ≡ false →
    slice_get xs k ≡ Some x → p x ≡ false
none_passes p [] k x h e = cc
none_passes p (y ∷ ys) zero x h e = let is : y ≡ x = cc in rw (← is) (or_parts (p y) (list_any p ys) h).0
none_passes p (y ∷ ys) (suc k) x h e = none_passes p ys k x (or_parts (p y) (list_any p ys) h).1 e

pub nothing_returns : (b : Basin) (deliveries : List (List ℕ)) (n i : ℕ) →
    list_any (λ row. row.node == n) b.returns ≡ false → returned_at b deliveries n i ≡ 0
nothing_returns b deliveries n i h = grind (arith, total_zero, entry_at, none_passes)

pub nothing_used : (b : Basin) (deliveries : List (List ℕ)) (r i : ℕ) →
    of_entry b.rights r (λ right. is_some right.volume) false ≡ false → used_of b deliveries r i ≡ 0
nothing_used b deliveries r i h = grind arith

-- a right that takes water is on no link
no_link : (b : Basin) (r : ℕ) (node : ℕ) → taking_node b r ≡ Some node → instream_link b r ≡ None
no_link b r node h = grind arith

-- The record of a month.

-- a set is that of a short right
pub has_set : (b : Basin) (series : Series) (before : List MonthRecord) (m : MonthRecord) →
    IsTextMonth b series before m → (r : ℕ) (set : List Bool) → cut_of m r ≡ Some set →
    (r < length b.rights) × (length set ≡ length b.nodes) × (list_any (λ in_set. in_set) set ≡ true)
has_set b series before m t r set e = by_range (cases_lt r (length b.rights))
  where
    by_range : (r < length b.rights) ⊎ (length b.rights ≤ r) → (r < length b.rights) × (length set ≡ length b.nodes) ×
        (list_any (λ in_set. in_set) set ≡ true)
    by_range (inr beyond) =
        let none : cut_of m r ≡ None =
        ap (λ (o : Option (Option (List Bool))). unwrap_or (option_map (λ s. s) o) None)
        (slice_get_past m.cuts.sets r (omega (arith, t.month.fits.cuts))) in
        cc
    by_range (inl l) = elim (cases_lt (slice_index m.delivered r) (slice_index m.want r)) [
      | inl short ↦ (let s = t.sets.short r l short in
          let both : Some s.0 ≡ Some set = sym s.1 ∙ e in
          let is : s.0 ≡ set = cc in
          (l, sym (ap length is) ∙ s.2, sym (ap (list_any (λ in_set. in_set)) is) ∙ s.3))
      | inr met ↦ (let none : cut_of m r ≡ None = t.sets.met r l met in cc)
    ]

-- each list has a number for each entry
pub amounts_sized : (b : Basin) (series : Series) (before : List MonthRecord) (m : MonthRecord) →
    IsNextMonth b series before m → (q : Quantity) → length (amounts_of q m) ≡ count_in (space_of q) b
amounts_sized b series before m t q = grind arith

-- where a month has no line, the amount is 0
none_unlisted : (b : Basin) (series : Series) (before : List MonthRecord) (m : MonthRecord) →
    IsNextMonth b series before m → (q : Quantity) (k : ℕ) → k < count_in (space_of q) b → has_line b q k ≡ false →
    slice_index (amounts_of q m) k ≡ 0
none_unlisted b series before m t q k l h = grind (arith, nothing_returns, nothing_used)

all_read : (b : Basin) (series : Series) (before : List MonthRecord) (m : MonthRecord) →
    IsTextMonth b series before m → IsAllRead b series m
all_read b series before m t = record {
  listed = λ q. read_list (entries_with_line b q) (amounts_of q m) (count_in (space_of q) b)
      (amounts_sized b series before m t.month q)
      (λ k l. by_filter (λ entry. has_line b q entry) (in_order (space_of q) b) (amounts_of q m) k
      (in_order-has (space_of q) b k l) (none_unlisted b series before m t.month q k l));
  delivered =
      read_list (seniors_first b) m.delivered (length b.rights) t.month.fits.delivered
      (λ k l. inl (seniors_have b.rights k l));
  want = read_list (seniors_first b) m.want (length b.rights) t.month.fits.want
      (λ k l. inl (seniors_have b.rights k l));
  take = set_all-same (seniors_first b) (take_of b (λ r. slice_index m.delivered r)) (λ r. slice_index m.plan.take r)
      (replicate (length b.rights) 0) (λ k h. taken k (seniors_below b.rights k h))
      ∙ read_list (seniors_first b) m.plan.take (length b.rights) t.month.plan.take_len
      (λ k l. inl (seniors_have b.rights k l));
  sets = all_sets (seniors_first b) (length b.rights) m.cuts.sets t.month.fits.cuts (λ k l. seniors_have b.rights k l);
  nodes = t.month.fits.cut_nodes;
  supply = map-numbers
      (λ n. inflow_at b series n m.index + slice_index m.returned n + stored_at b m.opening m.evaporated n) 0
      (length b.nodes) m.supply t.month.fits.supply (λ k l. t.month.supply k l
      ∙ ap (λ n. inflow_at b series n m.index + slice_index m.returned n + stored_at b m.opening m.evaporated n)
      (sym (zero-add k)));
  sized = λ r set e. (has_set b series before m t r set e).1;
  within = λ r set e. omega (
    arith,
    (has_set b series before m t r set e).0,
    length-replicate {A = Option (List Bool)} (length b.rights)
        None,
  );
}
  where
    taken : (k : ℕ) → k < length b.rights → take_of b (λ r. slice_index m.delivered r) k ≡ slice_index m.plan.take k
    taken k l = by_node (taking_node b k) refl
      where
        by_node : (o : Option ℕ) → taking_node b k ≡ o →
            take_of b (λ r. slice_index m.delivered r) k ≡ slice_index m.plan.take k
        by_node None e = rw e (sym (t.month.plan.instream k l e))
        by_node (Some node) e =
            rw e (t.month.delivered k l
            ∙ ap (λ o. delivery_by_link o (slice_index m.want k) m.plan k) (no_link b k node e))

-- Records one after another.

pub month_of : (b : Basin) (series : Series) (records before ms : List MonthRecord) (m : MonthRecord) →
    AreTextMonths b series records → records ≡ before ++ m ∷ ms → IsTextMonth b series before m
month_of b series records before ms m are is =
    subst (λ (xs : List MonthRecord). IsTextMonth b series xs m)
    (ap (take (length before)) is ∙ take-append_seam before (m ∷ ms))
    (are.each (length before) m (ap (λ xs. slice_get xs (length before)) is ∙ get_after before ms m))

all_from : (b : Basin) (series : Series) (records before ms : List MonthRecord) → AreTextMonths b series records →
    records ≡ before ++ ms → AreAllRead b series (length before) ms
all_from b series records before [] are is = tt
all_from b series records before (m ∷ ms) are is =
    let t = month_of b series records before ms m are is in (
      t.month.index,
      all_read b series before m t,
      subst (λ (i : ℕ). AreAllRead b series i ms) (length-append before (m ∷ []))
          (all_from b series records (before ++ m ∷ []) ms are (is ∙ sym (append_assoc before (m ∷ []) ms))),
    )

pub are_all_read : (b : Basin) (series : Series) (records : List MonthRecord) → AreTextMonths b series records →
    AreAllRead b series 0 records
are_all_read b series records are = all_from b series records [] records are refl

-- A basin in which nobody owns stored water.
use Rattle.std.proofs.Common.{◌≡◌, ℕ, ◌+◌, ◌-◌, Bool, true, false, refl, ◌∙◌, ap, arith, List, [], length}
use Rattle.std.specs.List.{list_any}
use Rattle.std.specs.Prelude.{Option, Some, None, slice_get, slice_index, unwrap_or, option_map, not, ◌&&◌, ◌==◌}
use Rattle.std.specs.Prelude.{if◌then◌else◌}
use Rattle.finite_sums.specs.Sums.{total, total_where, when}
use Rattle.finite_sums.proofs.Totals.{total_same, total_start}
use Rattle.stored_water.proofs.Sited.{holds_at}
use Rattle.stored_water.specs.PlainLaws.{WithoutStoresNothingChanges}
use Rattle.water_model.specs.Accounts.{drawn_from, draws_for, stock_of, zone_want}
use Rattle.water_model.specs.Basin.{is_at, is_zone_of, takes_at}
use Rattle.water_model.specs.Hydrology.{delivered_in, used_by_volume, used_in_year, used_of, want_of, water_year}
use Rattle.water_model.specs.Stores.{drawing_node, is_in_reservoir, is_owned, sum_at_node}
use Rattle.water_model.specs.Valid.{IsRightAlone}
use Rattle.water_model.specs.Volumes.{used_by_right, used_with}
use Rattle.water_model.specs.declared.types.Account.{Account}
use Rattle.water_model.specs.declared.types.Right.{Right}

-- a sum over no entries
none_of : {X : Type 0} (xs : List X) (p : ℕ → Bool) (f : ℕ → ℕ) → xs ≡ [] → total_where (length xs) p f ≡ 0
none_of {X} xs p f e =
    ap (λ (ys : List X). total (length ys) (λ k. if p k then f k else 0)) e
    ∙ total_start (λ k. if p k then f k else 0)

-- a test that no right is excepted from
all_pass : (n : ℕ) (p q : ℕ → Bool) (f : ℕ → ℕ) → ((k : ℕ) → q k ≡ false) →
    total_where n (λ k. p k && not (q k)) f ≡ total_where n p f
all_pass n p q f none = total_same n _ _ (λ k l. passed (p k) (q k) (f k) (none k))
  where
    passed : (s t : Bool) (x : ℕ) → t ≡ false → (if s && not t then x else 0) ≡ (if s then x else 0)
    passed true true x h = cc
    passed true false x h = refl
    passed false t x h = refl

-- nothing was used before the run
unused : (t : Bool) (u x : ℕ) → u ≡ 0 → when t u + x ≡ x
unused true u x none = omega arith
unused false u x none = omega arith

pub without_stores_nothing_changes : WithoutStoresNothingChanges
without_stores_nothing_changes b plain = record {
  free = free;
  in_zone = λ amount zone. none_of b.accounts _ amount plain.accounts;
  in_reservoir = λ amount reservoir. none_of b.accounts _ amount plain.accounts;
  at_node = at_node;
  supply = λ supply carried node. omega (arith, at_node (slice_index carried) node);
  want = λ series i number used carried right.
      ap
      (λ t. if t then zone_want b i number used carried right else want_of b series right i (slice_index used right))
      (free right);
  used = used;
  got = λ delivered amounts right.
      omega (arith, none_of b.draws (λ j. draws_for b j right) (slice_index amounts) plain.draws);
  taken = λ delivered amounts l node. omega (
    arith,
    all_pass (length b.rights) (λ r. takes_at b r node) (is_owned b) (slice_index delivered) free,
    none_of b.draws (λ j. is_at (drawing_node b j) node) (slice_index amounts) plain.draws,
    at_node (λ k. stock_of l k - drawn_from b (length b.draws) amounts k) node,
  );
  closing = λ delivered holds reservoir. omega (
    arith,
    all_pass (length b.rights) (λ r. is_zone_of b r reservoir) (is_owned b) (slice_index delivered) free,
    none_of b.accounts (λ k. is_in_reservoir b k reservoir) (slice_index holds) plain.accounts,
  );
}
  where
    free : (right : ℕ) → is_owned b right ≡ false
    free right = ap (λ (xs : List Account). list_any (λ a. a.zone == right) xs) plain.accounts

    at_node : (amount : ℕ → ℕ) (node : ℕ) → sum_at_node b amount node ≡ 0
    at_node amount node = none_of b.accounts _ amount plain.accounts

    used : (deliveries : List (List ℕ)) (right i : ℕ) →
        used_by_right b deliveries right i ≡ used_of b deliveries right i
    used deliveries right i = of_get (slice_get b.rights right) refl
      where
        of_get : (o : Option Right) → slice_get b.rights right ≡ o →
            unwrap_or (option_map (λ r. used_with b r.volume r.used (λ j. delivered_in deliveries right j) i) o) 0
            ≡ unwrap_or (option_map (λ r. used_by_volume r.volume (used_in_year b deliveries right i)) o) 0
        of_get None e = refl
        of_get (Some r) e =
            ap (used_by_volume r.volume)
            (unused (water_year b i == water_year b 0) r.used (used_in_year b deliveries right i)
            (holds_at IsRightAlone b.rights right r plain.rights e).used)

-- The list of injuries has each of them, and nothing else.
use Rattle.std.proofs.Common.{◌≡◌, ℕ, zero, suc, ◌<◌, Bool, true, false, refl, ◌∙◌, ap, subst, arith, List, [], ◌∷◌}
use Rattle.std.proofs.Common.{map, inl, inr, if◌then◌else◌}
use Rattle.std.proofs.lemmas.List.Elements.{Contains-append_left, Contains-append_right, Contains-append_cases}
use Rattle.std.specs.Prelude.{slice_get, slice_index, Some, filter, Contains}
use Rattle.std.proofs.lemmas.Bool.{lt-ltb, ltb-true}
use Rattle.water_model.specs.Valid.{IsValidBasin}
use Rattle.water_model.specs.declared.types.Basin.{Basin}
use Rattle.water_model.specs.declared.types.MonthRecord.{MonthRecord}
use Rattle.injury.specs.Common.{HaveOneName, common_rights}
use Rattle.injury.specs.Injuries.{IsInjury, is_injured, injury_of, injuries_of, injuries}
use Rattle.injury.specs.Laws.{InjuriesAreAllListed}
use Rattle.injury.specs.declared.injuries.Injury.{Injury}
use Rattle.injury.specs.declared.pair.Pair.{Pair}
use Rattle.injury.proofs.Commons.{common_rights_have_one_name}

-- what passes a test stands, as it is mapped, among what does
kept : {X Y : Type 0} (f : X → Y) (p : X → Bool) (xs : List X) (x : X) → Contains xs x → p x ≡ true →
    Contains (map f (filter p xs)) (f x)
kept f p [] x c h = absurd (let l = c.1 in omega arith)
kept {X} {Y} f p (y ∷ ys) x (zero, l, e) h =
    let passes : p y ≡ true = ap p e ∙ h in
    rw passes (0, omega arith, ap f e)
kept {X} {Y} f p (y ∷ ys) x (suc k, l, e) h = by_test (p y) (kept f p ys x (k, omega arith, e) h)
  where
    by_test : (t : Bool) → Contains (map f (filter p ys)) (f x) →
        Contains (map f (if t then y ∷ filter p ys else filter p ys)) (f x)
    by_test true c = (suc c.0, (let m = c.1 in omega arith), c.2)
    by_test false c = c

-- and what stands there comes from such
pub record ComesFrom {X Y : Type 0} (f : X → Y) (p : X → Bool) (xs : List X) (y : Y) : Type 0 where
  pub source : X
  pub there : Contains xs source
  pub passes : p source ≡ true
  pub is : f source ≡ y

further : {X Y : Type 0} (f : X → Y) (p : X → Bool) (x : X) (xs : List X) (y : Y) → ComesFrom f p xs y →
    ComesFrom f p (x ∷ xs) y
further f p x xs y c =
    let there = c.there in
    record {
      source = c.source;
      there = (suc there.0, (let l = there.1 in omega arith), there.2);
      passes =
          c.passes;
      is = c.is;
    }

comes : {X Y : Type 0} (f : X → Y) (p : X → Bool) (xs : List X) (y : Y) → Contains (map f (filter p xs)) y →
    ComesFrom f p xs y
comes f p [] y c = absurd (let l = c.1 in omega arith)
comes {X} {Y} f p (x ∷ xs) y c = by_test (p x) refl (comes f p xs y) c
  where
    by_test : (t : Bool) → p x ≡ t → (Contains (map f (filter p xs)) y → ComesFrom f p xs y) →
        Contains (map f (if t then x ∷ filter p xs else filter p xs)) y → ComesFrom f p (x ∷ xs) y
    by_test true e later (zero, l, h) = record { source = x; there = (0, omega arith, refl); passes = e; is = h }
    by_test true e later (suc k, l, h) = further f p x xs y (later (k, omega arith, h))
    by_test false e later d = further f p x xs y (later d)

module _ (first second : Basin) (valid : IsValidBasin second) where
  -- an injury in one month
  in_month : (m n : MonthRecord) (injury : Injury) (s : ℕ) → HaveOneName first second injury.right s →
      injury.month ≡ m.month →
      injury.first ≡ slice_index m.delivered injury.right → injury.second ≡ slice_index n.delivered s →
      injury.second < injury.first →
      Contains (injuries_of (common_rights first second) m n) injury
  in_month m n injury s common month delivered left less =
      let p : Pair = record { first = injury.right; second = s } in
      let same : injury_of m n p ≡ injury = rw (← month, ← delivered, ← left) refl in
      subst (λ (i : Injury). Contains (injuries_of (common_rights first second) m n) i) same
      (kept (injury_of m n) (is_injured m n) (common_rights first second) p
      ((common_rights_have_one_name first second injury.right s valid).0 common)
      (lt-ltb (slice_index n.delivered s) (slice_index m.delivered injury.right)
      (omega (arith, delivered, left, less))))

  of_month : (m n : MonthRecord) (records others : List MonthRecord) (injury : Injury) →
      Contains (injuries_of (common_rights first second) m n) injury →
      IsInjury first second (m ∷ records) (n ∷ others) injury
  of_month m n records others injury c =
      let from : ComesFrom (injury_of m n) (is_injured m n) (common_rights first second) injury =
      comes (injury_of m n) (is_injured m n) (common_rights first second) injury c in
      subst (λ (i : Injury). IsInjury first second (m ∷ records) (n ∷ others) i) from.is
      (record {
        index = 0;
        before = m;
        after = n;
        in_first = refl;
        in_second = refl;
        counterpart = from.source.second;
        common = (common_rights_have_one_name first second from.source.first from.source.second valid).1 from.there;
        month = refl;
        delivered = refl;
        left = refl;
        less = ltb-true (slice_index n.delivered from.source.second) (slice_index m.delivered from.source.first)
            from.passes;
      })

  next : (m n : MonthRecord) (records others : List MonthRecord) (injury : Injury) →
      IsInjury first second records others injury →
      IsInjury first second (m ∷ records) (n ∷ others) injury
  next m n records others injury is = record {
    index = suc is.index;
    before = is.before;
    after = is.after;
    in_first = is.in_first;
    in_second = is.in_second;
    counterpart = is.counterpart;
    common = is.common;
    month = is.month;
    delivered = is.delivered;
    left = is.left;
    less = is.less;
  }

  listed : (records others : List MonthRecord) (i : ℕ) (m n : MonthRecord) (injury : Injury) (s : ℕ) →
      slice_get records i ≡ Some m → slice_get others i ≡ Some n →
      HaveOneName first second injury.right s → injury.month ≡ m.month →
      injury.first ≡ slice_index m.delivered injury.right →
      injury.second ≡ slice_index n.delivered s → injury.second < injury.first →
      Contains (injuries first second records others) injury
  unfolding injuries
  listed [] others i m n injury s here there common month delivered left less = cc
  listed (x ∷ xs) [] i m n injury s here there common month delivered left less = cc
  listed (x ∷ xs) (y ∷ ys) zero m n injury s here there common month delivered left less =
      let one : x ≡ m = cc in
      let two : y ≡ n = cc in
      Contains-append_left (injuries_of (common_rights first second) x y) (injuries first second xs ys) injury
      (rw (one, two) (in_month m n injury s common month delivered left less))
  listed (x ∷ xs) (y ∷ ys) (suc i) m n injury s here there common month delivered left less =
      Contains-append_right (injuries_of (common_rights first second) x y) (injuries first second xs ys) injury
      (listed xs ys i m n injury s here there common month delivered left less)

  is_injury : (records others : List MonthRecord) (injury : Injury) →
      Contains (injuries first second records others) injury →
      IsInjury first second records others injury
  unfolding injuries
  is_injury [] others injury c = absurd (let l = c.1 in omega arith)
  is_injury (x ∷ xs) [] injury c = absurd (let l = c.1 in omega arith)
  is_injury (x ∷ xs) (y ∷ ys) injury c =
      elim (Contains-append_cases (injuries_of (common_rights first second) x y) (injuries first second xs ys)
      injury c) [
        | inl here ↦ of_month x y xs ys injury here
        | inr later ↦ next x y xs ys injury (is_injury xs ys injury later)
      ]

pub injuries_are_all_listed : InjuriesAreAllListed
injuries_are_all_listed first second records others injury valid = (
  (λ is. listed first second valid records others is.index is.before is.after injury is.counterpart is.in_first
      is.in_second is.common is.month is.delivered is.left is.less),
  λ c. is_injury first second valid records others injury c,
)

-- The table of the most senior zones.
use Rattle.std.proofs.Common.{◌≡◌, ℕ, ◌+◌, ◌<◌, Bool, true, false, cond, List, [], ◌∷◌, length, take, get_or, Option}
use Rattle.std.proofs.Common.{Some, None, refl, sym, ap, ◌∙◌, arith}
use Rattle.std.proofs.lemmas.Bool.Decides.{nat_tests}
use Rattle.std.proofs.lemmas.List.Folds.{list_any_more}
use Rattle.std.specs.Prelude.{◌==◌, nat_lt, ◌&&◌, ◌||◌}
use Rattle.std.specs.List.{list_any}
use Rattle.std.specs.HashMap.{get, Updates}
use Rattle.water_model.specs.Rights.{is_lower, priority, is_zone_kind, is_senior_zone}
use Rattle.water_model.specs.declared.types.Right.{Right}
use Rattle.water_model.specs.declared.types.RightKind.{RightKind}
use Rattle.water_model.specs.declared.types.RightKind.TheVariants.{Diversion, Instream, Zone}
use Rattle.water_model.proofs.Seniority.{lower_trans}
use Rattle.rights_roll.specs.Priorities.{numbers_of}
use Rattle.rights_roll.specs.Zones.{ZoneTable, same_zone, is_senior_one, has_senior, AreSeniorZones}
use Rattle.rights_roll.specs.declared.priority.Priority.{Priority}

-- a list is lower than a third where another is, and that one is not lower than it
lower_past : (xs ys zs : List ℕ) → length xs ≡ length ys → is_lower xs ys ≡ false → is_lower xs zs ≡ true →
    is_lower ys zs ≡ true
lower_past [] ys zs e h i = cc
lower_past (x ∷ xs) [] zs e h i = absurd (omega arith)
lower_past (x ∷ xs) (y ∷ ys) [] e h i = cc
lower_past (x ∷ xs) (y ∷ ys) (z ∷ zs) e h i =
    step x y z (is_lower xs ys) (is_lower xs zs) (is_lower ys zs) (lower_past xs ys zs (omega arith)) h i
  where
    step : (x y z : ℕ) (p q t : Bool) → (p ≡ false → q ≡ true → t ≡ true) →
        nat_lt x y || (x == y && p) ≡ false → nat_lt x z || (x == z && q) ≡ true → nat_lt y z || (y == z && t) ≡ true
    step x y z p q t f h i = grind (arith, nat_tests)

-- a zone that is senior to a priority is senior to all that come after it
senior_kept : (o : Option Priority) (p key : List ℕ) → is_senior_one o p ≡ true → is_lower p key ≡ true →
    is_senior_one o key ≡ true
senior_kept None p key h i = h
senior_kept (Some q) p key h i = lower_trans (numbers_of q) p key h i

-- a zone that is not senior to a priority is senior only to what comes after it
senior_replaced : (o : Option Priority) (q : Priority) (key : List ℕ) → is_senior_one o (numbers_of q) ≡ false →
    is_senior_one o key ≡ true → is_lower (numbers_of q) key ≡ true
senior_replaced None q key h i = cc
senior_replaced (Some p) q key h i = lower_past (numbers_of p) (numbers_of q) key refl h i

at_same_zone : (zones : ZoneTable) (zone : ℕ × ℕ) (reservoir level : ℕ) (key : List ℕ) →
    same_zone zone (reservoir, level) ≡ true →
    has_senior zones reservoir level key ≡ has_senior zones zone.0 zone.1 key
at_same_zone zones zone reservoir level key e =
    let first : reservoir ≡ zone.0 = grind (arith, nat_tests) in
    let second : level ≡ zone.1 = grind (arith, nat_tests) in
    ap (λ r. has_senior zones r level key) first ∙ ap (λ l. has_senior zones zone.0 l key) second

-- a zone of which the table has a senior one
pub noted-kept : (zones : ZoneTable) (zone : ℕ × ℕ) (q : Priority) →
    has_senior zones zone.0 zone.1 (numbers_of q) ≡ true →
    (reservoir level : ℕ) (key : List ℕ) →
    has_senior zones reservoir level key ≡ has_senior zones reservoir level
    key || (same_zone zone (reservoir, level) && is_lower (numbers_of q) key)
noted-kept zones zone q h reservoir level key =
    by_test (same_zone zone (reservoir, level)) (has_senior zones reservoir level key) (is_lower (numbers_of q) key)
    (λ same lower. at_same_zone zones zone reservoir level key same
    ∙ senior_kept (get same_zone zones zone) (numbers_of q) key h lower)
  where
    by_test : (t s p : Bool) → (t ≡ true → p ≡ true → s ≡ true) → s ≡ s || (t && p)
    by_test true true p f = refl
    by_test true false true f = f refl refl
    by_test true false false f = refl
    by_test false true p f = refl
    by_test false false p f = refl

-- a zone that goes into the table
pub noted-put : (old new : ZoneTable) (zone : ℕ × ℕ) (q : Priority) →
    has_senior old zone.0 zone.1 (numbers_of q) ≡ false →
    Updates same_zone old new zone (Some q) → (reservoir level : ℕ) (key : List ℕ) →
    has_senior new reservoir level key ≡ has_senior old reservoir level
    key || (same_zone zone (reservoir, level) && is_lower (numbers_of q) key)
noted-put old new zone q h updates reservoir level key =
    ap (λ o. is_senior_one o key) (updates.0 (reservoir, level))
    ∙ by_test (same_zone zone (reservoir, level)) (get same_zone old (reservoir, level))
    (λ same senior. senior_replaced (get same_zone old zone) q key h
    (sym (at_same_zone old zone reservoir level key same) ∙ senior))
  where
    by_test : (t : Bool) (o : Option Priority) →
        (t ≡ true → is_senior_one o key ≡ true → is_lower (numbers_of q) key ≡ true) →
        is_senior_one (cond t (Some q) o) key ≡ is_senior_one o key || (t && is_lower (numbers_of q) key)
    by_test true o f = same (is_senior_one o key) (is_lower (numbers_of q) key) (f refl)
      where
        same : (s p : Bool) → (s ≡ true → p ≡ true) → p ≡ s || p
        same true p f = f refl
        same false p f = refl
    by_test false o f = no_more (is_senior_one o key)
      where
        no_more : (s : Bool) → s ≡ s || false
        no_more true = refl
        no_more false = refl

-- one more right that is a zone
pub senior_zones-more : (rights : List Right) (i : ℕ) (r : Right) (at its : ℕ) (p : Priority) (old new : ZoneTable) →
    i < length rights →
    r ≡ get_or rights i r → r.kind ≡ Zone at its → numbers_of p ≡ priority r →
    ((reservoir level : ℕ) (key : List ℕ) →
    has_senior new reservoir level key ≡ has_senior old reservoir level
    key || (same_zone (at, its) (reservoir, level) && is_lower (numbers_of p) key)) →
    AreSeniorZones (take i rights) old → AreSeniorZones (take (i + 1) rights) new
senior_zones-more rights i r at its p old new below is kind parts noted so_far = λ reservoir level key.
    noted reservoir level key
    ∙ (ap (λ b. b || (same_zone (at, its) (reservoir, level) && is_lower (numbers_of p) key))
    (so_far reservoir level key)
    ∙ (ap (λ b. list_any (is_senior_zone reservoir level key) (take i rights) || b) (here reservoir level key)
    ∙ sym (list_any_more (is_senior_zone reservoir level key) rights i r below)))
  where
    here : (reservoir level : ℕ) (key : List ℕ) →
        same_zone (at, its) (reservoir, level) && is_lower (numbers_of p) key ≡ is_senior_zone reservoir level key
        (get_or rights i r)
    here reservoir level key =
        ap (λ k. is_zone_kind reservoir level k && is_lower (numbers_of p) key) (sym kind)
        ∙ (ap (λ q. is_zone_kind reservoir level r.kind && is_lower q key) parts
        ∙ ap (is_senior_zone reservoir level key) is)

-- a right that is no zone is the zone of no reservoir and level
pub other_kind : (k : RightKind) (reservoir level : ℕ) → ((at its : ℕ) → k ≡ Zone at its → ⊥) →
    is_zone_kind reservoir level k ≡ false
other_kind (Diversion node) reservoir level apart = refl
other_kind (Instream link) reservoir level apart = refl
other_kind (Zone at its) reservoir level apart = absurd (apart at its refl)

or_false : (b : Bool) → b ≡ b || false
or_false true = refl
or_false false = refl

-- one more right that is no zone
pub senior_zones-skip : (rights : List Right) (i : ℕ) (r : Right) (zones : ZoneTable) → i < length rights →
    r ≡ get_or rights i r →
    ((at its : ℕ) → r.kind ≡ Zone at its → ⊥) → AreSeniorZones (take i rights) zones →
    AreSeniorZones (take (i + 1) rights) zones
senior_zones-skip rights i r zones below is apart so_far = λ reservoir level key.
    so_far reservoir level key
    ∙ (or_false (list_any (is_senior_zone reservoir level key) (take i rights))
    ∙ (ap (λ b. list_any (is_senior_zone reservoir level key) (take i rights) || b) (here reservoir level key)
    ∙ sym (list_any_more (is_senior_zone reservoir level key) rights i r below)))
  where
    here : (reservoir level : ℕ) (key : List ℕ) → false ≡ is_senior_zone reservoir level key (get_or rights i r)
    here reservoir level key =
        ap (λ b. b && is_lower (priority r) key) (sym (other_kind r.kind reservoir level apart))
        ∙ ap (is_senior_zone reservoir level key) is

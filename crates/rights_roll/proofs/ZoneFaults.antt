-- Zones at fault.
use Rattle.std.proofs.Common.{◌≡◌, ℕ, ◌+◌, ◌-◌, ◌<◌, ◌≤◌, Bool, true, false, cond, List, length}
use Rattle.std.proofs.Common.{take, get_or, Option, Some, None, refl, sym, ap, ◌∙◌, arith, below_more}
use Rattle.std.proofs.lemmas.List.Folds.{list_any_more}
use Rattle.std.specs.Prelude.{nat_lt, not, ◌&&◌, ◌||◌, option_map}
use Rattle.std.specs.HashSet.{HashSet, contains, Updates}
use Rattle.std.specs.List.{list_any}
use Rattle.std.specs.declared.hash.FoldHasher.{FoldHasher}
use Rattle.std.specs.declared.hash.BuildHasherDefault.{BuildHasherDefault}
use Rattle.water_model.specs.Rights.{priority, is_zone_kind, is_senior_zone, is_zone_fault, has_zone_fault}
use Rattle.water_model.specs.declared.types.Right.{Right}
use Rattle.water_model.specs.declared.types.RightKind.{RightKind}
use Rattle.water_model.specs.declared.types.RightKind.TheVariants.{Diversion, Instream, Zone}
use Rattle.rights_roll.specs.RollFaults.{zone_fault}
use Rattle.rights_roll.specs.Zones.{ZoneTable, same_zone, has_senior, AreSeniorZones}
use Rattle.rights_roll.specs.declared.RollRefused.TheVariants.{ZoneOrder}
use Rattle.water_model.proofs.Finds.{find_first, find_none}
use Rattle.water_model.proofs.Lists.{entry_is}
use Rattle.rights_roll.proofs.ZoneTables.{other_kind}

-- a set of reservoirs and levels
abbrev pub ZoneSet : Type 0
ZoneSet = HashSet (ℕ × ℕ) (BuildHasherDefault FoldHasher)

-- the first rights have no zone at fault, and the set has the reservoirs and levels of their zones
pub record AreClear (rights : List Right) (seen : ZoneSet) (i : ℕ) : Type 0 where
  pub levels : (reservoir level : ℕ) →
      contains same_zone seen (reservoir, level) ≡ list_any (λ r. is_zone_kind reservoir level r.kind) (take i rights)
  pub clear : (k : ℕ) → k < i → has_zone_fault rights k ≡ false

-- what decides whether a zone is at fault: its level is not new, or it lacks a senior zone
pub has_zone_fault-is : {rights : List Right} {i : ℕ} {r : Right} {at its : ℕ} (zones : ZoneTable) {seen : ZoneSet}
    {key : List ℕ} {is_new lacks : Bool} → i < length rights →
    r ≡ get_or rights i r → r.kind ≡ Zone at its → AreSeniorZones rights zones → AreClear rights seen i →
    key ≡ priority r → is_new ≡ not (contains same_zone seen (at, its)) →
    lacks ≡ nat_lt 1 its && not (has_senior zones at (its - 1) key) → has_zone_fault rights i ≡ not is_new || lacks
has_zone_fault-is {rights} {i} {r} {at} {its} zones {seen} below is kind seniors so_far same_key added known =
    entry_is rights i r (λ x. is_zone_fault rights (take i rights) (priority x) x.kind) false below is
    ∙ (ap (is_zone_fault rights (take i rights) (priority r)) kind
    ∙ (ap (λ b. b || (nat_lt 1 its && not (list_any (is_senior_zone at (its - 1) (priority r)) rights)))
    (sym (so_far.levels at its))
    ∙ (ap (λ b. contains same_zone seen (at, its) || (nat_lt 1 its && not b)) (sym (seniors at (its - 1) (priority r)))
    ∙ rw (added, known, same_key) (twice (contains same_zone seen (at, its)) _))))
  where
    twice : (t s : Bool) → t || s ≡ not (not t) || s
    twice true s = refl
    twice false s = refl

pub zone_fault-first : {rights : List Right} {i : ℕ} {seen : ZoneSet} → i < length rights → AreClear rights seen i →
    has_zone_fault rights i ≡ true → zone_fault rights ≡ Some (ZoneOrder i)
zone_fault-first {rights} {i} below so_far here =
    ap (λ (o : Option ℕ). option_map ZoneOrder o)
    (find_first (has_zone_fault rights) 0 (length rights) i (omega arith) (omega arith) here
    (λ k _ b. so_far.clear k b))

pub zone_fault-none : {rights : List Right} {i : ℕ} {seen : ZoneSet} → length rights ≤ i → AreClear rights seen i →
    zone_fault rights ≡ None
zone_fault-none {rights} past all =
    ap (λ (o : Option ℕ). option_map ZoneOrder o)
    (find_none (has_zone_fault rights) 0 (length rights) (λ k _ b. all.clear k (omega arith)))

-- one more zone that is not at fault
pub clear-zone : {rights : List Right} {i : ℕ} {r : Right} {at its : ℕ} {seen new : ZoneSet} → i < length rights →
    r ≡ get_or rights i r → r.kind ≡ Zone at its →
    Updates same_zone seen new (at, its) true → has_zone_fault rights i ≡ false → AreClear rights seen i →
    AreClear rights new (i + 1)
clear-zone {rights} {i} {r} {at} {its} {seen} below is kind updates fine so_far = record {
  levels = λ reservoir level. updates.0 (reservoir, level)
      ∙ (by_test (same_zone (at, its) (reservoir, level)) (contains same_zone seen (reservoir, level))
      ∙ (ap (λ b. b || same_zone (at, its) (reservoir, level)) (so_far.levels reservoir level)
      ∙ (ap (λ b. list_any (λ x. is_zone_kind reservoir level x.kind) (take i rights) || b)
      (ap (is_zone_kind reservoir level) (sym kind) ∙ ap (λ x. is_zone_kind reservoir level x.kind) is)
      ∙ sym (list_any_more (λ x. is_zone_kind reservoir level x.kind) rights i r below))));
  clear = below_more (λ k. has_zone_fault rights k ≡ false) i so_far.clear fine;
}
  where
    by_test : (t s : Bool) → cond t true s ≡ s || t
    by_test true true = refl
    by_test true false = refl
    by_test false true = refl
    by_test false false = refl

-- one more right that is no zone
pub clear-other : {rights : List Right} {i : ℕ} {r : Right} {seen : ZoneSet} → i < length rights →
    r ≡ get_or rights i r →
    ((at its : ℕ) → r.kind ≡ Zone at its → ⊥) → AreClear rights seen i → AreClear rights seen (i + 1)
clear-other {rights} {i} {r} below is apart so_far = record {
  levels = λ reservoir level. so_far.levels reservoir level
      ∙ (or_false (list_any (λ x. is_zone_kind reservoir level x.kind) (take i rights))
      ∙ (ap (λ b. list_any (λ x. is_zone_kind reservoir level x.kind) (take i rights) || b)
      (sym (other_kind r.kind reservoir level apart) ∙ ap (λ x. is_zone_kind reservoir level x.kind) is)
      ∙ sym (list_any_more (λ x. is_zone_kind reservoir level x.kind) rights i r below)));
  clear = below_more (λ k. has_zone_fault rights k ≡ false) i so_far.clear fine;
}
  where
    or_false : (b : Bool) → b ≡ b || false
    or_false true = refl
    or_false false = refl

    no_fault : (k : RightKind) → ((at its : ℕ) → k ≡ Zone at its → ⊥) →
        is_zone_fault rights (take i rights) (priority r) k ≡ false
    no_fault (Diversion node) n = refl
    no_fault (Instream link) n = refl
    no_fault (Zone at its) n = absurd (n at its refl)

    fine : has_zone_fault rights i ≡ false
    fine = entry_is rights i r (λ x. is_zone_fault rights (take i rights) (priority x) x.kind) false below is
        ∙ no_fault r.kind apart

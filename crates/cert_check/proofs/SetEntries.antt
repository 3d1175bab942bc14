-- A check state keeps the sets that were read, with one more line.
use Rattle.std.proofs.Common.{◌≡◌, ℕ, ◌<◌, Bool, true, false, refl, sym, ap, subst, ◌∙◌, arith, inl, inr, List, []}
use Rattle.std.proofs.Common.{◌∷◌, length, replicate, take}
use Rattle.std.specs.Prelude.{Option, Some, None, IsSome, slice_set, option_map}
use Rattle.std.specs.List.{list_any}
use Rattle.std.proofs.lemmas.Bool.{cases_eq}
use Rattle.water_model.specs.CutSets.{CutSets, set_of, with_set}
use Rattle.water_model.specs.History.{cut_of}
use Rattle.water_model.specs.Indices.{seniors_first}
use Rattle.result_lines.specs.declared.item.Item.TheVariants as line
use Rattle.water_model.specs.declared.types.Basin.{Basin}
use Rattle.water_model.specs.declared.types.Series.{Series}
use Rattle.water_model.specs.declared.types.MonthRecord.{MonthRecord}
use Rattle.result_reader.specs.ReadSoFar.{ReadSoFar, read_item, with_member}
use Rattle.cut_cert.specs.Callers.{AreCallers}
use Rattle.cert_check.specs.Keeping.{IsCalling, Keeps, lacks_call}
use Rattle.cert_check.specs.declared.state.CheckState.{CheckState}
use Rattle.water_model.proofs.SetEntries.{set_of_with, set_of_other}
use Rattle.cert_check.proofs.Fitting.{clash, none_answered, put_both}

-- rights that have their calls have them with one more set
settled_with : (b : Basin) (m : MonthRecord) {r : ℕ} (set : List Bool) → r < length m.cuts.sets → (xs : List ℕ) →
    list_any (lacks_call m) xs ≡ false →
    list_any (lacks_call (record m { cuts = with_set m.cuts r (Some set) })) xs ≡ false
settled_with b m set l [] h = refl
settled_with b m set l (x ∷ xs) h = grind (arith, set_of_with, set_of_other, settled_with b m set l xs)

-- the right has the set that it was given
has_set : (cuts : CutSets) {r : ℕ} (set : List Bool) → r < length cuts.sets →
    IsSome (set_of (with_set cuts r (Some set)) r)
has_set cuts {r} set l = rw (set_of_with cuts r (Some set) l) refl

-- A right's set was read, before the `called` lines.

-- the check state with the set, while the nodes of this right come
abbrev pub with_own : CheckState → ℕ → List Bool → Option ℕ → CheckState
with_own a r set calling = record a {
  month = record a.month { cuts = with_set a.month.cuts r (Some set) };
  calling = calling;
  has_callers = false;
  answered = 0;
}

abbrev read_own : ReadSoFar → ℕ → Option (List Bool) → Option ℕ → ReadSoFar
read_own t r set due = record t { now = record t.now { cuts = with_set t.now.cuts r set }; calling = due }

keeps_set : {b : Basin} {series : Series} {a : CheckState} {t : ReadSoFar} {r : ℕ} (set : List Bool)
    {calling due : Option ℕ} → r < length b.rights → t.called ≡ 0 →
    IsCalling b (with_set a.month.cuts r (Some set)) calling due → Keeps b series a t →
    Keeps b series (with_own a r set calling) (read_own t r (Some set) due)
keeps_set {b} {series} {a} {t} {r} set {calling} l none held k = record {
  left = k.left;
  month = assumption (put_both r (Some set) k.month.fits.fits.cuts k.month.shows.sets);
  calling = held;
  supply = k.supply;
  closes = k.closes;
  callers = λ e. clash e;
  passed = record {
    within = k.passed.within;
    each = settled_with b t.now set (omega (arith, l, k.month.fits.fits.cuts, ap length k.month.shows.sets))
        (take a.passed (seniors_first b)) k.passed.each;
  };
  answered = none_answered b _ none;
  room = k.room;
}

-- a `call` line
pub keeps_call : {b : Basin} {series : Series} {a : CheckState} {t : ReadSoFar} {x : ℕ} →
    x < length b.rights → t.called ≡ 0 → Keeps b series a t →
    Keeps b series (with_own a x (replicate a.month.cuts.nodes false) (Some x)) (read_item b series t (line.Call x))
keeps_call {b} {series} {a} {t} {x} l none k =
    subst (λ nodes. Keeps b series (with_own a x set (Some x))
    (read_own t x (Some (replicate nodes false)) (Some x)))
    k.month.fits.fits.cut_nodes
    (keeps_set set l none (record { so_far = refl; held = held }) k)
  where
    set : List Bool
    set = replicate a.month.cuts.nodes false

    held : (r : ℕ) → Some x ≡ Some r → (r < length b.rights) × IsSome (set_of (with_set a.month.cuts x (Some set)) r)
    held r e = let is : x ≡ r = cc in
        rw (← is) (l, has_set a.month.cuts set (omega (arith, l, k.month.fits.fits.cuts)))

-- an `in` line, after no `call`
keeps_stray : {b : Basin} {series : Series} {a : CheckState} {t : ReadSoFar} (node : ℕ) → t.called ≡ 0 →
    a.calling ≡ None → Keeps b series a t →
    Keeps b series (record a { has_callers = false; answered = 0 }) (read_item b series t (line.Member node))
keeps_stray {b} {series} {a} {t} node none stray k = by_call t.calling (sym k.calling.so_far ∙ stray)
  where
    unknown : false ≡ true → AreCallers b a.month a.callers
    unknown e = clash e

    by_call : (o : Option ℕ) → o ≡ None →
        Keeps b series (record a { has_callers = false; answered = 0 }) (with_member t o node)
    by_call None e = assumption (unknown, none_answered b t.now none)
    by_call (Some r) e = cc

-- an `in` line of the right whose nodes come
keeps_member : {b : Basin} {series : Series} {a : CheckState} {t : ReadSoFar} (node : ℕ) {right : ℕ}
    {set : List Bool} → t.called ≡ 0 → a.calling ≡ Some right → set_of a.month.cuts right ≡ Some set →
    Keeps b series a t →
    Keeps b series (with_own a right (slice_set set node true) a.calling) (read_item b series t (line.Member node))
keeps_member {b} {series} {a} {t} node {right} {set} none own is k = by_call t.calling (sym k.calling.so_far ∙ own)
  where
    more : List Bool
    more = slice_set set node true

    within : right < length b.rights
    within = (k.calling.held right own).0

    still : (s : ℕ) → IsSome (set_of a.month.cuts s) → IsSome (set_of (with_set a.month.cuts right (Some more)) s)
    still s h = elim (cases_eq s right) [
      | inl same ↦ rw same (has_set a.month.cuts more (omega (arith, within, k.month.fits.fits.cuts)))
      | inr other ↦ rw (set_of_other a.month.cuts right s (Some more) other) h
    ]

    so_far : cut_of t.now right ≡ Some set
    so_far = same_set a.month.cuts t.now.cuts k.month.shows.sets ∙ is
      where
        same_set : (c d : CutSets) → c.sets ≡ d.sets → set_of d right ≡ set_of c right
        same_set c d e = rw e refl

    kept : Keeps b series (with_own a right more a.calling) (read_own t right (Some more) t.calling)
    kept = keeps_set more within none (record {
      so_far = k.calling.so_far;
      held = λ s h. (let own = k.calling.held s h in (own.0, still s own.1));
    }) k

    by_call : (o : Option ℕ) → o ≡ Some right → Keeps b series (with_own a right more a.calling) (with_member t o node)
    by_call None e = cc
    by_call (Some r) e = let same : r ≡ right = cc in
        rw same (subst (λ o. Keeps b series (with_own a right more a.calling)
        (read_own t right (option_map (λ old. slice_set old node true) o) t.calling)) (sym so_far) kept)

-- an `in` line, whether or not it comes after a `call`
pub keeps_node : {b : Basin} {series : Series} {a after : CheckState} {t : ReadSoFar} (node : ℕ) → t.called ≡ 0 →
    (a.calling ≡ None → after ≡ record a { has_callers = false; answered = 0 }) →
    ((right : ℕ) (set : List Bool) → a.calling ≡ Some right → set_of a.month.cuts right ≡ Some set →
    after ≡ with_own a right (slice_set set node true) a.calling) →
    Keeps b series a t → Keeps b series after (read_item b series t (line.Member node))
keeps_node {b} {series} {a} {after} {t} node none stray own k = by_call a.calling refl
  where
    by_set : (right : ℕ) → a.calling ≡ Some right → (o : Option (List Bool)) → set_of a.month.cuts right ≡ o →
        IsSome o → Keeps b series after (read_item b series t (line.Member node))
    by_set right e None is held = cc
    by_set right e (Some set) is held =
        subst (λ (x : CheckState). Keeps b series x (read_item b series t (line.Member node)))
        (sym (own right set e is)) (keeps_member node none e is k)

    by_call : (o : Option ℕ) → a.calling ≡ o → Keeps b series after (read_item b series t (line.Member node))
    by_call None e = subst (λ (x : CheckState). Keeps b series x (read_item b series t (line.Member node)))
        (sym (stray e)) (keeps_stray node none e k)
    by_call (Some right) e = by_set right e (set_of a.month.cuts right) refl (k.calling.held right e).1

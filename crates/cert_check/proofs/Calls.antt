-- What the rows say of `call` lines and of the nodes of their sets.
use Rattle.std.proofs.Common.{◌≡◌, ℕ, ◌<◌, Bool, true, false, refl, sym, ap, subst, ◌∙◌, arith, inl}
use Rattle.std.proofs.Common.{inr, List, [], ◌∷◌, ◌++◌, length, fold}
use Rattle.std.specs.Prelude.{Option, Some, None, ◌&&◌, not, is_none}
use Rattle.std.specs.List.{flat_map}
use Rattle.std.specs.Option.{option_map_or}
use Rattle.std.proofs.lemmas.Bool.{cases_eq, not-false}
use Rattle.std.proofs.Math.ListN.{length-set}
use Rattle.water_model.specs.Basin.{is_senior}
use Rattle.water_model.specs.History.{cut_of}
use Rattle.water_model.specs.Indices.{indices_of, members_from}
use Rattle.result_lines.specs.Text.{call_items}
use Rattle.result_lines.specs.declared.item.Item.{Item}
use Rattle.result_lines.specs.declared.item.Item.TheVariants as line
use Rattle.water_model.specs.declared.types.Basin.{Basin}
use Rattle.water_model.specs.declared.types.Series.{Series}
use Rattle.water_model.specs.declared.types.MonthRecord.{MonthRecord}
use Rattle.water_model.proofs.Seniority.{not_senior_to_itself, senior_trans}
use Rattle.water_model.proofs.Order.{Has, IsOrdered, numbers_from-has, numbers_from-below}
use Rattle.result_reader.specs.Due.{is_member}
use Rattle.result_reader.specs.ReadSoFar.{ReadSoFar, read_item, with_supply}
use Rattle.water_model.proofs.SetEntries.{set_of_with, set_of_other}
use Rattle.result_reader.proofs.Telling.{tell_call, put_cut, fold-both}
use Rattle.cut_cert.specs.Callers.{is_short}
use Rattle.cert_check.specs.Checking.{rows, has_tight, is_tight, passes, cut_missing}
use Rattle.cert_check.proofs.Rows.{none_holds, each_fails, NoneHolds, AreGood, members_good, good_both, good_rest}

pub clash : {X : Type 0} → true ≡ false → X
clash h = cc

-- what does not change by `call`, `in` and `called` lines
pub record Sees (b : Basin) (series : Series) (m : MonthRecord) (now : MonthRecord) : Type 0 where
  pub month : now.month ≡ m.month
  pub delivered : now.delivered ≡ m.delivered
  pub want : now.want ≡ m.want
  pub supply : (with_supply b series now).supply ≡ m.supply
  pub sets : length now.cuts.sets ≡ length b.rights

-- the set is a tight cut, by what was read
pub read_tight : {b : Basin} {series : Series} {m now : MonthRecord} (r : ℕ) {set : List Bool} → Sees b series m now →
    cut_of now r ≡ Some set → has_tight b (with_supply b series now) r ≡ is_tight b m r set
read_tight r s e = rw (e, s.supply, s.month, s.delivered) refl

pub read_short : {b : Basin} {series : Series} {m now : MonthRecord} (r : ℕ) → Sees b series m now →
    is_short now r ≡ is_short m r
read_short r s = rw (s.delivered, s.want) refl

-- the set of the open call is a tight cut
abbrev pub IsSettled : Basin → Series → ReadSoFar → Type 0
IsSettled b series t = (r : ℕ) → t.calling ≡ Some r → has_tight b (with_supply b series t.now) r ≡ true

pub loose_fails : (b : Basin) (series : Series) (t : ReadSoFar) (i : Item) → IsSettled b series t →
    not (is_member i) && option_map_or (λ r. not (has_tight b (with_supply b series t.now) r)) t.calling false ≡ false
loose_fails b series t i h = grind arith

pub settled : (b : Basin) (series : Series) (t : ReadSoFar) (i : Item) → is_member i ≡ false →
    not (is_member i) && option_map_or (λ r. not (has_tight b (with_supply b series t.now) r)) t.calling false ≡ false →
    IsSettled b series t
settled b series t i other h r e = not-false (has_tight b (with_supply b series t.now) r) (rw (other, e) at h)

-- a short right without a set that the line passes over is missed
pub missing_fails : (b : Basin) (t : ReadSoFar) (i : Item) →
    ((r : ℕ) → r < length b.rights → is_short t.now r ≡ true → cut_of t.now r ≡ None → passes b i r ≡ true → ⊥) →
    cut_missing b t i ≡ false
missing_fails b t i h = none_holds (indices_of b.rights) (λ r m.
    (let l = (numbers_from-below 0 (length b.rights) r m).1 in let k = h r (omega arith) in grind arith))

pub none_missing : (b : Basin) (t : ReadSoFar) (i : Item) → cut_missing b t i ≡ false → {r : ℕ} → r < length b.rights →
    is_short t.now r ≡ true → passes b i r ≡ true → (set : List Bool) × (cut_of t.now r ≡ Some set)
none_missing b t i h {r} l short passed = (let fails =
    each_fails (λ r. is_short t.now r && is_none (cut_of t.now r) && passes b i r) (indices_of b.rights) h
    (numbers_from-has 0 (length b.rights) r r l (omega arith)) in grind arith)

-- A right's call.

call_good : (b : Basin) (series : Series) (t : ReadSoFar) (r : ℕ) → IsSettled b series t → is_short t.now r ≡ true →
    ((s : ℕ) → s < length b.rights → is_short t.now s ≡ true → cut_of t.now s ≡ None → is_senior b s r ≡ true → ⊥) →
    NoneHolds (rows b series t (line.Call r))
call_good b series t r settled short passed =
    (loose_fails b series t (line.Call r) settled, (missing_fails b t (line.Call r) passed, (ap not short, (refl, tt))))

-- what stays from call to call: the sets of the rights that had their turn
pub record Calling (b : Basin) (series : Series) (m : MonthRecord) (xs : List ℕ) (t : ReadSoFar) : Type 0 where
  pub sees : Sees b series m t.now
  pub settled : IsSettled b series t
  pub sets : (r : ℕ) → r < length b.rights → (Has xs r → ⊥) → cut_of t.now r ≡ cut_of m r
  pub free : (r : ℕ) → Has xs r → cut_of t.now r ≡ None

-- the sets of a record are right: each short right has a tight one, and every other none
pub record HasRightSets (b : Basin) (m : MonthRecord) : Type 0 where
  pub sized : (r : ℕ) (set : List Bool) → cut_of m r ≡ Some set → length set ≡ length b.nodes
  pub short : (r : ℕ) → r < length b.rights → is_short m r ≡ true → (set : List Bool) × (cut_of m r ≡ Some set) ×
      (is_tight b m r set ≡ true)
  pub met : (r : ℕ) → r < length b.rights → is_short m r ≡ false → cut_of m r ≡ None

-- what was read after a right's call
pub sees_more : {b : Basin} {series : Series} {m : MonthRecord} (t : ReadSoFar) (r : ℕ) (set : List Bool) →
    Sees b series m t.now → Sees b series m (put_cut t r set).now
sees_more t r set s = assumption (length-set t.now.cuts.sets r (Some set) ∙ s.sets)

abbrev pub after_call : ReadSoFar → ℕ → List Bool → ReadSoFar
after_call t r set = record (put_cut t r set) { calling = Some r }

calling_more : {b : Basin} {series : Series} {m : MonthRecord} {r : ℕ} {rs : List ℕ} {set : List Bool} {t : ReadSoFar}
    → r < length b.rights → (Has rs r → ⊥) → cut_of m r ≡ Some set → is_tight b m r set ≡ true →
    Calling b series m (r ∷ rs) t → Calling b series m rs (after_call t r set)
calling_more {b} {series} {m} {r} {rs} {set} {t} l once e tight c = record {
  sees = sees_more t r set c.sees;
  settled =
      λ s is. (let same : Some r ≡ Some s = is in let eq : r ≡ s = cc in
      subst (λ (x : ℕ). has_tight b (with_supply b series (put_cut t r set).now) x ≡ true) eq here);
  sets = λ s k none. by_index s k none;
  free = λ s h.
      set_of_other t.now.cuts r s (Some set) (λ is. once (subst (λ (x : ℕ). Has rs x) is h)) ∙ c.free s (inr h);
}
  where
    within : r < length t.now.cuts.sets
    within = omega (arith, c.sees.sets)

    here : has_tight b (with_supply b series (put_cut t r set).now) r ≡ true
    here = read_tight r (sees_more t r set c.sees) (set_of_with t.now.cuts r (Some set) within) ∙ tight

    by_index : (s : ℕ) → s < length b.rights → (Has rs s → ⊥) → cut_of (put_cut t r set).now s ≡ cut_of m s
    by_index s k none = elim (cases_eq s r) [
      | inl is ↦ rw is (set_of_with t.now.cuts r (Some set) within ∙ sym e)
      | inr other ↦ set_of_other t.now.cuts r s (Some set) other ∙ c.sets s k (λ h. apart other h)
    ]
      where
        apart : (s ≡ r → ⊥) → Has (r ∷ rs) s → ⊥
        apart other (inl is) = other is
        apart other (inr h) = none h

pub once_in_order : (b : Basin) (r : ℕ) (rs : List ℕ) → IsOrdered b.rights (r ∷ rs) → Has rs r → ⊥
once_in_order b r rs o h = clash (sym (o.0 r h) ∙ not_senior_to_itself b r)

-- the `call` lines of right sets are not refuted
pub calls_good : (b : Basin) (series : Series) (m : MonthRecord) → HasRightSets b m → (xs : List ℕ) →
    IsOrdered b.rights xs → ((r : ℕ) → Has xs r → r < length b.rights) → (t : ReadSoFar) → Calling b series m xs t →
    AreGood b series t (flat_map (λ r. call_items r (cut_of m r)) xs) ×
    Calling b series m [] (fold (read_item b series) t (flat_map (λ r. call_items r (cut_of m r)) xs))
calls_good b series m right [] o below t c = (tt, c)
calls_good b series m right (r ∷ rs) o below t c =
    by_test (is_short m r) refl (calls_good b series m right rs o.1 (λ s h. below s (inr h)))
  where
    within : r < length b.rights
    within = below r (inl refl)

    Further : Type 0
    Further = (u : ReadSoFar) → Calling b series m rs u →
        AreGood b series u (flat_map (λ r. call_items r (cut_of m r)) rs) ×
        Calling b series m [] (fold (read_item b series) u (flat_map (λ r. call_items r (cut_of m r)) rs))

    Whole : List Item → Type 0
    Whole items = AreGood b series t (items ++ flat_map (λ r. call_items r (cut_of m r)) rs)
        × Calling b series m [] (fold (read_item b series) t (items ++ flat_map (λ r. call_items r (cut_of m r)) rs))

    with_set : (set : List Bool) → cut_of m r ≡ Some set → is_tight b m r set ≡ true → is_short m r ≡ true → Further →
        Whole (call_items r (Some set))
    with_set set e tight short further =
        let so_far : fold (read_item b series) t (call_items r (Some set)) ≡ after_call t r set =
        tell_call b series r set t (omega (arith, within, c.sees.sets)) (right.sized r set e) in
        let rest =
        further (after_call t r set)
        (calling_more within (once_in_order b r rs o) e tight c) in (
          good_both b series t (call_items r (Some set)) (flat_map (λ r. call_items r (cut_of m r)) rs) (
            call_good b series t r c.settled (read_short r c.sees ∙ short)
                (λ s k short free senior. unpassed s k (sym (read_short s c.sees) ∙ short) free
                senior),
            members_good b series (members_from 0 set) (read_item b series t (line.Call r)),
          )
              (rw so_far rest.0),
          rw (
            fold-both (read_item b series) t (call_items r (Some set)) (flat_map (λ r. call_items r (cut_of m r)) rs),
            so_far,
          ) rest.1,
        )
      where
        unpassed : (s : ℕ) → s < length b.rights → is_short m s ≡ true → cut_of t.now s ≡ None →
            is_senior b s r ≡ true → ⊥
        unpassed s k short free senior =
            let own = right.short s k short in
            let never : None ≡ Some own.0 = sym free ∙ (c.sets s k (λ h. before h) ∙ own.1) in cc
          where
            before : Has (r ∷ rs) s → ⊥
            before (inl is) = clash (sym senior ∙ (ap (λ x. is_senior b x r) is ∙ not_senior_to_itself b r))
            before (inr h) = clash (sym (senior_trans b.rights r s r (o.0 s h) senior) ∙ not_senior_to_itself b r)

    by_test : (p : Bool) → is_short m r ≡ p → Further → Whole (call_items r (cut_of m r))
    by_test true short further =
        let own = right.short r within short in
        subst (λ (x : Option (List Bool)). Whole (call_items r x)) (sym own.1)
        (with_set own.0 own.1 own.2 short further)
    by_test false met further =
        subst (λ (x : Option (List Bool)). Whole (call_items r x)) (sym (right.met r within met)) (further t (record {
          sees = c.sees;
          settled = c.settled;
          sets = λ s k none. elim (cases_eq s r) [
            | inl is ↦ rw is (c.free r (inl refl) ∙ sym (right.met r within met))
            | inr other ↦ c.sets s k (λ h. apart s none other h)
          ];
          free = λ s h. c.free s (inr h);
        }))
      where
        apart : (s : ℕ) → (Has rs s → ⊥) → (s ≡ r → ⊥) → Has (r ∷ rs) s → ⊥
        apart s none other (inl is) = other is
        apart s none other (inr h) = none h

-- The converse: what `call` lines say that are not refuted.

-- the set that is open before some calls is settled by the first of them, or after them
settled_before : (b : Basin) (series : Series) (cut : ℕ → Option (List Bool)) (xs : List ℕ) (t : ReadSoFar) →
    AreGood b series t (flat_map (λ r. call_items r (cut r)) xs) →
    IsSettled b series (fold (read_item b series) t (flat_map (λ r. call_items r (cut r)) xs)) → IsSettled b series t
settled_before b series cut [] t g h = h
settled_before b series cut (r ∷ rs) t g h = by_set (cut r) (settled_before b series cut rs t) g h
  where
    by_set : (o : Option (List Bool)) → (AreGood b series t (flat_map (λ r. call_items r (cut r)) rs) →
        IsSettled b series (fold (read_item b series) t (flat_map (λ r. call_items r (cut r)) rs)) →
        IsSettled b series t) → AreGood b series t (call_items r o ++ flat_map (λ r. call_items r (cut r)) rs) →
        IsSettled b series (fold (read_item b series) t (call_items r o ++ flat_map (λ r. call_items r (cut r)) rs)) →
        IsSettled b series t
    by_set None further g h = further g h
    by_set (Some set) further g h = settled b series t (line.Call r) refl g.0.0

pub calls_read : {b : Basin} {series : Series} {m : MonthRecord} →
    ((r : ℕ) (set : List Bool) → cut_of m r ≡ Some set → length set ≡ length b.nodes) →
    (xs : List ℕ) → ((r : ℕ) → Has xs r → r < length b.rights) → (t : ReadSoFar) → Sees b series m t.now →
    AreGood b series t (flat_map (λ r. call_items r (cut_of m r)) xs) →
    IsSettled b series (fold (read_item b series) t (flat_map (λ r. call_items r (cut_of m r)) xs)) →
    (r : ℕ) {set : List Bool} → Has xs r → cut_of m r ≡ Some set → (is_short m r ≡ true) × (is_tight b m r set ≡ true)
calls_read sized [] below t s g h r k e = absurd k
calls_read {b} {series} {m} sized (x ∷ xs) below t s g h r {set} k e = by_set (cut_of m x) refl g h
    (λ u v a c l. calls_read sized xs (λ y z. below y (inr z)) u v a c r l e)
  where
    Answer : Type 0
    Answer = (is_short m r ≡ true) × (is_tight b m r set ≡ true)

    others : List Item
    others = flat_map (λ r. call_items r (cut_of m r)) xs

    Further : Type 0
    Further = (u : ReadSoFar) → Sees b series m u.now → AreGood b series u others →
        IsSettled b series (fold (read_item b series) u others) → Has xs r → Answer

    by_set : (o : Option (List Bool)) → cut_of m x ≡ o → AreGood b series t (call_items x o ++ others) →
        IsSettled b series (fold (read_item b series) t (call_items x o ++ others)) → Further → Answer
    by_set None free a c further = by_index k
      where
        by_index : Has (x ∷ xs) r → Answer
        by_index (inl is) = let never : None ≡ Some set = sym free ∙ (ap (cut_of m) (sym is) ∙ e) in cc
        by_index (inr l) = further t s a c l
    by_set (Some own) held a c further = by_index k
      where
        so_far : fold (read_item b series) t (call_items x (Some own)) ≡ after_call t x own
        so_far = tell_call b series x own t (omega (arith, below x (inl refl), s.sets)) (sized x own held)

        rest : AreGood b series (after_call t x own) others
        rest = rw (← so_far) (good_rest b series t (call_items x (Some own)) others a)

        ended : IsSettled b series (fold (read_item b series) (after_call t x own) others)
        ended = rw (← so_far, ← fold-both (read_item b series) t (call_items x (Some own)) others) c

        sees : Sees b series m (put_cut t x own).now
        sees = sees_more t x own s

        by_index : Has (x ∷ xs) r → Answer
        by_index (inl is) =
            let same : Some own ≡ Some set = sym held ∙ (ap (cut_of m) (sym is) ∙ e) in
            let eq : own ≡ set = cc in
            let settled_now = settled_before b series (λ r. cut_of m r) xs (after_call t x own) rest ended x refl in
            let short : is_short t.now x ≡ true = not-false (is_short t.now x) (a.0.1.1.0) in
            let tight =
            sym (read_tight x sees
            (set_of_with t.now.cuts x (Some own) (omega (arith, below x (inl refl), s.sets)))) ∙ settled_now in
            (ap (is_short m) is ∙ (sym (read_short x s) ∙ short), rw (is, ← eq) tight)
        by_index (inr l) = further (after_call t x own) sees rest ended l

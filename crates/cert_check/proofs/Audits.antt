-- An audit with one more line.
use Rattle.std.proofs.Common.{◌≡◌, ℕ, ◌+◌, ◌<◌, Bool, false, refl, sym, ap, subst, ◌∙◌, arith, inl, inr, List}
use Rattle.std.proofs.Common.{[], ◌∷◌, ◌++◌, length, replicate, append-nil, length-append, cond}
use Rattle.std.specs.Prelude.{Option, Some, None, IsSome, slice_index, slice_set, unwrap_or}
use Rattle.std.proofs.Math.Seq.{take-append_seam}
use Rattle.std.proofs.lemmas.Bool.{cases_eq}
use Rattle.std.proofs.lemmas.List.{get_or-set_same, get_or-set_other, length-set, take-append-le}
use Rattle.std.proofs.lemmas.List.Sums.{sum_by-append}
use Rattle.std.proofs.lemmas.Option.{slice_get_within}
use Rattle.water_model.specs.CutSets.{set_of}
use Rattle.water_model.specs.Cuts.{IsReach}
use Rattle.water_model.specs.History.{Follows, HasReaches, HaveReaches, cut_of}
use Rattle.water_model.specs.Lookups.{of_entry}
use Rattle.result_lines.specs.OfBasin.{IsOfBasin}
use Rattle.result_lines.specs.declared.item.Item.{Item}
use Rattle.result_lines.specs.declared.item.Item.TheVariants as line
use Rattle.result_lines.specs.declared.quantity.Quantity.{Quantity}
use Rattle.water_model.specs.declared.types.Basin.{Basin}
use Rattle.water_model.specs.declared.types.Series.{Series}
use Rattle.water_model.specs.declared.types.MonthRecord.{MonthRecord}
use Rattle.water_model.proofs.Histories.{at_end}
use Rattle.water_model.proofs.Lists.{get_before, get_after}
use Rattle.water_model.proofs.SetEntries.{no_sets, set_of_other}
use Rattle.plan_residual.specs.Reaches.{IsFirstOther}
use Rattle.plan_residual.specs.Rows.{IsSearchOf}
use Rattle.result_reader.specs.ReadSoFar.{ReadSoFar, read_item, nothing_read, read_so_far, with_supply, with_member}
use Rattle.cert_check.specs.Audit.{ended_months, is_end, IsCallLine, IsFirstOtherLine}
use Rattle.cert_check.specs.Auditing.{AsksMonth, HasCallLines, HasMemory, IsAsked, IsAuditOf, IsFound, MonthFollows}
use Rattle.cert_check.specs.Auditing.{IsAuditIfAny, TakesAudit}
use Rattle.cert_check.specs.Checking.{first_row}
use Rattle.cert_check.specs.Coming.{MayCome}
use Rattle.cert_check.specs.Keeping.{Keeps}
use Rattle.cert_check.specs.declared.state.CheckState.{CheckState}
use Rattle.cert_check.specs.Taking.{IsRead}
use Rattle.cert_check.specs.declared.audit.Audit.{Audit}
use Rattle.cert_check.specs.declared.progress.CheckProgress.{CheckProgress}
use Rattle.cert_check.proofs.UnderWay.{IsFree, free}
use Rattle.cert_check.proofs.Verdicts.{read_more}

-- Lists of lines and of months with more after them.

pub ended-append : (xs ys : List Item) → ended_months (xs ++ ys) ≡ ended_months xs + ended_months ys
ended-append xs ys = sum_by-append (λ x. cond (is_end x) 1 0) xs ys

call_line_on : {items : List Item} (more : List Item) {month right number : ℕ} → IsCallLine items month right number →
    IsCallLine (items ++ more) month right number
call_line_on {items} more {month} {right} c =
    let within = slice_get_within items c.position (line.Call right) c.at in
    record {
      position = c.position;
      at = get_before items more c.position (line.Call right) c.at;
      after = ap ended_months (take-append-le c.position items more (omega (arith, within))) ∙ c.after;
      counted = c.counted;
    }

first_on : {b : Basin} {months : List MonthRecord} (later : List MonthRecord) {items : List Item} (more : List Item)
    {number : ℕ} → IsFirstOtherLine b months items number → IsFirstOtherLine b (months ++ later) (items ++ more) number
first_on {b} {months} later more f =
    let within = slice_get_within months f.month f.outcome f.is in
    record {
      month = f.month;
      outcome = f.outcome;
      is = get_before months later f.month f.outcome f.is;
      right = f.right;
      other = f.other;
      before = subst (HaveReaches b) (sym (take-append-le f.month months later (omega (arith, within)))) f.before;
      call = call_line_on more f.call;
    }

found_on : (b : Basin) (months : List MonthRecord) (items more : List Item) (o : Option ℕ) → IsFound b months items o →
    IsFound b months (items ++ more) o
found_on b months items more None h = h
found_on b months items more (Some number) h =
    subst (λ (ms : List MonthRecord). IsFirstOtherLine b ms (items ++ more) number) (append-nil months)
    (first_on [] more h)

-- A right without a set has none with a line more that is not its `call`.

never_some : {X : Type 0} {Y : Type 0} (o : Option X) → o ≡ None → IsSome o → Y
never_some None e h = cc
never_some (Some x) e h = cc

kept_free : {b : Basin} {series : Series} {a : CheckState} {t : ReadSoFar} → Keeps b series a t → {r : ℕ} →
    cut_of t.now r ≡ None → IsFree r t
kept_free {b} {series} {a} {t} k {r} none = record {
  none = none;
  other = λ e. never_some (set_of a.month.cuts r)
      (ap (λ (sets : List (Option (List Bool))). of_entry sets r (λ s. s) None) k.month.shows.sets ∙ none)
      (k.calling.held r (k.calling.so_far ∙ e)).1;
}

-- where none becomes none, some was some before
some_before : (now : Option (List Bool)) {later : Option (List Bool)} → (now ≡ None → later ≡ None) → IsSome later →
    IsSome now
some_before now h some = grind arith

-- a line that is no `call`, and begins and ends no month
record IsCalm (t u : ReadSoFar) (item : Item) : Type 0 where
  months : u.months ≡ t.months
  index : u.now.index ≡ t.now.index
  sets : (r : ℕ) → cut_of t.now r ≡ None → cut_of u.now r ≡ None
  no_end : is_end item ≡ false

calm_more : {b : Basin} {t u : ReadSoFar} {items : List Item} {item : Item} {a : Audit} → IsCalm t u item →
    IsAuditOf b t items a → IsAuditOf b u (items ++ item ∷ []) a
calm_more {b} {t} {u} {items} {item} {a} calm h = record {
  memory = h.memory;
  months = ended-append items (item ∷ []) ∙ (rw calm.no_end (omega (arith, h.months, ap length calm.months)));
  lines = λ index r some. subst (λ (n : ℕ). IsCallLine (items ++ item ∷ []) n r (slice_index a.call_lines r))
      (ap length (sym calm.months)) (call_line_on (item ∷ [])
      (h.lines (sym calm.index ∙ (index ∙ ap length calm.months)) r
      (some_before (cut_of t.now r) (calm.sets r) some)));
  found = subst (λ (ms : List MonthRecord). IsFound b ms (items ++ item ∷ []) a.other) (sym calm.months)
      (found_on b t.months items (item ∷ []) a.other h.found);
}

-- a `month` line
begun_more : {b : Basin} (series : Series) {t : ReadSoFar} {items : List Item} {a : Audit}
    {u : ReadSoFar} (item : Item) → u.months ≡ t.months → is_end item ≡ false → ((r : ℕ) → cut_of u.now r ≡ None) →
    IsAuditOf b t items a → IsAuditOf b u (items ++ item ∷ []) a
begun_more {b} series {t} {items} {a} {u} item months no_end none h = record {
  memory = h.memory;
  months = ended-append items (item ∷ []) ∙ (rw no_end (omega (arith, h.months, ap length months)));
  lines = λ index r some. never_some (cut_of u.now r) (none r) some;
  found = subst (λ (ms : List MonthRecord). IsFound b ms (items ++ item ∷ []) a.other) (sym months)
      (found_on b t.months items (item ∷ []) a.other h.found);
}

-- a `call` line
call_more : {b : Basin} (series : Series) {t : ReadSoFar} {items : List Item} {x : ℕ} {a : Audit} →
    x < length b.rights → IsAuditOf b t items a →
    IsAuditOf b (read_item b series t (line.Call x)) (items ++ line.Call x ∷ [])
    (record a { call_lines = slice_set a.call_lines x (length items + 1) })
call_more {b} series {t} {items} {x} {a} l h = record {
  memory = record {
    search = h.memory.search;
    lines = length-set a.call_lines x (length items + 1) ∙ h.memory.lines;
  };
  months = ended-append items (line.Call x ∷ []) ∙ omega (arith, h.months);
  lines = λ index r some. elim (cases_eq r x) [
    | inl same ↦ subst (λ (n : ℕ). IsCallLine (items ++ line.Call x ∷ []) (length t.months) r n)
        (sym (ap (λ k. slice_index (slice_set a.call_lines x (length items + 1)) k) same
        ∙ get_or-set_same a.call_lines x (length items + 1) 0 (omega (arith, l, h.memory.lines))))
        (subst (λ (s : ℕ). IsCallLine (items ++ line.Call x ∷ []) (length t.months) s (length items + 1)) (sym same)
        own)
    | inr other ↦ subst (λ (n : ℕ). IsCallLine (items ++ line.Call x ∷ []) (length t.months) r n)
        (sym (get_or-set_other a.call_lines x r (length items + 1) 0 other)) (call_line_on (line.Call x ∷ [])
        (h.lines index r (rw (set_of_other t.now.cuts x r (Some (replicate (length b.nodes) false)) other) at some)))
  ];
  found = found_on b t.months items (line.Call x ∷ []) a.other h.found;
}
  where
    own : IsCallLine (items ++ line.Call x ∷ []) (length t.months) x (length items + 1)
    own = record {
      position = length items;
      at = get_after items [] (line.Call x);
      after = ap ended_months (take-append_seam items (line.Call x ∷ [])) ∙ h.months;
      counted = refl;
    }

-- An `end` line.

has_reaches : {b : Basin} {series : Series} {before : List MonthRecord} {m : MonthRecord} → Follows b series before m →
    IsFirstOther b m None → HasReaches b m
has_reaches {b} {series} {before} {m} f none = record {
  short = λ r l short. (let cut = f.short r l short in (
    cut.0,
    cut.1,
    subst (λ (set : List Bool). IsReach b m.month m.supply m.delivered r set)
        (ap (λ (o : Option (List Bool)). unwrap_or o []) cut.1) (none r l short),
  ));
  met = f.met;
}

reaches_more : {b : Basin} (months : List MonthRecord) {m : MonthRecord} → HaveReaches b months → HasReaches b m →
    HaveReaches b (months ++ m ∷ [])
reaches_more {b} months {m} h own i k e = elim (at_end months m k i e) [
  | inl before ↦ h i k before
  | inr last ↦ subst (HasReaches b) last.1 own
]

first_here : {b : Basin} {series : Series} (t : ReadSoFar) {items : List Item} (lines : List ℕ) {r : ℕ} →
    t.now.index ≡ length t.months → HasCallLines t items lines → HaveReaches b t.months → MonthFollows b series t →
    IsFirstOther b (with_supply b series t.now) (Some r) →
    IsFirstOtherLine b (t.months ++ with_supply b series t.now ∷ []) (items ++ line.End ∷ []) (slice_index lines r)
first_here {b} {series} t {items} lines {r} index has reaches follows first =
    let cut = follows.short r first.0 first.1 in
    record {
      month = length t.months;
      outcome = with_supply b series t.now;
      is = get_after t.months [] (with_supply b series t.now);
      right = r;
      other = first;
      before = subst (HaveReaches b) (sym (take-append_seam t.months (with_supply b series t.now ∷ []))) reaches;
      call = call_line_on (line.End ∷ [])
          (has index r (some_of (cut_of t.now r) cut.0 cut.1));
    }
  where
    some_of : (o : Option (List Bool)) (set : List Bool) → o ≡ Some set → IsSome o
    some_of None set e = cc
    some_of (Some s) set e = refl

end_found : {b : Basin} (series : Series) (t : ReadSoFar) (items : List Item) (lines : List ℕ) (old new : Option ℕ) →
    t.now.index ≡ length t.months → HasCallLines t items lines → IsFound b t.months items old →
    MonthFollows b series t → IsAsked b (with_supply b series t.now) lines old new →
    IsFound b (t.months ++ with_supply b series t.now ∷ []) (items ++ line.End ∷ []) new
end_found {b} series t items lines (Some number) new index has found follows asked =
    subst (IsFound b (t.months ++ with_supply b series t.now ∷ []) (items ++ line.End ∷ [])) (sym asked)
    (first_on (with_supply b series t.now ∷ []) (line.End ∷ []) found)
end_found {b} series t items lines None new index has found follows (None, first, is) =
    subst (IsFound b (t.months ++ with_supply b series t.now ∷ []) (items ++ line.End ∷ [])) (sym is)
    (reaches_more t.months found (has_reaches follows first))
end_found {b} series t items lines None new index has found follows (Some r, first, is) =
    subst (IsFound b (t.months ++ with_supply b series t.now ∷ []) (items ++ line.End ∷ [])) (sym is)
    (first_here t lines index has found follows first)

end_more : {b : Basin} {series : Series} {t : ReadSoFar} {items : List Item} {old new : Audit} →
    t.now.index ≡ length t.months → MonthFollows b series t → AsksMonth b (with_supply b series t.now) old new →
    IsAuditOf b t items old → IsAuditOf b (read_item b series t line.End) (items ++ line.End ∷ []) new
end_more {b} {series} {t} {items} {old} {new} index follows asks h = record {
  memory = record {
    search = subst (IsSearchOf b) (sym asks.search) h.memory.search;
    lines = ap length asks.lines ∙ h.memory.lines;
  };
  months = ended-append items (line.End ∷ [])
      ∙ omega (arith, h.months, length-append t.months (with_supply b series t.now ∷ []));
  lines = λ later r some. absurd
      (omega (arith, later, index, length-append t.months (with_supply b series t.now ∷ [])));
  found = end_found series t items old.call_lines old.other new.other index h.lines h.found follows asks.other;
}

-- Any line.

calm_amount : (b : Basin) (series : Series) (t : ReadSoFar) (q : Quantity) (entry amount : ℕ) →
    (read_item b series t (line.Amount q entry amount)).now.index ≡ t.now.index
calm_amount b series t q entry amount = grind arith

member_calm : (t : ReadSoFar) (o : Option ℕ) (n : ℕ) → ((with_member t o n).months ≡ t.months) ×
    ((with_member t o n).now.index ≡ t.now.index)
member_calm t o n = grind arith

pub audit_more : {b : Basin} {series : Series} {a : CheckState} {t : ReadSoFar} {items : List Item} (item : Item)
    {old new : Audit} → IsOfBasin b item → Keeps b series a t → MayCome b series t item → IsAuditOf b t items old →
    (item ≡ line.End → MonthFollows b series t) → TakesAudit b series t item (length items + 1) old new →
    IsAuditOf b (read_item b series t item) (items ++ item ∷ []) new
audit_more {b} {series} {a} {t} {items} line.Title own k comes h ends takes =
    subst (IsAuditOf b t (items ++ line.Title ∷ [])) (sym takes) (calm_more
    (record { months = refl; index = refl; sets = λ r none. none; no_end = refl }) h)
audit_more {b} {series} {a} {t} {items} (line.Run first months) own k comes h ends takes =
    subst (IsAuditOf b t (items ++ line.Run first months ∷ [])) (sym takes) (calm_more
    (record { months = refl; index = refl; sets = λ r none. none; no_end = refl }) h)
audit_more {b} {series} {a} {t} {items} (line.Month month) own k comes h ends takes =
    subst (IsAuditOf b (read_item b series t (line.Month month)) (items ++ line.Month month ∷ [])) (sym takes)
    (begun_more series (line.Month month) refl refl (λ r. no_sets (length b.rights) r) h)
audit_more {b} {series} {a} {t} {items} (line.Amount q entry amount) own k comes h ends takes =
    subst (IsAuditOf b (read_item b series t (line.Amount q entry amount)) (items ++ line.Amount q entry amount ∷ []))
    (sym takes)
    (calm_more (record {
      months = refl;
      index = calm_amount b series t q entry amount;
      sets = λ r none. (free b series (line.Amount q entry amount ∷ []) refl
          (kept_free k none)).none;
      no_end = refl;
    }) h)
audit_more {b} {series} {a} {t} {items} (line.Deliver r amount want) own k comes h ends takes =
    subst (IsAuditOf b (read_item b series t (line.Deliver r amount want)) (items ++ line.Deliver r amount want ∷ []))
    (sym takes) (calm_more (record { months = refl; index = refl; sets = λ s none. none; no_end = refl }) h)
audit_more {b} {series} {a} {t} {items} (line.Call x) own k comes h ends takes =
    subst (IsAuditOf b (read_item b series t (line.Call x)) (items ++ line.Call x ∷ [])) (sym takes)
    (call_more series own h)
audit_more {b} {series} {a} {t} {items} (line.Member n) own k comes h ends takes =
    let calm = member_calm t t.calling n in
    subst (IsAuditOf b (read_item b series t (line.Member n)) (items ++ line.Member n ∷ [])) (sym takes)
    (calm_more (record {
      months = calm.0;
      index = calm.1;
      sets = λ r none. (free b series (line.Member n ∷ []) refl (kept_free k none)).none;
      no_end = refl;
    }) h)
audit_more {b} {series} {a} {t} {items} (line.Called r caller) own k comes h ends takes =
    subst (IsAuditOf b (read_item b series t (line.Called r caller)) (items ++ line.Called r caller ∷ [])) (sym takes)
    (calm_more (record { months = refl; index = refl; sets = λ s none. none; no_end = refl }) h)
audit_more line.End own k comes h ends takes = end_more (comes.inner refl).index (ends refl) (takes (ends refl)) h
audit_more {b} {series} {a} {t} {items} (line.Done months) own k comes h ends takes =
    subst (IsAuditOf b t (items ++ line.Done months ∷ [])) (sym takes) (calm_more
    (record { months = refl; index = refl; sets = λ r none. none; no_end = refl }) h)

-- a line that was read, where no row holds of it
pub audit_taken : {b : Basin} {series : Series} {k : CheckProgress} {items : List Item} {item : Item} {old new : Audit}
    → IsOfBasin b item → IsRead b series k items item → first_row b series (read_so_far b series items) item ≡ None →
    k.audit ≡ Some old → TakesAudit b series (read_so_far b series items) item (k.read + 1) old new →
    IsAuditOf b (read_so_far b series (items ++ item ∷ [])) (items ++ item ∷ []) new
audit_taken {b} {series} {k} {items} {item} {old} {new} own so_far none is takes =
    subst (λ (t : ReadSoFar). IsAuditOf b t (items ++ item ∷ []) new) (sym (read_more b series items item))
    (audit_more item own so_far.state so_far.comes
    (subst (IsAuditIfAny b (read_so_far b series items) items) is so_far.audit) (λ end. so_far.ends end none)
    (subst (λ (n : ℕ). TakesAudit b series (read_so_far b series items) item (n + 1) old new) so_far.counts.read takes))

-- An audit of no line.

pub nothing_audited : {b : Basin} {a : Audit} → HasMemory b a → a.other ≡ None → IsAuditOf b (nothing_read b) [] a
nothing_audited {b} memory none = record {
  memory = memory;
  months = refl;
  lines = λ index r some. never_some (cut_of (nothing_read b).now r) (no_sets (length b.rights) r) some;
  found = subst (IsFound b [] []) (sym none) (λ i m e. no_month m e);
}
  where
    no_month : {X : Type 0} (m : MonthRecord) → None ≡ Some m → X
    no_month m e = cc

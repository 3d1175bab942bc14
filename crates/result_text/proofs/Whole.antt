-- How a whole text is put: its head, month after month, and its tail.
use Rattle.std.proofs.Common.{◌≡◌, ℕ, ◌<◌, ◌≤◌, Bool, length, arith, inl, inr, List, [], ◌∷◌, ◌++◌, Option, None}
use Rattle.std.proofs.Common.{Result, sym, ap, subst, ◌∙◌, append_assoc, append-nil}
use Rattle.std.specs.Prelude.{IfSome, slice_index, unwrap_or, option_map, ◌⊎◌}
use Rattle.std.proofs.lemmas.Bool.{cases_lt}
use Rattle.std.proofs.lemmas.Option.{slice_get_past}
use Rattle.std.specs.List.{flat_map}
use Rattle.std.proofs.lemmas.Grind.{flat_map-append}
use Rattle.water_edge.specs.Edge.{Extends, Output, Puts}
use Rattle.water_text.specs.Months.{IsMonth}
use Rattle.water_model.specs.History.{Follows, IsShort, cut_of}
use Rattle.result_lines.specs.Spelling.{whole_line}
use Rattle.result_lines.specs.Text.{items_of_head, items_of_month, items_of_tail, text_bytes}
use Rattle.water_model.specs.Valid.{IsValidBasin}
use Rattle.water_model.specs.declared.types.Basin.{Basin}
use Rattle.water_model.specs.declared.types.Series.{Series}
use Rattle.water_model.specs.declared.types.MonthRecord.{MonthRecord}
use Rattle.water_model.proofs.Histories.{IsMonth-run_month}
use Rattle.result_text.specs.Begun.{begun_bytes}
use Rattle.result_text.specs.Range.{FitsText}
use Rattle.water_edge.proofs.Puts.{Puts-then}

-- a head is the beginning of every text
pub begun-head : (b : Basin) → begun_bytes b [] ≡ flat_map (whole_line b) (items_of_head b)
begun-head b = ap (flat_map (whole_line b)) (append-nil (items_of_head b))

pub begun-more : (b : Basin) (records : List MonthRecord) (m : MonthRecord) →
    begun_bytes b (records ++ m ∷ []) ≡ begun_bytes b records ++ flat_map (whole_line b) (items_of_month b m)
begun-more b records m =
    ap (λ items. flat_map (whole_line b) (items_of_head b ++ items))
    (flat_map-append (items_of_month b) records (m ∷ [])
    ∙ ap (λ items. flat_map (items_of_month b) records ++ items) (append-nil (items_of_month b m)))
    ∙ (ap (flat_map (whole_line b))
    (sym (append_assoc (items_of_head b) (flat_map (items_of_month b) records) (items_of_month b m)))
    ∙ flat_map-append (whole_line b) (items_of_head b ++ flat_map (items_of_month b) records) (items_of_month b m))

-- a text is what was begun and its tail
pub text-begun : (b : Basin) (records : List MonthRecord) →
    text_bytes b records ≡ begun_bytes b records ++ flat_map (whole_line b) (items_of_tail b)
text-begun b records =
    ap (flat_map (whole_line b))
    (sym (append_assoc (items_of_head b) (flat_map (items_of_month b) records) (items_of_tail b)))
    ∙ flat_map-append (whole_line b) (items_of_head b ++ flat_map (items_of_month b) records) (items_of_tail b)

-- a head that was put
pub Puts-head : {E : Type 0} (b : Basin) (old new : Output) (r : Result (Unit {0}) E) →
    Puts old new r (flat_map (whole_line b) (items_of_head b)) → Puts old new r (begun_bytes b [])
Puts-head b old new r h = rw (begun-head b) h

-- one month more
pub Puts-month : {E : Type 0} (b : Basin) (records : List MonthRecord) (m : MonthRecord) (old mid new : Output)
    (r : Result (Unit {0}) E) →
    Extends old mid (begun_bytes b records) → Puts mid new r (flat_map (whole_line b) (items_of_month b m)) →
    Puts old new r (begun_bytes b (records ++ m ∷ []))
Puts-month b records m old mid new r begun h =
    subst (λ (bytes : List ℕ). Puts old new r bytes) (sym (begun-more b records m))
    (Puts-then old mid new r (begun_bytes b records) (flat_map (whole_line b) (items_of_month b m)) begun h)

-- the tail after all months makes the text
pub Puts-tail : {E : Type 0} (b : Basin) (records : List MonthRecord) (old mid new : Output)
    (r : Result (Unit {0}) E) →
    Extends old mid (begun_bytes b records) → Puts mid new r (flat_map (whole_line b) (items_of_tail b)) →
    Puts old new r (text_bytes b records)
Puts-tail b records old mid new r begun h =
    subst (λ (bytes : List ℕ). Puts old new r bytes) (sym (text-begun b records))
    (Puts-then old mid new r (begun_bytes b records) (flat_map (whole_line b) (items_of_tail b)) begun h)

-- the sets of such a record are sets of nodes
sets_sized : (b : Basin) (series : Series) (before : List MonthRecord) (m : MonthRecord) → Follows b series before m →
    (right : ℕ) →
    IfSome (cut_of m right) (λ set. length set ≡ length b.nodes)
sets_sized b series before m f right = by_range (cases_lt right (length b.rights))
  where
    is_sized : Option (List Bool) → Type 0
    is_sized o = IfSome o (λ set. length set ≡ length b.nodes)

    no_set : cut_of m right ≡ None → is_sized (cut_of m right)
    no_set e = subst (λ (o : Option (List Bool)). is_sized o) (sym e) tt

    its_set : right < length b.rights → IsShort m right → is_sized (cut_of m right)
    its_set l short = let s = f.short right l short in
        subst (λ (o : Option (List Bool)). is_sized o) (sym s.1) s.2.is_cut.one_each

    outside : length b.rights ≤ right → cut_of m right ≡ None
    outside l =
        ap (λ (o : Option (Option (List Bool))). unwrap_or (option_map (λ set. set) o) None)
        (slice_get_past m.cuts.sets right (omega (arith, f.after.fits.cuts)))

    by_range : (right < length b.rights) ⊎ (length b.rights ≤ right) → is_sized (cut_of m right)
    by_range (inr beyond) = no_set (outside beyond)
    by_range (inl l) = elim (cases_lt (slice_index m.delivered right) (slice_index m.want right)) [
      | inl short ↦ its_set l short
      | inr met ↦ no_set (f.met right l met)
    ]

-- a record that follows others in the run has a text
pub FitsText-follows : (b : Basin) (series : Series) (before : List MonthRecord) (m : MonthRecord) → IsValidBasin b →
    Follows b series before m →
    length before < b.months → FitsText b m
FitsText-follows b series before m valid f l = record {
  fits = f.after.fits;
  month = subst IsMonth (sym f.after.month) (IsMonth-run_month b m.index valid.run (omega (arith, f.after.index)));
  flow = f.after.plan.flow_len;
  out = f.after.plan.out_len;
  sets = sets_sized b series before m f;
}

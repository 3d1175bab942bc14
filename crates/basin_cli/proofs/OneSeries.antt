-- Bytes spell one basin, and one series as far as a history speaks of it.
use Rattle.std.proofs.Common.{◌≡◌, ℕ, ◌<◌, Bool, true, false, refl, sym, ◌∙◌, ap, arith, List, length, length-take}
use Rattle.std.proofs.Common.{take, Option, Some, None}
use Rattle.std.specs.Prelude.{slice_get, slice_index, option_map, unwrap_or, if◌then◌else◌}
use Rattle.std.proofs.lemmas.Option.{slice_get_within}
use Rattle.basin_file.specs.BasinFaults.{Spells}
use Rattle.basin_file.specs.Spelled.{basin_of}
use Rattle.inflow_file.specs.SeriesFaults.{SpellsSeries}
use Rattle.water_model.proofs.Histories.{follows_alike}
use Rattle.water_model.specs.Basin.{instream_link}
use Rattle.water_model.specs.History.{Follows, IsHistory, IsPartialHistory}
use Rattle.water_model.specs.Hydrology.{run_month, in_year, inflow_at, inflow_of_kind, table_at, number_of}
use Rattle.water_model.specs.Hydrology.{cap_by_link, want_by_volume, want_of, volume_of}
use Rattle.water_model.specs.Valid.{is_gauged, is_gauged_kind, is_in_series, is_series}
use Rattle.water_model.specs.declared.types.Basin.{Basin}
use Rattle.water_model.specs.declared.types.Inflow.{Inflow}
use Rattle.water_model.specs.declared.types.Inflow.TheVariants.{Monthly, Gauged}
use Rattle.water_model.specs.declared.types.Series.{Series}
use Rattle.water_model.specs.declared.types.MonthRecord.{MonthRecord}
use Rattle.water_model.specs.declared.types.Node.{Node}
use Rattle.water_model.specs.declared.types.Right.{Right}
use Rattle.water_model.specs.declared.types.Want.{Want}
use Rattle.water_model.specs.declared.types.Want.TheVariants as wants

-- bytes spell one basin
pub one_basin : (bytes : List ℕ) (b c : Basin) → Spells bytes b → Spells bytes c → b ≡ c
one_basin bytes b c one other =
    let same : Some one.tree ≡ Some other.tree = sym one.document ∙ other.document in
    let tree : one.tree ≡ other.tree = cc in
    one.basin_is ∙ (ap basin_of tree ∙ sym other.basin_is)

-- two series give each node the same inflow, and each right the same want, in each month of the run
pub record GiveSame (b : Basin) (series other : Series) : Type 0 where
  pub each : (n i : ℕ) → n < length b.nodes → i < b.months → inflow_at b series n i ≡ inflow_at b other n i
  pub wants : (r i used : ℕ) → r < length b.rights → i < b.months → want_of b series r i used ≡ want_of b other r i used

-- and so do the series that the same bytes spell
pub one_series : (b : Basin) (bytes : List ℕ) (series other : Series) → SpellsSeries b bytes series →
    SpellsSeries b bytes other → GiveSame b series other
one_series b bytes series other one two = record {
  each = λ n i l m. by_gauge n i l m (is_gauged b n) refl;
  wants = λ r i used l m.
      ap (λ n. want_by_volume (volume_of b r) (cap_by_link b (run_month b i) (instream_link b r) n) used)
      (by_right r i l m (slice_get b.rights r) refl);
}
  where
    by_series : (r i : ℕ) (x : Right) → r < length b.rights → i < b.months → slice_get b.rights r ≡ Some x →
        (want : Want) → x.want ≡ want → number_of b series r i want ≡ number_of b other r i want
    by_series r i x l m at wants.Series e =
        let stands : is_in_series b r ≡ true =
        ap (λ o. unwrap_or (option_map (λ (y : Right). is_series y.want) o) false) at ∙ ap is_series e in
        let both : Some (table_at series.wanted series.want i r) ≡ Some (table_at other.wanted other.want i r) =
        sym (one.wants r i l stands m) ∙ two.wants r i l stands m in
        cc
    by_series r i x l m at (wants.Monthly amounts) e = refl

    by_right : (r i : ℕ) → r < length b.rights → i < b.months → (o : Option Right) → slice_get b.rights r ≡ o →
        unwrap_or (option_map (λ x. number_of b series r i x.want) o) 0 ≡ unwrap_or
        (option_map (λ x. number_of b other r i x.want) o) 0
    by_right r i l m None at = refl
    by_right r i l m (Some x) at = by_series r i x l m at x.want refl

    by_kind : (n i : ℕ) (o : Option Node) → unwrap_or (option_map (λ x. is_gauged_kind x.inflow) o) false ≡ false →
        unwrap_or (option_map (λ x. inflow_of_kind b series n i x.inflow) o) 0 ≡ unwrap_or
        (option_map (λ x. inflow_of_kind b other n i x.inflow) o) 0
    by_kind n i None e = refl
    by_kind n i (Some x) e = by_inflow x.inflow e
      where
        by_inflow : (inflow : Inflow) → is_gauged_kind inflow ≡ false →
            inflow_of_kind b series n i inflow ≡ inflow_of_kind b other n i inflow
        by_inflow (Monthly amounts) f = refl
        by_inflow Gauged f = cc

    by_gauge : (n i : ℕ) → n < length b.nodes → i < b.months → (t : Bool) → is_gauged b n ≡ t →
        inflow_at b series n i ≡ inflow_at b other n i
    by_gauge n i l m false e = by_kind n i (slice_get b.nodes n) e
    by_gauge n i l m true e =
        let both : Some (inflow_at b series n i) ≡ Some (inflow_at b other n i) =
        sym (one.each n i l e m) ∙ two.each n i l e m in
        cc

-- a partial history with one series is one with the other
pub same_partial : (b : Basin) (series other : Series) (records : List MonthRecord) → GiveSame b series other →
    IsPartialHistory b series records → IsPartialHistory b other records
same_partial b series other records same partial = record {
  within = partial.within;
  each = λ i m at. (let f = partial.each i m at in
      follows_alike b series other (take i records) m (λ n l. same.each n m.index l (in_run i m at f))
      (λ r used l. same.wants r m.index used l (in_run i m at f)) f);
}
  where
    in_run : (i : ℕ) (m : MonthRecord) → slice_get records i ≡ Some m → Follows b series (take i records) m →
        m.index < b.months
    in_run i m at f = omega (
      arith,
      f.after.index,
      length-take i records,
      slice_get_within records i m at,
      partial.within,
    )

-- a history with one series is one with the other
pub same_history : (b : Basin) (series other : Series) (records : List MonthRecord) → GiveSame b series other →
    IsHistory b series records → IsHistory b other records
same_history b series other records same history =
    record { partial = same_partial b series other records same history.partial; whole = history.whole }

-- The words that many of these proofs cite, passed on from one place.
pub use Rattle.std.proofs.Common.{◌≡◌, ℕ, zero, suc, ◌+◌, ◌-◌, ◌<◌, ◌≤◌, Bool, true, false, refl, sym, ap, ◌∙◌, arith}
pub use Rattle.std.proofs.Common.{List, [], ◌∷◌, ◌++◌, length, get_or, slice_index, filter, if◌then◌else◌, inl, inr}
pub use Rattle.std.proofs.Common.{add-one, zero-add, ◌≢◌, ◌⊎◌, ◌*◌, ◌/◌, ◌%◌, set, map, replicate, Option, Some, None}
pub use Rattle.std.proofs.Common.{is_some, option_map, Err, ◌^◌, unwrap_or, slice_get, All, Ok, Result, subst, ◌||◌}
pub use Rattle.std.proofs.Common.{append_assoc, MatchResult, rules, slice_set, slice_index_or}
pub use Rattle.std.proofs.lemmas.Bool.{cases_lt, lt-ltb, le-ltb, cases_Bool, cases_eq, false≢true, eqb-true, and_parts}
pub use Rattle.std.proofs.lemmas.Bool.{eq-eqb, and_from}
pub use Rattle.std.proofs.lemmas.List.{get_or_append_left, get_or_push, length-append, get_or_at, ext_get_or}
pub use Rattle.std.proofs.lemmas.List.{length-map, length-set, get_or-append-add, get_or-map, get_or-set_same}
pub use Rattle.std.proofs.lemmas.List.{get_or-set_other, append-nil, length_push}
pub use Rattle.std.proofs.lemmas.List.Elements.{filter-append, filter_agree, All-from_get_or, filter_map-append}
pub use Rattle.std.proofs.lemmas.List.Folds.{find-append, find_at, list_any_none, list_any_at}
pub use Rattle.std.proofs.lemmas.Option.{get_or_from_slice_get, same_Some, slice_get-get_or}
pub use Rattle.std.specs.Option.{option_or}
pub use Rattle.std.specs.Result.{result_ok}
pub use Rattle.csv.specs.Records.{fields_of}
pub use Rattle.inflow_file.specs.Cells.{IsPart, cell_in}
pub use Rattle.inflow_file.specs.Columns.{IsColumn, column_numbers, count_of_both, is_column, right_number}
pub use Rattle.inflow_file.specs.Columns.{columns_from}
pub use Rattle.inflow_file.specs.CsvRecords.{as_inflow, records_of, is_header, with_kind}
pub use Rattle.inflow_file.specs.Entries.{IsEntry, column_of, go_on, need, read_record}
pub use Rattle.inflow_file.specs.Given.{Completes, TookTable, given_by, given, Takes, TakesAll, TakesTable}
pub use Rattle.inflow_file.specs.SeriesFaults.{amount_for, due, months_of, repeats, is_in_run, IsRefusalOf}
pub use Rattle.inflow_file.specs.SeriesFaults.{IsSeriesRefusal, SpellsAmounts, SpellsSeries, body_of, series_fault}
pub use Rattle.inflow_file.specs.SeriesFaults.{entries_of, missing, missing_of, record_fault, table_fault, has_kinds}
pub use Rattle.inflow_file.specs.SeriesFaults.{first_fault}
pub use Rattle.inflow_file.specs.declared.entry.SeriesRecord.{SeriesRecord}
pub use Rattle.inflow_file.specs.declared.refused.SeriesFault.{SeriesFault}
pub use Rattle.inflow_file.specs.declared.refused.SeriesRefused.{SeriesRefused}
pub use Rattle.water_model.proofs.Gauges.{index_is, filter_short, cell_within}
pub use Rattle.water_model.specs.declared.types.Basin.{Basin}
pub use Rattle.water_text.specs.Months.{IsMonth, is_same_month, read_month}
pub use Rattle.water_text.specs.declared.month.Month.{Month}

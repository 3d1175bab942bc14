-- A basin with one more right.
use Rattle.std.specs.Prelude.{◌≡◌, ℕ, suc, ◌<◌, ◌≤◌, true, false, length, drop, insert, All, IsTrue, nat_lt}
use Rattle.std.specs.Prelude.{if◌then◌else◌}
use Rattle.water_model.specs.Lookups.{of_entry}
use Rattle.water_model.specs.Rights.{is_lower, priority}
use Rattle.water_model.specs.Hydrology.{table_at}
use Rattle.water_model.specs.Valid.{rank_of_kind, is_gauged, is_series}
use Rattle.water_model.specs.declared.types.Basin.{Basin}
use Rattle.water_model.specs.declared.types.Series.{Series}
use Rattle.water_model.specs.declared.types.Right.{Right}

-- the basin with one more right, which stands at this index; all else is the same
abbrev pub with_right : Basin → ℕ → Right → Basin
with_right b at right = record b { rights = insert b.rights at right }

-- the index of a right of the basin once another right is put at an index: from that on it is one greater
unfoldable pub moved : ℕ → ℕ → ℕ
moved at r = if nat_lt r at then r else suc r

-- The second basin is the first with one more diversion or instream right, which stands at the end of its kind and is
-- junior to every right of the first. Return rows name diversions, and those of the first all stand before the new
-- right. So the rows stay as they are, and none of them is the new right's.
pub record HasOneMore (first second : Basin) (at : ℕ) (right : Right) : Type 0 where
  pub basin : second ≡ with_right first at right
  pub position : at ≤ length first.rights
  pub no_zone : rank_of_kind right.kind < 2
  pub last_of_kind : All (λ r. rank_of_kind right.kind < rank_of_kind r.kind) (drop at first.rights)
  pub most_junior : All (λ r. IsTrue (is_lower (priority r) (priority right))) first.rights

-- the two series give each gauged node and each right of the first basin the same amounts
pub record GiveSame (first : Basin) (at : ℕ) (series other : Series) : Type 0 where
  pub amounts : (n i : ℕ) → is_gauged first n ≡ true → i < first.months →
      table_at series.gauged series.amount i n ≡ table_at other.gauged other.amount i n
  pub wants : (r i : ℕ) → of_entry first.rights r (λ right. is_series right.want) false ≡ true → i < first.months →
      table_at series.wanted series.want i r ≡ table_at other.wanted other.want i (moved at r)

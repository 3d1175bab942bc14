-- What is derived from a basin once.
use Rattle.std.specs.Prelude.{◌≡◌, ℕ, map, nat_le}
use Rattle.std.specs.List.{list_all}
use Rattle.cut_cert.specs.Rows.{AreNodeRows}
use Rattle.rights_roll.specs.Rolls.{IsRollOf}
use Rattle.water_model.specs.Indices.{outlets}
use Rattle.water_model.specs.Valid.{IsValidBasin, IsSeriesOf}
use Rattle.cert_check.specs.declared.state.Context.{Context}

-- a valid basin and a series of it, the roll of its rights, its rows by node, the area tables of its reservoirs, and
-- its last outlet
pub record IsContext (m : Context) : Type 0 where
  pub valid : IsValidBasin m.basin.now
  pub series : IsSeriesOf m.basin.now m.series.now
  pub roll : IsRollOf m.basin.now.rights m.roll
  pub rows : AreNodeRows m.basin.now m.roll m.rows
  pub tables : m.tables.items ≡ map (λ v. v.area) m.basin.now.reservoirs
  pub last : (n : ℕ) → list_all (λ other. nat_le other n) (outlets m.basin.now) ≡ nat_le m.last_outlet n

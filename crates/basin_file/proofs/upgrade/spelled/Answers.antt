use Rattle.std.proofs.Common.{refl}
use Rattle.basin_file.specs.Upgraded.{basin_table, top_keys}
use Rattle.basin_file.proofs.Fields.{put_in_order}
use Rattle.basin_file.proofs.upgrade.spelled.Goals as goal

pub returns : goal.returns
unfolding basin_table
returns c =
    rw (
      c.in_ok-put_rights-3.ensures,
      c.in_ok-put_month.ensures,
      c.in_ok-put_number-3.ensures,
      c.in_ok-put_rights-2.ensures,
      c.in_ok-put_rows-4.ensures,
      c.in_ok-put_number-2.ensures,
      c.in_ok-put_rows-3.ensures,
      c.in_ok-put_rows-2.ensures,
      c.in_ok-put_rows.ensures,
      c.in_ok-put_number.ensures,
      c.in_ok-put_rights.ensures,
      c.new-top.ensures.empty,
      c.as_slice-reservoirs.ensures,
      c.as_slice-returns.ensures,
      c.as_slice-nodes.ensures,
      c.as_slice-links.ensures,
      c.from.ensures,
      c.from-2.ensures,
    ) (put_in_order (top_keys c.args.basin.now) refl)

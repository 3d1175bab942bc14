use Rattle.std.proofs.Common.{◌≡◌, ◌++◌, ◌+◌, ◌<◌, List, length, get_or, drop, map, ap, sym, subst, ◌∙◌, refl}
use Rattle.std.specs.Prelude.{filter}
use Rattle.toml.specs.Data.{Data, table}
use Rattle.toml.specs.View.{view}
use Rattle.toml.proofs.Views.{view-Table}
use Rattle.water_model.specs.declared.types.Right.{Right}
use Rattle.basin_file.specs.BasinFaults.{is_in_table}
use Rattle.basin_file.specs.Upgraded.{right_row}
use Rattle.basin_file.proofs.Loops.{pushed, skipped, mapped, passes_first, fails_first}
use Rattle.basin_file.proofs.upgrade.rights_of.Goals.{then-is_in_table+in_ok-right_row+in_ok-push, else-is_in_table}
use Rattle.basin_file.proofs.upgrade.rights_of.Goals as goal

pub loop-right-preserved : goal.loop-right-preserved
loop-right-preserved c =
    let made = c.loop-right.list.items in
    let rights = c.args.basin.now.rights in
    let i = c.loop-right.right-index in
    let right = c.right-item.result in
    let passes = λ (r : Right). is_in_table c.args.which r.kind in
    let made_of = λ (r : Right). table (right_row c.args.basin.now r) in
    let rest = λ (rs : List Right). map made_of (filter passes rs) in
    let within = subst (λ (rs : List Right). i < length rs) c.as_slice-right-items.ensures c.loop-right-test.true in
    let at =
    subst (λ (rs : List Right). right ≡ get_or rs i right) c.as_slice-right-items.ensures c.right-item.is in
    elim c.if-is_in_table.branch [
      | then-is_in_table+in_ok-right_row+in_ok-push w ↦
          rw w.list-is
          (ap (λ (list : List Data). list ++ rest (drop (i + 1) rights))
          (mapped view made w.push.new.self.items _ (made_of right) w.in_ok-push.ensures.items
          (view-Table w.in_ok-right_row.field-0 ∙ ap table w.in_ok-right_row.ensures))
          ∙ pushed rest (map view made) rights i right right (made_of right) (rest rights) within at
          (passes_first made_of passes right (drop (i + 1) rights)
          (sym c.is_in_table.ensures ∙ w.if-is_in_table.true)) c.loop-right.invariant)
      | else-is_in_table w ↦
          rw w.list-is
          (skipped rest (map view made) rights i right right (rest rights) within at
          (fails_first made_of passes right (drop (i + 1) rights)
          (sym c.is_in_table.ensures ∙ w.if-is_in_table.false)) c.loop-right.invariant)
    ]

pub loop-right-init : goal.loop-right-init
loop-right-init c = rw c.new-list.ensures.items refl

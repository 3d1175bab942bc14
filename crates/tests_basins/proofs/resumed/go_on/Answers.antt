use Rattle.std.proofs.Common.{◌≡◌, refl, List, [], ◌∷◌, ◌++◌}
use Rattle.std.specs.Prelude.{map, Box}
use Rattle.std.specs.Global.{Global}
use Rattle.water_model.specs.declared.types.MonthRecord.{MonthRecord}
use Rattle.tests_basins.proofs.resumed.go_on.Goals as goal

-- one record, alone in a list
one_kept : (kept empty : List (Box MonthRecord Global)) (one : Box MonthRecord Global) → kept ≡ empty ++ one ∷ [] →
    empty ≡ [] → map (λ m. m.value) kept ≡ one.value ∷ []
one_kept kept empty one pushed new = rw (pushed, new) refl

pub solve_later-requires-clause-months : goal.solve_later-requires-clause-months
solve_later-requires-clause-months g c =
    rw (
      c.as_slice.ensures.value,
      one_kept c.push.new.self.items c.new-kept.result.items c.in_ok-record_of.field-0 c.in_ok-push.ensures.items
          c.new-kept.ensures.items,
    )
    c.in_ok-record_of.ensures

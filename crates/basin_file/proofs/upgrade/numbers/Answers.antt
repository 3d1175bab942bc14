use Rattle.std.proofs.Common.{ℕ, ◌++◌, ◌+◌, List, drop, map, get_or, refl, ap, ◌∙◌, arith}
use Rattle.toml.specs.Data.{Data}
use Rattle.toml.specs.View.{view}
use Rattle.basin_file.specs.Upgraded.{number}
use Rattle.basin_file.proofs.Loops.{pushed, mapped}
use Rattle.basin_file.proofs.upgrade.numbers.Goals as goal

pub loop-n-preserved : goal.loop-n-preserved
loop-n-preserved c =
    let made = c.loop-n.list.items in
    let amounts = c.args.amounts.now in
    let i = c.loop-n.n-index in
    let n = get_or amounts i 0 in
    let rest = λ (ns : List ℕ). map number ns in
    ap (λ (list : List Data). list ++ rest (drop (i + 1) amounts))
    (mapped view made c.push.new.self.items c.number.result (number n) c.in_ok-push.ensures.items c.number.ensures)
    ∙ pushed rest (map view made) amounts i n 0 (number n) (rest amounts) c.loop-n-test.true refl refl
    c.loop-n.invariant

pub number-requires : goal.number-requires
number-requires c = omega (arith, c.requires c.loop-n.n-index 0 c.loop-n-test.true)

pub loop-n-init : goal.loop-n-init
loop-n-init c = rw c.in_ok-list.ensures.items refl

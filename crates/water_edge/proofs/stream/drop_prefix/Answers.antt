use Rattle.std.proofs.Common.{◌≡◌, ◌-◌, length, take, drop, sym, ap, ◌∙◌, zero-add, arith, rules, length-drop, take_all}
use lib.Seq.{paste}
use Rattle.std.proofs.lemmas.List.{places}
use Rattle.std.proofs.lemmas.List.Edits.{take-paste}
use Rattle.arrayvec.proofs.ArrayVecLemmas.{items-with_items}
use Rattle.water_edge.proofs.stream.drop_prefix.Goals as goal

pub returns : goal.returns
returns c =
    let all = c.as_mut_slice.result.now in
    let left = c.len-len.result - c.args.count in
    let rest = drop c.args.count all in
    let long : length all ≡ c.len-len.result = search rules in
    let short : length rest ≡ left = omega (arith, length-drop c.args.count all) in
    let moved = items-with_items c.args.bytes.now c.copy_within.new.self (search (rules, places)) in
    c.truncate.ensures.items ∙ ap (take left) (moved ∙ c.copy_within.ensures.after)
    ∙ ap (λ k. take k (paste all 0 rest left)) (sym (zero-add left))
    ∙ take-paste all 0 rest left (omega arith) (omega arith)
    ∙ take_all left rest (omega arith) ∙ ap (drop c.args.count) c.as_mut_slice.ensures.value

use Rattle.std.proofs.Common.{false, sym, ◌∙◌, arith}
use Rattle.std.specs.Option.{option_map_or}
use Rattle.bit_words.specs.Marks.{is_marked}
use Rattle.water_model.specs.History.{cut_of}
use Rattle.water_model.specs.Lookups.{has}
use Rattle.cut_cert.specs.Callers.{caller_at, is_short}
use Rattle.cut_cert.proofs.Claims.{set_holds, turn_gives}
use Rattle.cut_cert.proofs.calls.call_from.Goals as goal

pub returns-in-Some-clause-given : goal.returns-in-Some-clause-given
returns-in-Some-clause-given c = λ n below.
    let m = c.args.month.now in
    let right = c.args.right in
    c.claim.ensures.given n below
    ∙ turn_gives (is_short m right)
    (option_map_or (λ set. has set n) (cut_of m right) false)
    right (caller_at c.args.callers.now n) (is_marked c.args.free.now n) (is_marked c.in-Some.set.now n)
    (c.requires.free n below) (sym c.is_short.ensures ∙ c.if-not-is_short.false)
    (set_holds m.cuts.nodes n c.in-Some.set.now (cut_of m right) c.in-Some.ensures.set
    (omega (arith, below, c.requires.nodes)))

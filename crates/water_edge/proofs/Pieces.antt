-- What a loop over std's `write` has done so far, where the writer's bytes are known.
use Rattle.std.proofs.Common.{◌≡◌, ℕ, ◌+◌, ◌-◌, List, [], length, take, drop, sym, subst, append-nil}
use Rattle.std.proofs.Math.Seq.{take-add}
use Rattle.std.specs.declared.option.Option.{Option}
use Rattle.std.specs.Io.KnownBytes.{Appends}
use Rattle.std.proofs.KnownBytes.{Appends-trans}
use Rattle.std.proofs.lemmas.List.{take_rest}

-- one write more of `&piece[done..]`
pub wrote_more : (old mid new : Option (List ℕ)) (piece : List ℕ) (done count : ℕ) → Appends old mid (take done piece) →
    Appends mid new (take count (take (length piece - done) (drop done piece))) →
    Appends old new (take (done + count) piece)
wrote_more old mid new piece done count before more =
    let rest = rw take_rest at more in
    subst (Appends old new) (sym (take-add done count piece))
    (Appends-trans old mid new (take done piece) _ before rest)

-- a write that took nothing
pub wrote_none : (old mid new : Option (List ℕ)) (prefix rest : List ℕ) (count : ℕ) → count ≡ 0 →
    Appends old mid prefix → Appends mid new (take count rest) → Appends old new prefix
wrote_none old mid new prefix rest count none before more =
    let nothing : Appends mid new [] = subst (λ n. Appends mid new (take n rest)) none more in
    subst (Appends old new) (append-nil prefix) (Appends-trans old mid new prefix [] before nothing)

use Rattle.std.proofs.Common.{ℕ, ◌≡◌, ◌⊎◌, ◌+◌, ◌-◌, ◌<◌, ◌≤◌, slice_set, subst, arith, inl, inr}
use Rattle.std.proofs.lemmas.Bool.Decides.{nat_tests}
use mir.Val.{bool_byte}
use lib.Dec.{leb}
use Rattle.residual_tree.proofs.Gathers.{gathered_more, gathered_passed}
use Rattle.residual_tree.proofs.tracing.take_step.Goals as goal
use Rattle.residual_tree.proofs.tracing.take_step.Goals.{then-left-walk, else-left-walk}

-- a step that has no more room than the walk carries is counted
counted : (left amount count : ℕ) → count ≡ bool_byte (leb left amount) →
    ((count ≡ 1) × (left ≤ amount)) ⊎ ((count ≡ 0) × (amount < left))
counted left amount count is = grind (arith, nat_tests)

pub returns-clause-gathered : goal.returns-clause-gathered
returns-clause-gathered c =
    let first = c.args.walk.first in
    let full = c.args.walk.full in
    let amount = c.args.walk.amount in
    let left = c.room-left.result in
    let least = c.min.ensures in
    elim (counted left amount c.from.result c.from.ensures) [
      | inl w ↦
          let all : c.min.result ≡ left = omega (arith, least, w.1) in
          rw (w.0, all) (gathered_more c.args.circ.now first (first - 1) full c.if-left-walk.from amount left
          c.args.step c.requires.kept c.requires.arc (omega (arith, c.requires.apart))
          (omega (arith, c.requires.apart)) c.requires.gathered c.room-left.ensures
          (elim c.if-left-walk.branch [
            | then-left-walk v ↦ inr (v.from-is, omega (arith, v.if-left-walk))
            | else-left-walk v ↦ inl (v.from-is, omega (arith, v.if-left-walk, w.1))
          ]) c.scratch_set.ensures.written c.scratch_set-2.ensures.written)
      | inr w ↦
          let all : c.min.result ≡ amount = omega (arith, least, w.1) in
          let from : c.if-left-walk.from ≡ full = elim c.if-left-walk.branch [
            | then-left-walk v ↦ absurd (omega (arith, v.if-left-walk, w.1))
            | else-left-walk v ↦ v.from-is
          ] in
          let same : c.if-left-walk.from + c.from.result ≡ full = omega (arith, w.0, from) in
          rw (same, all) (gathered_passed c.args.circ.now first (first - 1) full amount left c.args.step
          c.requires.kept (omega (arith, c.requires.apart)) (omega (arith, c.requires.apart)) c.requires.gathered
          c.room-left.ensures w.1 c.scratch_set.ensures.written
          (subst (λ (n : ℕ). c.scratch_set-2.new.self
          ≡ record c.scratch_set.new.self { scratch = slice_set c.scratch_set.new.self.scratch n c.args.step }) from
          c.scratch_set-2.ensures.written))
    ]

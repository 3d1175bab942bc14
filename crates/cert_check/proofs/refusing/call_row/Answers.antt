use Rattle.std.proofs.Common.{refl, sym, ◌∙◌}
use Rattle.cert_check.proofs.refusing.call_row.Goals as goal

pub returns-then-called_wrong : goal.returns-then-called_wrong
returns-then-called_wrong c = λ t k.
    let loose = sym (c.cut_loose.ensures t k) ∙ c.if-cut_loose.false in
    let missing = sym (c.cut_missing.ensures t k) ∙ c.if-cut_missing.false in
    let needless = sym (c.cut_needless.ensures t k.month.shows) ∙ c.if-cut_needless.false in
    let called = sym (c.called_wrong.ensures t k) ∙ c.if-called_wrong.true in
    rw (loose, missing, needless, called) refl

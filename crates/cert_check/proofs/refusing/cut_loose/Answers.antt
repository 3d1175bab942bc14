use Rattle.std.proofs.Common.{sym, ◌∙◌}
use Rattle.cert_check.proofs.refusing.cut_loose.Goals as goal

pub is_loose-requires-clause-supply : goal.is_loose-requires-clause-supply
is_loose-requires-clause-supply c =
    c.requires.ready (sym c.is_member.ensures ∙ c.if-is_member.false) c.in-Some.right c.in-Some.is

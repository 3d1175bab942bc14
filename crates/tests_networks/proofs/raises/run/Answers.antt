use Rattle.std.proofs.Common.{sym, subst}
use Rattle.circulation.specs.Places.{HasWords}
use Rattle.tests_networks.proofs.raises.run.Goals as goal

pub words_mut-requires : goal.words_mut-requires
words_mut-requires g c = c.in_ok-laid.ensures.1.used

pub lend-circ-requires : goal.lend-circ-requires
lend-circ-requires g c = (
  c.in_ok-laid.ensures.0,
  subst (HasWords c.in_ok-laid.laid.circ c.in_ok-laid.ensures.0) (sym c.words_mut.ensures.words)
      c.in_ok-laid.ensures.1.words,
)

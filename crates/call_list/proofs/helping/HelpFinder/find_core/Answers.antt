use Rattle.std.proofs.Common.{arith, ◌∙◌, ap, length}
use Rattle.call_list.proofs.Keeping.{core_kept}
use Rattle.call_list.proofs.helping.HelpFinder.find_core.Goals as goal

pub keep-requires-clause-right : goal.keep-requires-clause-right
keep-requires-clause-right c =
    let is = rw (← c.self.view_is) at c.requires.finder in omega (arith, is.rights, c.requires.right)

pub keep-requires-clause-nodes : goal.keep-requires-clause-nodes
keep-requires-clause-nodes c =
    let is = rw (← c.self.view_is) at c.requires.finder in
    omega (arith, ap length c.core.ensures, c.find_core.ensures.core.upstream.one_each, is.nodes)

pub keep-requires-clause-bounded : goal.keep-requires-clause-bounded
keep-requires-clause-bounded c =
    omega (
      arith,
      ap length c.core.ensures,
      c.find_core.ensures.core.upstream.one_each,
      c.requires.plan.valid.bounded.nodes,
    )

pub returns-clause-finder : goal.returns-clause-finder
returns-clause-finder c =
    let is = rw (← c.self.view_is) at c.requires.finder in record {
      search = c.find_core.ensures.search;
      rights = c.keep.ensures.rights ∙ is.rights;
      nodes = c.keep.ensures.nodes ∙ is.nodes;
    }

pub returns-clause-core : goal.returns-clause-core
returns-clause-core c =
    core_kept (rw (← c.self.view_is) at c.requires.finder) c.requires.right
    (rw c.core.ensures c.find_core.ensures.core) c.keep.ensures

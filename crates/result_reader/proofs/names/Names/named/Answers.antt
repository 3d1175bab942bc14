use Rattle.std.proofs.Common.{sym}
use Rattle.basin_names.proofs.Names.{named-at}
use Rattle.result_reader.proofs.names.Names.named.Goals as goal

pub returns-then-has_name : goal.returns-then-has_name
returns-then-has_name c = record {
  value = rw (c.has_name.ensures.same c.if-has_name.true) (sym (named-at c.args.self.now.basin.now c.requires
      c.args.space c.args.likely (c.has_name.ensures.within c.if-has_name.true)));
}

use Rattle.std.proofs.Common.{arith}
use Rattle.water_model.specs.Basin.{is_outlet}
use Rattle.water_model.specs.Indices.{numbers_from}
use Rattle.std.specs.Prelude.{nat_le, filter}
use Rattle.std.specs.List.{list_all}
use Rattle.cert_check.proofs.Beginnings.{no_outlet, last_more, most_more}
use Rattle.cert_check.proofs.opening.last_outlet.Goals as goal

pub loop-node-init : goal.loop-node-init
loop-node-init c = record { last = λ n. no_outlet (λ v. is_outlet c.args.basin.now v) n; most = omega arith }

pub loop-node-preserved : goal.loop-node-preserved
loop-node-preserved c = record {
  last = λ n. rw c.last_with-last.ensures (last_more (λ v. is_outlet c.args.basin.now v) n
      c.loop-node.invariant.most (c.loop-node.invariant.last n));
  most = rw c.last_with-last.ensures
      (most_more (is_outlet c.args.basin.now c.loop-node.node) c.loop-node.invariant.most);
}

pub returns : goal.returns
returns c = grind (arith, list_all, nat_le, filter, is_outlet, numbers_from)

use Rattle.std.proofs.Common.{◌∙◌, subst, inr, arith, ℕ, List, Option, length-take}
use Rattle.std.specs.Prelude.{IfSome}
use Rattle.water_edge.specs.Edge.{IsPart}
use Rattle.basin_cli.proofs.Failing.{asks_again}
use Rattle.basin_cli.proofs.Parts.{finished_whole, next_fed, refused_whole, still_can}
use Rattle.basin_cli.proofs.checking.answer_parts.Goals as goal

pub returns-then-count-eq0-clause-answer : goal.returns-then-count-eq0-clause-answer
returns-then-count-eq0-clause-answer g c =
    let i = c.loop-count.invariant in
    rw (i.basin, i.series) at
    (finished_whole c.args.question (g.S.Shelf.known c.args.shelf.now c.args.name.now) c.loop-count.checker
    c.loop-count.from
    c.in-Ok.count
    c.loop-count.part c.read_part.new.into c.finish.result c.if-count-eq0.true (omega (arith, i.part)) i.fed
    (subst (λ (known : Option (List ℕ)). IfSome known
    (λ whole. IsPart whole c.loop-count.from c.loop-count.part c.read_part.new.into c.in-Ok.count))
    (i.same.known c.args.name.now) c.in-Ok.ensures.part.1)
    c.finish.ensures)

pub returns-in-Err-feed-clause-answer : goal.returns-in-Err-feed-clause-answer
returns-in-Err-feed-clause-answer g c =
    let i = c.loop-count.invariant in
    rw (i.basin, i.series) at
    (refused_whole c.args.question (g.S.Shelf.known c.args.shelf.now c.args.name.now) c.loop-count.checker
    c.loop-count.from
    c.in-Ok.count
    c.loop-count.part c.read_part.new.into c.in-Err-feed.refuted i.fed
    (subst (λ (known : Option (List ℕ)). IfSome known
    (λ whole. IsPart whole c.loop-count.from c.loop-count.part c.read_part.new.into c.in-Ok.count))
    (i.same.known c.args.name.now) c.in-Ok.ensures.part.1)
    c.in-Err-feed.ensures.refused)

pub returns-then-count-eq0-clause-reads : goal.returns-then-count-eq0-clause-reads
returns-then-count-eq0-clause-reads g c =
    asks_again _ _ _ c.args.name.now c.loop-count.invariant.asked c.read_part.ensures.asked

pub returns-in-Err-feed-clause-reads : goal.returns-in-Err-feed-clause-reads
returns-in-Err-feed-clause-reads g c =
    asks_again _ _ _ c.args.name.now c.loop-count.invariant.asked c.read_part.ensures.asked

pub returns-in-Err-clause-reads : goal.returns-in-Err-clause-reads
returns-in-Err-clause-reads g c =
    asks_again _ _ _ c.args.name.now c.loop-count.invariant.asked c.read_part.ensures.asked

pub loop-count-preserved : goal.loop-count-preserved
loop-count-preserved g c =
    let i = c.loop-count.invariant in
    let read = c.in-Ok.ensures in
    let fed = c.in_default.ensures in
    record {
      same = record {
        known = λ name. read.same.known name ∙ i.same.known name;
        served = λ name served. read.same.served name (i.same.served name served);
      };
      later = omega (arith, i.later, read.cause.later);
      asked =
          inr (asks_again _ _ _ c.args.name.now i.asked read.asked);
      part = read.length ∙ i.part;
      fed = next_fed (g.S.Shelf.known c.args.shelf.now c.args.name.now) c.loop-count.checker c.feed.new.self
          c.loop-count.from
          c.in-Ok.count c.loop-count.part c.read_part.new.into (omega (arith, c.if-count-eq0.false)) i.fed
          (subst (λ (known : Option (List ℕ)). IfSome known
          (λ whole. IsPart whole c.loop-count.from c.loop-count.part c.read_part.new.into c.in-Ok.count))
          (i.same.known c.args.name.now) read.part.1)
          fed.stands;
      good = fed.good;
      can = still_can c.args.question c.loop-count.checker c.feed.new.self fed.audit i.can;
      left = omega (arith, fed.left, i.left, read.part.0, read.length, length-take c.in-Ok.count c.read_part.new.into);
      basin = fed.basin ∙ i.basin;
      series = fed.series ∙ i.series;
    }

use Rattle.std.proofs.Common.{◌<◌, ◌∙◌, List, ℕ, length, not, sym, ap, subst, map}
use Rattle.std.specs.Prelude.{◌==◌, slice_index}
use Rattle.std.proofs.lemmas.List.{length-map}
use Rattle.water_model.specs.Hydrology.{returned_at, used_of}
use Rattle.water_model.specs.Entries.{count_in}
use Rattle.result_lines.specs.Quantities.{space_of}
use Rattle.cert_check.proofs.refusing.quantity_wrong.Goals as goal

pub returns-in-Evaporated : goal.returns-in-Evaporated
returns-in-Evaporated c = λ t k way.
    rw c.in-Evaporated.is (c.evaporation_wrong.ensures c.args.context.now.series.now t k.month.shows)

pub returns-in-Returned : goal.returns-in-Returned
returns-in-Returned c = λ t k way.
    let node : c.args.entry < length c.args.context.now.basin.now.nodes =
    subst (λ q. c.args.entry < count_in (space_of q) c.args.context.now.basin.now) c.in-Returned.is c.requires.entry in
    rw c.in-Returned.is (c.differs-in-Returned.ensures ∙ ap (λ n. not (c.args.amount == n))
    (ap (λ (xs : List ℕ). slice_index xs c.args.entry) c.as_slice-in-Returned.ensures
    ∙ (k.left.comes.each c.args.entry node
    ∙ ap (returned_at c.args.context.now.basin.now (map (λ m. m.delivered) t.months) c.args.entry)
    (length-map t.months (λ m. m.delivered) ∙ sym way.index))))

pub returns-in-Used : goal.returns-in-Used
returns-in-Used c = λ t k way.
    let right : c.args.entry < length c.args.context.now.basin.now.rights =
    subst (λ q. c.args.entry < count_in (space_of q) c.args.context.now.basin.now) c.in-Used.is c.requires.entry in
    rw c.in-Used.is (c.differs-in-Used.ensures ∙ ap (λ n. not (c.args.amount == n))
    (ap (λ (xs : List ℕ). slice_index xs c.args.entry) c.as_slice-in-Used.ensures
    ∙ (k.left.used.each c.args.entry right
    ∙ ap (used_of c.args.context.now.basin.now (map (λ m. m.delivered) t.months) c.args.entry)
    (length-map t.months (λ m. m.delivered) ∙ sym way.index))))

pub returns-in-Flow : goal.returns-in-Flow
returns-in-Flow c = λ t k way.
    rw c.in-Flow.is (c.flow_wrong.ensures c.args.context.now.series.now t k.month.shows)

pub balance_wrong-requires-clause-context : goal.balance_wrong-requires-clause-context
balance_wrong-requires-clause-context c = c.requires.context

pub closing_wrong-requires-clause-context : goal.closing_wrong-requires-clause-context
closing_wrong-requires-clause-context c = c.requires.context

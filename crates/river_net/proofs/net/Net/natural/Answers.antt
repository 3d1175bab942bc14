use Rattle.std.proofs.Common.{◌≡◌, ℕ, ◌<◌, ◌≤◌, get_or, length, slice_index, List, Option, None, arith, ap, sym}
use Rattle.std.proofs.Common.{◌∙◌}
use Rattle.std.proofs.lemmas.List.{get_or-replicate, get_or_default}
use Rattle.std.specs.Prelude.{slice_index_or}
use Rattle.finite_sums.specs.Sums.{total}
use Rattle.water_model.specs.declared.types.Link.{Link}
use Rattle.water_model.specs.declared.types.Node.{Node}
use Rattle.river_net.specs.NetView.{NetView}
use Rattle.river_net.specs.Net.{IsNet, total_of}
use Rattle.river_net.proofs.Runs.{running_start, send_fits, send_done, runs_naturally}
use Rattle.river_net.proofs.net.Net.natural.Goals as goal

-- what is read of the first rivers
river_read : {rivers seen : List (Option ℕ)} {n node : ℕ} {o : Option ℕ} → rivers ≡ seen → n ≡ node →
    node < length seen → o ≡ get_or rivers n o → o ≡ slice_index_or seen node None
river_read {rivers} {seen} {n} {node} {o} same at l read = let default = get_or_default seen node o None l in cc

-- a position in the order is below the number of nodes
index_in : {nodes : List Node} {links : List Link} {net : NetView} {items : List ℕ} {i : ℕ} → IsNet nodes links net →
    items ≡ net.order → i < length items → i < length nodes
index_in is same l = omega (arith, ap length same, is.run.count)

-- the node at a position has an index among the first rivers
node_in : {nodes : List Node} {links : List Link} {net : NetView} {i : ℕ} → IsNet nodes links net → i < length nodes →
    slice_index net.order i < length net.rivers
node_in {i = i} is l = let b = is.run.below i l in omega (arith, is.river_count)

pub loop-node-init : goal.loop-node-init
loop-node-init c = λ nodes links net sound. let dry = c.fill.ensures.after (λ y h. h) in
    let here = c.copy_from_slice.ensures.after in
    running_start (λ e l. ap (λ (xs : List ℕ). slice_index xs e) dry
    ∙ get_or-replicate {A = ℕ} (length c.args.flow.now) e 0 0 (omega (arith, c.requires.flow, net.head_count)))
    (λ v l. ap (λ (xs : List ℕ). slice_index xs v) here)

-- the amounts of as many nodes as there are
amounts_of : {n : ℕ} (amounts : List ℕ) → length amounts ≡ n → total_of amounts ≡ total n (λ v. slice_index amounts v)
amounts_of amounts count = ap (λ k. total k (λ v. slice_index amounts v)) count

pub send-requires-clause-river : goal.send-requires-clause-river
send-requires-clause-river c =
    let some = c.requires.net in
    let net : IsNet some.nodes some.links c.args.self.now = some.is_net in
    let order = c.deref-node-items.ensures.value ∙ ap (λ (s : NetView). s.order) c.self.view_is in
    let heads = c.deref-heads.ensures.value ∙ ap (λ (s : NetView). s.heads) c.self.view_is in
    let below = index_in net order c.loop-node-test.true in
    let node = ap (λ (xs : List ℕ). slice_index xs c.loop-node.node-index) order in
    let river = river_read (ap (λ (s : NetView). s.rivers) c.self.view_is) node (node_in net below)
    c.index-river.ensures in
    let bounded = amounts_of c.args.supply.now (c.requires.supply ∙ net.run.count) in
    rw (river, node) (send_fits net c.deref-heads.result.now c.loop-node.flow c.loop-node.out
    (rw bounded at c.requires.small) below heads
    (c.loop-node.auto.flow ∙ (c.fill.ensures.len ∙ (c.requires.flow ∙ net.head_count)))
    (c.loop-node.auto.out ∙ (c.copy_from_slice.ensures.len ∙ (c.requires.out ∙ net.run.count)))
    (c.loop-node.invariant some.nodes some.links net some.sound))

pub loop-node-preserved : goal.loop-node-preserved
loop-node-preserved c = λ nodes links net sound.
    let order = c.deref-node-items.ensures.value ∙ ap (λ (s : NetView). s.order) c.self.view_is in
    let heads = c.deref-heads.ensures.value ∙ ap (λ (s : NetView). s.heads) c.self.view_is in
    let below = index_in net order c.loop-node-test.true in
    let node = ap (λ (xs : List ℕ). slice_index xs c.loop-node.node-index) order in
    let river = river_read (ap (λ (s : NetView). s.rivers) c.self.view_is) node (node_in net below)
    c.index-river.ensures in
    send_done net c.deref-heads.result.now c.loop-node.flow c.send.new.flow c.loop-node.out c.send.new.out below heads
    (rw river at c.send.ensures.none) (rw (river, node) at c.send.ensures.some)
    (c.loop-node.invariant nodes links net sound)

-- all nodes of the order sent their water on
all_done : {nodes : List Node} {links : List Link} {net : NetView} {items : List ℕ} {i : ℕ} → IsNet nodes links net →
    items ≡ net.order → length items ≤ i → i ≤ length items → i ≡ length nodes
all_done is same a b = omega (arith, ap length same, is.run.count)

pub returns-clause-run : goal.returns-clause-run
returns-clause-run c = λ nodes links net sound.
    let order = c.deref-node-items.ensures.value ∙ ap (λ (s : NetView). s.order) c.self.view_is in
    let all = all_done net order c.loop-node-test.false c.loop-node.auto.node-index-end in
    runs_naturally net.run net.ends sound
    (c.loop-node.auto.flow ∙ (c.fill.ensures.len ∙ (c.requires.flow ∙ net.head_count)))
    (c.loop-node.auto.out ∙ (c.copy_from_slice.ensures.len ∙ (c.requires.out ∙ net.run.count)))
    (rw all at c.loop-node.invariant nodes links net sound)

pub returns-clause-small : goal.returns-clause-small
returns-clause-small c = λ k d below.
    let some = c.requires.net in
    let net : IsNet some.nodes some.links c.args.self.now = some.is_net in
    let bounded = amounts_of c.args.supply.now (c.requires.supply ∙ net.run.count) in
    let count : length c.loop-node.flow ≡ length some.links =
    c.loop-node.auto.flow ∙ (c.fill.ensures.len ∙ (c.requires.flow ∙ net.head_count)) in
    let small = (c.loop-node.invariant some.nodes some.links net some.sound).small k (omega arith) in
    let read = get_or_default c.loop-node.flow k d 0 below in
    omega arith

pub returns-clause-all : goal.returns-clause-all
returns-clause-all c =
    let some = c.requires.net in
    let net : IsNet some.nodes some.links c.args.self.now = some.is_net in
    amounts_of c.loop-node.out
    (c.loop-node.auto.out ∙ (c.copy_from_slice.ensures.len ∙ (c.requires.out ∙ net.run.count)))
    ∙ ((c.loop-node.invariant some.nodes some.links net some.sound).all
    ∙ sym (amounts_of c.args.supply.now (c.requires.supply ∙ net.run.count)))

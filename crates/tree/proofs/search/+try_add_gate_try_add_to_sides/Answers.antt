-- The cycle of `search::try_add_gate` and `search::try_add_to_sides` meets its contracts. Each way out is an equation of the flat offer; a side that
-- refused left the nodes as they were, so the second side is offered what the first one was. The levels fall, and a fork's sides stand between two levels.
use Rattle.std.proofs.Common.{List, ℕ, ◌≡◌, ◌∙◌, ap, sym, arith}
use Rattle.selector.specs.Flat.{Placed, offer_fork, offer_node}
use Rattle.selector.specs.FlatLaws.{fine_at, fine_right, fork_left, fork_right, leaf_new, leaf_old, leaf_yes, node_fork, node_leaf, node_none, refused}
use Rattle.selector.specs.Nodes.{left_at, right_at}
use Rattle.tree.specs.Offers.{fits_offer}
use Rattle.tree.proofs.search.+try_add_gate_try_add_to_sides.Goals.{try_add_gate-else-may_stand-via-then-may_stand+else-may_stand-2, try_add_gate-else-may_stand-via-else-may_stand}
use Rattle.tree.proofs.search.+try_add_gate_try_add_to_sides.Goals as goal

pub try_add_gate-returns-then-levels-eq0-clause-value : goal.try_add_gate-returns-then-levels-eq0-clause-value
try_add_gate-returns-then-levels-eq0-clause-value t c =
    let a = c.args in
    ap (λ (q : Placed). q.count) (sym (node_none (fits_offer a.gates.now a.offer) a.offer.gate a.nodes.now a.count a.levels a.depth a.at c.if-levels-eq0.true))

pub try_add_gate-returns-then-levels-eq0-clause-nodes_after : goal.try_add_gate-returns-then-levels-eq0-clause-nodes_after
try_add_gate-returns-then-levels-eq0-clause-nodes_after t c =
    let a = c.args in
    ap (λ (q : Placed). q.nodes) (sym (node_none (fits_offer a.gates.now a.offer) a.offer.gate a.nodes.now a.count a.levels a.depth a.at c.if-levels-eq0.true))

pub try_add_gate-returns-then-may_stand-2-clause-value : goal.try_add_gate-returns-then-may_stand-2-clause-value
try_add_gate-returns-then-may_stand-2-clause-value t c =
    let a = c.args in
    ap (λ (q : Placed). q.count) (sym (node_leaf (fits_offer a.gates.now a.offer) a.offer.gate a.nodes.now a.count a.levels a.depth a.at c.if-levels-eq0.false c.if-nodes-at-eq0.true ∙ leaf_yes (fits_offer a.gates.now a.offer) a.offer.gate a.nodes.now a.count a.depth a.at (sym c.may_stand.ensures ∙ c.if-may_stand.true) (sym c.may_stand-then-may_stand.ensures ∙ c.if-may_stand-2.true)))

pub try_add_gate-returns-then-may_stand-2-clause-nodes_after : goal.try_add_gate-returns-then-may_stand-2-clause-nodes_after
try_add_gate-returns-then-may_stand-2-clause-nodes_after t c =
    let a = c.args in
    c.split.ensures ∙ ap (λ (q : Placed). q.nodes) (sym (node_leaf (fits_offer a.gates.now a.offer) a.offer.gate a.nodes.now a.count a.levels a.depth a.at c.if-levels-eq0.false c.if-nodes-at-eq0.true ∙ leaf_yes (fits_offer a.gates.now a.offer) a.offer.gate a.nodes.now a.count a.depth a.at (sym c.may_stand.ensures ∙ c.if-may_stand.true) (sym c.may_stand-then-may_stand.ensures ∙ c.if-may_stand-2.true)))

pub try_add_gate-returns-then-nodes-at-eq0-clause-value : goal.try_add_gate-returns-then-nodes-at-eq0-clause-value
try_add_gate-returns-then-nodes-at-eq0-clause-value t c =
    let a = c.args in
    let f = fits_offer a.gates.now a.offer in
    let leaf = node_leaf f a.offer.gate a.nodes.now a.count a.levels a.depth a.at c.if-levels-eq0.false c.if-nodes-at-eq0.true in
    ap (λ (q : Placed). q.count)
    (sym (leaf ∙ elim c.else-may_stand.branch [
      | try_add_gate-else-may_stand-via-then-may_stand+else-may_stand-2 w ↦ leaf_new f a.offer.gate a.nodes.now a.count a.depth a.at (sym c.may_stand.ensures ∙ w.if-may_stand.true) (sym w.may_stand-then-may_stand.ensures ∙ w.if-may_stand-2.false)
      | try_add_gate-else-may_stand-via-else-may_stand w ↦ leaf_old f a.offer.gate a.nodes.now a.count a.depth a.at (sym c.may_stand.ensures ∙ w.if-may_stand.false)
    ]))

pub try_add_gate-returns-then-nodes-at-eq0-clause-nodes_after : goal.try_add_gate-returns-then-nodes-at-eq0-clause-nodes_after
try_add_gate-returns-then-nodes-at-eq0-clause-nodes_after t c =
    let a = c.args in
    let f = fits_offer a.gates.now a.offer in
    let leaf = node_leaf f a.offer.gate a.nodes.now a.count a.levels a.depth a.at c.if-levels-eq0.false c.if-nodes-at-eq0.true in
    ap (λ (q : Placed). q.nodes)
    (sym (leaf ∙ elim c.else-may_stand.branch [
      | try_add_gate-else-may_stand-via-then-may_stand+else-may_stand-2 w ↦ leaf_new f a.offer.gate a.nodes.now a.count a.depth a.at (sym c.may_stand.ensures ∙ w.if-may_stand.true) (sym w.may_stand-then-may_stand.ensures ∙ w.if-may_stand-2.false)
      | try_add_gate-else-may_stand-via-else-may_stand w ↦ leaf_old f a.offer.gate a.nodes.now a.count a.depth a.at (sym c.may_stand.ensures ∙ w.if-may_stand.false)
    ]))

pub try_add_gate-try_add_to_sides-requires : goal.try_add_gate-try_add_to_sides-requires
try_add_gate-try_add_to_sides-requires t c =
    let a = c.args in
    (omega arith, (c.requires.fine, omega arith))

pub try_add_gate-returns-clause-value : goal.try_add_gate-returns-clause-value
try_add_gate-returns-clause-value t c =
    let a = c.args in
    c.try_add_to_sides.ensures.value ∙ ap (λ (q : Placed). q.count) (sym (node_fork (fits_offer a.gates.now a.offer) a.offer.gate a.nodes.now a.count a.levels a.depth a.at c.if-levels-eq0.false c.if-nodes-at-eq0.false))

pub try_add_gate-returns-clause-nodes_after : goal.try_add_gate-returns-clause-nodes_after
try_add_gate-returns-clause-nodes_after t c =
    let a = c.args in
    c.try_add_to_sides.ensures.nodes_after ∙ ap (λ (q : Placed). q.nodes) (sym (node_fork (fits_offer a.gates.now a.offer) a.offer.gate a.nodes.now a.count a.levels a.depth a.at c.if-levels-eq0.false c.if-nodes-at-eq0.false))

pub try_add_to_sides-try_add_gate-taken-requires : goal.try_add_to_sides-try_add_gate-taken-requires
try_add_to_sides-try_add_gate-taken-requires t c =
    let a = c.args in
    let p = c.requires.fine in
    (omega arith, (fine_at p _ (p.lefts a.at p.here), c.requires.levels_bound))

pub try_add_to_sides-returns-then-taken-count-clause-value : goal.try_add_to_sides-returns-then-taken-count-clause-value
try_add_to_sides-returns-then-taken-count-clause-value t c =
    let a = c.args in
    let e = c.try_add_gate-taken.ensures in
    e.value ∙ sym (ap (λ (q : Placed). q.count) (fork_left (fits_offer a.gates.now a.offer) a.offer.gate a.nodes.now a.count a.levels a.depth a.at (λ z. c.if-taken-count.true (e.value ∙ z))))

pub try_add_to_sides-returns-then-taken-count-clause-nodes_after : goal.try_add_to_sides-returns-then-taken-count-clause-nodes_after
try_add_to_sides-returns-then-taken-count-clause-nodes_after t c =
    let a = c.args in
    let e = c.try_add_gate-taken.ensures in
    e.nodes_after ∙ sym (ap (λ (q : Placed). q.nodes) (fork_left (fits_offer a.gates.now a.offer) a.offer.gate a.nodes.now a.count a.levels a.depth a.at (λ z. c.if-taken-count.true (e.value ∙ z))))

pub try_add_to_sides-try_add_gate-requires : goal.try_add_to_sides-try_add_gate-requires
try_add_to_sides-try_add_gate-requires t c =
    let a = c.args in
    let e = c.try_add_gate-taken.ensures in
    let n = sym e.value ∙ c.if-taken-count.false in
    let same = e.nodes_after ∙ ap (λ (q : Placed). q.nodes) (refused (fits_offer a.gates.now a.offer) a.offer.gate a.nodes.now a.count a.levels a.depth (left_at a.nodes.now a.at) n) in
    (omega arith, (fine_right c.try_add_gate-taken.new.nodes same c.requires.fine, c.requires.levels_bound))

pub try_add_to_sides-returns-clause-value : goal.try_add_to_sides-returns-clause-value
try_add_to_sides-returns-clause-value t c =
    let a = c.args in
    let e = c.try_add_gate-taken.ensures in
    let n = sym e.value ∙ c.if-taken-count.false in
    let same = e.nodes_after ∙ ap (λ (q : Placed). q.nodes) (refused (fits_offer a.gates.now a.offer) a.offer.gate a.nodes.now a.count a.levels a.depth (left_at a.nodes.now a.at) n) in
    let ns = c.try_add_gate-taken.new.nodes in
    let at_once : offer_node a.levels (fits_offer a.gates.now a.offer) a.offer.gate a.depth (right_at ns a.at) ns a.count
    ≡ offer_fork a.levels (fits_offer a.gates.now a.offer) a.offer.gate a.depth a.at a.nodes.now a.count
    = ap (λ (l : List ℕ). offer_node a.levels (fits_offer a.gates.now a.offer) a.offer.gate a.depth (right_at l a.at) l a.count) same ∙ sym (fork_right (fits_offer a.gates.now a.offer) a.offer.gate a.nodes.now a.count a.levels a.depth a.at n) in
    c.try_add_gate.ensures.value ∙ ap (λ (q : Placed). q.count) at_once

pub try_add_to_sides-returns-clause-nodes_after : goal.try_add_to_sides-returns-clause-nodes_after
try_add_to_sides-returns-clause-nodes_after t c =
    let a = c.args in
    let e = c.try_add_gate-taken.ensures in
    let n = sym e.value ∙ c.if-taken-count.false in
    let same = e.nodes_after ∙ ap (λ (q : Placed). q.nodes) (refused (fits_offer a.gates.now a.offer) a.offer.gate a.nodes.now a.count a.levels a.depth (left_at a.nodes.now a.at) n) in
    let ns = c.try_add_gate-taken.new.nodes in
    let at_once : offer_node a.levels (fits_offer a.gates.now a.offer) a.offer.gate a.depth (right_at ns a.at) ns a.count
    ≡ offer_fork a.levels (fits_offer a.gates.now a.offer) a.offer.gate a.depth a.at a.nodes.now a.count
    = ap (λ (l : List ℕ). offer_node a.levels (fits_offer a.gates.now a.offer) a.offer.gate a.depth (right_at l a.at) l a.count) same ∙ sym (fork_right (fits_offer a.gates.now a.offer) a.offer.gate a.nodes.now a.count a.levels a.depth a.at n) in
    c.try_add_gate.ensures.nodes_after ∙ ap (λ (q : Placed). q.nodes) at_once

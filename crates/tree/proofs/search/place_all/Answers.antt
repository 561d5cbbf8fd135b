-- `search::place_all` meets its contract. The loop offers the gates after the first; its invariant is that the flat run of the whole list is that of
-- what is left, from the nodes at hand. The flat run is the definition's by `flat_grows`.
use Rattle.std.proofs.Common.{get_or, ◌∙◌, ap, sym, arith}
use Rattle.selector.specs.Nodes.{most_levels}
use Rattle.selector.specs.Flat.{Placed}
use Rattle.selector.specs.FlatLaws.{refused}
use Rattle.selector.specs.Search.{may_stand}
use Rattle.tree.proofs.SearchLaws.{grow_end, grow_fits, grow_next, grow_none, grow_not, grow_stop, stands}
use Rattle.tree.proofs.search.place_all.Goals as goal

pub returns-then-base-ge-MOST_GATES : goal.returns-then-base-ge-MOST_GATES
returns-then-base-ge-MOST_GATES c =
    let a = c.args in
    let p = c.requires in
    record { stands = stands a.extra a.target a.bound a.gates.now a.many a.base a.order.now a.nodes.now p.gate_words_in_bounds.0 p.gate_words_in_bounds.1 p.gate_words_in_bounds.2 p.gate_words_in_bounds.3 p.listed p.distinct _ _ (grow_none (may_stand a.extra a.gates.now a.target a.bound) a.gates.now a.many a.base p.gate_words_in_bounds.0 a.order.now p.gate_words_in_bounds.2 p.listed a.nodes.now a.nodes.now c.if-base-ge-MOST_GATES.true); some = tt; nodes_len = p.gate_words_in_bounds.3 }

pub returns-then-taken-count : goal.returns-then-taken-count
returns-then-taken-count c =
    let l = c.loop-i in
    let a = c.args in
    let p = c.requires in
    let e = c.try_add_gate-taken.ensures in
    let n = sym e.value ∙ c.if-taken-count.true in
    let kept = e.nodes_after ∙ ap (λ (z : Placed). z.nodes) (refused (may_stand a.extra a.gates.now a.target a.bound) (get_or a.order.now l.i 0) l.nodes l.count most_levels 0 0 n) in
    rw kept record {
      stands = stands a.extra a.target a.bound a.gates.now a.many a.base a.order.now a.nodes.now p.gate_words_in_bounds.0 p.gate_words_in_bounds.1 p.gate_words_in_bounds.2 p.gate_words_in_bounds.3 p.listed p.distinct _ _
          (grow_fits (may_stand a.extra a.gates.now a.target a.bound) a.gates.now a.many a.base p.gate_words_in_bounds.0 a.order.now p.gate_words_in_bounds.2 p.listed _ a.nodes.now c.if-base-ge-MOST_GATES.false c.put_node.ensures (sym c.may_stand.ensures ∙ c.if-not-may_stand.false)
          ∙ grow_stop (may_stand a.extra a.gates.now a.target a.bound) a.gates.now a.many a.base p.gate_words_in_bounds.0 a.order.now p.gate_words_in_bounds.2 p.listed _ l.nodes l.count l.i l.invariant c.loop-i-test.true n);
      some = tt;
      nodes_len = l.invariant.long;
    }

pub loop-i-preserved : goal.loop-i-preserved
loop-i-preserved c =
    let l = c.loop-i in
    let a = c.args in
    let p = c.requires in
    let e = c.try_add_gate-taken.ensures in
    rw (e.value, e.nodes_after) (grow_next (may_stand a.extra a.gates.now a.target a.bound) a.gates.now a.many a.base p.gate_words_in_bounds.0 a.order.now p.gate_words_in_bounds.2 p.listed _ l.nodes l.count l.i l.invariant c.loop-i-test.true (λ z. c.if-taken-count.false (e.value ∙ z)))

pub returns : goal.returns
returns c =
    let l = c.loop-i in
    let a = c.args in
    let p = c.requires in record {
      stands = stands a.extra a.target a.bound a.gates.now a.many a.base a.order.now a.nodes.now p.gate_words_in_bounds.0 p.gate_words_in_bounds.1 p.gate_words_in_bounds.2 p.gate_words_in_bounds.3 p.listed p.distinct _ _
          (grow_fits (may_stand a.extra a.gates.now a.target a.bound) a.gates.now a.many a.base p.gate_words_in_bounds.0 a.order.now p.gate_words_in_bounds.2 p.listed _ a.nodes.now c.if-base-ge-MOST_GATES.false c.put_node.ensures (sym c.may_stand.ensures ∙ c.if-not-may_stand.false)
          ∙ grow_end (may_stand a.extra a.gates.now a.target a.bound) a.gates.now a.many a.base p.gate_words_in_bounds.0 a.order.now p.gate_words_in_bounds.2 p.listed _ l.nodes l.count l.i l.invariant c.loop-i-test.false);
      some = omega (arith, l.invariant.twice, l.invariant.some);
      nodes_len = l.invariant.long;
    }

pub returns-then-not-may_stand : goal.returns-then-not-may_stand
returns-then-not-may_stand c =
    let a = c.args in
    let p = c.requires in record {
      stands = stands a.extra a.target a.bound a.gates.now a.many a.base a.order.now a.nodes.now p.gate_words_in_bounds.0 p.gate_words_in_bounds.1 p.gate_words_in_bounds.2 p.gate_words_in_bounds.3 p.listed p.distinct _ _
          (grow_not (may_stand a.extra a.gates.now a.target a.bound) a.gates.now a.many a.base p.gate_words_in_bounds.0 a.order.now p.gate_words_in_bounds.2 p.listed a.nodes.now a.nodes.now c.if-base-ge-MOST_GATES.false (sym c.may_stand.ensures ∙ c.if-not-may_stand.true));
      some = tt;
      nodes_len = p.gate_words_in_bounds.3;
    }

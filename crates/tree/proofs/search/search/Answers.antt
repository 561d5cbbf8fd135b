-- `search::search` meets its contract: the targets that are left, from the present one on, have the first tree of all.
use Rattle.std.proofs.Common.{◌+◌, ◌-◌, ◌≤◌, ◌≡◌, ◌∙◌, ap, refl, arith}
use Rattle.base.specs.Limits.{most_gates}
use Rattle.base.specs.Exponent.{exponent, exponent-least}
use Rattle.selector.proofs.RecordLaws.{top-constants, top-degree}
use Rattle.selector.specs.Search.{factor_of, targets}
use Rattle.tree.proofs.SearchLaws.{bounds_are, cap-next, order_distinct, order_listed, search_begin, target_lost, target_none, target_won, within}
use Rattle.tree.proofs.search.search.Goals as goal

pub factor_of-target-requires : goal.factor_of-target-requires
factor_of-target-requires c =
    let a = c.args in
    let p = c.requires in
    let r = c.arrange-ranged in
    omega (arith, r.ensures.degree_value, top-degree a.gates.now a.many a.extra p.sound)

pub overflow_add-left-2 : goal.overflow_add-left-2
overflow_add-left-2 c =
    let r = c.arrange-ranged in
    let few : exponent (most_gates - r.result.base) ≤ 7 = exponent-least (most_gates - r.result.base) 7 (omega arith) in
    omega (arith, c.power_above-levels.ensures.0)

pub loop-init : goal.loop-init
loop-init c =
    let a = c.args in
    let p = c.requires in
    let r = c.arrange-ranged in (
      omega (arith, c.factor_of-target.ensures.1),
      p.nodes_len,
      search_begin a.gates.now a.many a.extra _ (c.factor_of-target.ensures.0 ∙ ap factor_of r.ensures.degree_value),
    )

pub try_find_placement_for_degree-requires : goal.try_find_placement_for_degree-requires
try_find_placement_for_degree-requires c =
    let a = c.args in
    let p = c.requires in
    let r = c.arrange-ranged in
    let l = c.loop in
    let w = c.power_above-levels in
    let few : exponent (most_gates - r.result.base) ≤ 7 = exponent-least (most_gates - r.result.base) 7 (omega arith) in
    let q = top-constants a.gates.now a.many a.extra p.sound in record { gate_words_in_bounds = (p.sound.all, omega (arith, r.ensures.constants_value, w.ensures.0), r.ensures.order_len_2.0, l.invariant.1); listed = order_listed a.gates.now a.many a.extra r.new.order r.result.base r.ensures.order_after; distinct = order_distinct a.gates.now a.many a.extra r.new.order r.result.base r.ensures.order_after }

pub returns-in-Some : goal.returns-in-Some
returns-in-Some c =
    let a = c.args in
    let r = c.arrange-ranged in
    let l = c.loop in
    let w = c.power_above-levels in
    let e = c.in-Some.ensures in record {
      stands = rw l.invariant.2 (target_won a.many (within a.gates.now a.many a.extra) (targets - l.counter) l.target _ _ (omega (arith, c.loop-test.true))
          (rw (bounds_are a.gates.now a.many a.extra r.new.order r.result.base r.ensures.order_after l.target _ _ r.ensures.order_len_2.0 w.ensures.0 r.ensures.constants_value) at e.stands) (λ z. omega (arith, z, e.some)));
      some = e.some;
      nodes_len_2 = e.nodes_len;
    }

pub loop-preserved : goal.loop-preserved
loop-preserved c =
    let a = c.args in
    let r = c.arrange-ranged in
    let l = c.loop in
    let w = c.power_above-levels in
    let e = c.in_default.ensures in
    let q : targets - (l.counter + 1) ≡ targets - l.counter - 1 = omega arith in (
      rw q (cap-next (targets - l.counter) l.target (omega (arith, c.loop-test.true)) (omega arith) l.invariant.0),
      e.nodes_len,
      rw q (l.invariant.2 ∙ target_lost a.many (within a.gates.now a.many a.extra) (targets - l.counter) l.target _ _ (omega (arith, c.loop-test.true))
          (rw (bounds_are a.gates.now a.many a.extra r.new.order r.result.base r.ensures.order_after l.target _ _ r.ensures.order_len_2.0 w.ensures.0 r.ensures.constants_value) at e.stands) refl),
    )

pub returns : goal.returns
returns c =
    let a = c.args in
    let l = c.loop in
    record { stands = rw (l.invariant.2 ∙ target_none a.many (within a.gates.now a.many a.extra) (targets - l.counter) l.target (omega (arith, c.loop-test.false))) refl; some = tt; nodes_len_2 = l.invariant.1 }

-- `search::try_find_placement_for_degree` meets its contract: the bounds that are left, from the present one on, have the first tree of all.
use Rattle.std.proofs.Common.{◌+◌, ◌-◌, ◌∙◌, ◌≡◌, refl, arith}
use Rattle.tree.proofs.SearchLaws.{bound-lost, bound-none, bound_won}
use Rattle.tree.proofs.search.try_find_placement_for_degree.Invariants.{each}
use Rattle.tree.proofs.search.try_find_placement_for_degree.Goals as goal

pub returns-in-Some : goal.returns-in-Some
returns-in-Some c =
    let l = c.loop-b in
    let a = c.args in
    let e = c.in-Some.ensures in
    record { stands = rw l.invariant.1 (bound_won a.many (each a.gates.now a.order.now a.base a.extra a.target) (a.bound + a.left - l.b) l.b _ _ (omega (arith, c.loop-b-test.true)) e.stands (λ z. omega (arith, z, e.some))); some = e.some; nodes_len = e.nodes_len }

pub loop-b-preserved : goal.loop-b-preserved
loop-b-preserved c =
    let l = c.loop-b in
    let a = c.args in
    let e = c.in_default.ensures in
    let q : a.bound + a.left - (l.b + 1) ≡ a.bound + a.left - l.b - 1 = omega arith in
    (e.nodes_len, rw q (l.invariant.1 ∙ bound-lost a.many (each a.gates.now a.order.now a.base a.extra a.target) (a.bound + a.left - l.b) l.b _ _ (omega (arith, c.loop-b-test.true)) e.stands refl))

pub returns : goal.returns
returns c =
    let l = c.loop-b in
    let a = c.args in
    record { stands = rw (l.invariant.1 ∙ bound-none a.many (each a.gates.now a.order.now a.base a.extra a.target) (a.bound + a.left - l.b) l.b (omega (arith, c.loop-b-test.false))) refl; some = tt; nodes_len = l.invariant.0 }

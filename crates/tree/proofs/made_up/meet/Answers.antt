-- `made_up::meet` meets its contract: its tests are the definition's.
use Rattle.std.proofs.Common.{◌+◌, max, ℕ, true, ◌≡◌, ◌∙◌, ap, sym, arith}
use Rattle.selector.proofs.RecordLaws.{constants-small, degree_small}
use Rattle.selector.proofs.WalkLaws.{meet_far, meet-new, meet_twice}
use Rattle.selector.specs.Gates.{constants_of, degree_at}
use Rattle.tree.specs.Walks.{walk}
use Rattle.tree.proofs.made_up.meet.Goals as goal

pub returns-then-many-gate : goal.returns-then-many-gate
returns-then-many-gate c =
    let a = c.args in
    record { result_after = sym (meet_far a.extra a.gates.now a.many a.gate a.level (walk a.met.now true) c.if-many-gate.true); most = record { small = omega arith } }

pub returns-then-met-g-ne0 : goal.returns-then-met-g-ne0
returns-then-met-g-ne0 c =
    let a = c.args in
    record { result_after = sym (meet_twice a.extra a.gates.now a.many a.gate a.level (walk a.met.now true) c.if-many-gate.false c.if-met-g-ne0.true); most = record { small = omega arith } }

pub overflow_add-constants_of : goal.overflow_add-constants_of
overflow_add-constants_of c =
    let a = c.args in
    let p = c.requires in
    omega (arith, constants-small a.gates.now a.many a.extra p.sound a.gate c.if-many-gate.false, c.constants_of.ensures, p.level_bound)

pub returns : goal.returns
returns c =
    let a = c.args in
    let p = c.requires in
    let g = c.if-many-gate.false in
    let d : c.max-met.result ≡ max a.met.now.degree (degree_at a.gates.now a.gate a.level) = c.max-met.ensures ∙ ap (max a.met.now.degree) c.degree_at_depth.ensures in
    let k : c.max-met-2.result ≡ max a.met.now.constants (constants_of a.extra a.gates.now a.gate + a.level) = c.max-met-2.ensures ∙ ap (λ (z : ℕ). max a.met.now.constants (z + a.level)) c.constants_of.ensures in
    record {
      result_after = rw (d, k) (sym (meet-new a.extra a.gates.now a.many a.gate a.level (walk a.met.now true) g c.if-met-g-ne0.false));
      most = record { small = omega (arith, d, p.level_bound, degree_small a.gates.now a.many a.extra p.sound a.gate a.level g) };
    }

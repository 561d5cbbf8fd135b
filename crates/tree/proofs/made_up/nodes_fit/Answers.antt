-- `made_up::nodes_fit` meets its contract. The links are tested first; then the walk with marks, which asks in the end what the definition asks (`fit_by`).
use Rattle.std.proofs.Common.{◌∙◌, sym, arith}
use Rattle.selector.proofs.MadeUpLaws.{links}
use Rattle.selector.proofs.WalkLaws.{fit_by, fit_many, fit_none, fit_unlinked}
use Rattle.tree.specs.Walks.{walk}
use Rattle.tree.proofs.made_up.nodes_fit.Goals.{then-count-eq0-via-then-count-eq0, then-count-eq0-via-else-count-eq0+then-count-gt-MOST_NODES, then-count-eq0-via-else-count-eq0+else-count-gt-MOST_NODES+then-not-linked, then-visit, else-visit}
use Rattle.tree.proofs.made_up.nodes_fit.Goals as goal

pub returns-then-count-eq0 : goal.returns-then-count-eq0
returns-then-count-eq0 c =
    let a = c.args in
    let gs = a.gates.now in
    let t = a.told in
    elim c.then-count-eq0.branch [
      | then-count-eq0-via-then-count-eq0 w ↦ sym (fit_none a.extra gs a.many a.nodes.now a.count t.degree t.constants t.factor w.if-count-eq0.true)
      | then-count-eq0-via-else-count-eq0+then-count-gt-MOST_NODES w ↦ sym (fit_many a.extra gs a.many a.nodes.now a.count t.degree t.constants t.factor w.if-count-gt-MOST_NODES.true)
      | then-count-eq0-via-else-count-eq0+else-count-gt-MOST_NODES+then-not-linked w ↦ sym (fit_unlinked a.extra gs a.many a.nodes.now a.count t.degree t.constants t.factor (sym w.linked.ensures ∙ w.if-not-linked.true))
    ]

pub visit-requires-clause-links : goal.visit-requires-clause-links
visit-requires-clause-links c = links c.args.nodes.now c.args.count (sym c.linked.ensures ∙ c.if-not-linked.false)

pub returns-then-as_wanted : goal.returns-then-as_wanted
returns-then-as_wanted c =
    let a = c.args in
    let r = c.visit in
    let t = a.told in
    let e = fit_by a.extra a.gates.now a.many a.nodes.now a.count t.degree t.constants t.factor c.requires.sound.few (walk r.new.met r.result) (omega (arith, c.if-count-eq0.false)) c.if-count-gt-MOST_NODES.false (sym c.linked.ensures ∙ c.if-not-linked.false) r.ensures.visited in
    elim c.if-visit.branch [ then-visit w ↦ grind (arith, e, c.numbers_fit.ensures) | else-visit w ↦ grind arith ]

pub returns-else-as_wanted : goal.returns-else-as_wanted
returns-else-as_wanted c =
    let a = c.args in
    let r = c.visit in
    let t = a.told in
    let e = fit_by a.extra a.gates.now a.many a.nodes.now a.count t.degree t.constants t.factor c.requires.sound.few (walk r.new.met r.result) (omega (arith, c.if-count-eq0.false)) c.if-count-gt-MOST_NODES.false (sym c.linked.ensures ∙ c.if-not-linked.false) r.ensures.visited in
    elim c.if-visit.branch [ then-visit w ↦ grind (arith, e) | else-visit w ↦ grind (arith, e) ]

-- 02, Change 2, of a plan that passes 19, in an operator's words: which gates have no selector, and which have an empty path.
--
-- Main statements: `no-selector`, `only_placed`, `lone_empty`.
use Rattle.std.specs.Prelude.{◌<◌, ℕ, Bool, false, true, List, [], ◌↔◌, ◌≢◌, ◌≡◌, refl}
use Rattle.std.proofs.Common.{eq-eqb, lt-ltb, ltb-false, ltb-true, ◌∙◌, arith}
use Rattle.selector.specs.Gates.{kind_of}
use Rattle.selector.specs.MadeUp.{wanted}
use Rattle.selector.proofs.MadeUpLaws.{Sturdy, unwanted, wanted_few}
use Rattle.selector.specs.PathLaws.{only_path}
use Rattle.selector.specs.Paths.{a_path, no_selector}
use Rattle.selector.specs.Tree.{standing}
use Rattle.tree.specs.Plan.{gates_given, plan_extra, plan_fault, plan_path, plan_placed, plan_selector}
use Rattle.tree.specs.PlanLaws.{fault_none}
use Rattle.tree.specs.SoundLaws.{selector_known}
use Rattle.tree.specs.declared.plan.Plan.{Plan}

module _ (q : Plan) (e : plan_fault q ≡ 0) where
  abbrev many : ℕ
  many = q.gate_count

  abbrev words : List ℕ
  words = gates_given q

  nodes : Sturdy (plan_extra q) words many q.nodes q.node_count q.degree q.constants q.factor
  nodes = (fault_none q e).nodes

  -- no selector is answered of the kind 2 gates of a longer list and of no other listed gate
  pub no-selector : (g : ℕ) → g < many → (plan_selector q g ≡ no_selector) ↔ ((1 < many) × (kind_of words g ≡ 2))
  no-selector g h = (λ is. told is (plan_placed q g) refl, λ k. dropped ((unwanted words many g).1 (omega (arith, k.0), k.1)))
    where
      told : plan_selector q g ≡ no_selector → (b : Bool) → plan_placed q g ≡ b → (1 < many) × (kind_of words g ≡ 2)
      told is true w =
          let other : plan_selector q g ≡ a_path (plan_path q g) = selector_known q e g h ∙ rw w refl in
          let z : ◌≡◌ {A = ℕ} 0 1 = cc in
          absurd (omega arith)
      told is false w =
          let k = (unwanted words many g).0 (omega (arith, ltb-false 0 (wanted words many g) w)) in
          (omega (arith, (fault_none q e).some-gates, k.0), k.1)

      dropped : wanted words many g ≡ 0 → plan_selector q g ≡ no_selector
      dropped z = selector_known q e g h ∙ rw z refl

  -- the only placed gate has the empty path: one of several listed gates too
  pub only_placed : (g : ℕ) → g < many → plan_placed q g ≡ true → ((h : ℕ) → h < many → h ≢ g → plan_placed q h ≡ false) → plan_selector q g ≡ a_path []
  only_placed g h w others =
      let one : standing g nodes.tree ≡ 1 = omega (arith, nodes.once g h, ltb-true 0 (wanted words many g) w, wanted_few words many g) in
      let empty = only_path many nodes.tree g nodes.listed one (λ k l n. nodes.once k l ∙ omega (arith, ltb-false 0 (wanted words many k) (others k l n))) in
      rw (lt-ltb g many h, nodes.is, empty) refl

  -- "A lone gate still has an empty path.", of any kind
  pub lone_empty : many ≡ 1 → plan_selector q 0 ≡ a_path []
  unfolding wanted
  lone_empty one = only_placed 0 (omega arith) (rw (eq-eqb many 1 one) refl) (λ h k n. absurd (n (omega (arith, k, one))))

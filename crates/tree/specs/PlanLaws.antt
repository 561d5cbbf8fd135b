-- What a plan without a fault has, and that planning's plans have none: all that the layers above need of plans.
--
-- Main definition: `Faultless`. Main statements: `fault_none`, `zero_fault`, `planned_fault`, `planned-fields`, `planned-constants`.
use Rattle.std.specs.Prelude.{◌*◌, ◌+◌, ◌<◌, ◌≤◌, ℕ, eqb, leb, drop, length, replicate, Bool, false, true, List, ◌≢◌, ◌≡◌}
use borrow.Author.Tests.{eq-eqb, eqb-true, le-leb, leb-true, ne_eqb}
use Rattle.std.proofs.Math.ListN.{length-append, length-replicate}
use Rattle.std.proofs.Math.Seq.{take-append_seam}
use Rattle.std.proofs.Math.Option.{Option, none, some}
use Rattle.std.proofs.Common.{◌∙◌, arith}
use Rattle.std.proofs.Math.Path.{refl, sym}
use Rattle.base.specs.Firsts.{first_found, first-none, first-zero}
use Rattle.base.specs.Pick.{pick, pick_no, pick-zero}
use Rattle.selector.specs.Gates.{gate_slots, gate_words, placed_gates, top_constants}
use Rattle.selector.specs.MadeUp.{nodes_fit}
use Rattle.selector.proofs.MadeUpLaws.{Sturdy, own_passes, sturdy}
use Rattle.selector.specs.NodeLaws.{laid-length, size-some}
use Rattle.selector.specs.Nodes.{node_slots, node_words}
use Rattle.selector.proofs.RecordLaws.{gates_sound, words-fit}
use Rattle.base.specs.Limits.{most_gates}
use Rattle.selector.specs.Inner.{Sound}
use Rattle.selector.specs.Refusals.{extra_of, count_of_gates, gates_number, words_fit}
use Rattle.selector.specs.Search.{bounds, plan_tree, search_tree}
use Rattle.selector.proofs.SearchLaws.{search_facts}
use Rattle.selector.specs.Tree.{Tree, leaf}
use Rattle.parameters.specs.Lookup.{mode_of}
use Rattle.parameters.specs.Parameters.{flag_number, lookup_of, parameters_number, range_number}
use Rattle.parameters.specs.ParametersLaws.{InRange, in_range, lookup_words}
use Rattle.tree.specs.Answers.{Planned}
use Rattle.tree.specs.Plan.{gates_given, gate_array, parameters_of, plan_answer, plan_extra, plan_fault, plan_number, plan_with, planned, tree_for, tree_number, words_number, zero_plan}
use Rattle.tree.specs.Shapes.{shape_of}
use Rattle.tree.specs.declared.nodes.Shape.{Shape}
use Rattle.parameters.specs.declared.parameters.Parameters.{Parameters}
use Rattle.tree.specs.declared.plan.Plan.{Plan}

-- what a plan that passes 19 is known to have
pub record Faultless (p : Plan) : Type 0 where
  pub parameters : parameters_number (parameters_of p) ≡ 0
  pub some-gates : 1 ≤ p.gate_count
  pub few_gates : p.gate_count ≤ most_gates
  pub words : p.gate_count * gate_words ≤ length p.gates
  pub node-words : node_slots ≤ length p.nodes
  pub gates : gates_number (mode_of p.lookup) p.allowed (gates_given p) p.gate_count ≡ 0
  pub nodes : Sturdy (plan_extra p) (gates_given p) p.gate_count p.nodes p.node_count p.degree p.constants p.factor

pub fault_none : (p : Plan) → plan_fault p ≡ 0 → Faultless p
unfolding plan_fault
fault_none p e =
    let n = p.gate_count in
    let gs = gates_given p in
    let a = pick-zero (eqb (parameters_number (parameters_of p)) 0) _ 19 (omega arith) e in
    let b = pick-zero (leb 1 n) _ 19 (omega arith) a.1 in
    let c = pick-zero (leb n most_gates) _ 19 (omega arith) b.1 in
    let w = pick-zero (leb (n * gate_words) (length p.gates)) _ 19 (omega arith) c.1 in
    let v = pick-zero (leb node_slots (length p.nodes)) _ 19 (omega arith) w.1 in
    let d = pick-zero (eqb (gates_number (mode_of p.lookup) p.allowed gs n) 0) _ 19 (omega arith) v.1 in
    let f = pick-zero (nodes_fit (plan_extra p) gs n p.nodes p.node_count p.degree p.constants p.factor) 0 19 (omega arith) d.1 in
    record {
      parameters = eqb-true (parameters_number (parameters_of p)) 0 a.0;
      some-gates = leb-true 1 n b.0;
      few_gates = leb-true n most_gates c.0;
      words = leb-true (n * gate_words) (length p.gates) w.0;
      node-words = leb-true node_slots (length p.nodes) v.0;
      gates = eqb-true (gates_number (mode_of p.lookup) p.allowed gs n) 0 d.0;
      nodes = sturdy (plan_extra p) gs n p.nodes p.node_count p.degree p.constants p.factor f.0;
    }

-- a plan of zeros is a made-up plan
pub zero_fault : plan_fault zero_plan ≡ 19
unfolding plan_fault
zero_fault = by (eqb (parameters_number (parameters_of zero_plan)) 0)
  where
    by : (t : Bool) → ◌≡◌ {A = ℕ} (pick t 19 19) 19
    by true = refl
    by false = refl

-- what accepted parameter and gate words give
pub record Accepted (ps : Parameters) (gs : List ℕ) : Type 0 where
  pub parameters : parameters_number ps ≡ 0
  pub words : count_of_gates gs * gate_words ≡ length gs
  pub some-gates : 1 ≤ count_of_gates gs
  pub few_gates : count_of_gates gs ≤ most_gates
  pub gates : gates_number ps.mode ps.allowed gs (count_of_gates gs) ≡ 0
  pub sound : Sound gs (count_of_gates gs) (extra_of ps.mode)
  pub in_ranges : InRange ps

-- a refusal of planning
abbrev pub refused_plan : ℕ → Planned
refused_plan n = record { number = n; plan = zero_plan }

module _ (ps : Parameters) (gs : List ℕ) where
  pub words_accepted : words_number ps gs ≡ 0 → Accepted ps gs
  unfolding words_number parameters_number
  words_accepted e =
      let a = first-zero (parameters_number ps) (pick (words_fit gs) (gates_number ps.mode ps.allowed gs (count_of_gates gs)) 3) e in
      let b = pick-zero (words_fit gs) (gates_number ps.mode ps.allowed gs (count_of_gates gs)) 3 (omega arith) a.1 in
      let w = words-fit gs b.0 in
      record {
        parameters = a.0;
        words = w.0;
        some-gates = w.1;
        few_gates = w.2;
        gates = b.1;
        sound = gates_sound ps.mode ps.allowed gs (count_of_gates gs) b.1 (omega (arith, w.0)) w.2;
        in_ranges = in_range ps (first-zero (range_number ps) (flag_number ps) a.0).0;
      }

  -- the ways out of planning
  number_refused : words_number ps gs ≢ 0 → plan_number ps gs ≡ words_number ps gs
  unfolding plan_number
  number_refused n = first_found (words_number ps gs) (tree_number (tree_for ps gs)) n

  number-tree : words_number ps gs ≡ 0 → plan_number ps gs ≡ tree_number (tree_for ps gs)
  unfolding plan_number
  number-tree e = first-none (words_number ps gs) (tree_number (tree_for ps gs)) e

  answer_refused : (n : ℕ) → plan_number ps gs ≡ n → n ≢ 0 → plan_answer ps gs ≡ refused_plan n
  unfolding planned
  answer_refused n e z = rw (e, ne_eqb n 0 z) refl

  abbrev pub shape_for : Shape
  shape_for = shape_of (extra_of ps.mode) gs (tree_for ps gs)

  planned_is : plan_number ps gs ≡ 0 → planned ps gs ≡ plan_with ps gs shape_for
  unfolding planned
  planned_is e = rw (eq-eqb (plan_number ps gs) 0 e)

  pub answer-words : (n : ℕ) → n ≡ words_number ps gs → n ≢ 0 → refused_plan n ≡ plan_answer ps gs
  answer-words n e z = sym (answer_refused n (number_refused (λ y. z (e ∙ y)) ∙ sym e) z)

  pub answer-none : words_number ps gs ≡ 0 → shape_for.count ≡ 0 → refused_plan 8 ≡ plan_answer ps gs
  answer-none w e = sym (answer_refused 8 (number-tree w ∙ by (tree_for ps gs) e) (omega arith))
    where
      by : (q : Option Tree) → (shape_of (extra_of ps.mode) gs q).count ≡ 0 → tree_number q ≡ 8
      by none z = refl
      by (some t) z = absurd (omega (arith, size-some t))

  pub answer-some : words_number ps gs ≡ 0 → shape_for.count ≢ 0 → record { number = 0; plan = plan_with ps gs shape_for } ≡ plan_answer ps gs
  answer-some w n =
      let e : plan_number ps gs ≡ 0 = number-tree w ∙ by (tree_for ps gs) n in
      rw (e, planned_is e) refl
    where
      by : (q : Option Tree) → (shape_of (extra_of ps.mode) gs q).count ≢ 0 → tree_number q ≡ 0
      by none z = absurd (z refl)
      by (some t) z = refl

  -- an accepted planning has a tree
  pub record Placing : Type 0 where
    pub accepted : Accepted ps gs
    pub tree : Tree
    pub is : tree_for ps gs ≡ some tree
    pub plan : planned ps gs ≡ plan_with ps gs (shape_of (extra_of ps.mode) gs (some tree))

  pub placing : plan_number ps gs ≡ 0 → Placing
  unfolding plan_number
  placing e =
      let a = first-zero (words_number ps gs) (tree_number (tree_for ps gs)) e in
      by (tree_for ps gs) refl a.1 (words_accepted a.0)
    where
      by : (q : Option Tree) → tree_for ps gs ≡ q → tree_number q ≡ 0 → Accepted ps gs → Placing
      by none k z w = absurd (omega arith)
      by (some t) k z w = record { accepted = w; tree = t; is = k; plan = planned_is e ∙ rw k }

  -- a plan's gates are those given
  given-words : Accepted ps gs → (s : Shape) → gates_given (plan_with ps gs s) ≡ gs
  given-words w s = rw w.words (take-append_seam gs (drop (length gs) (replicate gate_slots 0)))

  given-parameters : Accepted ps gs → (s : Shape) → parameters_of (plan_with ps gs s) ≡ ps
  given-parameters w s =
      let l = lookup_words ps w.in_ranges in
      rw (l.mode, l.width, l.share) refl

  -- planning's plan holds the parameters and the gates
  pub record Given : Type 0 where
    pub parameters : parameters_of (planned ps gs) ≡ ps
    pub gates : gates_given (planned ps gs) ≡ gs
    pub count : (planned ps gs).gate_count ≡ count_of_gates gs
    pub lookup : (planned ps gs).lookup ≡ lookup_of ps

  pub planned-fields : plan_number ps gs ≡ 0 → Given
  planned-fields e =
      let p = placing e in
      let s = shape_of (extra_of ps.mode) gs (some p.tree) in
      record {
        parameters = rw p.plan (given-parameters p.accepted s);
        gates = rw p.plan (given-words p.accepted s);
        count = rw p.plan refl;
        lookup = rw p.plan refl;
      }

  faultless : (w : Accepted ps gs) (t : Tree) → tree_for ps gs ≡ some t → plan_fault (plan_with ps gs (shape_of (extra_of ps.mode) gs (some t))) ≡ 0
  unfolding plan_fault
  faultless w t e =
      let s = shape_of (extra_of ps.mode) gs (some t) in
      let l = lookup_words ps w.in_ranges in
      rw (
        given-parameters w s,
        given-words w s,
        l.mode,
        eq-eqb (parameters_number ps) 0 w.parameters,
        le-leb 1 (count_of_gates gs) w.some-gates,
        le-leb (count_of_gates gs) most_gates w.few_gates,
        le-leb (count_of_gates gs * gate_words) (length (gate_array gs)) (omega (arith, w.words, length-append gs (drop (length gs) (replicate gate_slots 0)))),
        le-leb node_slots (length (node_words t)) (omega (arith, laid-length t 0 (replicate node_slots 0), length-replicate {A = ℕ} node_slots 0)),
        eq-eqb (gates_number ps.mode ps.allowed gs (count_of_gates gs)) 0 w.gates,
        own_passes gs (count_of_gates gs) (extra_of ps.mode) w.sound t e,
      )

  -- every plan that planning gives passes the test for 19
  pub planned_fault : plan_number ps gs ≡ 0 → plan_fault (planned ps gs) ≡ 0
  planned_fault e = let p = placing e in rw p.plan (faultless p.accepted p.tree p.is)

  -- K ≤ G + L + 1, where several gates are listed
  pub planned-constants : plan_number ps gs ≡ 0 → count_of_gates gs ≢ 1
      → (planned ps gs).constants < top_constants (extra_of ps.mode) gs (placed_gates gs (count_of_gates gs)) + bounds (placed_gates gs (count_of_gates gs))
  unfolding plan_tree
  planned-constants e n =
      let p = placing e in
      let s : search_tree (extra_of ps.mode) gs (count_of_gates gs) ≡ some p.tree =
      sym (pick_no (eqb (count_of_gates gs) 1) (some (leaf 0)) (search_tree (extra_of ps.mode) gs (count_of_gates gs)) (ne_eqb (count_of_gates gs) 1 n)) ∙ p.is in
      rw p.plan (search_facts gs (count_of_gates gs) (extra_of ps.mode) p.tree s).most

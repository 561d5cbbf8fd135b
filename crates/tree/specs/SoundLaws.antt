-- What a plan that passes 19 gives the layers above: the ranges of its numbers, its paths, its gates' constants, and what it answers of them.
--
-- Main definitions: `Sound`, `GateWords`. Main statements: `sound`, `selector_known`, `path_kept`, `path_answers`, `gate-words`, `placed_parted`, `dropped_bare`, `evaluated-off`.
use Rattle.std.specs.Prelude.{◌*◌, ◌+◌, ◌<◌, ◌≤◌, ℕ, eqb, ltb, get_or, length, Bool, false, true, List, [], ◌≢◌, ◌≡◌}
use Rattle.std.proofs.Common.{eq-eqb, eqb-true, le-ltb, lt-ltb, ltb-false, ltb-true, ne_eqb, length-take-le, ◌∙◌, sym, arith}
use Rattle.std.proofs.Math.Option.{Option, none, some}
use Rattle.std.proofs.Math.Path.{ap, fun_ext, refl}
use Rattle.std.proofs.Math.Decide.{dec_lt, ℕ_discrete}
use Rattle.base.specs.Digits.{Spelled}
use Rattle.base.specs.Each.{Each}
use Rattle.base.specs.Firsts.{first-zero}
use Rattle.base.specs.Limits.{most_gates}
use Rattle.base.specs.Pick.{pick}
use Rattle.base.specs.Tables.{table_at}
use Rattle.labels.specs.Ranges.{ranges_fit}
use Rattle.labels.specs.RangesLaws.{Ranges, ranges-fit}
use Rattle.selector.specs.Gates.{gate_words, kind_of}
use Rattle.selector.specs.Inner.{Sound as Records}
use Rattle.selector.specs.MadeUp.{wanted}
use Rattle.selector.proofs.MadeUpLaws.{Sturdy, tree-constants, unwanted_bare}
use Rattle.selector.specs.MarkerLaws.{ends_some, parted_noughts}
use Rattle.selector.specs.Markers.{marker_ends, noughts}
use Rattle.selector.specs.Nodes.{most_levels, tree_at}
use Rattle.selector.specs.PathLaws.{Parted, bits_digits, path_cases, path_digits, path_fits, path_none, path_some, pathless, paths_parted, selected-steps, unlisted_path}
use Rattle.selector.specs.Paths.{Selector, a_path, no_selector, or_empty, path_of, path_to, selected, steps, unknown_gate}
use Rattle.selector.proofs.RecordLaws.{gates_sound}
use Rattle.selector.specs.Refusals.{gates_number, records_number}
use Rattle.selector.specs.Tree.{Tree}
use Rattle.parameters.specs.Lookup.{mode_of, width_of}
use Rattle.parameters.specs.Parameters.{flag_number, parameters_number, range_number}
use Rattle.parameters.specs.ParametersLaws.{InRange, in_range}
use Rattle.tree.specs.Answers.{rows_told}
use Rattle.tree.specs.Plan.{for_listed, gate_rows_answer, gate_rows_of, gates_given, parameters_of, path_answer, plan_barred, plan_blocked, plan_extra, plan_fault, plan_own, plan_path, plan_placed, plan_selection, plan_selector}
use Rattle.tree.specs.PlanLaws.{Faultless, fault_none}
use Rattle.tree.specs.Selection.{selection_steps, selection_bits, selection_length, selection_of, selector_of}
use Rattle.tree.specs.declared.gate_rows.GateRows.{GateRows}
use Rattle.tree.specs.declared.plan.Plan.{Plan}

-- the path of a gate in a tree; a gate at no leaf, a dropped one, has the empty path
abbrev pub path_in : Option Tree → ℕ → List ℕ
path_in none g = []
path_in (some t) g = path_of g t

-- the ranges of a sound plan's numbers, and its paths
pub record Sound (q : Plan) : Type 0 where
  pub ranges : Ranges q.trace q.copy
  pub ranges_fit_too : ranges_fit q.trace q.copy ≡ true
  pub special : q.specialised ≤ 16
  pub variables : q.variables ≤ 1048576
  pub width : width_of q.lookup ≤ 16
  pub some-gates : 1 ≤ q.gate_count
  pub few_gates : q.gate_count ≤ most_gates
  pub height : q.constants ≤ 47
  pub digits : (g : ℕ) → Each (λ (d : ℕ). d < 2) (plan_path q g)
  pub fits : (g : ℕ) → g < q.gate_count → length (plan_path q g) + plan_own q g ≤ q.constants

-- the words of a listed gate in an answer for all gates
pub record GateWords (q : Plan) (r : GateRows) (g : ℕ) : Type 0 where
  pub path : Spelled (plan_path q g) (get_or r.bits g 0) (get_or r.steps g 0)
  pub barred : get_or r.barred g 0 ≡ pick (plan_barred q g) 1 0
  pub own : get_or r.own g 0 ≡ plan_own q g

-- a gate of another kind than 2 is placed
pub kind_placed : (q : Plan) (g : ℕ) → kind_of (gates_given q) g ≢ 2 → plan_placed q g ≡ true
unfolding wanted
kind_placed q g n = rw (ne_eqb (kind_of (gates_given q) g) 2 n) (by (eqb q.gate_count 1))
  where
    by : (t : Bool) → ltb 0 (pick t 1 1) ≡ true
    by true = refl
    by false = refl

module _ (q : Plan) (e : plan_fault q ≡ 0) where
  abbrev many : ℕ
  many = q.gate_count

  abbrev words : List ℕ
  words = gates_given q

  whole : Faultless q
  whole = fault_none q e

  nodes : Sturdy (plan_extra q) words many q.nodes q.node_count q.degree q.constants q.factor
  nodes = whole.nodes

  given : InRange (parameters_of q)
  unfolding parameters_number
  given = in_range (parameters_of q) (first-zero (range_number (parameters_of q)) (flag_number (parameters_of q)) whole.parameters).0

  -- the steps of an answer, listed or not, are the gate's path in the tree
  path_is : (g : ℕ) → plan_path q g ≡ path_of g nodes.tree
  path_is g = by (dec_lt g many)
    where
      by : Dec (g < many) → plan_path q g ≡ path_of g nodes.tree
      by (yes h) = rw (lt-ltb g many h, nodes.is) (selected-steps (path_to g nodes.tree))
      by (no h) = rw (le-ltb g many (omega arith), unlisted_path many nodes.tree g nodes.listed (omega arith)) refl

  -- 02, Change 2: "Columns are unaffected": what rows and the table-id index take of a gate is what they took, its path in the tree and none of a dropped gate's
  pub path_kept : plan_path q ≡ path_in (tree_at most_levels q.nodes 0)
  path_kept = fun_ext (λ g. path_is g ∙ sym (ap (λ (o : Option Tree). path_in o g) nodes.is))

  records : Records words many (plan_extra q)
  records =
      gates_sound (mode_of q.lookup) q.allowed words many whole.gates
      (omega (arith, length-take-le (many * gate_words) q.gates whole.words)) whole.few_gates

  good_records : records_number many words 0 ≡ 0
  unfolding gates_number
  good_records = (first-zero (records_number many words 0) _ whole.gates).0

  -- a gate that is not wanted has no constants
  bare : (g : ℕ) → g < many → wanted words many g ≡ 0 → plan_own q g ≡ 0
  bare g h w = unwanted_bare (plan_extra q) words many g good_records h w

  room : (g : ℕ) → g < many → path_to g nodes.tree ≡ none → 0 + plan_own q g ≤ q.constants
  room g h n = omega (arith, bare g h (sym (nodes.once g h) ∙ pathless nodes.tree g n))

  narrow : Dec (mode_of q.lookup ≡ 0) → width_of q.lookup ≤ 16
  narrow (yes z) = omega (arith, (given.no_lookup z).0)
  narrow (no d) = (given.some_width d).1

  pub sound : Sound q
  sound =
      record {
        ranges = ranges-fit q.trace q.copy given.ranges;
        ranges_fit_too = given.ranges;
        special = given.specialised;
        variables = given.variables;
        width = narrow (ℕ_discrete (mode_of q.lookup) 0);
        some-gates = whole.some-gates;
        few_gates = whole.few_gates;
        height = omega (arith, nodes.most, nodes.deep, tree-constants words many (plan_extra q) records nodes.tree 0 nodes.listed);
        digits = λ g. rw (path_is g) (path_cases (Each (λ (d : ℕ). d < 2)) g nodes.tree (λ _. tt) (λ p h. path_digits nodes.tree g p h));
        fits = λ g h. rw (path_is g) (path_cases (λ p. length p + plan_own q g ≤ q.constants) g nodes.tree (room g h) (λ p k. omega (arith, nodes.most, path_fits (plan_extra q) words g nodes.tree p k)));
      }

  -- a path's words spell it
  spelled : (g : ℕ) → Spelled (plan_path q g) (selection_bits (plan_selection q g)) (selection_length (plan_selection q g))
  spelled g =
      let w = selection_steps (plan_selector q g) in
      rw (w.0, w.1) (record { digits_are = bits_digits (plan_path q g) (sound.digits g); steps_are = refl })

  -- and nothing is lost in words: what is answered of a gate reads as it was meant
  pub path_answers : (g : ℕ) → selector_of (path_answer q g).selection ≡ plan_selector q g
  unfolding path_answer
  path_answers g = rw (eq-eqb (plan_fault q) 0 e) (by (plan_selector q g) (sound.digits g))
    where
      by : (s : Selector) → Each (λ (d : ℕ). d < 2) (steps s) → selector_of (selection_of s) ≡ s
      by (a_path p) each = ap a_path (bits_digits p each)
      by no_selector each = refl
      by unknown_gate each = refl

  -- a placed gate has a path in the tree
  placed_path : (g : ℕ) → g < many → plan_placed q g ≡ true → (p : List ℕ) × (path_to g nodes.tree ≡ some p) × (plan_path q g ≡ p)
  placed_path g h w =
      let p = path_some nodes.tree g (omega (arith, nodes.once g h, ltb-true 0 (wanted words many g) w)) in
      (p.0, p.1, path_is g ∙ ap or_empty p.1)

  -- a dropped one has none
  dropped_path : (g : ℕ) → g < many → plan_placed q g ≡ false → path_to g nodes.tree ≡ none
  dropped_path g h w = path_none nodes.tree g (nodes.once g h ∙ omega (arith, ltb-false 0 (wanted words many g) w))

  -- 02, Change 2, of a listed gate: one that is placed has its path, one that is not, a kind 2 gate of a longer list, has no selector
  pub selector_known : (g : ℕ) → g < many → plan_selector q g ≡ pick (plan_placed q g) (a_path (plan_path q g)) no_selector
  selector_known g h = by (plan_placed q g) refl
    where
      listed : plan_selector q g ≡ selected (path_to g nodes.tree)
      listed = rw (lt-ltb g many h, nodes.is) refl

      by : (b : Bool) → plan_placed q g ≡ b → plan_selector q g ≡ pick b (a_path (plan_path q g)) no_selector
      by true w = let p = placed_path g h w in listed ∙ ap selected p.1 ∙ ap a_path (sym p.2)
      by false w = listed ∙ ap selected (dropped_path g h w)

  -- the answer for all gates
  rows_are : gate_rows_answer q ≡ gate_rows_of q
  unfolding gate_rows_answer
  rows_are = rw (eq-eqb (plan_fault q) 0 e)

  listed_word : (f : ℕ → ℕ) (g : ℕ) → g < many → get_or (for_listed q f) g 0 ≡ f g
  listed_word f g h = table_at most_gates (λ (k : ℕ). pick (ltb k many) (f k) 0) g (omega (arith, whole.few_gates)) ∙ rw (lt-ltb g many h)

  module _ (r : GateRows) (a : r ≡ rows_told (gate_rows_answer q)) where
    pub gates-many : r.many ≡ many
    gates-many = ap (λ (z : GateRows). z.many) (a ∙ ap rows_told rows_are)

    pub gate-words : (g : ℕ) → g < many → GateWords q r g
    gate-words g h =
        let b : get_or r.bits g 0 ≡ selection_bits (plan_selection q g) = ap (λ (z : GateRows). get_or z.bits g 0) (a ∙ ap rows_told rows_are) ∙ listed_word (λ (k : ℕ). selection_bits (plan_selection q k)) g h in
        let s : get_or r.steps g 0 ≡ selection_length (plan_selection q g) = ap (λ (z : GateRows). get_or z.steps g 0) (a ∙ ap rows_told rows_are) ∙ listed_word (λ (k : ℕ). selection_length (plan_selection q k)) g h in
        record {
          path = rw (b, s) (spelled g);
          barred = ap (λ (z : GateRows). get_or z.barred g 0) (a ∙ ap rows_told rows_are) ∙ listed_word (λ (k : ℕ). pick (plan_barred q k) 1 0) g h;
          own = ap (λ (z : GateRows). get_or z.own g 0) (a ∙ ap rows_told rows_are) ∙ listed_word (plan_own q) g h;
        }

  -- the paths of two placed gates part
  pub placed_parted : (g k : ℕ) → g < many → k < many → plan_placed q g ≡ true → plan_placed q k ≡ true → g ≢ k → Parted (plan_path q g) (plan_path q k)
  placed_parted g k hg hk wg wk d =
      let a = placed_path g hg wg in
      let b = placed_path k hk wk in
      rw (a.2, b.2) (paths_parted nodes.tree g k a.0 b.0 d a.1 b.1)

  -- a dropped one has the empty path and no constants
  pub dropped_bare : (g : ℕ) → g < many → plan_placed q g ≡ false → (plan_path q g ≡ []) × (plan_own q g ≡ 0)
  dropped_bare g h w =
      let z : wanted words many g ≡ 0 = omega (arith, ltb-false 0 (wanted words many g) w) in
      (path_is g ∙ ap or_empty (dropped_path g h w), bare g h z)

  -- 02, Change 4: where the all-0 path belongs to a kind 1 gate, it is no evaluated gate's
  pub evaluated-off : plan_blocked q ≡ false → (g : ℕ) → g < many → kind_of words g ≡ 0 → noughts (plan_path q g) ≡ 0
  evaluated-off free g h k =
      let w = ends_some (λ (i : ℕ). eqb (noughts (plan_path q i)) 1) words many (held (marker_ends (λ (i : ℕ). eqb (noughts (plan_path q i)) 1) words many) free) in
      let m = w.gate in
      let other : m ≢ g = λ z. omega (arith, k, w.marker, ap (kind_of words) z) in
      parted_noughts (plan_path q m) (plan_path q g) (eqb-true (noughts (plan_path q m)) 1 w.at-end)
      (placed_parted m g w.listed h (kind_placed q m (λ z. omega (arith, z, w.marker))) (kind_placed q g (λ z. omega (arith, z, k))) other)
    where
      held : (t : Bool) → pick t false true ≡ false → t ≡ true
      held true z = refl
      held false z = sym z

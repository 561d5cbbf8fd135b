-- A plan's and a state's words where they stand: the numbers that are read off them by value, and that with the words lent beside them they are the plan and the
-- state that the words encode.
--
-- Main definitions: `outlined_at`, `held_at`, `gates_in`, `nodes_in`. Main statements: `plans`, `plans_none`; `state_parts`, `holds`, `holds_none`, `none_fault`.
use Rattle.std.specs.Prelude.{◌+◌, ◌<◌, ◌≤◌, ℕ, drop, get_or, length, take, Bool, false, true, List, ◌≢◌, ◌≡◌, refl}
use Rattle.std.proofs.Common.{eq-eqb, ne_eqb, length-drop, take-append-drop, get_or-take, length-take-le, true≢false, ◌∙◌, ap, sym, arith}
use Rattle.std.proofs.lemmas.List.{drop-append-le, take-append-le}
use Rattle.std.proofs.Math.Decide.{ℕ_discrete}
use Rattle.parameters.specs.Parameters.{lookup_of, parameters_at}
use Rattle.parameters.specs.declared.parameters.Parameters.{Parameters}
use Rattle.selector.specs.Gates.{gate_slots}
use Rattle.selector.specs.Nodes.{node_slots}
use Rattle.tree.specs.Plan.{plan_fault, plan_in, zero_plan}
use Rattle.tree.specs.PlanLaws.{zero_fault}
use Rattle.tree.specs.declared.plan.Plan.{Plan}
use Rattle.columns.specs.Given.{intake_in}
use Rattle.columns.specs.Intake.{state_in, with_state, zero_intake}
use Rattle.columns.specs.declared.intake.Intake.{Intake}
use Rattle.columns.specs.declared.take.Counts.{Counts}
use Rattle.encoding.specs.Encoding.{counts_at, count_at, gates_from, intake_of, lookup_fits, lookup_there, marks_at, nodes_from, plan_at, plan_length, plan_of, state_length, tail_from}
use Rattle.encoding.proofs.EncodingLaws.{plan-none, plan_other, plan-read, state_other, state_read}
use Rattle.encoding.specs.Holding.{Held, Outlined, gates_in, held_at, held_with, marks_read, no_plan, nodes_in, outline_at, outlined_at}

-- ---- what words hold that hold a plan
pub record Plans (ws : List ℕ) (p : Outlined) : Type 0 where
  pub long : length ws ≡ plan_length
  pub parts : plan_in p.outline (gates_in ws) (nodes_in ws) ≡ plan_of ws

pub plans : (ws : List ℕ) (p : Outlined) → p ≡ outlined_at ws → p.fits ≡ true → Plans ws p
unfolding outlined_at
plans ws p e f = by (ℕ_discrete (length ws) plan_length) (lookup_there ws) refl
  where
    none : p ≡ no_plan → Plans ws p
    none z = absurd (true≢false (sym f ∙ ap (λ (x : Outlined). x.fits) z))

    by : Dec (length ws ≡ plan_length) → (t : Bool) → lookup_there ws ≡ t → Plans ws p
    by (no d) t l = none (e ∙ rw (ne_eqb (length ws) plan_length d))
    by (yes k) false l = none (e ∙ rw (eq-eqb (length ws) plan_length k, l))
    by (yes k) true l =
        let z : p ≡ record { fits = true; outline = outline_at ws } = e ∙ rw (eq-eqb (length ws) plan_length k, l) in
        record { long = k; parts = rw z (plan-read ws k l) }

-- words that hold none encode the plan of zeros
pub plans_none : (ws : List ℕ) (p : Outlined) → p ≡ outlined_at ws → p.fits ≡ false → zero_plan ≡ plan_of ws
unfolding outlined_at
plans_none ws p e f = by (ℕ_discrete (length ws) plan_length) (lookup_there ws) refl
  where
    by : Dec (length ws ≡ plan_length) → (t : Bool) → lookup_there ws ≡ t → zero_plan ≡ plan_of ws
    by (no d) t l = plan_other ws d
    by (yes k) false l = plan-none ws k l
    by (yes k) true l =
        let y : p ≡ record { fits = true; outline = outline_at ws } = e ∙ rw (eq-eqb (length ws) plan_length k, l) in
        absurd (true≢false (sym (ap (λ (x : Outlined). x.fits) y) ∙ f))

-- ---- the plan's words are the first of a state's
module _ (ws : List ℕ) (e : length ws ≡ state_length) where
  first-words : (i : ℕ) → i < plan_length → get_or (take plan_length ws) i 0 ≡ get_or ws i 0
  first-words i h = get_or-take plan_length ws i 0 h

  same_parameters : parameters_at (take plan_length ws) ≡ parameters_at ws
  same_parameters = λ i. record {
    trace = first-words 0 (omega arith) i;
    copy = first-words 1 (omega arith) i;
    allowed = first-words 2 (omega arith) i;
    specialised = first-words 3 (omega arith) i;
    variables = first-words 4 (omega arith) i;
    mode = first-words 5 (omega arith) i;
    width = first-words 6 (omega arith) i;
    share = first-words 7 (omega arith) i;
  }

  -- so are a part's words within them
  same_part : (at n : ℕ) → at + n ≤ plan_length → take n (drop at (take plan_length ws)) ≡ take n (drop at ws)
  same_part at n h =
      let l : length (take plan_length ws) ≡ plan_length = length-take-le plan_length ws (omega arith) in
      let k : n ≤ length (drop at (take plan_length ws)) = omega (arith, length-drop at (take plan_length ws), l) in
      sym
      (ap (λ (xs : List ℕ). take n (drop at xs)) (sym (take-append-drop plan_length ws))
      ∙ ap (take n) (drop-append-le at (take plan_length ws) (drop plan_length ws) (omega (arith, l)))
      ∙ take-append-le n (drop at (take plan_length ws)) (drop plan_length ws) k)

  same_there : lookup_there (take plan_length ws) ≡ lookup_there ws
  same_there = ap (λ (p : Parameters). lookup_fits p.mode p.width p.share) same_parameters

  same_plan : plan_at (take plan_length ws) ≡ plan_in (outline_at ws) (gates_in ws) (nodes_in ws)
  same_plan = λ i. record {
    trace = (same_parameters i).trace;
    copy = (same_parameters i).copy;
    allowed = (same_parameters i).allowed;
    specialised = (same_parameters i).specialised;
    variables = (same_parameters i).variables;
    lookup = lookup_of (same_parameters i);
    gates = same_part gates_from gate_slots (omega arith) i;
    gate_count = first-words count_at (omega arith) i;
    nodes = same_part nodes_from node_slots (omega arith) i;
    node_count = first-words tail_from (omega arith) i;
    degree = first-words (tail_from + 1) (omega arith) i;
    constants = first-words (tail_from + 2) (omega arith) i;
    factor = first-words (tail_from + 3) (omega arith) i;
  }

  first-long : length (take plan_length ws) ≡ plan_length
  first-long = length-take-le plan_length ws (omega arith)

  -- the parts are the state that the words encode
  pub state_parts : lookup_there ws ≡ true → intake_in (outline_at ws) (gates_in ws) (nodes_in ws) (counts_at ws) (marks_at ws) ≡ intake_of ws
  state_parts f =
      ap (λ (q : Plan). with_state q (state_in (counts_at ws) (marks_at ws))) (sym same_plan ∙ plan-read (take plan_length ws) first-long (same_there ∙ f))
      ∙ state_read ws e

  -- without a lookup mode's words there is no plan: the state has that of zeros
  no_mode_parts : lookup_there ws ≡ false → with_state zero_plan (state_in (counts_at ws) (marks_at ws)) ≡ intake_of ws
  no_mode_parts f = ap (λ (q : Plan). with_state q (state_in (counts_at ws) (marks_at ws))) (plan-none (take plan_length ws) first-long (same_there ∙ f)) ∙ state_read ws e

-- what words hold that hold a state
pub record Holds (ws : List ℕ) (h : Held) : Type 0 where
  pub long : length ws ≡ state_length
  pub marks : marks_read ws ≡ marks_at ws
  pub parts : intake_in h.outline (gates_in ws) (nodes_in ws) h.counts (marks_at ws) ≡ intake_of ws

pub holds : (ws : List ℕ) (h : Held) → h ≡ held_at ws → h.fits ≡ true → Holds ws h
unfolding held_at
holds ws h e f = by (ℕ_discrete (length ws) state_length) (lookup_there ws) refl
  where
    none : (k : Counts) → h ≡ held_with no_plan k → Holds ws h
    none k z = absurd (true≢false (sym f ∙ ap (λ (x : Held). x.fits) z))

    by : Dec (length ws ≡ state_length) → (t : Bool) → lookup_there ws ≡ t → Holds ws h
    by (no d) t l = none zero_intake.counts (e ∙ rw (ne_eqb (length ws) state_length d))
    by (yes k) false l = none (counts_at ws) (e ∙ rw (eq-eqb (length ws) state_length k, l))
    by (yes k) true l =
        let z : h ≡ record { fits = true; outline = outline_at ws; counts = counts_at ws } = e ∙ rw (eq-eqb (length ws) state_length k, l) in
        record { long = k; marks = rw (eq-eqb (length ws) state_length k) refl; parts = rw z (state_parts ws k l) }

-- words that hold none encode a made-up state: the plan of zeros with the counts and the marks
pub holds_none : (ws : List ℕ) (h : Held) → h ≡ held_at ws → h.fits ≡ false → with_state zero_plan (state_in h.counts (marks_read ws)) ≡ intake_of ws
unfolding held_at
holds_none ws h e f = by (ℕ_discrete (length ws) state_length) (lookup_there ws) refl
  where
    by : Dec (length ws ≡ state_length) → (t : Bool) → lookup_there ws ≡ t → with_state zero_plan (state_in h.counts (marks_read ws)) ≡ intake_of ws
    by (no d) t l =
        let z : h ≡ held_with no_plan zero_intake.counts = e ∙ rw (ne_eqb (length ws) state_length d) in
        rw (z, ne_eqb (length ws) state_length d) (state_other ws d)
    by (yes k) false l =
        let z : h ≡ held_with no_plan (counts_at ws) = e ∙ rw (eq-eqb (length ws) state_length k, l) in
        rw (z, eq-eqb (length ws) state_length k) (no_mode_parts ws k l)
    by (yes k) true l =
        let y : h ≡ record { fits = true; outline = outline_at ws; counts = counts_at ws } = e ∙ rw (eq-eqb (length ws) state_length k, l) in
        absurd (true≢false (sym (ap (λ (x : Held). x.fits) y) ∙ f))

-- so that it has a fault
pub none_fault : (ws : List ℕ) (h : Held) → h ≡ held_at ws → h.fits ≡ false → plan_fault (intake_of ws).plan ≢ 0
none_fault ws h e f z = omega (arith, zero_fault, ap (λ (s : Intake). plan_fault s.plan) (holds_none ws h e f), z)

-- The number of an unpadded circuit, cause by cause, as the code asks.
--
-- Main statements: `pad_range`, `pad_planning`, `pad_21`, `pad_22`, `pad_own`; `Reached` (the length by the code's bound), `reached`; `filler_here`, `filler_next`, `filler_none`; `refusal`, `found_gate`.
use Rattle.std.specs.Prelude.{◌≡◌, ◌≢◌, List, length, leb, ltb, Result, Option, Some, IfSome}
use Rattle.std.specs.Result.{IsErrAnd}
use Rattle.std.proofs.lemmas.Result.{err_from_is_err_and}
use Rattle.std.proofs.Math.Path.{sym, ap, subst}
use Rattle.std.proofs.Common.{◌∙◌, not-suc-le-zero}
use Rattle.std.proofs.Math.Bool.{true}
use Prim.Native.Nat.{ℕ, ◌+◌, ◌^◌, ◌≤◌, ◌<◌, max, zero, suc, ◌-◌}
use Rattle.std.proofs.Math.Decide.{dec_le}
use Rattle.std.proofs.Math.Numerals.{add-one}
use native.Mathlib.Omega.{arith}
use borrow.Author.Tests.{eq-eqb, le-leb, le-ltb, lt-leb, lt-ltb, ne_eqb}
use Rattle.base.specs.Exponent.{exponent}
use Rattle.base.specs.Firsts.{first-none, first_found}
use Rattle.base.specs.Pick.{pick, pick_yes, pick_no}
use Rattle.refusal.specs.declared.Refusal.{Refusal}
use Rattle.refusal.specs.Refusal.{refusal_number}
use Rattle.labels.specs.Ranges.{longest_trace, trace_fits}
use Rattle.parameters.specs.Parameters.{parameters_at}
use Rattle.selector.specs.Gates.{kind_of}
use Rattle.selector.specs.Refusals.{count_of_gates}
use Rattle.tree.specs.Plan.{plan_number, planned, plan_fault}
use Rattle.tree.specs.PlanLaws.{planned_fault}
use Rattle.pieces.specs.Records.{rows_of, tables_of}
use Rattle.pieces.specs.Tables.{sum_rows}
use Rattle.columns.specs.Sections.{unpadded_number, unpadded_call}
use Rattle.claim.specs.Statement.{setting_for}
use Rattle.listing.specs.Listing.{Words}
use Rattle.padding.specs.Padding.{given, least, length_of, with_trace, filler_from, filler_of, planning_number, pad_number}
use Rattle.padding.specs.Judging.{Capped, Judging, gate_or}
use Rattle.padding.specs.declared.judging.Judged.{Judged}
use Rattle.padding.specs.Lengths.{one_in_range, power_fits, power_in_range, power_passes}
use Rattle.padding.specs.Traces.{other_number}

-- ---- the length
-- a length in its range, which is the circuit's where that is at most 65,536
pub record Reached (w : Words) (bound n : ℕ) : Type 0 where
  pub in_range : trace_fits n ≡ true
  pub same : bound ≤ longest_trace → (n ≡ length_of w) × (length_of w ≤ longest_trace)
  pub passes : longest_trace < bound → longest_trace < length_of w

bound_is : (a s g t : ℕ) → Capped s t → g ≤ longest_trace → max a (max t g) ≤ longest_trace → max a (max t g) ≡ max a (max s g)
bound_is a s g t k h q = go (dec_le s longest_trace)
  where
    go : Dec (s ≤ longest_trace) → max a (max t g) ≡ max a (max s g)
    go (yes p) = ap (λ (x : ℕ). max a (max x g)) (k.same p)
    go (no p) = absurd (omega (arith, k.above (omega arith), q))

bound_passes : (a s g t : ℕ) → Capped s t → longest_trace < max a (max t g) → longest_trace < max a (max s g)
bound_passes a s g t k q = go (dec_le s longest_trace)
  where
    go : Dec (s ≤ longest_trace) → longest_trace < max a (max s g)
    go (yes p) = let e = k.same p in omega (arith, e, q)
    go (no p) = omega arith

module _ (w : Words) (t n : ℕ) (k : Capped (sum_rows 0 (tables_of w.tables)) t) (h : given w ≤ longest_trace) where
  abbrev a : ℕ
  a = length (rows_of w.rows) + 1

  abbrev bound : ℕ
  bound = max a (max t (given w))

  pub reached : n ≡ pick (leb bound longest_trace) (2 ^ exponent bound) 1 → Reached w bound n
  unfolding least length_of
  reached e = go (dec_le bound longest_trace)
    where
      go : Dec (bound ≤ longest_trace) → Reached w bound n
      go (yes p) =
          let f : n ≡ 2 ^ exponent bound = e ∙ pick_yes (leb bound longest_trace) (2 ^ exponent bound) 1 (le-leb bound longest_trace p) in
          let b : bound ≡ least w = bound_is a (sum_rows 0 (tables_of w.tables)) (given w) t k h p in
          let l : 2 ^ exponent bound ≡ length_of w = ap (λ (x : ℕ). 2 ^ exponent x) b in
          record {
            in_range = ap trace_fits f ∙ power_in_range bound (power_fits bound p);
            same = λ q. (f ∙ l, omega (arith, l, power_fits bound p));
            passes = λ q. absurd (omega (arith, q, p));
          }
      go (no p) =
          let f : n ≡ 1 = e ∙ pick_no (leb bound longest_trace) (2 ^ exponent bound) 1 (lt-leb bound longest_trace (omega arith)) in
          record {
            in_range = ap trace_fits f ∙ one_in_range;
            same = λ q. absurd (p q);
            passes = λ q. power_passes (least w) (bound_passes a (sum_rows 0 (tables_of w.tables)) (given w) t k q);
          }

-- ---- the first kind 1 gate, as a loop looks for it
module _ (k g : ℕ) (gs : List ℕ) where
  pub filler_here : 0 < k → kind_of gs g ≡ 1 → filler_from k g gs ≡ g
  unfolding filler_from
  filler_here h e = go k h
    where
      go : (k : ℕ) → 0 < k → filler_from k g gs ≡ g
      go zero h = absurd (not-suc-le-zero h)
      go (suc k) h = rw (eq-eqb (kind_of gs g) 1 e)

  pub filler_next : 0 < k → kind_of gs g ≢ 1 → filler_from k g gs ≡ filler_from (k - 1) (g + 1) gs
  unfolding filler_from
  filler_next h d = go k h
    where
      go : (k : ℕ) → 0 < k → filler_from k g gs ≡ filler_from (k - 1) (g + 1) gs
      go zero h = absurd (not-suc-le-zero h)
      go (suc k) h = let z : suc k - 1 ≡ k = omega arith in rw (ne_eqb (kind_of gs g) 1 d, z, add-one g)

  pub filler_none : k ≡ 0 → filler_from k g gs ≡ g
  unfolding filler_from
  filler_none e = rw e

-- ---- the number
module _ (w : Words) where
  abbrev gs : List ℕ
  gs = w.gates

  abbrev ps : List ℕ
  ps = w.parameters

  pub pad_range : longest_trace < given w → pad_number w ≡ 1
  unfolding pad_number planning_number
  pad_range h =
      let e = pick_no (leb (given w) longest_trace) (plan_number (with_trace 1 (parameters_at ps)) gs) 1 (lt-leb (given w) longest_trace h) in
      first_found _ _ (λ z. omega (arith, e, z)) ∙ e

  module _ (n : ℕ) (f : trace_fits n ≡ true) (h : given w ≤ longest_trace) where
    planning_is : planning_number w ≡ plan_number (with_trace n (parameters_at ps)) gs
    unfolding planning_number
    planning_is = pick_yes (leb (given w) longest_trace) (plan_number (with_trace 1 (parameters_at ps)) gs) 1 (le-leb (given w) longest_trace h) ∙ other_number 1 n (parameters_at ps) gs one_in_range f

    pub pad_planning : plan_number (with_trace n (parameters_at ps)) gs ≢ 0 → pad_number w ≡ plan_number (with_trace n (parameters_at ps)) gs
    unfolding pad_number
    pad_planning d = first_found (planning_number w) _ (λ z. d (sym planning_is ∙ z)) ∙ planning_is

    module _ (z : plan_number (with_trace n (parameters_at ps)) gs ≡ 0) where
      pub pad_21 : count_of_gates gs ≤ filler_of gs → pad_number w ≡ 21
      unfolding pad_number
      pad_21 q = first-none (planning_number w) _ (planning_is ∙ z) ∙ pick_no (ltb (filler_of gs) (count_of_gates gs)) _ 21 (le-ltb (filler_of gs) (count_of_gates gs) q)

      pub pad_22 : filler_of gs < count_of_gates gs → longest_trace < length_of w → pad_number w ≡ 22
      unfolding pad_number
      pad_22 q l =
          first-none (planning_number w) _ (planning_is ∙ z)
          ∙ pick_yes (ltb (filler_of gs) (count_of_gates gs)) _ 21 (lt-ltb (filler_of gs) (count_of_gates gs) q)
          ∙ pick_no (leb (length_of w) longest_trace) _ 22 (lt-leb (length_of w) longest_trace l)

      pub pad_own : filler_of gs < count_of_gates gs → length_of w ≤ longest_trace → n ≡ length_of w
          → unpadded_call (setting_for (with_trace n (parameters_at ps)) gs) (given w) (filler_of gs) w.rows w.s_words w.cells w.tables ≡ pad_number w
      unfolding pad_number
      pad_own q l e =
          let x = setting_for (with_trace n (parameters_at ps)) gs in
          let own = unpadded_number x (given w) (filler_of gs) w.rows w.s_words w.cells w.tables in
          let s : x.sound ≡ true = eq-eqb (plan_fault (planned (with_trace n (parameters_at ps)) gs)) 0 (planned_fault (with_trace n (parameters_at ps)) gs z) in
          pick_yes x.sound _ 19 s
          ∙ pick_yes (leb (given w) longest_trace) own 1 (le-leb (given w) longest_trace h)
          ∙ ap (λ (k : ℕ). unpadded_number (setting_for (with_trace k (parameters_at ps)) gs) (given w) (filler_of gs) w.rows w.s_words w.cells w.tables) e
          ∙ sym
          (first-none (planning_number w) _ (planning_is ∙ z)
          ∙ pick_yes (ltb (filler_of gs) (count_of_gates gs)) _ 21 (lt-ltb (filler_of gs) (count_of_gates gs) q)
          ∙ pick_yes (leb (length_of w) longest_trace) _ 22 (le-leb (length_of w) longest_trace l))

-- a refusal, and one that `?` passes up
pub refusal : (w : Words) (r : Result Judged Refusal) (e : Refusal) → IsErrAnd r (λ d. d ≡ e) → pad_number w ≡ refusal_number e → Judging w r
refusal w r e h q = let p = err_from_is_err_and r h in rw (p.1, p.2) (record { number_is = sym q; judged_is = tt })

-- the gate that was found
pub found_gate : (gs : List ℕ) (o : Option ℕ) (g : ℕ) → o ≡ Some g → gate_or (count_of_gates gs) o ≡ filler_of gs → IfSome o (λ k. k < count_of_gates gs)
    → (g ≡ filler_of gs) × (filler_of gs < count_of_gates gs)
found_gate gs o g e v l =
    let is : g ≡ filler_of gs = sym (ap (gate_or (count_of_gates gs)) e) ∙ v in
    let low : g < count_of_gates gs = subst (λ (x : Option ℕ). IfSome x (λ k. k < count_of_gates gs)) e l in
    (is, omega (arith, is, low))

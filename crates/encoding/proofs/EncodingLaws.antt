-- Decoding what was encoded gives the value back, and encoding what was decoded the words, where the plan has no fault.
--
-- Main statements: `plan_back`, `state_back`; `sound_again`, `plan_there`, `state_progressed`.
use Rattle.std.specs.Prelude.{◌+◌, ◌<◌, ◌≤◌, suc, ℕ, eqb, leb, drop, get_or, length, replicate, set, take, Bool, false, true, List, [], ◌++◌, ◌∷◌, ◌≢◌, ◌≡◌, refl}
use Rattle.std.proofs.Common.{eq-eqb, eqb-true, le-leb, leb-true, ne_eqb, length-append, length-drop, take-append-drop, drop-cons, drop-drop, get_or-append-add, length-take-le, take_at, append_assoc, ◌∙◌, ap, sym, add-one, arith}
use Rattle.std.proofs.lemmas.Bool.{lt-leb}
use Rattle.std.proofs.lemmas.List.{length-replicate, get_or_at, set_at}
use Rattle.std.proofs.Math.Seq.{drop-append-add, drop-length, take-length}
use Rattle.std.proofs.Math.Decide.{dec_le, ℕ_discrete}
use Rattle.base.specs.Limits.{most_gates}
use Rattle.base.specs.Pick.{both, both_true, pick, pick_no, pick_yes}
use Rattle.columns.specs.declared.intake.Intake.{Intake}
use Rattle.parameters.specs.Lookup.{flag_of, mode_of, share_of, width_of}
use Rattle.parameters.specs.Parameters.{lookup_of, parameter_words, parameters_at}
use Rattle.parameters.specs.ParametersLaws.{LookupWords}
use Rattle.parameters.specs.declared.lookup.LookupParameters.TheVariants.{NoLookup, TableIdAsConstant, TableIdAsVariable, UseSpecializedColumnsWithTableIdAsConstant, UseSpecializedColumnsWithTableIdAsVariable}
use Rattle.parameters.specs.declared.lookup.LookupParameters.{LookupParameters}
use Rattle.parameters.specs.declared.parameters.Parameters.{Parameters}
use Rattle.selector.specs.Gates.{gate_slots}
use Rattle.selector.specs.Nodes.{node_slots}
use Rattle.tree.specs.Plan.{parameters_of, plan_fault, zero_plan}
use Rattle.tree.specs.PlanLaws.{zero_fault}
use Rattle.tree.specs.declared.plan.Plan.{Plan}
use Rattle.columns.specs.Intake.{zero_intake}
use Rattle.writer.specs.Hand.{handed}
use Rattle.writer.proofs.HandLaws.{handed-long, handed_short, handed_whole}
use Rattle.writer.specs.Put.{put, put_if}
use Rattle.writer.specs.PutLaws.{put_fits}
use Rattle.encoding.specs.Encoding.{count_at, counts_from, counts_length, gates_from, head_words, intake_at, intake_of, intake_words, lookup_fits, lookup_there, marks_at, nodes_from, phase_at, plan_at, plan_length, plan_of, plan_words, progress_length, progress_of, progress_words, progressed, state_length, tail_from, tail_length, tail_words, used_from}

-- ---- the lookup mode
fits_each : (l : LookupParameters) → lookup_fits (mode_of l) (width_of l) (flag_of (share_of l)) ≡ true
unfolding lookup_fits
fits_each NoLookup = refl
fits_each (TableIdAsVariable w true) = refl
fits_each (TableIdAsVariable w false) = refl
fits_each (TableIdAsConstant w true) = refl
fits_each (TableIdAsConstant w false) = refl
fits_each (UseSpecializedColumnsWithTableIdAsVariable w true) = refl
fits_each (UseSpecializedColumnsWithTableIdAsVariable w false) = refl
fits_each (UseSpecializedColumnsWithTableIdAsConstant w true) = refl
fits_each (UseSpecializedColumnsWithTableIdAsConstant w false) = refl

lookup_back : (q : Plan) → lookup_of (parameters_of q) ≡ q.lookup
unfolding lookup_of
lookup_back q = by q.lookup
  where
    by : (l : LookupParameters) → lookup_of (record { trace = q.trace; copy = q.copy; allowed = q.allowed; specialised = q.specialised; variables = q.variables; mode = mode_of l; width = width_of l; share = flag_of (share_of l) }) ≡ l
    by NoLookup = refl
    by (TableIdAsVariable w true) = refl
    by (TableIdAsVariable w false) = refl
    by (TableIdAsConstant w true) = refl
    by (TableIdAsConstant w false) = refl
    by (UseSpecializedColumnsWithTableIdAsVariable w true) = refl
    by (UseSpecializedColumnsWithTableIdAsVariable w false) = refl
    by (UseSpecializedColumnsWithTableIdAsConstant w true) = refl
    by (UseSpecializedColumnsWithTableIdAsConstant w false) = refl

-- ---- plans. Every plan of the code has arrays of these lengths.
pub plan-length : (q : Plan) → length q.gates ≡ gate_slots → length q.nodes ≡ node_slots → length (plan_words q) ≡ plan_length
plan-length q g n =
    let a = length-append q.gates (q.gate_count ∷ (q.nodes ++ tail_words q)) in
    let b = length-append q.nodes (tail_words q) in
    omega (arith, a, b)

-- what stands past the first part of two lists
part_get_d : (xs ys : List ℕ) (n i : ℕ) → length xs ≡ n → get_or (xs ++ ys) (n + i) 0 ≡ get_or ys i 0
part_get_d xs ys n i e = ap (λ (k : ℕ). get_or (xs ++ ys) (k + i) 0) (sym e) ∙ get_or-append-add xs ys i 0

part-drop : (xs ys : List ℕ) (n i : ℕ) → length xs ≡ n → drop (n + i) (xs ++ ys) ≡ drop i ys
part-drop xs ys n i e = ap (λ (k : ℕ). drop (k + i) (xs ++ ys)) (sym e) ∙ drop-append-add xs ys i

module _ (q : Plan) (g : length q.gates ≡ gate_slots) (n : length q.nodes ≡ node_slots) where
  -- the words after the gates
  abbrev counted : List ℕ
  counted = q.gate_count ∷ (q.nodes ++ tail_words q)

  nodes_back : take node_slots (drop nodes_from (plan_words q)) ≡ q.nodes
  nodes_back = ap (take node_slots) (part-drop q.gates counted gate_slots 1 g) ∙ take_at q.nodes (tail_words q) node_slots n

  count_back : get_or (plan_words q) tail_from 0 ≡ q.node_count
  count_back = part_get_d q.gates counted gate_slots (1 + node_slots) g ∙ part_get_d q.nodes (tail_words q) node_slots 0 n

  degree_back : get_or (plan_words q) (tail_from + 1) 0 ≡ q.degree
  degree_back = part_get_d q.gates counted gate_slots (1 + node_slots + 1) g ∙ part_get_d q.nodes (tail_words q) node_slots 1 n

  constants_back : get_or (plan_words q) (tail_from + 2) 0 ≡ q.constants
  constants_back = part_get_d q.gates counted gate_slots (1 + node_slots + 2) g ∙ part_get_d q.nodes (tail_words q) node_slots 2 n

  factor_back : get_or (plan_words q) (tail_from + 3) 0 ≡ q.factor
  factor_back = part_get_d q.gates counted gate_slots (1 + node_slots + 3) g ∙ part_get_d q.nodes (tail_words q) node_slots 3 n

  fields_back : plan_at (plan_words q) ≡ q
  fields_back = λ i. record {
    trace = q.trace;
    copy = q.copy;
    allowed = q.allowed;
    specialised = q.specialised;
    variables = q.variables;
    lookup = lookup_back q i;
    gates = take_at q.gates counted gate_slots g i;
    gate_count = get_or_at q.gates q.gate_count (q.nodes ++ tail_words q) 0 gate_slots g i;
    nodes = nodes_back i;
    node_count = count_back i;
    degree = degree_back i;
    constants = constants_back i;
    factor = factor_back i;
  }

  -- "Decoding what was encoded gives the value back": a plan
  pub plan_back : plan_of (plan_words q) ≡ q
  unfolding plan_of
  plan_back =
      pick_yes (eqb (length (plan_words q)) plan_length) _ zero_plan (eq-eqb (length (plan_words q)) plan_length (plan-length q g n))
      ∙ pick_yes (lookup_fits (mode_of q.lookup) (width_of q.lookup) (flag_of (share_of q.lookup))) (plan_at (plan_words q)) zero_plan (fits_each q.lookup)
      ∙ fields_back

module _ (s : Intake) (g : length s.plan.gates ≡ gate_slots) (n : length s.plan.nodes ≡ node_slots) (u : length s.used ≡ most_gates) where
  long : length (plan_words s.plan) ≡ plan_length
  long = plan-length s.plan g n

  pub state-length : length (intake_words s) ≡ state_length
  state-length =
      let a = length-append (plan_words s.plan) (progress_of s) in
      let b = length-append s.used (s.counts.phase ∷ []) in
      omega (arith, long, a, b)

  state_fields : intake_at (intake_words s) ≡ s
  state_fields = λ i. record {
    plan = (ap plan_of (take_at (plan_words s.plan) (progress_of s) plan_length long) ∙ plan_back s.plan g n) i;
    counts = record {
      rows = part_get_d (plan_words s.plan) (progress_of s) plan_length 0 long i;
      s_words = part_get_d (plan_words s.plan) (progress_of s) plan_length 1 long i;
      cells = part_get_d (plan_words s.plan) (progress_of s) plan_length 2 long i;
      tables = part_get_d (plan_words s.plan) (progress_of s) plan_length 3 long i;
      table_rows = part_get_d (plan_words s.plan) (progress_of s) plan_length 4 long i;
      phase = (part_get_d (plan_words s.plan) (progress_of s) plan_length (counts_length + most_gates) long ∙ get_or_at s.used s.counts.phase [] 0 most_gates u) i;
    };
    used = (ap (take most_gates) (part-drop (plan_words s.plan) (progress_of s) plan_length counts_length long) ∙ take_at s.used (s.counts.phase ∷ []) most_gates u) i;
  }

  -- and a state
  pub state_back : intake_of (intake_words s) ≡ s
  unfolding intake_of
  state_back =
      pick_yes (eqb (length (intake_words s)) state_length) _ zero_intake (eq-eqb (length (intake_words s)) state_length state-length) ∙ state_fields

-- ---- what the writing functions leave
-- words put behind those already written
put_on : (done xs old : List ℕ) (at : ℕ) → length done ≡ at → put at xs (done ++ drop at old) ≡ (done ++ xs) ++ drop (at + length xs) old
unfolding put
put_on done xs old at e =
    rw (take_at done (drop at old) at e, take-length xs)
    (ap (λ (l : List ℕ). done ++ xs ++ l) (part-drop done (drop at old) at (length xs) e ∙ drop-drop (length xs) at old))

-- one word more
set_on : (done old : List ℕ) (at w : ℕ) → length done ≡ at → at < length old → set (done ++ drop at old) at w ≡ (done ++ (w ∷ [])) ++ drop (at + 1) old
set_on done old at w e h =
    ap (λ (l : List ℕ). set (done ++ l) at w) (drop-cons old at 0 h)
    ∙ set_at done (get_or old at 0) (drop (suc at) old) w at e
    ∙ rw add-one (sym (append_assoc done (w ∷ []) (drop (suc at) old)))

pub progressed_short : (new old : List ℕ) → length old < state_length → progressed new old ≡ old
progressed_short new old h = rw (lt-leb state_length (length old) h)

-- the lengths add up
two-long : (xs ys : List ℕ) (a b : ℕ) → length xs ≡ a → length ys ≡ b → length (xs ++ ys) ≡ a + b
two-long xs ys a b e f = omega (arith, length-append xs ys)

-- a part more
part-next : (done xs old w : List ℕ) (at n : ℕ) → length done ≡ at → length xs ≡ n → at + n ≤ length old → w ≡ done ++ drop at old → put_if at xs w ≡ (done ++ xs) ++ drop (at + n) old
part-next done xs old w at n e f h k =
    ap (put_if at xs) k
    ∙ put_fits at xs (done ++ drop at old) (omega (arith, length-append done (drop at old), length-drop at old))
    ∙ put_on done xs old at e
    ∙ ap (λ (j : ℕ). (done ++ xs) ++ drop (at + j) old) f

set_next : (done old w : List ℕ) (at x : ℕ) → length done ≡ at → at < length old → w ≡ done ++ drop at old → set w at x ≡ (done ++ (x ∷ [])) ++ drop (at + 1) old
set_next done old w at x e h k = ap (λ (l : List ℕ). set l at x) k ∙ set_on done old at x e h

-- the words that a plan is written by, part after part
module _ (q : Plan) (old : List ℕ) (g : length q.gates ≡ gate_slots) (n : length q.nodes ≡ node_slots) (h : plan_length ≤ length old) where
  abbrev head_gates : List ℕ
  head_gates = head_words q ++ q.gates

  abbrev to_count : List ℕ
  to_count = head_gates ++ (q.gate_count ∷ [])

  abbrev to_nodes : List ℕ
  to_nodes = to_count ++ q.nodes

  long-gates : length head_gates ≡ count_at
  long-gates = two-long (head_words q) q.gates gates_from gate_slots refl g

  long_count : length to_count ≡ nodes_from
  long_count = two-long head_gates (q.gate_count ∷ []) count_at 1 long-gates refl

  long_nodes : length to_nodes ≡ tail_from
  long_nodes = two-long to_count q.nodes nodes_from node_slots long_count n

  in_parts : to_nodes ++ tail_words q ≡ plan_words q
  in_parts =
      append_assoc to_count q.nodes (tail_words q)
      ∙ append_assoc head_gates (q.gate_count ∷ []) (q.nodes ++ tail_words q)
      ∙ append_assoc (head_words q) q.gates (q.gate_count ∷ (q.nodes ++ tail_words q))

  pub plan-written : (m w f : ℕ) → m ≡ mode_of q.lookup → w ≡ width_of q.lookup → f ≡ flag_of (share_of q.lookup)
      → (a b d e : List ℕ)
      → a ≡ put_if 0 (q.trace ∷ q.copy ∷ q.allowed ∷ q.specialised ∷ q.variables ∷ m ∷ w ∷ f ∷ []) old
      → b ≡ put_if gates_from q.gates a
      → d ≡ put_if nodes_from q.nodes (set b count_at q.gate_count)
      → e ≡ put_if tail_from (tail_words q) d
      → e ≡ handed (plan_words q) old
  plan-written m w f em ew ef a b d e ea eb ed ee =
      let ea2 : a ≡ put_if 0 (head_words q) old = rw (em, ew, ef) at ea in
      let fa : a ≡ head_words q ++ drop gates_from old = ea2 ∙ part-next [] (head_words q) old old 0 parameter_words refl refl (omega arith) refl in
      let fb : b ≡ head_gates ++ drop count_at old = eb ∙ part-next (head_words q) q.gates old a gates_from gate_slots refl g (omega arith) fa in
      let fc : set b count_at q.gate_count ≡ to_count ++ drop nodes_from old = set_next head_gates old b count_at q.gate_count long-gates (omega arith) fb in
      let fd : d ≡ to_nodes ++ drop tail_from old = ed ∙ part-next to_count q.nodes old (set b count_at q.gate_count) nodes_from node_slots long_count n (omega arith) fc in
      let fe : e ≡ (to_nodes ++ tail_words q) ++ drop plan_length old = ee ∙ part-next to_nodes (tail_words q) old d tail_from tail_length long_nodes refl (omega arith) fd in
      fe ∙ ap (λ (l : List ℕ). l ++ drop plan_length old) in_parts ∙ handed-long (plan_words q) old plan_length (plan-length q g n) h

-- what a state has besides its plan, part after part
module _ (rows words cells tables stacked phase : ℕ) (used old : List ℕ) (u : length used ≡ most_gates) (h : state_length ≤ length old) where
  abbrev five : List ℕ
  five = rows ∷ words ∷ cells ∷ tables ∷ stacked ∷ []

  abbrev to_counts : List ℕ
  to_counts = take plan_length old ++ five

  abbrev to_used : List ℕ
  to_used = to_counts ++ used

  long_counts : length to_counts ≡ used_from
  long_counts = two-long (take plan_length old) five counts_from counts_length (length-take-le plan_length old (omega arith)) refl

  long_used : length to_used ≡ phase_at
  long_used = two-long to_counts used used_from most_gates long_counts u

  pub progress_written : (a b : List ℕ) → a ≡ put_if counts_from five old → b ≡ put_if used_from used a
      → set b phase_at phase ≡ progressed (progress_words rows words cells tables stacked used phase) old
  progress_written a b ea eb =
      let fa : a ≡ to_counts ++ drop used_from old = ea ∙ part-next (take plan_length old) five old old counts_from counts_length (length-take-le plan_length old (omega arith)) refl (omega arith) (sym (take-append-drop plan_length old)) in
      let fb : b ≡ to_used ++ drop phase_at old = eb ∙ part-next to_counts used old a used_from most_gates long_counts u (omega arith) fa in
      let new = progress_words rows words cells tables stacked used phase in
      let parts = append_assoc to_counts used (phase ∷ []) ∙ append_assoc (take plan_length old) five (used ++ (phase ∷ [])) in
      set_next to_used old b phase_at phase long_used (omega arith) fb
      ∙ ap (λ (l : List ℕ). l ++ drop state_length old) parts
      ∙ append_assoc (take plan_length old) new (drop state_length old)
      ∙ sym (pick_yes (leb state_length (length old)) (take plan_length old ++ (new ++ drop state_length old)) old (le-leb state_length (length old) h))

  -- where the marks are those that stand there, writing them is writing nothing
  pub counts_written : used ≡ marks_at old → (a : List ℕ) → a ≡ put_if counts_from five old → set a phase_at phase ≡ progressed (progress_words rows words cells tables stacked used phase) old
  counts_written eu a ea =
      let fa : a ≡ to_counts ++ drop used_from old = ea ∙ part-next (take plan_length old) five old old counts_from counts_length (length-take-le plan_length old (omega arith)) refl (omega arith) (sym (take-append-drop plan_length old)) in
      let rest : used ++ drop phase_at old ≡ drop used_from old =
      ap (λ (l : List ℕ). l ++ drop phase_at old) eu ∙ ap (λ (l : List ℕ). marks_at old ++ l) (sym (drop-drop most_gates used_from old)) ∙ take-append-drop most_gates (drop used_from old) in
      let stay : put_if used_from used a ≡ a =
      part-next to_counts used old a used_from most_gates long_counts u (omega arith) fa ∙ append_assoc to_counts used (drop phase_at old) ∙ ap (λ (l : List ℕ). to_counts ++ l) rest ∙ sym fa in
      ap (λ (l : List ℕ). set l phase_at phase) (sym stay) ∙ progress_written a (put_if used_from used a) ea refl

-- and a state, the plan first
module _ (s : Intake) (old : List ℕ) (g : length s.plan.gates ≡ gate_slots) (n : length s.plan.nodes ≡ node_slots) (u : length s.used ≡ most_gates) where
  pub state_written : state_length ≤ length old → (a : List ℕ) → a ≡ handed (plan_words s.plan) old → progressed (progress_of s) a ≡ handed (intake_words s) old
  state_written h a e =
      let front = plan_words s.plan in
      let new = progress_of s in
      let l = plan-length s.plan g n in
      let w = front ++ drop plan_length old in
      let p : a ≡ w = e ∙ sym (handed-long front old plan_length l (omega arith)) in
      let k : state_length ≤ length w = omega (arith, l, length-append front (drop plan_length old), length-drop plan_length old) in
      ap (progressed new) p
      ∙ pick_yes (leb state_length (length w)) (take plan_length w ++ (new ++ drop state_length w)) w (le-leb state_length (length w) k)
      ∙ ap (λ (r : List ℕ). r ++ (new ++ drop state_length w)) (take_at front (drop plan_length old) plan_length l)
      ∙ ap (λ (r : List ℕ). front ++ (new ++ r)) (part-drop front (drop plan_length old) plan_length progress_length l ∙ drop-drop progress_length plan_length old)
      ∙ sym (append_assoc front new (drop state_length old))
      ∙ handed-long (intake_words s) old state_length (state-length s g n u) h

  -- where the plan's words are there already the rest is all that is left to write
  pub state_progressed : handed (plan_words s.plan) old ≡ old → progressed (progress_of s) old ≡ handed (intake_words s) old
  state_progressed e = by (dec_le state_length (length old))
    where
      by : Dec (state_length ≤ length old) → progressed (progress_of s) old ≡ handed (intake_words s) old
      by (yes h) = state_written h old (sym e)
      by (no d) =
          let h : length old < state_length = omega arith in
          let k : length old < length (intake_words s) = omega (arith, state-length s g n u) in
          progressed_short (progress_of s) old h ∙ handed_short (intake_words s) old k

-- ---- what the reading functions answer
pub plan_other : (ws : List ℕ) → length ws ≢ plan_length → zero_plan ≡ plan_of ws
unfolding plan_of
plan_other ws d = sym (pick_no (eqb (length ws) plan_length) _ zero_plan (ne_eqb (length ws) plan_length d))

pub plan-none : (ws : List ℕ) → length ws ≡ plan_length → lookup_there ws ≡ false → zero_plan ≡ plan_of ws
unfolding plan_of
plan-none ws e f =
    sym (pick_yes (eqb (length ws) plan_length) _ zero_plan (eq-eqb (length ws) plan_length e) ∙ pick_no (lookup_there ws) (plan_at ws) zero_plan f)

pub plan-read : (ws : List ℕ) → length ws ≡ plan_length → lookup_there ws ≡ true → plan_at ws ≡ plan_of ws
unfolding plan_of
plan-read ws e f =
    sym (pick_yes (eqb (length ws) plan_length) _ zero_plan (eq-eqb (length ws) plan_length e) ∙ pick_yes (lookup_there ws) (plan_at ws) zero_plan f)

pub state_other : (ws : List ℕ) → length ws ≢ state_length → zero_intake ≡ intake_of ws
unfolding intake_of
state_other ws d = sym (pick_no (eqb (length ws) state_length) _ zero_intake (ne_eqb (length ws) state_length d))

pub state_read : (ws : List ℕ) → length ws ≡ state_length → intake_at ws ≡ intake_of ws
unfolding intake_of
state_read ws e = sym (pick_yes (eqb (length ws) state_length) (intake_at ws) zero_intake (eq-eqb (length ws) state_length e))

-- a part of the words in an array of zeros that is as long
pub part-read : (ws : List ℕ) (at n : ℕ) → at + n ≤ length ws → handed (take n (drop at ws)) (replicate n 0) ≡ take n (drop at ws)
part-read ws at n h =
    let e = length-take-le n (drop at ws) (omega (arith, length-drop at ws)) in
    handed_whole (take n (drop at ws)) (replicate n 0) (e ∙ sym (length-replicate n 0))

-- ---- words that are decoded and encoded again
-- the lookup mode of three words that fit answers for them
mode_again : (p : Parameters) → lookup_fits p.mode p.width p.share ≡ true → LookupWords p (lookup_of p)
unfolding lookup_fits lookup_of
mode_again p e = by (ℕ_discrete p.mode 1) (ℕ_discrete p.mode 2) (ℕ_discrete p.mode 3) (ℕ_discrete p.mode 4)
  where
    none : Bool
    none = both (eqb p.width 0) (eqb p.share 0)

    modes : (leb p.mode 4 ≡ true) × (both (leb p.share 1) (pick (eqb p.mode 0) none true) ≡ true)
    modes = both_true (leb p.mode 4) (both (leb p.share 1) (pick (eqb p.mode 0) none true)) e

    flags : (leb p.share 1 ≡ true) × (pick (eqb p.mode 0) none true ≡ true)
    flags = both_true (leb p.share 1) (pick (eqb p.mode 0) none true) modes.1

    share : Dec (p.share ≡ 1) → flag_of (eqb p.share 1) ≡ p.share
    share (yes a) = rw (eq-eqb p.share 1 a) (sym a)
    share (no a) = rw (ne_eqb p.share 1 a) (omega (arith, leb-true p.share 1 flags.0))

    by : Dec (p.mode ≡ 1) → Dec (p.mode ≡ 2) → Dec (p.mode ≡ 3) → Dec (p.mode ≡ 4) → LookupWords p (lookup_of p)
    by (yes a) b c d = rw (eq-eqb p.mode 1 a) (record { mode = sym a; width = refl; share = share (ℕ_discrete p.share 1) })
    by (no a) (yes b) c d = rw (ne_eqb p.mode 1 a, eq-eqb p.mode 2 b) (record { mode = sym b; width = refl; share = share (ℕ_discrete p.share 1) })
    by (no a) (no b) (yes c) d =
        rw (ne_eqb p.mode 1 a, ne_eqb p.mode 2 b, eq-eqb p.mode 3 c) (record { mode = sym c; width = refl; share = share (ℕ_discrete p.share 1) })
    by (no a) (no b) (no c) (yes d) =
        rw (ne_eqb p.mode 1 a, ne_eqb p.mode 2 b, ne_eqb p.mode 3 c, eq-eqb p.mode 4 d) (record { mode = sym d; width = refl; share = share (ℕ_discrete p.share 1) })
    by (no a) (no b) (no c) (no d) =
        let z : p.mode ≡ 0 = omega (arith, leb-true p.mode 4 modes.0) in
        let w = both_true (eqb p.width 0) (eqb p.share 0) (sym (pick_yes (eqb p.mode 0) none true (eq-eqb p.mode 0 z)) ∙ flags.1) in
        rw (ne_eqb p.mode 1 a, ne_eqb p.mode 2 b, ne_eqb p.mode 3 c, ne_eqb p.mode 4 d)
        (record { mode = sym z; width = sym (eqb-true p.width 0 w.0); share = sym (eqb-true p.share 0 w.1) })

word_again : (ws : List ℕ) (i : ℕ) (rest : List ℕ) → i < length ws → rest ≡ drop (suc i) ws → get_or ws i 0 ∷ rest ≡ drop i ws
word_again ws i rest h e = ap (λ (l : List ℕ). get_or ws i 0 ∷ l) e ∙ sym (drop-cons ws i 0 h)

words_again : (ws : List ℕ) (i n : ℕ) (rest : List ℕ) → rest ≡ drop (i + n) ws → take n (drop i ws) ++ rest ≡ drop i ws
words_again ws i n rest e = ap (λ (l : List ℕ). take n (drop i ws) ++ l) (e ∙ sym (drop-drop n i ws)) ∙ take-append-drop n (drop i ws)

module _ (ws : List ℕ) (e : length ws ≡ plan_length) (f : lookup_there ws ≡ true) where
  tail_again : tail_words (plan_at ws) ≡ drop tail_from ws
  tail_again =
      word_again ws tail_from _ (omega arith)
      (word_again ws (tail_from + 1) _ (omega arith) (word_again ws (tail_from + 2) _ (omega arith) (word_again ws (tail_from + 3) [] (omega arith) (sym (drop-length ws) ∙ ap (λ (k : ℕ). drop k ws) e))))

  parts_again : take gate_slots (drop gates_from ws) ++ (get_or ws count_at 0 ∷ (take node_slots (drop nodes_from ws) ++ tail_words (plan_at ws))) ≡ drop gates_from ws
  parts_again = words_again ws gates_from gate_slots _ (word_again ws count_at _ (omega arith) (words_again ws nodes_from node_slots _ tail_again))

  plan_again : plan_words (plan_at ws) ≡ ws
  plan_again =
      let l = mode_again (parameters_at ws) f in
      rw (l.mode, l.width, l.share)
      (word_again ws 0 _ (omega arith)
      (word_again ws 1 _ (omega arith)
      (word_again ws 2 _ (omega arith)
      (word_again ws 3 _ (omega arith) (word_again ws 4 _ (omega arith) (word_again ws 5 _ (omega arith) (word_again ws 6 _ (omega arith) (word_again ws 7 _ (omega arith) parts_again))))))))

-- encoding what was decoded gives the words, where the plan has no fault
pub sound_again : (ws : List ℕ) → plan_fault (plan_of ws) ≡ 0 → plan_words (plan_of ws) ≡ ws
sound_again ws z = by (ℕ_discrete (length ws) plan_length) (lookup_there ws) refl
  where
    by : Dec (length ws ≡ plan_length) → (t : Bool) → lookup_there ws ≡ t → plan_words (plan_of ws) ≡ ws
    by (no d) t f = absurd (omega (arith, zero_fault, ap plan_fault (plan_other ws d), z))
    by (yes e) false f = absurd (omega (arith, zero_fault, ap plan_fault (plan-none ws e f), z))
    by (yes e) true f = ap plan_words (sym (plan-read ws e f)) ∙ plan_again ws e f

-- the words of a state whose plan has no fault have those of the plan in front
pub plan_there : (ws : List ℕ) → plan_fault (intake_of ws).plan ≡ 0 → handed (plan_words (intake_of ws).plan) ws ≡ ws
plan_there ws z = by (ℕ_discrete (length ws) state_length)
  where
    by : Dec (length ws ≡ state_length) → handed (plan_words (intake_of ws).plan) ws ≡ ws
    by (no d) = absurd (omega (arith, zero_fault, ap (λ (s : Intake). plan_fault s.plan) (state_other ws d), z))
    by (yes e) =
        let p : (intake_of ws).plan ≡ plan_of (take plan_length ws) = ap (λ (s : Intake). s.plan) (sym (state_read ws e)) in
        let q = sound_again (take plan_length ws) (ap plan_fault (sym p) ∙ z) in
        ap (λ (l : List ℕ). handed l ws) (ap plan_words p ∙ q)
        ∙ sym (handed-long (take plan_length ws) ws plan_length (length-take-le plan_length ws (omega arith)) (omega arith))
        ∙ take-append-drop plan_length ws

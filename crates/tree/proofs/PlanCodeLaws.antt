-- The methods of a plan: what is answered of a gate, what that tells of the plan, and the words of all gates.
use Prim.Native.Nat.{◌*◌, ◌+◌, ◌-◌, ◌<◌, ◌≤◌, suc, zero, ℕ}
use borrow.Author.Tests.{eq-eqb, le-ltb, lt-ltb, ne_eqb}
use lib.ListN.{get_or, get_or-replicate, length, length-replicate, replicate}
use lib.Dec.{eqb, ltb}
use lib.Seq.{ext_get_or, get_or-take}
use mathlib.Core.Bool.{Bool, false, true}
use mathlib.Core.List.{List}
use mathlib.Core.Logic.{◌≢◌}
use mathlib.Core.Option.{Option, none, some}
use mathlib.Core.Path.{◌∙◌, ◌≡◌, ap, refl, sym}
use native.Mathlib.Decide.{ℕ_discrete, dec_lt}
use native.Mathlib.Omega.{arith}
use Rattle.base.specs.Fills.{Filled}
use Rattle.base.specs.Pick.{pick}
use Rattle.base.specs.Tables.{table, table_at, table-length}
use Rattle.selector.specs.Gates.{constants_of, gate_words, kind_of}
use Rattle.selector.specs.MadeUp.{wanted}
use Rattle.selector.proofs.MadeUpLaws.{wanted_few}
use Rattle.selector.specs.MarkerLaws.{ends_same, noughts_bits}
use Rattle.selector.specs.Markers.{marker_ends, noughts}
use Rattle.selector.specs.Nodes.{most_levels, tree_at}
use Rattle.selector.specs.Paths.{bits_of, path_to, selected}
use Rattle.base.specs.Limits.{most_gates}
use Rattle.selector.specs.Tree.{Tree}
use Rattle.selector.specs.PathLaws.{unlisted_path}
use Rattle.tree.proofs.PathsLaws.{Long, Read, placed-long, placed-read}
use Rattle.tree.specs.Placements.{PathWords, path_words, placed, spelled}
use Rattle.tree.specs.Plan.{for_listed, gates_given, path_answer, plan_barred, plan_blocked, plan_fault, plan_path, plan_selection, plan_selector, table_id_answer}
use Rattle.tree.specs.PlanLaws.{Faultless, fault_none}
use Rattle.refusal.proofs.Passing.{refusal_nonzero}
use Rattle.refusal.specs.Refusal.{refusal_number}
use Rattle.refusal.specs.declared.Refusal.{Refusal}
use Rattle.tree.proofs.TestLaws.{tests}
use Rattle.tree.specs.Answers.{PathAnswer, selection_told}
use Rattle.tree.specs.Selection.{Path, Selection, UnknownGate, selection_steps, selection_bits, selection_length, selection_number, selection_of}
use Rattle.std.specs.Prelude.{Ok, Option as Optional, Result}
use Rattle.std.specs.Result.{IsErrAnd}
use Rattle.std.proofs.lemmas.Result.{err_from_is_err_and}
use Rattle.tree.specs.declared.paths.Path.{Path as PathWord}
use Rattle.tree.specs.declared.plan.Plan.{Plan}

-- what is answered of a listed gate, by the walk to it
abbrev pub told : Optional PathWord → Selection
told o = selection_told (Ok o)

found_by : (q : Option (List ℕ)) → told (spelled q) ≡ selection_of (selected q)
found_by (some p) = refl
found_by none = refl

-- the refusal of a made-up plan is 19
fault_cases : (p : Plan) → plan_fault p ≢ 0 → plan_fault p ≡ 19
unfolding plan_fault
fault_cases p n = grind (arith, tests)

pub made-up : (p : Plan) (r : Refusal) → refusal_number r ≡ plan_fault p → plan_fault p ≡ 19
made-up p r e = fault_cases p (λ z. refusal_nonzero r (e ∙ z))

-- and a path of zeros is answered of it
pub nothing_told : (x : Result (Optional PathWord) Refusal) (r : Refusal) → IsErrAnd x (λ d. d ≡ r) → refusal_number r ≡ 19 → selection_told x ≡ Path 0 0
nothing_told x r h e = let k = err_from_is_err_and x h in rw (k.1, k.2, e) refl

module _ (p : Plan) (g : ℕ) where
  -- a made-up plan's is a path of zeros
  pub path_made-up : plan_fault p ≢ 0 → path_answer p g ≡ record { number = 19; selection = Path 0 0 }
  unfolding path_answer
  path_made-up n = rw (ne_eqb (plan_fault p) 0 n)

  -- a gate past the listed ones is not known
  pub path_past : plan_fault p ≡ 0 → p.gate_count ≤ g → path_answer p g ≡ record { number = 12; selection = UnknownGate }
  unfolding path_answer
  path_past f h = rw (eq-eqb (plan_fault p) 0 f, le-ltb g p.gate_count h)

  -- the answer of a plan without a fault, by the walk from node 0
  pub path_walked : plan_fault p ≡ 0 → g < p.gate_count → (o : Optional PathWord)
      → ((t : Tree) → tree_at most_levels p.nodes 0 ≡ some t → o ≡ spelled (path_to g t))
      → path_answer p g ≡ record { number = 0; selection = told o }
  unfolding path_answer
  path_walked f h o walked =
      let w = (fault_none p f).nodes in
      rw (eq-eqb (plan_fault p) 0 f, lt-ltb g p.gate_count h, w.is, walked w.tree w.is, found_by (path_to g w.tree)) (by (path_to g w.tree))
    where
      by : (q : Option (List ℕ)) → ◌≡◌ {A = PathAnswer} (record { number = selection_number (selection_of (selected q)); selection = selection_of (selected q) }) (record { number = 0; selection = selection_of (selected q) })
      by (some q) = refl
      by none = refl

-- no path yet
abbrev pub zero_words : PathWords
zero_words = path_words (replicate most_gates 0) (replicate most_gates 0)

-- words that are a function's values are its table
table_by : (f : ℕ → ℕ) (n : ℕ) (new : List ℕ) → length new ≡ n → ((i : ℕ) → i < n → get_or new i 0 ≡ f i) → new ≡ table n f
table_by f n new long at =
    ext_get_or 0 new (table n f) (long ∙ sym (table-length n f)) (λ i l. at i (omega (arith, l, long)) ∙ sym (table_at n f i (omega (arith, l, long))))

zeros_long : Long zero_words
zeros_long = let e = length-replicate {A = ℕ} most_gates 0 in record { bits = e; lengths = e }

-- the words of a gate after a walk over zeros: those of its path, zeros where it has none
read_zeros : (g : ℕ) (q : Option (List ℕ)) (v : PathWords) → g < most_gates → Read g q 0 1 0 zero_words v
    → (get_or v.bits g 0 ≡ selection_bits (selection_of (selected q))) × (get_or v.lengths g 0 ≡ selection_length (selection_of (selected q)))
unfolding bits_of
read_zeros g (some p) v h r = (r.0 ∙ omega arith, r.1 ∙ omega arith)
read_zeros g none v h r = (r.0 ∙ get_or-replicate most_gates g 0 0 h, r.1 ∙ get_or-replicate most_gates g 0 0 h)

-- words that are a function's values at the listed gates, and 0 behind
listed_by : (p : Plan) (f : ℕ → ℕ) (new : List ℕ) → length new ≡ most_gates → ((g : ℕ) → g < p.gate_count → g < most_gates → get_or new g 0 ≡ f g)
    → ((g : ℕ) → p.gate_count ≤ g → g < most_gates → get_or new g 0 ≡ 0) → new ≡ for_listed p f
listed_by p f new long in_List behind = table_by (λ (g : ℕ). pick (ltb g n) (f g) 0) most_gates new long (λ g h. at g h (dec_lt g n))
  where
    n : ℕ
    n = p.gate_count

    at : (g : ℕ) → g < most_gates → Dec (g < n) → get_or new g 0 ≡ pick (ltb g n) (f g) 0
    at g h (yes d) = rw (lt-ltb g n d) (in_List g d h)
    at g h (no d) = rw (le-ltb g n (omega arith)) (behind g (omega arith) h)

-- a loop over zeros that filled them in
pub listed_filled : (p : Plan) (f h : ℕ → ℕ) (new : List ℕ) → ((g : ℕ) → g < p.gate_count → h g ≡ f g) → Filled h 0 p.gate_count (replicate most_gates 0) new → new ≡ for_listed p f
listed_filled p f h new same fill =
    listed_by p f new (fill.same_length ∙ length-replicate {A = ℕ} most_gates 0) (λ g d l. fill.inside g (omega arith) d ∙ same g d)
    (λ g d l. fill.beyond g d ∙ get_or-replicate most_gates g 0 0 l)

-- all paths, where the walk from the root wrote them over zeros
pub paths-placed : (p : Plan) (v : PathWords) → plan_fault p ≡ 0 → ((t : Tree) → tree_at most_levels p.nodes 0 ≡ some t → v ≡ placed t 0 1 0 zero_words)
    → (v.bits ≡ for_listed p (λ (g : ℕ). selection_bits (plan_selection p g))) × (v.lengths ≡ for_listed p (λ (g : ℕ). selection_length (plan_selection p g)))
paths-placed p v f walked = (
  listed_by p (λ (g : ℕ). selection_bits (plan_selection p g)) v.bits long.bits (λ g d l. rw (lt-ltb g p.gate_count d, w.nodes.is) (words g l).0) (λ g d l. rw (none_there g d) at (words g l).0),
  listed_by p (λ (g : ℕ). selection_length (plan_selection p g)) v.lengths long.lengths (λ g d l. rw (lt-ltb g p.gate_count d, w.nodes.is) (words g l).1) (λ g d l. rw (none_there g d) at (words g l).1),
)
  where
    w : Faultless p
    w = fault_none p f

    t : Tree
    t = w.nodes.tree

    is : v ≡ placed t 0 1 0 zero_words
    is = walked t w.nodes.is

    long : Long v
    long = rw is (placed-long t 0 1 0 zero_words zeros_long)

    words : (g : ℕ) → g < most_gates
        → (get_or v.bits g 0 ≡ selection_bits (selection_of (selected (path_to g t)))) × (get_or v.lengths g 0 ≡ selection_length (selection_of (selected (path_to g t))))
    words g h = read_zeros g (path_to g t) v h (rw is (placed-read t 0 1 0 zero_words g h zeros_long))

    none_there : (g : ℕ) → p.gate_count ≤ g → path_to g t ≡ none
    none_there g h = unlisted_path p.gate_count t g w.nodes.listed h

-- what the code reads off a plan's array, of listed gates
pub own_given : (q : Plan) (x g : ℕ) → g < q.gate_count → constants_of x q.gates g ≡ constants_of x (gates_given q) g
unfolding constants_of
own_given q x g h =
    rw (
      get_or-take (q.gate_count * gate_words) q.gates (g * gate_words) 0 (omega arith),
      get_or-take (q.gate_count * gate_words) q.gates (g * gate_words + 2) 0 (omega arith),
    )

kind_given : (q : Plan) (g : ℕ) → g < q.gate_count → kind_of q.gates g ≡ kind_of (gates_given q) g
kind_given q g h = sym (get_or-take (q.gate_count * gate_words) q.gates (g * gate_words) 0 (omega arith))

-- whether the all-0 path is a kind 1 gate's, by the bits of all paths
pub blocked-given : (q : Plan) (b : Bool) (bits : List ℕ) → plan_fault q ≡ 0 → bits ≡ for_listed q (λ (g : ℕ). selection_bits (plan_selection q g))
    → b ≡ pick (marker_ends (λ (g : ℕ). eqb (get_or bits g 0) 0) q.gates q.gate_count) false true → b ≡ plan_blocked q
blocked-given q b bits f is e =
    e ∙ ap (λ (t : Bool). pick t false true) (ends_same _ (λ (g : ℕ). eqb (noughts (plan_path q g)) 1) q.gates (gates_given q) n (λ g h. (kind_given q g h, at g h)))
  where
    n : ℕ
    n = q.gate_count

    word : (g : ℕ) → g < n → get_or bits g 0 ≡ bits_of (plan_path q g)
    word g h =
        ap (λ (l : List ℕ). get_or l g 0) is ∙ table_at most_gates (λ (k : ℕ). pick (ltb k n) (selection_bits (plan_selection q k)) 0) g (omega (arith, (fault_none q f).few_gates))
        ∙ ap (λ (t : Bool). pick t (selection_bits (plan_selection q g)) 0) (lt-ltb g n h) ∙ (selection_steps (plan_selector q g)).0

    at : (g : ℕ) → g < n → eqb (get_or bits g 0) 0 ≡ eqb (noughts (plan_path q g)) 1
    at g h = ap (λ (w : ℕ). eqb w 0) (word g h) ∙ noughts_bits (plan_path q g)

-- and whose rows are turned away
pub barred-given : (q : Plan) (b : Bool) → b ≡ plan_blocked q → (g : ℕ) → g < q.gate_count
    → pick b (1 - wanted q.gates q.gate_count g) 0 ≡ pick (plan_barred q g) 1 0
unfolding wanted
barred-given q b e g h =
    rw (← get_or-take (q.gate_count * gate_words) q.gates (g * gate_words) 0 (omega arith), e)
    (by (wanted (gates_given q) q.gate_count g) (plan_blocked q) (wanted_few (gates_given q) q.gate_count g))
  where
    by : (w : ℕ) (t : Bool) → w ≤ 1 → pick t (1 - w) 0 ≡ pick (pick (ltb 0 w) false t) 1 0
    by zero true k = refl
    by zero false k = refl
    by (suc zero) true k = refl
    by (suc zero) false k = refl
    by (suc (suc w)) t k = absurd (omega arith)

-- gate 0 is listed in a plan without a fault
pub record Fine0 (p : Plan) : Type 0 where
  pub number : (path_answer p 0).number ≡ 0
  pub steps_are : selection_length (path_answer p 0).selection ≡ length (plan_path p 0)

module _ (p : Plan) where
  pub path_fine : plan_fault p ≡ 0 → Fine0 p
  unfolding path_answer
  path_fine f =
      let w = fault_none p f in
      let a : path_answer p 0 ≡ record { number = selection_number (plan_selection p 0); selection = plan_selection p 0 } = rw (eq-eqb (plan_fault p) 0 f) in
      record {
        number = ap (λ (z : PathAnswer). z.number) a ∙ rw (lt-ltb 0 p.gate_count w.some-gates, w.nodes.is) (listed_number (path_to 0 w.nodes.tree));
        steps_are = ap (λ (z : PathAnswer). selection_length z.selection) a ∙ (selection_steps (plan_selector p 0)).1;
      }
    where
      listed_number : (o : Option (List ℕ)) → selection_number (selection_of (selected o)) ≡ 0
      listed_number (some q) = refl
      listed_number none = refl

  pub no_fault : (path_answer p 0).number ≡ 0 → plan_fault p ≡ 0
  no_fault z = go (ℕ_discrete (plan_fault p) 0)
    where
      go : Dec (plan_fault p ≡ 0) → plan_fault p ≡ 0
      go (yes f) = f
      go (no n) = absurd (omega (arith, z, ap (λ (y : PathAnswer). y.number) (path_made-up p 0 n)))

-- a made-up plan has no table-id index
pub table_made-up : (p : Plan) → plan_fault p ≢ 0 → table_id_answer p ≡ record { number = (path_answer p 0).number; count = 0; index = 0 }
unfolding path_answer table_id_answer
table_made-up p n = rw (ne_eqb (plan_fault p) 0 n)

-- the length of the lookup path, where gate 0 was answered for
pub lookup_index : (p : Plan) → plan_fault p ≡ 0 → selection_length (path_answer p 0).selection ≡ length (plan_path p 0)
lookup_index p f = (path_fine p f).steps_are

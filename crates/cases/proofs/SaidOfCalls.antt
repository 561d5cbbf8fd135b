-- What the claim says of planning, opening and single calls, in numerals: accepted and refused, and that nothing happens where planning refused. Each is drawn from
-- `claim`, so that a part that says nothing, or the contrary, is refused here.
--
-- Main definition: `SaidOfCalls`. Main statement: `calls_say`.
use Rattle.std.specs.Prelude.{◌≡◌, refl, [], ◌∷◌, ℕ, ◌-◌}
use Rattle.std.proofs.Common.{sym, ap, ◌∙◌, arith}
use Rattle.base.specs.Exponent.{exponent_from}
use Rattle.base.specs.Firsts.{or_number}
use Rattle.field.specs.Field.{p}
use Rattle.labels.specs.Ranges.{ranges_fit}
use Rattle.selector.specs.Gates.{constants_of, degree_at, placed_from, comes_before, inserted, sorted, greatest}
use Rattle.selector.specs.MadeUp.{wanted}
use Rattle.selector.specs.Paths.{path_to, path_of}
use Rattle.selector.specs.Search.{may_stand, first_bound, first_target, tree_within, search_tree, plan_tree, degree_over, constants_over}
use Rattle.selector.specs.Tree.{leaf, offer, offer_all, grown}
use Rattle.parameters.specs.Parameters.{range_number, parameters_number}
use Rattle.tree.specs.Plan.{zero_plan, words_number, plan_number, plan_answer}
use Rattle.tree.specs.declared.plan.Plan.{Plan}
use Rattle.tree.specs.Answers.{Planned}
use Rattle.pieces.specs.Setting.{Setting, Store, counts_fit, stands}
use Rattle.pieces.specs.Records.{read_by, rows_of, first_fault, all_below}
use Rattle.pieces.specs.Opening.{room_to_open, open_number, open_store, fresh}
use Rattle.pieces.specs.Rows.{row_fault, rows_number}
use Rattle.pieces.specs.Calls.{Call, rows, finishing, number, taken, run}
use Rattle.columns.specs.Intake.{setting_of, open_answer, open_left}
use Rattle.columns.specs.Intake.{Taken}
use Rattle.claim.specs.Chain.{Kept, answer, left}
use Rattle.claim.specs.Statement.{held_of, setting_for, Opened}
use Rattle.claim.proofs.Theorem.{claim}
use Rattle.cases.specs.Columns.{old, lone, three, four, nop, two, p9_calls, x₉}
use Rattle.cases.proofs.Columns.{setting_known, path₉, accepts₆, accepts₉, known₉, found₉, labels₉, opens₉, kept₉}
use Rattle.cases.proofs.SaidOfOthers.{finished₉}
use Rattle.cases.specs.SaidOfCalls.{SaidOfCalls, k₉, odd}

refuses₃ : plan_number odd nop ≡ 1
unfolding or_number exponent_from ranges_fit range_number parameters_number words_number plan_number
refuses₃ = refl

not_opened : (b : Store) → Opened odd nop b → ⊥
not_opened b o = omega (arith, o.planning, refuses₃)

planned₃ : plan_answer odd nop ≡ record { number = 1; plan = zero_plan }
planned₃ =
    (claim odd nop (old 1 5 3) []).planning_refused (λ e. omega (arith, e, refuses₃)) ∙ ap (λ (n : ℕ). record { number = n; plan = zero_plan }) refuses₃

-- P6's D and K
degree₆ : (plan_answer four three).plan.degree ≡ 3
unfolding constants_of degree_at placed_from comes_before inserted sorted greatest offer offer_all grown may_stand first_bound first_target tree_within search_tree plan_tree degree_over constants_over exponent_from
degree₆ = ap (λ (a : Planned). a.plan.degree) ((claim four three (old 1 5 3) []).planning_taken accepts₆)

-- ---- opening P9's plan, over buffers with room and over copies of three words
setting₉ : setting_for two nop ≡ x₉
setting₉ = setting_known two nop (lone 2 2 1) accepts₉ known₉ (λ g. path_of g (leaf 0)) path₉ (1 ∷ (p - 1) ∷ 7 ∷ (p - 7) ∷ []) found₉ labels₉

fresh_copies : (open_store x₉ (old 1 5 3)).cells.copies ≡ 1 ∷ (p - 1) ∷ 7 ∷ (p - 7) ∷ 9 ∷ []
unfolding lone old
fresh_copies = refl

open_copies : (open_left (plan_answer two nop).plan (old 1 5 3)).cells.copies ≡ 1 ∷ (p - 1) ∷ 7 ∷ (p - 7) ∷ 9 ∷ []
open_copies =
    ap (λ (s : Store). s.cells.copies) ((claim two nop (old 1 5 3) []).opens.taken (ap (λ (y : Setting). open_number y (old 1 5 3)) setting₉ ∙ opens₉)).1
    ∙ ap (λ (y : Setting). (open_store y (old 1 5 3)).cells.copies) setting₉ ∙ fresh_copies

too_short : open_number x₉ (old 1 3 3) ≡ 10
unfolding lone old room_to_open open_number
too_short = refl

short : open_number (setting_for two nop) (old 1 3 3) ≡ 10
short = ap (λ (y : Setting). open_number y (old 1 3 3)) setting₉ ∙ too_short

short_number : (open_answer (plan_answer two nop).plan (old 1 3 3)).number ≡ 10
short_number = ap (λ (a : Taken). a.number) ((claim two nop (old 1 3 3) []).opens.refused (λ e. omega (arith, e, short))).0 ∙ short

short_left : open_left (plan_answer two nop).plan (old 1 3 3) ≡ old 1 3 3
short_left = ((claim two nop (old 1 3 3) []).opens.refused (λ e. omega (arith, e, short))).1

number₉ : (c : Call) → number (setting_of k₉.state.plan) c (held_of k₉) ≡ number x₉ c (fresh x₉ (old 1 5 3))
unfolding run
number₉ c =
    ap (λ (k : Kept). number (setting_of k.state.plan) c (held_of k)) (kept₉ [])
    ∙ ap (λ (q : Plan). number (setting_of q) c (fresh x₉ (old 1 5 3))) (sym known₉) ∙ ap (λ (y : Setting). number y c (fresh x₉ (old 1 5 3))) setting₉

unlisted₉ : number x₉ (rows (1 ∷ 0 ∷ [])) (fresh x₉ (old 1 5 3)) ≡ 12
unfolding lone old constants_of path_to wanted stands counts_fit read_by rows_of first_fault all_below row_fault rows_number number
unlisted₉ = refl

both_rows₉ : number x₉ (rows (0 ∷ 0 ∷ 0 ∷ 0 ∷ [])) (fresh x₉ (old 1 5 3)) ≡ 0
unfolding lone old constants_of path_to wanted stands counts_fit read_by rows_of first_fault all_below row_fault rows_number number
both_rows₉ = refl

unlisted : number (setting_of k₉.state.plan) (rows (1 ∷ 0 ∷ [])) (held_of k₉) ≡ 12
unlisted = number₉ (rows (1 ∷ 0 ∷ [])) ∙ unlisted₉

refused_number : (answer (rows (1 ∷ 0 ∷ [])) k₉).number ≡ 12
refused_number = ap (λ (a : Taken). a.number) (((claim two nop (old 1 5 3) []).answers (rows (1 ∷ 0 ∷ [])) k₉).refused (λ e. omega (arith, e, unlisted))).0 ∙ unlisted

refused_left : left (rows (1 ∷ 0 ∷ [])) k₉ ≡ k₉.store
refused_left = (((claim two nop (old 1 5 3) []).answers (rows (1 ∷ 0 ∷ [])) k₉).refused (λ e. omega (arith, e, unlisted))).1

two-more : (k : Kept) → k.state.counts.rows ≡ 0 → (taken (setting_of k.state.plan) (rows (0 ∷ 0 ∷ 0 ∷ 0 ∷ [])) (held_of k)).state.row_count ≡ 2
unfolding read_by rows_of taken
two-more k z = rw z

taken_rows : (answer (rows (0 ∷ 0 ∷ 0 ∷ 0 ∷ [])) k₉).state.counts.rows ≡ 2
unfolding run
taken_rows =
    ap (λ (a : Taken). a.state.counts.rows) (((claim two nop (old 1 5 3) []).answers (rows (0 ∷ 0 ∷ 0 ∷ 0 ∷ [])) k₉).taken (number₉ (rows (0 ∷ 0 ∷ 0 ∷ 0 ∷ [])) ∙ both_rows₉)).0
    ∙ two-more k₉ (ap (λ (k : Kept). k.state.counts.rows) (kept₉ []))

pub calls_say : SaidOfCalls
calls_say =
    record {
      planning_3 = planned₃;
      planning_6 = degree₆;
      labels-written = open_copies;
      opening_10 = short_number;
      nothing_opened = short_left;
      rows_12 = refused_number;
      nothing_written = refused_left;
      rows_counted = taken_rows;
      untouched = ap (λ (k : Kept). k.store) ((claim odd nop (old 1 5 3) p9_calls).never-opened (not_opened (old 1 5 3))).0;
      finishing_19 = ((claim odd nop (old 1 5 3) p9_calls).never-opened (not_opened (old 1 5 3))).1 finishing;
      planning_9 = ((claim two nop (old 1 5 3) p9_calls).fresh-opening finished₉).planning;
      opening_9 = ((claim two nop (old 1 5 3) p9_calls).fresh-opening finished₉).opening;
    }

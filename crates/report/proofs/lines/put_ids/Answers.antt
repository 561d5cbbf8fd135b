-- `report::lines::put_ids` meets its contract: the code makes the definition's test.
use Rattle.std.proofs.Common.{ℕ, ltb, ◌≡◌, sym, ap, ◌∙◌, [], ◌++◌, arith, lt-ltb, le-ltb}
use Rattle.std.specs.Prelude.{Result, Ok, Err, Option, None, Some, refl}
use Rattle.std.specs.Result.{result_unwrap_or}
use Rattle.refusal.specs.declared.Refusal.{Refusal}
use Rattle.refusal.specs.Refusal.{answer_or}
use Rattle.base.specs.Pick.{pick, pick_yes, pick_no}
use Rattle.tree.specs.Answers.{column_count, column_index}
use Rattle.octets.specs.Text.{sink, put, field}
use Rattle.octets.specs.TextLaws.{then}
use Rattle.tree.specs.Plan.{table_id_answer}
use Rattle.report.specs.Report.{newline, ids_name}
use Rattle.report.proofs.lines.put_ids.Goals as goal
use Rattle.report.proofs.lines.put_ids.Goals.{in-Some, in-None}

-- what is taken of the answer
told : (r : Result (Option ℕ) Refusal) → result_unwrap_or r None ≡ answer_or None r
told (Ok x) = refl
told (Err e) = refl

pub returns : goal.returns
unfolding put
returns c =
    let a = c.args in
    let d = table_id_answer a.plan in
    let s = sink c.put_bytes-a.new.out c.put_bytes-a.result in
    let fld = pick (ltb 0 d.count) (field d.index) [] in
    let one : answer_or None c.table_id.result ≡ c.unwrap_or-id.result = sym (c.unwrap_or-id.ensures ∙ told c.table_id.result) in
    let mid : sink c.match-id.out c.match-id.b ≡ put s fld =
    elim c.match-id.branch [
      | in-Some w ↦
          let i = w.in-Some.index in
          let o : answer_or None c.table_id.result ≡ Some i = one ∙ w.in-Some.is in
          let n : 1 ≡ d.count = sym (ap column_count o) ∙ c.table_id.ensures.count in
          let x : i ≡ d.index = sym (ap column_index o) ∙ c.table_id.ensures.index in
          let e : field i ≡ fld = ap field x ∙ sym (pick_yes (ltb 0 d.count) (field d.index) [] (lt-ltb 0 _ (omega (arith, n)))) in
          rw (w.out-is, w.b-is) (w.put_field-b.ensures ∙ ap (put s) e)
      | in-None w ↦
          let o : answer_or None c.table_id.result ≡ None = one ∙ w.in-None.is in
          let n : 0 ≡ d.count = sym (ap column_count o) ∙ c.table_id.ensures.count in
          let e : [] ≡ fld = sym (pick_no (ltb 0 d.count) (field d.index) [] (le-ltb 0 _ (omega (arith, n)))) in
          rw (w.out-is, w.b-is) (ap (put s) e)
    ] in
    then (sink a.out.now a.at) _ _ (ids_name ++ fld) newline
    (then (sink a.out.now a.at) _ _ ids_name fld c.put_bytes-a.ensures mid)
    c.put_bytes.ensures

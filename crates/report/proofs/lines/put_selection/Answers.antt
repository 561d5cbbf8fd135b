-- `report::lines::put_selection` meets its contract: each case has its field.
use Rattle.std.proofs.Common.{◌≡◌, ◌∙◌, ap, refl, sym, []}
use Rattle.std.specs.Prelude.{Bool, true, false, eqb, Result, Ok, Option, Some}
use Rattle.refusal.specs.declared.Refusal.{Refusal}
use Rattle.base.specs.Digits.{Spelled, digits, digits-many}
use Rattle.base.specs.Pick.{pick}
use Rattle.refusal.specs.Refusal.{refusal_number}
use Rattle.octets.specs.Text.{put, sink}
use Rattle.tree.specs.Answers.{selection_told}
use Rattle.tree.specs.Selection.{Path as APath, UnknownGate, selector_of}
use Rattle.tree.specs.declared.paths.Path.{Path}
use Rattle.report.specs.Report.{selector_field}
use Rattle.report.proofs.lines.put_selection.Goals as goal

-- a refusal has no field
nothing : (b : Bool) → [] ≡ selector_field (selector_of (pick b UnknownGate (APath 0 0)))
unfolding digits
nothing true = refl
nothing false = refl

pub returns-in-Ok-Some : goal.returns-in-Ok-Some
returns-in-Ok-Some c =
    let a = c.args in
    let p = c.in-Ok-Some.path in
    let spelled : Spelled (digits p.length p.bits) p.bits p.length = record { digits_are = refl; steps_are = sym (digits-many p.length p.bits) } in
    let is : a.answer ≡ Ok (Some p) = rw c.in-Ok-Some.is (ap Ok (rw c.in-Ok-Some.is at c.in-Ok-Some.field-0-is)) in
    c.put_steps.ensures (digits p.length p.bits) spelled
    ∙ ap (λ (x : Result (Option Path) Refusal). put (sink a.out.now a.at) (selector_field (selector_of (selection_told x)))) (sym is)

pub returns-in-Err : goal.returns-in-Err
unfolding put
returns-in-Err c =
    let a = c.args in
    let e : [] ≡ selector_field (selector_of (selection_told a.answer)) =
    nothing (eqb (refusal_number c.in-Err.field-0) 12) ∙ ap (λ (x : Result (Option Path) Refusal). selector_field (selector_of (selection_told x))) (sym c.in-Err.is) in
    ap (put (sink a.out.now a.at)) e

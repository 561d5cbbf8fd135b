-- 19: a state that does not stand, and a made-up plan. Assumes nothing.
use Rattle.std.specs.Prelude.{◌≡◌, ◌≢◌, refl, Bool, true, false, ℕ}
use Rattle.std.proofs.Common.{◌∙◌, arith}
use Rattle.base.specs.Pick.{pick}
use Rattle.refusal.specs.Refusal.{refusal_number}
use Rattle.refusal.specs.declared.Refusal.{Refusal}
use Rattle.refusal.proofs.Passing.{refusal_nonzero}
use Rattle.tree.proofs.TestLaws.{tests}
use Rattle.tree.specs.Plan.{plan_fault}
use Rattle.tree.specs.declared.plan.Plan.{Plan}

pub standing : (t : Bool) → ◌≡◌ {A = ℕ} 0 (pick t 0 19) → t ≡ true
standing true e = refl
standing false e = absurd (let z : ◌≡◌ {A = ℕ} 0 19 = e in omega arith)

pub fallen : (t : Bool) (n : ℕ) → n ≡ pick t 0 19 → n ≢ 0 → (t ≡ false) × (n ≡ 19)
fallen true n e d = absurd (d e)
fallen false n e d = (refl, e)

-- the refusal of a made-up plan
fault_cases : (q : Plan) → plan_fault q ≢ 0 → plan_fault q ≡ 19
unfolding plan_fault
fault_cases q n = grind (arith, tests)

pub made-up : (q : Plan) (r : Refusal) → refusal_number r ≡ plan_fault q → (plan_fault q ≢ 0) × (refusal_number r ≡ 19)
made-up q r e = let d : plan_fault q ≢ 0 = λ z. refusal_nonzero r (e ∙ z) in (d, e ∙ fault_cases q d)

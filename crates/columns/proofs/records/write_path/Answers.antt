-- `columns::records::write_path` meets its contract. What is left of the bits are the digits that are left to put.
use Rattle.std.proofs.Common.{◌≡◌, sym, ap, ◌∙◌, List, arith, ℕ, ◌+◌, ◌-◌, ◌/◌, ◌%◌, ◌<◌, ◌≤◌, set, length-set}
use Rattle.pieces.specs.Writing.{put}
use Rattle.base.specs.Digits.{digits, digits_turn}
use Rattle.columns.proofs.records.write_path.Goals as goal

-- the next digit is put
digit-turn : (b : List ℕ) (at i n rest : ℕ) → i < n → put 1 b (at + i) (digits (n - i) rest) ≡ put 1 (set b (at + i) (rest % 2)) (at + (i + 1)) (digits (n - (i + 1)) (rest / 2))
unfolding put
digit-turn b at i n rest h = let z : at + i + 1 ≡ at + (i + 1) = omega arith in ap (put 1 b (at + i)) (digits_turn n i rest h) ∙ rw (← z)

-- no digit is left
digits_done : (b : List ℕ) (k i n rest : ℕ) → n ≤ i → put 1 b k (digits (n - i) rest) ≡ b
unfolding put digits
digits_done b k i n rest h = let e : n - i ≡ 0 = omega arith in rw e

pub loop-i-preserved : goal.loop-i-preserved
loop-i-preserved c =
    let l = c.loop-i in
    let a = c.args in
    (simp length-set l.invariant.0, l.invariant.1 ∙ digit-turn l.buffer a.at l.i a.many l.rest c.loop-i-test.true)

pub returns : goal.returns
returns c =
    let l = c.loop-i in
    let a = c.args in
    sym (l.invariant.1 ∙ digits_done l.buffer (a.at + l.i) l.i a.many l.rest c.loop-i-test.false)

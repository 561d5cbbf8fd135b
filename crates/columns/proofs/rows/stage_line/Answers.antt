-- `columns::rows::stage_line` meets its contract: path, constants and zeros are the three parts of the line.
use Rattle.std.proofs.Common.{◌≡◌, sym, ◌∙◌, List, ◌++◌, arith, ℕ, ◌+◌, ◌-◌, ◌*◌, ◌≤◌, length, replicate}
use Rattle.pieces.specs.Writing.{put, padded}
use Rattle.pieces.specs.WriteLaws.{put_line}
use Rattle.base.specs.Digits.{digits, digits-many}
use Rattle.columns.proofs.rows.stage_line.Goals as goal

-- the three parts make up the line
line-by : (k at bits steps : ℕ) (b₀ b₁ b₂ b₃ words : List ℕ) → steps + length words ≤ k → b₁ ≡ put 1 b₀ at (digits steps bits) → b₂ ≡ put 1 b₁ (at + steps) words
    → b₃ ≡ put 1 b₂ (at + (steps + length words)) (replicate (k - (steps + length words)) 0) → b₃ ≡ put 1 b₀ at (padded k (digits steps bits ++ words))
line-by k at bits steps b₀ b₁ b₂ b₃ words h e₁ e₂ e₃ =
    let n = digits-many steps bits in
    let x : at + steps * 1 ≡ at + steps = omega arith in
    let y : at + (steps + length words) * 1 ≡ at + (steps + length words) = omega arith in
    e₃ ∙ rw (e₂, e₁) (sym (rw (n, x, y) at (put_line k 1 b₀ at (digits steps bits) words (omega (arith, n)))))

pub returns : goal.returns
returns c =
    let long : length c.write_words.new.buffer ≡ 2048 = c.write_words.auto.buffer ∙ c.write_path.auto.buffer ∙ c.requires.2 in
    let a = c.args in record { stage_after = line-by a.height a.at a.bits a.steps a.stage.now _ _ _ a.words.now c.requires.1 c.write_path.ensures c.write_words.ensures c.write_same.ensures; stage_len = c.write_same.auto.buffer ∙ long }

-- Laws of the parts of a padded listing, as the loops that write them meet them.
--
-- Main statements: `put-after`, `fillers-long`, `rows_step`, `columns_step`, `stretched-long`.
use Rattle.std.specs.Prelude.{◌≡◌, refl, List, [], ◌∷◌, ◌++◌, ℕ, zero, suc, ◌+◌, ◌-◌, ◌*◌, ◌≤◌, length, take, drop, replicate}
use Rattle.std.proofs.Common.{sym, ap, ◌∙◌, append_assoc, mul-le-mul, not-suc-le-zero, le_of_suc-le-suc, add-one, arith, length-append, length-drop, length-take-le}
use Rattle.std.proofs.lemmas.List.{length-replicate}
use Rattle.writer.specs.Besides.{besides, besides-length}
use Rattle.writer.specs.BesidesLaws.{besides-more}
use Rattle.writer.specs.Put.{put, put_if}
use Rattle.writer.specs.PutLaws.{put-put, put_next}
use Rattle.padding.specs.Padding.{fillers, stretched}

-- a part more after the front ones
pub put-after : (from : ℕ) (front b old x y : List ℕ) (at : ℕ) → x ≡ put from front old → at ≡ from + length front → y ≡ put at b x → from + length front + length b ≤ length old
    → y ≡ put from (front ++ b) old
put-after from front b old x y at e k p h = p ∙ ap (put at b) e ∙ ap (λ (n : ℕ). put n b (put from front old)) k ∙ put-put from front b old h

-- ---- missing rows
pub fillers-long : (n g : ℕ) → length (fillers n g) ≡ 2 * n
unfolding fillers
fillers-long zero g = refl
fillers-long (suc n) g = omega (arith, fillers-long n g)

fillers-more : (n g : ℕ) → fillers (suc n) g ≡ fillers n g ++ (g ∷ (0 ∷ []))
unfolding fillers
fillers-more zero g = refl
fillers-more (suc n) g = ap (λ (l : List ℕ). g ∷ (0 ∷ l)) (fillers-more n g)

pub rows_step : (g at i many : ℕ) (old x y : List ℕ) → x ≡ put at (fillers i g) old → y ≡ put_if (at + 2 * i) (g ∷ (0 ∷ [])) x → i + 1 ≤ many → at + 2 * many ≤ length old
    → y ≡ put at (fillers (i + 1) g) old
rows_step g at i many old x y e p h r =
    let l = fillers-long i g in
    put_next at (fillers i g) (g ∷ (0 ∷ [])) old x y (at + 2 * i) e (omega (arith, l)) p (omega (arith, l))
    ∙ ap (λ (w : List ℕ). put at w old) (sym (fillers-more i g))
    ∙ ap (λ (n : ℕ). put at (fillers n g) old) (sym (add-one i))

-- ---- one word many times
take_same : (m n a : ℕ) → m ≤ n → take m (replicate n a) ≡ replicate m a
take_same zero n a h = refl
take_same (suc m) zero a h = absurd (not-suc-le-zero h)
take_same (suc m) (suc n) a h = ap (λ (l : List ℕ). a ∷ l) (take_same m n a (le_of_suc-le-suc h))

drop_same : (m n a : ℕ) → drop m (replicate n a) ≡ replicate (n - m) a
drop_same zero n a = let z : n - 0 ≡ n = omega arith in rw z
drop_same (suc m) zero a = let z : 0 - suc m ≡ 0 = omega arith in rw z
drop_same (suc m) (suc n) a = let z : suc n - suc m ≡ n - m = omega arith in rw z (drop_same m n a)

-- ---- missing words of columns
module _ (fill n l k at : ℕ) (ws old : List ℕ) (h : n ≤ l) (e : length ws ≡ k * n) (r : at + k * l ≤ length old) where
  abbrev m : ℕ
  m = l - n

  abbrev rest : List ℕ
  rest = replicate (k * m) fill

  abbrev up_to : ℕ → List ℕ
  up_to c = besides n m c ws rest

  -- c columns have their words
  up-long : (c : ℕ) → c ≤ k → length (up_to c) ≡ c * l
  up-long c q =
      let s : n + m ≡ l = omega arith in
      let a : c * n ≤ k * n = mul-le-mul q (let z : n ≤ n = omega arith in z) in
      let b : c * m ≤ k * m = mul-le-mul q (let z : m ≤ m = omega arith in z) in
      besides-length n m c ws rest (omega (arith, a, e)) (omega (arith, b, length-replicate (k * m) fill)) ∙ ap (λ (j : ℕ). c * j) s

  pub columns_step : (c : ℕ) (x y z : List ℕ) → c + 1 ≤ k → x ≡ put at (up_to c) old → y ≡ put_if (at + c * l) (take n (drop (c * n) ws)) x
      → z ≡ put_if (at + c * l + n) (replicate m fill) y → z ≡ put at (up_to (c + 1)) old
  columns_step c x y z q ex ey ez =
      let b₁ : (c + 1) * n ≤ k * n = mul-le-mul q (let o : n ≤ n = omega arith in o) in
      let b₂ : (c + 1) * m ≤ k * m = mul-le-mul q (let o : m ≤ m = omega arith in o) in
      let b₃ : (c + 1) * l ≤ k * l = mul-le-mul q (let o : l ≤ l = omega arith in o) in
      let u = up-long c (omega arith) in
      let part = take n (drop (c * n) ws) in
      let lp : length part ≡ n = length-take-le n (drop (c * n) ws) (omega (arith, length-drop (c * n) ws, b₁, e)) in
      let lm : length (replicate m fill) ≡ m = length-replicate m fill in
      let f₁ : y ≡ put at (up_to c ++ part) old = put_next at (up_to c) part old x y (at + c * l) ex (omega (arith, u)) ey (omega (arith, u, lp, b₃)) in
      let f₂ : z ≡ put at ((up_to c ++ part) ++ replicate m fill) old =
      put_next at (up_to c ++ part) (replicate m fill) old y z (at + c * l + n) f₁ (omega (arith, u, lp, length-append (up_to c) part)) ez (omega (arith, u, lp, lm, length-append (up_to c) part, b₃))
      in
      let w : take m (drop (c * m) rest) ≡ replicate m fill = ap (take m) (drop_same (c * m) (k * m) fill) ∙ take_same m (k * m - c * m) fill (omega (arith, b₂)) in
      f₂
      ∙ ap (λ (v : List ℕ). put at v old) (append_assoc (up_to c) part (replicate m fill) ∙ ap (λ (v : List ℕ). up_to c ++ (part ++ v)) (sym w) ∙ sym (besides-more n m c ws rest) ∙ ap up_to (sym (add-one c)))

pub stretched-long : (fill n l k : ℕ) (ws : List ℕ) → n ≤ l → length ws ≡ k * n → length (stretched fill n l k ws) ≡ k * l
stretched-long fill n l k ws h e =
    let s : n + (l - n) ≡ l = omega arith in
    besides-length n (l - n) k ws (replicate (k * (l - n)) fill) (omega arith) (omega (arith, length-replicate (k * (l - n)) fill)) ∙ ap (λ (j : ℕ). k * j) s

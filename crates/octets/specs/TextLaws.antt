-- Text put piece by piece is text put whole, and a word's digits are the fewest that hold it.
--
-- Main statements: `put-append`, `put_turn`, `put_full`, `put_part` (what fits is put), `put_all` (where the buffer is long enough, it begins with the text), `fields_turn`, `put_counts`, `fewest_decimal`.
use Rattle.std.specs.Prelude.{◌≡◌, refl, List, [], ◌∷◌, ◌++◌, ℕ, zero, suc, ◌+◌, ◌-◌, ◌*◌, ◌/◌, ◌^◌, ◌≤◌, ◌<◌, length, get_or, set, take, drop, min, ltb}
use Rattle.std.proofs.Common.{sym, ap, ◌∙◌, subst, add-zero, pow-suc, div-lt_iff_lt-mul, le-div_iff_mul-le, arith, append_assoc, length-set, drop_of_length-le, drop-cons, length-take-le, lt-ltb, le-ltb}
use Rattle.std.proofs.Math.Decide.{dec_lt}
use Rattle.std.proofs.Math.Nat.{pow-le-pow_right}
use Rattle.std.proofs.Math.Seq.{paste, length-sets}
use Rattle.std.proofs.lemmas.List.{take-append-drop}
use Rattle.std.proofs.lemmas.List.Edits.{sets, sets-eq, paste_all}
use Rattle.io.specs.Counts.{IsPrefixLen}
use Rattle.io.specs.Digits.{last_digits, IsDigitCount}
use Rattle.base.specs.Pick.{pick, pick_yes}
use Rattle.octets.specs.Text.{Sink, sink, put_byte, put, places, decimal, field, fields}

pub put-append : (s : Sink) (a b : List ℕ) → put s (a ++ b) ≡ put (put s a) b
unfolding put
put-append s [] b = refl
put-append s (x ∷ a) b = put-append (put_byte s x) a b

-- a byte that there is room for
put_room : (out : List ℕ) (at b : ℕ) (bs : List ℕ) → at < length out → put (sink out at) (b ∷ bs) ≡ put (sink (set out at b) (at + 1)) bs
unfolding put
put_room out at b bs h =
    let m : suc at ≡ at + 1 = omega arith in
    ap (λ (t : Sink). put t bs) (pick_yes (ltb at (length out)) (sink (set out at b) (suc at)) (sink out at) (lt-ltb at (length out) h)) ∙ ap (λ (k : ℕ). put (sink (set out at b) k) bs) m

pub put_turn : (out : List ℕ) (at : ℕ) (text : List ℕ) (i : ℕ) → at < length out → i < length text
    → put (sink out at) (drop i text) ≡ put (sink (set out at (get_or text i 0)) (at + 1)) (drop (i + 1) text)
put_turn out at text i h l =
    let m : suc i ≡ i + 1 = omega arith in
    ap (put (sink out at)) (drop-cons text i 0 l) ∙ put_room out at (get_or text i 0) (drop (suc i) text) h
    ∙ ap (λ (k : ℕ). put (sink (set out at (get_or text i 0)) (at + 1)) (drop k text)) m

pub put_done : (s : Sink) (text : List ℕ) (i : ℕ) → length text ≤ i → put s (drop i text) ≡ s
unfolding put
put_done s text i h =
    let e : drop i text ≡ [] = drop_of_length-le text h in
    rw e

-- a full buffer takes no more
pub put_full : (out : List ℕ) (at : ℕ) (text : List ℕ) → length out ≤ at → put (sink out at) text ≡ sink out at
unfolding put
put_full out at [] h = refl
put_full out at (b ∷ bs) h = rw (le-ltb at (length out) h) (put_full out at bs h)

-- the place stays within the buffer
byte_within : (s : Sink) (b : ℕ) → s.at ≤ length s.bytes → (put_byte s b).at ≤ length (put_byte s b).bytes
byte_within s b h = go (dec_lt s.at (length s.bytes))
  where
    go : Dec (s.at < length s.bytes) → (put_byte s b).at ≤ length (put_byte s b).bytes
    go (yes l) = rw (lt-ltb s.at (length s.bytes) l, length-set) l
    go (no n) = rw (le-ltb s.at (length s.bytes) (omega arith)) h

put-within : (s : Sink) (text : List ℕ) → s.at ≤ length s.bytes → (put s text).at ≤ length (put s text).bytes
unfolding put
put-within s [] h = h
put-within s (b ∷ bs) h = put-within (put_byte s b) bs (byte_within s b h)

-- so from its start on it counts bytes at the buffer's front, in `io`'s words
pub put_counts : (out new text : List ℕ) (r : ℕ) → sink new r ≡ put (sink out 0) text → IsPrefixLen r new
put_counts out new text r e =
    let h : r ≤ length new = subst (λ (t : Sink). t.at ≤ length t.bytes) (sym e) (put-within (sink out 0) text (omega arith)) in
    (h, sym (length-take-le r new h))

-- a buffer that has the room holds the whole text
put_sets : (out : List ℕ) (at : ℕ) (text : List ℕ) → at + length text ≤ length out → put (sink out at) text ≡ sink (sets out at text) (at + length text)
unfolding put
put_sets out at [] h = rw add-zero
put_sets out at (b ∷ bs) h =
    let e : suc at + length bs ≡ at + suc (length bs) = omega arith in
    let l : suc at + length bs ≤ length (set out at b) = rw length-set (omega arith) in
    rw (lt-ltb at (length out) (omega arith)) (put_sets (set out at b) (suc at) bs l ∙ ap (sink (sets (set out at b) (suc at) bs)) e)

pub put_all : (out text : List ℕ) → length text ≤ length out → put (sink out 0) text ≡ sink (text ++ drop (length text) out) (length text)
put_all out text h =
    let l : 0 + length text ≤ length out = omega arith in
    let e : 0 + length text ≡ length text = omega arith in
    put_sets out 0 text l ∙ ap (sink (sets out 0 text)) e ∙ ap (λ (b : List ℕ). sink b (length text)) (sets-eq text out 0 l ∙ ap (λ (k : ℕ). text ++ drop k out) e)

-- as many bytes as there is room for are put, and the others dropped
pub put_part : (out : List ℕ) (at : ℕ) (text : List ℕ) (n : ℕ) → at ≤ length out → n ≡ min (length text) (length out - at)
    → put (sink out at) text ≡ sink (paste out at (take n text) n) (at + n)
put_part out at text n h e =
    ap (put (sink out at)) (sym (take-append-drop n text))
    ∙ put-append (sink out at) (take n text) (drop n text)
    ∙ ap (λ (s : Sink). put s (drop n text)) (put_sets out at (take n text) (omega (arith, l)))
    ∙ rest (dec_lt n (length text))
    ∙ rw (l, sets-eq (take n text) out at (omega (arith, l)), l, paste_all out at (take n text) n (sym l), append_assoc)
  where
    l : length (take n text) ≡ n
    l = length-take-le n text (omega arith)

    there : Sink
    there = sink (sets out at (take n text)) (at + length (take n text))

    rest : Dec (n < length text) → put there (drop n text) ≡ there
    rest (yes q) = put_full (sets out at (take n text)) (at + length (take n text)) (drop n text) (omega (arith, l, length-sets out at (take n text)))
    rest (no q) = put_done there text n (omega arith)

pub fields_turn : (s : Sink) (ns : List ℕ) (i : ℕ) → i < length ns → put s (fields (drop i ns)) ≡ put (put s (field (get_or ns i 0))) (fields (drop (i + 1) ns))
unfolding fields
fields_turn s ns i l =
    let n : i + 1 ≡ suc i = omega arith in
    rw (drop-cons ns i 0 l, n) (put-append s (field (get_or ns i 0)) (fields (drop (suc i) ns)))

pub fields_done : (s : Sink) (ns : List ℕ) (i : ℕ) → length ns ≤ i → put s (fields (drop i ns)) ≡ s
unfolding fields put
fields_done s ns i h =
    let e : drop i ns ≡ [] = drop_of_length-le ns h in
    rw e

-- ---- the fewest digits that hold a number are one number only
fewest_one : (n j k : ℕ) → IsDigitCount 10 1 n j → IsDigitCount 10 1 n k → j < k → ⊥
fewest_one n j k f g h =
    let a : 10 ^ j ≤ 10 ^ (k - 1) = pow-le-pow_right {n = 10} (omega arith) (omega arith) in
    let b : 10 ^ (k - 1) ≤ n = g.2 (omega (arith, f.0)) in
    omega (arith, f.1)

-- one digit more than the quotient by ten has
fewest_next : (n k : ℕ) → 10 ≤ n → IsDigitCount 10 1 (n / 10) k → IsDigitCount 10 1 n (suc k)
fewest_next n zero h f = absurd (omega (arith, f.0))
fewest_next n (suc k) h f =
    let q : n < 10 ^ suc k * 10 = (div-lt_iff_lt-mul {k = 10} (omega arith)).0 f.1 in
    let e : suc (suc k) - 1 ≡ suc k = omega arith in
    (omega arith, rw pow-suc q, λ _. rw e (low k f.2))
  where
    low : (k : ℕ) → (1 < suc k → 10 ^ (suc k - 1) ≤ n / 10) → 10 ^ suc k ≤ n
    low zero g = h
    low (suc k) g =
        let e : suc (suc k) - 1 ≡ suc k = omega arith in
        let q : 10 ^ suc k ≤ n / 10 = rw e at (g (omega arith)) in
        rw pow-suc ((le-div_iff_mul-le {k = 10} (omega arith)).0 q)

places_fewest : (most n : ℕ) → n < 10 ^ suc most → IsDigitCount 10 1 n (places most n)
unfolding places
places_fewest zero n h = (omega arith, h, λ q. absurd (omega arith))
places_fewest (suc most) n h = go (dec_lt n 10) (λ q. places_fewest most (n / 10) q)
  where
    go : Dec (n < 10) → (n / 10 < 10 ^ suc most → IsDigitCount 10 1 (n / 10) (places most (n / 10))) → IsDigitCount 10 1 n (pick (ltb n 10) 1 (suc (places most (n / 10))))
    go (yes q) i = rw (lt-ltb n 10 q) (omega arith, q, λ w. absurd (omega arith))
    go (no q) i =
        let g : n < 10 ^ suc most * 10 = rw pow-suc at h in
        rw (le-ltb n 10 (omega arith)) (fewest_next n (places most (n / 10)) (omega arith) (i ((div-lt_iff_lt-mul {k = 10} (omega arith)).1 g)))

pub fewest_decimal : (n r : ℕ) → n < 2 ^ 64 → IsDigitCount 10 1 n r → last_digits 10 r n ≡ decimal n
unfolding decimal
fewest_decimal n r h f = ap (λ (k : ℕ). last_digits 10 k n) (go (dec_lt r (places 19 n)) (dec_lt (places 19 n) r))
  where
    g : IsDigitCount 10 1 n (places 19 n)
    g = places_fewest 19 n (omega arith)

    go : Dec (r < places 19 n) → Dec (places 19 n < r) → r ≡ places 19 n
    go (yes a) b = absurd (fewest_one n r (places 19 n) f g a)
    go (no a) (yes b) = absurd (fewest_one n (places 19 n) r g f b)
    go (no a) (no b) = omega arith

-- one text after another: what the second puts from where the first stopped, both put together
pub then : (s t u : Sink) (a b : List ℕ) → t ≡ put s a → u ≡ put t b → u ≡ put s (a ++ b)
then s t u a b e f = f ∙ ap (λ (v : Sink). put v b) e ∙ sym (put-append s a b)

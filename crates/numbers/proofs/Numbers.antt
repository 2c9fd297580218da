-- The laws of numbers in bytes: a number and its bytes lead to each other, and so do the number at a byte of a record and the bytes there.
-- Assumes nothing.
use Prim.Native.Nat.{ℕ, zero, suc, ◌+◌, ◌-◌, ◌*◌, ◌/◌, ◌%◌, ◌^◌, ◌≤◌, ◌<◌}
use mathlib.Core.Path.{◌≡◌, refl, sym, ap, ap₂, ◌∙◌, subst}
use mathlib.Core.Bool.{Bool, true, false, cond}
use mathlib.Core.List.{List, [], ◌∷◌, ◌++◌}
use mathlib.Core.Logic.{⊎_elim}
use native.Mathlib.Nat.{add-zero, add_comm, suc-add, add-mul, zero-mul, zero-add, mul-one, mul_assoc, mul_comm, mul-le-mul_right, mod-lt, mod-eq_of_lt, div-add-mod', div-lt_iff_lt-mul, div-div-eq-div-mul, mul-add-div_right, mul-add-mod_self_right, div-eq_of_lt, pow-suc, div-one}
use native.Mathlib.Omega.{arith}
use lib.ListN.{length, take, drop, get_or, length-append, length-drop, get_or-eq_default}
use lib.Seq.{get_or-drop, take-add, drop-drop, drop-cons, take_at, length-take-le, drop-append_seam}
use lib.Pow.{pow-add}
use borrow.Rule.Slice.PartMut.{put_mid}
use borrow.Author.Tests.{leb-true, leb-false, le-leb, lt-leb}
use Rattle.std.specs.Int.{w32, from_be_bytes, to_be_bytes}
use Rattle.sums.proofs.Sum.{lt_or_ge}
use Rattle.numbers.specs.RecordNumber.{number_of, bytes_of, Bytes, part, has, number_at}

-- 256 ^ w is not 0.
pub bytes_pos : (w : ℕ) → 0 < 256 ^ w
bytes_pos zero = omega arith
bytes_pos (suc w) = omega (arith, bytes_pos w, pow-suc 256 w)

-- w bytes are w bytes.
pub length-bytes : (w n : ℕ) → length (bytes_of w n) ≡ w
unfolding bytes_of
length-bytes zero n = refl
length-bytes (suc w) n = ap suc (length-bytes w n)

-- What stands above the w bytes has no part in them.
pub bytes_low : (w a n : ℕ) → bytes_of w (a * 256 ^ w + n) ≡ bytes_of w n
unfolding bytes_of
bytes_low zero a n = refl
bytes_low (suc w) a n =
    let e : a * 256 ^ suc w ≡ a * 256 * 256 ^ w = ap (λ (k : ℕ). a * k) (pow-suc 256 w ∙ mul_comm (256 ^ w) 256) ∙ sym (mul_assoc a 256 (256 ^ w)) in
    ap (λ (k : ℕ). bytes_of (suc w) (k + n)) e
    ∙ ap₂ (λ (b : ℕ) (l : List ℕ). b ∷ l)
    (ap (λ (k : ℕ). k % 256) (mul-add-div_right (bytes_pos w) (a * 256) n) ∙ mul-add-mod_self_right a 256 (n / 256 ^ w))
    (bytes_low w (a * 256) n)

-- Bytes in two parts.
pub bytes-append : (v w n : ℕ) → bytes_of v (n / 256 ^ w) ++ bytes_of w n ≡ bytes_of (v + w) n
unfolding bytes_of
bytes-append zero w n = sym (ap (λ (k : ℕ). bytes_of k n) (zero-add w))
bytes-append (suc v) w n =
    let e : n / 256 ^ w / 256 ^ v ≡ n / 256 ^ (v + w) = div-div-eq-div-mul n (256 ^ w) (256 ^ v) ∙ ap (λ (k : ℕ). n / k) (sym (pow-add 256 w v) ∙ ap (λ (k : ℕ). 256 ^ k) (add_comm w v)) in
    ap₂ (λ (x : ℕ) (l : List ℕ). x % 256 ∷ l) e (bytes-append v w n) ∙ ap (λ (k : ℕ). bytes_of k n) (sym (suc-add v w))

-- w bytes are below 256.
pub bytes_byte : (w n : ℕ) → Bytes (bytes_of w n)
unfolding bytes_of
bytes_byte zero n i = omega arith
bytes_byte (suc w) n zero = mod-lt (n / 256 ^ w) (omega arith)
bytes_byte (suc w) n (suc i) = bytes_byte w n i

-- A number that fits into w bytes is the number of its w bytes.
pub number-bytes : (w n : ℕ) → n < 256 ^ w → number_of (bytes_of w n) ≡ n
unfolding bytes_of number_of
number-bytes zero n h = omega arith
number-bytes (suc w) n h =
    let p = 256 ^ w in
    let d : n / p * p + n % p ≡ n = div-add-mod' n p in
    let small : n / p < 256 = (div-lt_iff_lt-mul (bytes_pos w)).1 (omega (arith, pow-suc 256 w, mul_comm p 256)) in
    ap₂ (λ (x k : ℕ). x * 256 ^ k + number_of (bytes_of w n)) (mod-eq_of_lt small) (length-bytes w n)
    ∙ (ap (λ (k : ℕ). n / p * p + number_of (bytes_of w k)) (sym d)
    ∙ (ap (λ (l : List ℕ). n / p * p + number_of l) (bytes_low w (n / p) (n % p))
    ∙ (ap (λ (k : ℕ). n / p * p + k) (number-bytes w (n % p) (mod-lt n (bytes_pos w))) ∙ d)))

le255 : {b : ℕ} → b < 256 → b ≤ 255
le255 h = omega arith

-- The number of some bytes is below 256 to their count.
pub number_lt : (l : List ℕ) → Bytes l → number_of l < 256 ^ length l
unfolding number_of
number_lt [] h = omega arith
number_lt (b ∷ l) h =
    omega (arith, number_lt l (λ i. h (suc i)), h 0, pow-suc 256 (length l), mul-le-mul_right (256 ^ length l) (le255 (h 0)))

-- Bytes are the bytes of their number.
pub bytes-number : (l : List ℕ) → Bytes l → bytes_of (length l) (number_of l) ≡ l
unfolding bytes_of number_of
bytes-number [] h = refl
bytes-number (b ∷ l) h =
    let low : number_of l < 256 ^ length l = number_lt l (λ i. h (suc i)) in
    ap₂ (λ (x : ℕ) (r : List ℕ). x ∷ r)
    (ap (λ (k : ℕ). k % 256) (mul-add-div_right (bytes_pos (length l)) b (number_of l) ∙ (ap (λ (k : ℕ). b + k) (div-eq_of_lt low) ∙ add-zero b)) ∙ mod-eq_of_lt (h 0))
    (bytes_low (length l) b (number_of l) ∙ bytes-number l (λ i. h (suc i)))

-- The number of bytes in two parts.
pub number_append : (l m : List ℕ) → number_of (l ++ m) ≡ number_of l * 256 ^ length m + number_of m
unfolding number_of
number_append [] m = omega (arith, zero-mul (256 ^ length m))
number_append (b ∷ l) m =
    let p = 256 ^ length l in
    let q = 256 ^ length m in
    let e : 256 ^ length (l ++ m) ≡ p * q = ap (λ (k : ℕ). 256 ^ k) (length-append l m) ∙ pow-add 256 (length l) (length m) in
    omega (arith, number_append l m, ap (λ (k : ℕ). b * k) e, mul_assoc b p q, add-mul (b * p) (number_of l) q)

-- w bytes from byte `at` on are there.
pub has-true : (n at w : ℕ) → at + w ≤ n → has n at w ≡ true
unfolding has
has-true n at w h = le-leb (at + w) n h

-- They are not, where the record ends before.
pub has-false : (n at w : ℕ) → n < at + w → has n at w ≡ false
unfolding has
has-false n at w h = lt-leb (at + w) n h

-- The test says that they are there.
pub true-has : (n at w : ℕ) → has n at w ≡ true → at + w ≤ n
unfolding has
true-has n at w h = leb-true (at + w) n h

-- The test says that they are not.
pub false-has : (n at w : ℕ) → has n at w ≡ false → n < at + w
unfolding has
false-has n at w h = leb-false (at + w) n h

-- A part that is there has its length.
pub length_part : (s : List ℕ) (at w : ℕ) → at + w ≤ length s → length (part s at w) ≡ w
length_part s at w h = length-take-le w (drop at s) (omega (arith, length-drop at s))

-- A part in two parts.
pub part-append : (s : List ℕ) (at v w : ℕ) → part s at (v + w) ≡ part s at v ++ part s (at + v) w
part-append s at v w = take-add v w (drop at s) ∙ ap (λ (l : List ℕ). part s at v ++ take w l) (drop-drop v at s)

-- What is left of bytes has bytes.
pub bytes_drop : (s : List ℕ) (at : ℕ) → Bytes s → Bytes (drop at s)
bytes_drop s at b i = subst (λ (k : ℕ). k < 256) (sym (get_or-drop at s i 0)) (b (at + i))

-- So has what is taken of them.
pub bytes_take : (s : List ℕ) (n : ℕ) → Bytes s → Bytes (take n s)
bytes_take s zero b i = omega arith
bytes_take [] (suc n) b i = omega arith
bytes_take (x ∷ s) (suc n) b zero = b 0
bytes_take (x ∷ s) (suc n) b (suc i) = bytes_take s n (λ j. b (suc j)) i

-- So has a part.
pub bytes-part : (s : List ℕ) (at w : ℕ) → Bytes s → Bytes (part s at w)
bytes-part s at w b = bytes_take (drop at s) w (bytes_drop s at b)

-- Bytes and bytes are bytes.
pub bytes-join : (l m : List ℕ) → Bytes l → Bytes m → Bytes (l ++ m)
bytes-join [] m a b i = b i
bytes-join (x ∷ l) m a b zero = a 0
bytes-join (x ∷ l) m a b (suc i) = bytes-join l m (λ j. a (suc j)) b i

-- The number at a byte, where its bytes are there.
pub number_there : (s : List ℕ) (at w : ℕ) → at + w ≤ length s → number_at s at w ≡ number_of (part s at w)
unfolding number_at
number_there s at w h = ap (λ (t : Bool). cond t (number_of (part s at w)) 0) (has-true (length s) at w h)

-- The number at a byte, where its bytes are not all there.
pub number-none : (s : List ℕ) (at w : ℕ) → length s < at + w → number_at s at w ≡ 0
unfolding number_at
number-none s at w h = ap (λ (t : Bool). cond t (number_of (part s at w)) 0) (has-false (length s) at w h)

-- A number of v + w bytes from those of v and of w bytes.
pub number-split : (s : List ℕ) (at v w : ℕ) → at + (v + w) ≤ length s → number_at s at (v + w) ≡ number_at s at v * 256 ^ w + number_at s (at + v) w
number-split s at v w h =
    let m = part s (at + v) w in
    number_there s at (v + w) h
    ∙ (ap number_of (part-append s at v w)
    ∙ (number_append (part s at v) m
    ∙ (ap (λ (k : ℕ). number_of (part s at v) * 256 ^ k + number_of m) (length_part s (at + v) w (omega arith))
    ∙ ap₂ (λ (x y : ℕ). x * 256 ^ w + y) (sym (number_there s at v (omega arith))) (sym (number_there s (at + v) w (omega arith))))))

-- The number in one byte.
pub number_byte : (s : List ℕ) (at : ℕ) → number_at s at 1 ≡ get_or s at 0
unfolding number_of
number_byte s at =
    ⊎_elim (λ l. number_there s at 1 (omega arith) ∙ (ap (λ (r : List ℕ). number_of (take 1 r)) (drop-cons s at 0 l) ∙ (add-zero (get_or s at 0 * 1) ∙ mul-one (get_or s at 0))))
    (λ g. number-none s at 1 (omega arith) ∙ sym (get_or-eq_default s 0 g))
    (lt_or_ge at (length s))

-- The number in four bytes, byte by byte.
pub number_word : (s : List ℕ) (at : ℕ) → at + 4 ≤ length s
    → number_at s at 4 ≡ get_or s at 0 * 16777216 + get_or s (at + 1) 0 * 65536 + get_or s (at + 2) 0 * 256 + get_or s (at + 3) 0
number_word s at h =
    let e : at + 2 + 1 ≡ at + 3 = omega arith in
    let d = ap (λ (k : ℕ). number_at s k 1) e in
    omega (
      arith,
      number-split s at 2 2 h,
      number-split s at 1 1 (omega arith),
      number-split s (at + 2) 1 1 (omega arith),
      number_byte s at,
      number_byte s (at + 1),
      number_byte s (at + 2),
      number_byte s (at + 3),
      d,
    )

-- Up to four bytes behind zeros: the library's word of them is their number,
pub word_padded : (l : List ℕ) → length l ≤ 4 → from_be_bytes w32 (put_mid (4 - length l) (4 - (4 - length l)) (0 ∷ 0 ∷ 0 ∷ 0 ∷ []) l) ≡ number_of l
unfolding number_of
word_padded [] h = refl
word_padded (a ∷ []) h = omega arith
word_padded (a ∷ b ∷ []) h = omega arith
word_padded (a ∷ b ∷ c ∷ []) h = omega arith
word_padded (a ∷ b ∷ c ∷ d ∷ []) h = omega arith
word_padded (a ∷ b ∷ c ∷ d ∷ e ∷ l) h = absurd (omega arith)

-- and the last bytes of the library's word of a number are those of the number.
pub word_end : (w n : ℕ) → w ≤ 4 → take (4 - (4 - w)) (drop (4 - w) (to_be_bytes w32 n)) ≡ bytes_of w n
unfolding bytes_of
word_end zero n h = refl
word_end (suc zero) n h = simp div-one
word_end (suc (suc zero)) n h = simp div-one
word_end (suc (suc (suc zero))) n h = simp div-one
word_end (suc (suc (suc (suc zero)))) n h = simp div-one
word_end (suc (suc (suc (suc (suc w))))) n h = absurd (omega arith)

-- A number of w bytes is below 256 ^ w.
pub number-at_lt : (s : List ℕ) (at w : ℕ) → Bytes s → number_at s at w < 256 ^ w
number-at_lt s at w b =
    ⊎_elim (λ l. omega (arith, number-none s at w l, bytes_pos w))
    (λ g. subst (λ (k : ℕ). k < 256 ^ w) (sym (number_there s at w g))
    (subst (λ (k : ℕ). number_of (part s at w) < 256 ^ k) (length_part s at w g) (number_lt (part s at w) (bytes-part s at w b))))
    (lt_or_ge (length s) (at + w))

-- Reading and writing again: the bytes of the number at a byte are those that stand there.
pub bytes_there : (s : List ℕ) (at w : ℕ) → Bytes s → at + w ≤ length s → bytes_of w (number_at s at w) ≡ part s at w
bytes_there s at w b h =
    ap₂ bytes_of (sym (length_part s at w h)) (number_there s at w h) ∙ bytes-number (part s at w) (bytes-part s at w b)

-- Writing and reading again: where the bytes of a number stand, the number stands.
pub number_here : (s rest : List ℕ) (at w n : ℕ) → drop at s ≡ bytes_of w n ++ rest → n < 256 ^ w → number_at s at w ≡ n
number_here s rest at w n e h =
    let long : length s - at ≡ w + length rest = sym (length-drop at s) ∙ (ap length e ∙ (length-append (bytes_of w n) rest ∙ ap (λ (k : ℕ). k + length rest) (length-bytes w n))) in
    ⊎_elim (λ l. let z : w ≡ 0 = omega arith in number-none s at w l ∙ omega (arith, ap (λ (k : ℕ). 256 ^ k) z))
    (λ g. number_there s at w g ∙ (ap (λ (l : List ℕ). number_of (take w l)) e
    ∙ (ap number_of (take_at (bytes_of w n) rest w (length-bytes w n)) ∙ number-bytes w n h)))
    (lt_or_ge (length s) (at + w))

-- After the w bytes of a number stands what stands after them.
pub after-number : (s rest : List ℕ) (at w n : ℕ) → drop at s ≡ bytes_of w n ++ rest → drop (at + w) s ≡ rest
after-number s rest at w n e =
    sym (drop-drop w at s)
    ∙ (ap (drop w) e ∙ (ap (λ (k : ℕ). drop k (bytes_of w n ++ rest)) (sym (length-bytes w n)) ∙ drop-append_seam (bytes_of w n) rest))

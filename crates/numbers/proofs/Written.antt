-- The laws of writing: bytes written one after the other, and a record that is written from front to back.
-- Assumes nothing.
use Prim.Native.Nat.{ℕ, ◌+◌, ◌/◌, ◌%◌, ◌^◌, ◌≤◌, ◌<◌}
use mathlib.Core.Path.{◌≡◌, sym, ap, ap₂, ◌∙◌}
use mathlib.Core.Bool.{Bool, cond}
use mathlib.Core.List.{List, [], ◌∷◌, ◌++◌, append_assoc, append-nil}
use mathlib.Core.Logic.{⊎_elim}
use native.Mathlib.Nat.{add-zero, div-one}
use native.Mathlib.Omega.{arith}
use lib.ListN.{length, take, drop, set, length-append, length-drop, take-append-drop}
use lib.Seq.{take_at, drop-append-add, drop-drop, length-take-le, sets-eq}
use borrow.Rule.Slice.PartMut.{put_mid}
use Rattle.sums.proofs.Sum.{lt_or_ge}
use Rattle.numbers.specs.RecordNumber.{bytes_of, written, over}
use Rattle.numbers.proofs.Numbers.{has-true, has-false, length-bytes, bytes-append}

-- What fits is written.
pub written-fits : (s : List ℕ) (at : ℕ) (l : List ℕ) → at + length l ≤ length s → written s at l ≡ take at s ++ l ++ drop (at + length l) s
unfolding written
written-fits s at l h = ap (λ (t : Bool). cond t (take at s ++ l ++ drop (at + length l) s) s) (has-true (length s) at (length l) h)

-- What does not fit is not written.
pub written_not : (s : List ℕ) (at : ℕ) (l : List ℕ) → length s < at + length l → written s at l ≡ s
unfolding written
written_not s at l h = ap (λ (t : Bool). cond t (take at s ++ l ++ drop (at + length l) s) s) (has-false (length s) at (length l) h)

-- A record that fits leaves the buffer its length.
pub length_over : (p s : List ℕ) → length p ≤ length s → length (over p s) ≡ length s
unfolding over
length_over p s h = omega (arith, length-append p (drop (length p) s), length-drop (length p) s)

-- Bytes that are written where a record ends make it longer.
pub over-more : (p l s : List ℕ) (at : ℕ) → length p ≡ at → at + length l ≤ length s → written (over p s) at l ≡ over (p ++ l) s
unfolding over
over-more p l s at e h =
    let d = drop (length p) s in
    written-fits (p ++ d) at l (omega (arith, length_over p s (omega arith)))
    ∙ ap₂ (λ (a b : List ℕ). a ++ l ++ b) (take_at p d at e)
    (ap (λ (k : ℕ). drop (k + length l) (p ++ d)) (sym e)
    ∙ (drop-append-add p d (length l) ∙ (drop-drop (length l) (length p) s ∙ ap (λ (k : ℕ). drop k s) (sym (length-append p l)))))

-- What is written at a byte makes a record of all that stands before it.
pub written_over : (s : List ℕ) (at : ℕ) (l : List ℕ) → at + length l ≤ length s → written s at l ≡ over (take at s ++ l) s
unfolding over
written_over s at l h =
    written-fits s at l h
    ∙ ap (λ (k : ℕ). take at s ++ l ++ drop k s) (sym (length-append (take at s) l ∙ ap (λ (k : ℕ). k + length l) (length-take-le at s (omega arith))))

-- Writing keeps the length.
pub length-written : (s : List ℕ) (at : ℕ) (l : List ℕ) → length (written s at l) ≡ length s
length-written s at l =
    ⊎_elim (λ b. ap length (written_not s at l b))
    (λ g. ap length (written_over s at l g)
    ∙ length_over (take at s ++ l) s (omega (arith, length-append (take at s) l, length-take-le at s (omega arith))))
    (lt_or_ge (length s) (at + length l))

-- Bytes written one after the other are written as one.
pub written-append : (s : List ℕ) (at : ℕ) (l m : List ℕ) → at + (length l + length m) ≤ length s → written (written s at l) (at + length l) m ≡ written s at (l ++ m)
written-append s at l m h =
    ap (λ (r : List ℕ). written r (at + length l) m) (written_over s at l (omega arith))
    ∙ (over-more (take at s ++ l) m s (at + length l) (length-append (take at s) l ∙ ap (λ (k : ℕ). k + length l) (length-take-le at s (omega arith))) (omega arith)
    ∙ (ap (λ (r : List ℕ). over r s) (append_assoc (take at s) l m)
    ∙ sym (written_over s at (l ++ m) (omega (arith, length-append l m)))))

-- One byte is written by one store.
pub written_byte : (s : List ℕ) (at b : ℕ) → at < length s → set s at b ≡ written s at (b ∷ [])
written_byte s at b h = sets-eq (b ∷ []) s at (omega arith) ∙ sym (written-fits s at (b ∷ []) (omega arith))

-- One store writes the lowest byte of a number.
pub written_one : (s : List ℕ) (at n : ℕ) → at < length s → set s at (n % 256) ≡ written s at (bytes_of 1 n)
unfolding bytes_of
written_one s at n h = written_byte s at (n % 256) h ∙ ap (λ (k : ℕ). written s at (k % 256 ∷ [])) (sym (div-one n))

-- What is copied over a part of a buffer is written.
pub written_part : (s : List ℕ) (at : ℕ) (l : List ℕ) → at + length l ≤ length s → put_mid at (length l) s l ≡ written s at l
written_part s at l h = sym (append_assoc (take at s) l _) ∙ (ap (λ (r : List ℕ). take at s ++ l ++ r) (drop-drop (length l) at s) ∙ sym (written-fits s at l h))

-- A number is not written where its bytes do not fit.
pub written_short : (s : List ℕ) (at w n : ℕ) → length s < at + w → written s at (bytes_of w n) ≡ s
written_short s at w n h = written_not s at (bytes_of w n) (omega (arith, length-bytes w n))

-- A number of v + w bytes is written as its high v bytes and then its low w bytes.
pub written-split : (s : List ℕ) (at v w n : ℕ) → at + (v + w) ≤ length s
    → written (written s at (bytes_of v (n / 256 ^ w))) (at + v) (bytes_of w n) ≡ written s at (bytes_of (v + w) n)
written-split s at v w n h =
    let high = bytes_of v (n / 256 ^ w) in
    ap (λ (k : ℕ). written (written s at high) (at + k) (bytes_of w n)) (sym (length-bytes v (n / 256 ^ w)))
    ∙ (written-append s at high (bytes_of w n) (omega (arith, length-bytes v (n / 256 ^ w), length-bytes w n))
    ∙ ap (written s at) (bytes-append v w n))

-- Nothing that is written changes nothing.
pub written_none : (s : List ℕ) (at : ℕ) → s ≡ written s at []
written_none s at =
    ⊎_elim (λ l. sym (written_not s at [] (omega arith)))
    (λ g. sym (written-fits s at [] (omega arith) ∙ (ap₂ (λ (l : List ℕ) (k : ℕ). l ++ drop k s) (append-nil (take at s)) (add-zero at) ∙ take-append-drop at s)))
    (lt_or_ge (length s) at)

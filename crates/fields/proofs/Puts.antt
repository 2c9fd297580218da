-- A record that is put from front to back: what stands behind bytes that were put, fields, and ids.
-- Assumes nothing.
use Prim.Native.Nat.{ℕ, ◌+◌, ◌*◌, ◌≤◌, ◌<◌}
use mathlib.Core.Path.{◌≡◌, refl, sym, ap, ap₂, ◌∙◌}
use mathlib.Core.List.{List, [], ◌∷◌, ◌++◌, append_assoc}
use native.Mathlib.Numerals.{add-one}
use native.Mathlib.Omega.{arith}
use lib.ListN.{length, take, drop, get_or, length-append, length-drop}
use lib.Seq.{take-suc, get_or-drop, length-take-le}
use Rattle.fields.specs.RecordField.{bytes_of, head_width, field, written, id_bytes}
use Rattle.numbers.proofs.Numbers.{length-bytes}
use Rattle.fields.proofs.RecordField.{field-bytes}
use Rattle.numbers.proofs.Written.{written-append}
use Rattle.id_bytes.proofs.IdBytes.{length-id-bytes, id-bytes_snoc}

-- What is written after bytes that were written makes them longer.
pub put_next : (s r l m : List ℕ) (at w end : ℕ) → r ≡ written s at l → length l ≡ w → at + w ≡ end → end + length m ≤ length s
    → written r end m ≡ written s at (l ++ m)
put_next s r l m at w end e k d h =
    let p : end ≡ at + length l = omega arith in
    ap₂ (λ (x : List ℕ) (y : ℕ). written x y m) e p ∙ written-append s at l m (omega arith)

-- A field: its tag and length, then its body.
pub put_body : (s r body : List ℕ) (at tag len : ℕ) → r ≡ written s at (bytes_of 1 tag ++ bytes_of 2 len) → tag < 256 → length body ≡ len
    → at + head_width + len ≤ length s → written r (at + head_width) body ≡ written s at (field tag body)
put_body s r body at tag len e t k h =
    put_next s r (bytes_of 1 tag ++ bytes_of 2 len) body at head_width (at + head_width) e
    (length-append (bytes_of 1 tag) (bytes_of 2 len) ∙ ap₂ ◌+◌ (length-bytes 1 tag) (length-bytes 2 len)) refl (omega arith)
    ∙ (ap (written s at) (append_assoc (bytes_of 1 tag) (bytes_of 2 len) body)
    ∙ ap (written s at) (ap (λ (n : ℕ). bytes_of 1 tag ++ (bytes_of 2 n ++ body)) (sym k) ∙ sym (field-bytes tag body t)))

-- A field of one number, in as many bytes as its head says.
pub put_value : (s r x : List ℕ) (at tag width w v : ℕ) → r ≡ written s at (bytes_of 1 tag ++ bytes_of 2 width) → x ≡ written r (at + head_width) (bytes_of w v)
    → width ≡ w → tag < 256 → at + head_width + width ≤ length s → x ≡ written s at (field tag (bytes_of width v))
put_value s r x at tag width w v e f d t h =
    f
    ∙ (ap (λ (k : ℕ). written r (at + head_width) (bytes_of k v)) (sym d) ∙ put_body s r (bytes_of width v) at tag width e t (length-bytes width v) h)

-- One id more is put.
pub put_id : (s r cells : List ℕ) (at from j : ℕ) → r ≡ written s at (id_bytes (take j (drop from cells))) → from + j < length cells
    → at + 4 * j + 4 ≤ length s
    → written r (at + 4 * j) (bytes_of 4 (get_or cells (from + j) 0)) ≡ written s at (id_bytes (take (j + 1) (drop from cells)))
put_id s r cells at from j e h k =
    let l : List ℕ = take j (drop from cells) in
    let inside : j < length (drop from cells) = omega (arith, length-drop from cells) in
    let long : length l ≡ j = length-take-le j (drop from cells) (omega arith) in
    put_next s r (id_bytes l) (bytes_of 4 (get_or cells (from + j) 0)) at (4 * j) (at + 4 * j) e (length-id-bytes l ∙ ap (λ (n : ℕ). 4 * n) long) refl
    (omega (arith, length-bytes 4 (get_or cells (from + j) 0)))
    ∙ ap (written s at)
    (sym (id-bytes_snoc l (get_or cells (from + j) 0))
    ∙ ap id_bytes
    (ap (λ (x : ℕ). l ++ (x ∷ [])) (sym (get_or-drop from cells j 0))
    ∙ (sym (take-suc (drop from cells) j 0 inside) ∙ ap (λ (n : ℕ). take n (drop from cells)) (sym (add-one j)))))

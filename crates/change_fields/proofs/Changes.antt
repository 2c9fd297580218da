-- The laws of a change's field: its length, that it is read where it was written and written as it was read, and its bytes as they are given back.
-- Assumes nothing.
use Prim.Native.Nat.{ℕ, zero, suc, ◌+◌, ◌-◌, ◌≤◌, ◌<◌}
use mathlib.Core.Path.{◌≡◌, refl, sym, ap, ap₂, ◌∙◌, subst}
use mathlib.Core.Bool.{true}
use mathlib.Core.List.{List, [], ◌∷◌, ◌++◌, append_assoc}
use mathlib.Core.Logic.{⊎_elim}
use native.Mathlib.Nat.{zero-add}
use native.Mathlib.Numerals.{unary_clauses}
use native.Mathlib.Omega.{arith}
use lib.ListN.{length, take, drop, replicate, length-append}
use lib.Seq.{take_at}
use Rattle.cluster.specs.Terms.{mem}
use Rattle.cluster.proofs.Lists.{mem_cases}
use Rattle.fields.specs.RecordField.{bytes_of, Bytes, part, written, node_width, remove_width, resize_width, node_bytes, head_width, field, rule_of, legal, legal_as, field_at}
use Rattle.fields.specs.declared.Field.TheVariants.{Body}
use Rattle.numbers.proofs.Numbers.{length-bytes, length_part, part-append, bytes_byte, bytes-join, bytes_there, number-at_lt, number_here, after-number}
use Rattle.numbers.proofs.Written.{written-fits}
use Rattle.fields.proofs.Puts.{put_next, put_body}
use Rattle.node_bytes.proofs.Nodes.{length-node, bytes-node, node_here, node-bytes, fits-node}
use Rattle.fields.proofs.RecordField.{one_tag, whole, field_back, length-field, field-bytes, body_here, field_here}
use Rattle.change_fields.specs.RecordChange.{change_field, change_record, change_tags, change_in, FitsChange, longest_change, reverse_bytes}
use Rattle.change_fields.specs.declared.Change.{Change}
use Rattle.change_fields.specs.declared.Change.TheVariants.{Add, Remove, Resize}

-- ---- the parts of a change's field

abbrev pub tag_of : Change → ℕ
tag_of (Add n) = 20
tag_of (Remove i) = 21
tag_of (Resize i k) = 22

abbrev pub body_of : Change → List ℕ
body_of (Add n) = node_bytes n
body_of (Remove i) = bytes_of 4 i
body_of (Resize i k) = bytes_of 4 i ++ bytes_of 4 k

abbrev pub width_of : Change → ℕ
width_of (Add n) = node_width
width_of (Remove i) = remove_width
width_of (Resize i k) = resize_width

field_of : (x : Change) → change_field x ≡ field (tag_of x) (body_of x)
unfolding change_field
field_of (Add n) = refl
field_of (Remove i) = refl
field_of (Resize i k) = refl

length_body : (x : Change) → length (body_of x) ≡ width_of x
length_body (Add n) = length-node n
length_body (Remove i) = length-bytes 4 i
length_body (Resize i k) = length-append (bytes_of 4 i) (bytes_of 4 k) ∙ ap₂ ◌+◌ (length-bytes 4 i) (length-bytes 4 k)

width_le : (x : Change) → width_of x ≤ node_width
width_le (Add n) = omega arith
width_le (Remove i) = omega arith
width_le (Resize i k) = omega arith

width_ge : (x : Change) → 4 ≤ width_of x
width_ge (Add n) = omega arith
width_ge (Remove i) = omega arith
width_ge (Resize i k) = omega arith

-- A tag of a change has one byte.
tag_lt : (x : Change) → tag_of x < 256
tag_lt (Add n) = omega arith
tag_lt (Remove i) = omega arith
tag_lt (Resize i k) = omega arith

-- A change's tag is one of its family, and its body has the length that is legal for it.
tag_known : (x : Change) → mem (tag_of x) change_tags ≡ true
unfolding mem
tag_known (Add n) = refl
tag_known (Remove i) = refl
tag_known (Resize i k) = refl

width-legal : (x : Change) → legal_as 0 (tag_of x) (width_of x) ≡ true
unfolding legal_as legal rule_of
width-legal (Add n) = refl
width-legal (Remove i) = refl
width-legal (Resize i k) = refl

-- ---- its bytes

-- The bytes of a head and of the body.
pub length-is : (x : Change) → length (change_field x) ≡ head_width + width_of x
length-is x = ap length (field_of x) ∙ (length-field (tag_of x) (body_of x) ∙ ap (λ (k : ℕ). head_width + k) (length_body x))

-- No change is longer than a node to be added,
pub length-change : (x : Change) → length (change_field x) ≤ longest_change
length-change x = omega (arith, length-is x, width_le x)

-- and none is shorter than a removal.
pub change_pos : (x : Change) → 7 ≤ length (change_field x)
change_pos x = omega (arith, length-is x, width_ge x)

body_bytes : (x : Change) → Bytes (body_of x)
body_bytes (Add n) = bytes-node n
body_bytes (Remove i) = bytes_byte 4 i
body_bytes (Resize i k) = bytes-join (bytes_of 4 i) (bytes_of 4 k) (bytes_byte 4 i) (bytes_byte 4 k)

pub change-bytes : (x : Change) → Bytes (change_field x)
change-bytes x =
    let b = body_of x in
    subst Bytes (sym (field_of x ∙ field-bytes (tag_of x) b (tag_lt x)))
    (bytes-join (bytes_of 1 (tag_of x)) (bytes_of 2 (length b) ++ b) (bytes_byte 1 (tag_of x))
    (bytes-join (bytes_of 2 (length b)) b (bytes_byte 2 (length b)) (body_bytes x)))

-- The bytes of changes, and then those of others.
pub record_append : (l m : List Change) → change_record (l ++ m) ≡ change_record l ++ change_record m
unfolding change_record
record_append [] m = refl
record_append (x ∷ l) m = ap (λ (r : List ℕ). change_field x ++ r) (record_append l m) ∙ sym (append_assoc (change_field x) (change_record l) (change_record m))

-- ---- writing and reading again

in_here : (s rest : List ℕ) (x : Change) (start : ℕ) → drop start s ≡ body_of x ++ rest → FitsChange x → change_in s (tag_of x) start ≡ x
unfolding change_in
in_here s rest (Add n) start e f = ap Add (node_here s rest n start e f)
in_here s rest (Remove i) start e f = ap Remove (number_here s rest start 4 i e f)
in_here s rest (Resize i k) start e f =
    let d : drop start s ≡ bytes_of 4 i ++ (bytes_of 4 k ++ rest) = e ∙ append_assoc (bytes_of 4 i) (bytes_of 4 k) rest in
    let g = after-number s (bytes_of 4 k ++ rest) start 4 i d in
    ap₂ Resize (number_here s (bytes_of 4 k ++ rest) start 4 i d f.0) (number_here s rest (start + 4) 4 k g f.1)

-- Where the field of a change stands, and then anything, the change is read.
pub change_here : (s rest : List ℕ) (x : Change) (at : ℕ) → drop at s ≡ change_field x ++ rest → FitsChange x
    → (tag : ℕ)
    × ((len : ℕ)
    × ((field_at s at change_tags 0 ≡ Body tag (at + head_width) len) × ((change_in s tag (at + head_width) ≡ x) × (head_width + len ≡ length (change_field x)))))
change_here s rest x at e f =
    let d : drop at s ≡ field (tag_of x) (body_of x) ++ rest = e ∙ ap (λ (l : List ℕ). l ++ rest) (field_of x) in
    let legal-here = ap (legal_as 0 (tag_of x)) (length_body x) ∙ width-legal x in (
      tag_of x,
      (
        length (body_of x),
        (
          field_here s rest (body_of x) at (tag_of x) d change_tags 0 (tag_known x) legal-here,
          (
            in_here s rest x (at + head_width) (body_here s rest (body_of x) at (tag_of x) d) f,
            sym (ap length (field_of x) ∙ length-field (tag_of x) (body_of x)),
          ),
        ),
      ),
    )

-- ---- reading and writing again

module _ (s : List ℕ) (b : Bytes s) (start len : ℕ) (h : start + len ≤ length s) where
  -- What is known of the change that is read by a tag from a body of a length that is legal for the tag.
  abbrev Back : ℕ → Type 0
  Back tag =
      (rule_of tag).least ≤ len → len ≤ (rule_of tag).greatest
      → (change_field (change_in s tag start) ≡ field tag (part s start len)) × FitsChange (change_in s tag start)

  back-add : Back 20
  unfolding change_in change_field rule_of
  back-add l g =
      let e : node_width ≡ len = omega arith in
      (ap (field 20) (node-bytes s start b (omega arith) ∙ ap (part s start) e), fits-node s start b)

  back_remove : Back 21
  unfolding change_in change_field rule_of
  back_remove l g =
      let e : remove_width ≡ len = omega arith in
      (ap (field 21) (bytes_there s start 4 b (omega arith) ∙ ap (part s start) e), number-at_lt s start 4 b)

  back_resize : Back 22
  unfolding change_in change_field rule_of
  back_resize l g =
      let e : resize_width ≡ len = omega arith in
      let two = ap₂ (λ (x y : List ℕ). x ++ y) (bytes_there s start 4 b (omega arith)) (bytes_there s (start + 4) 4 b (omega arith)) in
      (ap (field 22) (two ∙ (sym (part-append s start 4 4) ∙ ap (part s start) e)), (number-at_lt s start 4 b, number-at_lt s (start + 4) 4 b))

  back : (tag : ℕ) → mem tag change_tags ≡ true → Back tag
  back tag t =
      ⊎_elim (λ e. subst Back (sym e) back-add)
      (λ u. ⊎_elim (λ e. subst Back (sym e) back_remove) (λ v. subst Back (sym (one_tag 22 tag v)) back_resize) (mem_cases tag 21 (22 ∷ []) u))
      (mem_cases tag 20 (21 ∷ 22 ∷ []) t)

-- The change that is read has the bytes from which it was read, and its numbers fit them.
pub change-back : (s : List ℕ) (at tag start len : ℕ) → Bytes s → field_at s at change_tags 0 ≡ Body tag start len
    → (part s at (head_width + len) ≡ change_field (change_in s tag start)) × (start ≡ at + head_width) × (start + len ≤ length s) × FitsChange (change_in s tag start)
change-back s at tag start len b e =
    let w = whole s at change_tags 0 tag start len e in
    let k = back s b start len w.ends tag w.member w.least w.greatest in
    let body = part s start len in
    let long : length (field tag body) ≡ head_width + len =
    length-field tag body ∙ ap (λ (j : ℕ). head_width + j) (length_part s start len w.ends) in (
      ap (take (head_width + len)) (field_back s at change_tags 0 tag start len e b)
          ∙ (take_at (field tag body) (drop (start + len) s) (head_width + len) long ∙ sym k.0),
      w.begins,
      w.ends,
      k.1,
    )

-- ---- putting it

-- The field of a change stands at the front of bytes y that were s, and n is its length.
abbrev pub IsPut : List ℕ → List ℕ → ℕ → Change → Type 0
IsPut s y n x = (y ≡ written s 0 (change_field x)) × (n ≡ length (change_field x))

-- So it is where its head is put and then its body.
pub put-field : (s r y : List ℕ) (x : Change) → length s ≡ longest_change → r ≡ written s 0 (bytes_of 1 (tag_of x) ++ bytes_of 2 (width_of x))
    → y ≡ written r head_width (body_of x) → IsPut s y (head_width + width_of x) x
put-field s r y x n e f = (
  f
      ∙ (put_body s r (body_of x) 0 (tag_of x) (width_of x) e (tag_lt x) (length_body x) (omega (arith, width_le x)) ∙ ap (written s 0) (sym (field_of x))),
  sym (length-is x),
)

-- The body of a change of capacity: the id, then the capacity.
pub put_words : (r q y : List ℕ) (i k : ℕ) → length r ≡ longest_change → q ≡ written r head_width (bytes_of 4 i) → y ≡ written q (head_width + 4) (bytes_of 4 k)
    → y ≡ written r head_width (bytes_of 4 i ++ bytes_of 4 k)
put_words r q y i k n e f =
    f ∙ put_next r q (bytes_of 4 i) (bytes_of 4 k) head_width 4 (head_width + 4) e (length-bytes 4 i) refl (omega (arith, length-bytes 4 k))

-- ---- the bytes that are given back

-- What is left of zeros is zeros.
zeros_drop : (n k : ℕ) → drop {A = ℕ} n (replicate k 0) ≡ replicate (k - n) 0
zeros_drop zero k = simp unary_clauses refl
zeros_drop (suc n) zero = let e : 0 ≡ 0 - suc n = omega arith in ap (λ (j : ℕ). replicate {A = ℕ} j 0) e
zeros_drop (suc n) (suc k) = simp unary_clauses (zeros_drop n k)

-- What is put to the front of zeros is given back so.
pub reverse-put : (v l : List ℕ) (n : ℕ) → length v ≤ longest_change → n ≡ length v → l ≡ written (replicate longest_change 0) 0 v
    → record { len = n; bytes = l } ≡ reverse_bytes v
unfolding reverse_bytes
reverse-put v l n h d e =
    ap₂ (λ (k : ℕ) (m : List ℕ). record { len = k; bytes = m }) d
    (e
    ∙ (written-fits (replicate longest_change 0) 0 v (omega arith)
    ∙ ap (λ (m : List ℕ). v ++ m) (ap (λ (k : ℕ). drop k (replicate longest_change 0)) (zero-add (length v)) ∙ zeros_drop (length v) longest_change)))

-- Their length tells them from the zeros after them.
pub reverse-given : (v : List ℕ) → length v ≤ longest_change → take (reverse_bytes v).len (reverse_bytes v).bytes ≡ v
unfolding reverse_bytes
reverse-given v h = take_at v (replicate (longest_change - length v) 0) (length v) refl

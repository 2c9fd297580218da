-- The laws of a node's bytes: they are read as the node and written as they were read.
-- Assumes nothing.
use Prim.Native.Nat.{ℕ, ◌+◌, ◌-◌, ◌≤◌, ◌<◌}
use mathlib.Core.Path.{◌≡◌, refl, sym, ap, ap₂, ◌∙◌, subst}
use mathlib.Core.List.{List, ◌++◌, append_assoc}
use mathlib.Core.Logic.{⊎_elim}
use native.Mathlib.Omega.{arith}
use lib.ListN.{length, drop, length-append, length-drop}
use Rattle.sums.proofs.Sum.{lt_or_ge}
use Rattle.cluster.specs.Terms.{no_node}
use Rattle.cluster.specs.declared.Node.{Node}
use Rattle.fields.specs.RecordField.{bytes_of, Bytes, part, number_at, written, node_width, node_bytes, FitsNode, node_at_byte}
use Rattle.numbers.proofs.Numbers.{length-bytes, has-true, has-false, part-append, bytes_byte, bytes-join, number-at_lt, bytes_there, number_here, after-number}
use Rattle.fields.proofs.Puts.{put_next}

-- A node of four numbers.
abbrev pub node : ℕ → ℕ → ℕ → ℕ → Node
node i z k m = record { id = i; zone = z; capacity = k; ceiling = m }

-- Two nodes are the same where their numbers are.
pub node_cong : (i j z y k l m n : ℕ) → i ≡ j → z ≡ y → k ≡ l → m ≡ n → node i z k m ≡ node j y l n
node_cong i j z y k l m n e f g h = ap₂ (λ (a b : ℕ). node a b k m) e f ∙ ap₂ (λ (a b : ℕ). node j y a b) g h

-- What follows the id, and what follows the zone.
abbrev after_zone : Node → List ℕ
after_zone n = bytes_of 4 n.capacity ++ bytes_of 2 n.ceiling

abbrev after_id : Node → List ℕ
after_id n = bytes_of 2 n.zone ++ after_zone n

-- A node has its twelve bytes,
pub length-node : (n : Node) → length (node_bytes n) ≡ node_width
unfolding node_bytes
length-node n =
    omega (
      arith,
      length-append (bytes_of 4 n.id) (after_id n),
      length-append (bytes_of 2 n.zone) (after_zone n),
      length-append (bytes_of 4 n.capacity) (bytes_of 2 n.ceiling),
      length-bytes 4 n.id,
      length-bytes 2 n.zone,
      length-bytes 4 n.capacity,
      length-bytes 2 n.ceiling,
    )

-- and they are bytes.
pub bytes-node : (n : Node) → Bytes (node_bytes n)
unfolding node_bytes
bytes-node n =
    bytes-join (bytes_of 4 n.id) (after_id n) (bytes_byte 4 n.id)
    (bytes-join (bytes_of 2 n.zone) (after_zone n) (bytes_byte 2 n.zone)
    (bytes-join (bytes_of 4 n.capacity) (bytes_of 2 n.ceiling) (bytes_byte 4 n.capacity) (bytes_byte 2 n.ceiling)))

-- The four numbers, where the bytes are there.
pub node_there : (s : List ℕ) (at : ℕ) → at + node_width ≤ length s
    → node_at_byte s at ≡ node (number_at s at 4) (number_at s (at + 4) 2) (number_at s (at + 6) 4) (number_at s (at + 10) 2)
unfolding node_at_byte
node_there s at h = simp (has-true (length s) at node_width h)

pub node-none : (s : List ℕ) (at : ℕ) → length s < at + node_width → node_at_byte s at ≡ no_node
unfolding node_at_byte
node-none s at h = simp (has-false (length s) at node_width h)

-- Reading and writing again: the bytes of the node at a byte are those that stand there.
pub node-bytes : (s : List ℕ) (at : ℕ) → Bytes s → at + node_width ≤ length s → node_bytes (node_at_byte s at) ≡ part s at node_width
unfolding node_bytes
node-bytes s at b h =
    let e : at + 6 ≡ at + 4 + 2 = omega arith in
    let d : at + 10 ≡ at + 6 + 4 = omega arith in
    let last = bytes_there s (at + 10) 2 b (omega arith) ∙ ap (λ (k : ℕ). part s k 2) d in
    let three = ap₂ (λ (x y : List ℕ). x ++ y) (bytes_there s (at + 6) 4 b (omega arith)) last ∙ sym (part-append s (at + 6) 4 2) in
    let two = ap₂ (λ (x y : List ℕ). x ++ y) (bytes_there s (at + 4) 2 b (omega arith)) (three ∙ ap (λ (k : ℕ). part s k 6) e) ∙ sym (part-append s (at + 4) 2 6) in
    ap node_bytes (node_there s at h) ∙ (ap₂ (λ (x y : List ℕ). x ++ y) (bytes_there s at 4 b (omega arith)) two ∙ sym (part-append s at 4 8))

-- The bytes of a node and then others, number by number.
node-rest : (n : Node) (rest : List ℕ)
    → node_bytes n ++ rest ≡ bytes_of 4 n.id ++ (bytes_of 2 n.zone ++ (bytes_of 4 n.capacity ++ (bytes_of 2 n.ceiling ++ rest)))
unfolding node_bytes
node-rest n rest =
    append_assoc (bytes_of 4 n.id) (after_id n) rest
    ∙ ap (λ (l : List ℕ). bytes_of 4 n.id ++ l)
    (append_assoc (bytes_of 2 n.zone) (after_zone n) rest
    ∙ ap (λ (l : List ℕ). bytes_of 2 n.zone ++ l) (append_assoc (bytes_of 4 n.capacity) (bytes_of 2 n.ceiling) rest))

-- Writing and reading again: where the bytes of a node stand, the node stands.
pub node_here : (s rest : List ℕ) (n : Node) (at : ℕ) → drop at s ≡ node_bytes n ++ rest → FitsNode n → node_at_byte s at ≡ n
node_here s rest n at e f =
    let c = bytes_of 2 n.ceiling ++ rest in
    let k = bytes_of 4 n.capacity ++ c in
    let z = bytes_of 2 n.zone ++ k in
    let long : length s - at ≡ node_width + length rest =
    sym (length-drop at s) ∙ (ap length e ∙ (length-append (node_bytes n) rest ∙ ap (λ (j : ℕ). j + length rest) (length-node n))) in
    let d : drop at s ≡ bytes_of 4 n.id ++ z = e ∙ node-rest n rest in
    let g : drop (at + 4) s ≡ z = after-number s z at 4 n.id d in
    let p : at + 4 + 2 ≡ at + 6 = omega arith in
    let h : drop (at + 6) s ≡ k = ap (λ (j : ℕ). drop j s) (sym p) ∙ after-number s k (at + 4) 2 n.zone g in
    let q : at + 6 + 4 ≡ at + 10 = omega arith in
    let i : drop (at + 10) s ≡ c = ap (λ (j : ℕ). drop j s) (sym q) ∙ after-number s c (at + 6) 4 n.capacity h in
    node_there s at (omega arith)
    ∙ node_cong _ _ _ _ _ _ _ _ (number_here s z at 4 n.id d f.id) (number_here s k (at + 4) 2 n.zone g f.zone)
    (number_here s c (at + 6) 4 n.capacity h f.capacity) (number_here s rest (at + 10) 2 n.ceiling i f.ceiling)

-- A node that is put as its four numbers, one after the other.
pub put-numbers : (s r x y : List ℕ) (n : Node) (at : ℕ) → r ≡ written s at (bytes_of 4 n.id) → x ≡ written r (at + 4) (bytes_of 2 n.zone)
    → y ≡ written x (at + 6) (bytes_of 4 n.capacity) → at + node_width ≤ length s → written y (at + 10) (bytes_of 2 n.ceiling) ≡ written s at (node_bytes n)
unfolding node_bytes
put-numbers s r x y n at e f g h =
    let i = bytes_of 4 n.id in
    let z = bytes_of 2 n.zone in
    let k = bytes_of 4 n.capacity in
    let m = bytes_of 2 n.ceiling in
    let li = length-bytes 4 n.id in
    let lz = length-bytes 2 n.zone in
    let lk = length-bytes 4 n.capacity in
    let two : x ≡ written s at (i ++ z) = f ∙ put_next s r i z at 4 (at + 4) e li refl (omega arith) in
    let wz : length (i ++ z) ≡ 6 = omega (arith, length-append i z) in
    let three : y ≡ written s at ((i ++ z) ++ k) = g ∙ put_next s x (i ++ z) k at 6 (at + 6) two wz refl (omega arith) in
    let wk : length ((i ++ z) ++ k) ≡ 10 = omega (arith, length-append (i ++ z) k) in
    put_next s y ((i ++ z) ++ k) m at 10 (at + 10) three wk refl (omega (arith, length-bytes 2 n.ceiling))
    ∙ ap (written s at) (append_assoc (i ++ z) k m ∙ append_assoc i z (k ++ m))

-- The numbers of no node fit,
pub fits-none : FitsNode no_node
fits-none = record { id = omega arith; zone = omega arith; capacity = omega arith; ceiling = omega arith }

-- and so do those of a node that was read.
pub fits-node : (s : List ℕ) (at : ℕ) → Bytes s → FitsNode (node_at_byte s at)
fits-node s at b =
    ⊎_elim (λ l. subst FitsNode (sym (node-none s at l)) fits-none)
    (λ g. subst FitsNode (sym (node_there s at g))
    (record { id = number-at_lt s at 4 b; zone = number-at_lt s (at + 4) 2 b; capacity = number-at_lt s (at + 6) 4 b; ceiling = number-at_lt s (at + 10) 2 b }))
    (lt_or_ge (length s) (at + node_width))

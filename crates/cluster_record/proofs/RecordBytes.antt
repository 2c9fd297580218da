-- The bytes of a record field by field: the fields of nodes and rows one after the other, and the bytes that values were read from.
-- Assumes nothing.
use Prim.Native.Nat.{ℕ, zero, suc, ◌+◌, ◌-◌, ◌≤◌}
use mathlib.Core.Path.{◌≡◌, refl, sym, ap, ap₂, ◌∙◌}
use mathlib.Core.List.{List, [], ◌∷◌, ◌++◌, append_assoc, append-nil}
use native.Mathlib.Nat.{add-zero}
use native.Mathlib.Omega.{arith}
use lib.ListN.{length, take, drop, replicate}
use lib.Seq.{take_at, take-add}
use Rattle.cluster.specs.declared.Node.{Node}
use Rattle.cluster.specs.Terms.{Layout}
use Rattle.fields.specs.RecordField.{Bytes, part, field, field_at}
use Rattle.fields.specs.declared.Field.TheVariants.{Body}
use Rattle.numbers.proofs.Numbers.{length_part}
use Rattle.fields.proofs.RecordField.{whole, field_back, length-field}
use Rattle.cluster_record.specs.RecordCluster.{node_field, node_fields, former_field, former_fields}
use Rattle.cluster_fields.specs.RecordClusterFaults.{up_to}
use Rattle.cluster_fields.proofs.Rows.{length-up_to}

-- ---- one field more

pub nodes_snoc : (l : List Node) (n : Node) → node_fields (l ++ (n ∷ [])) ≡ node_fields l ++ node_field n
unfolding node_fields
nodes_snoc [] n = append-nil (node_field n)
nodes_snoc (x ∷ l) n = ap (λ (r : List ℕ). node_field x ++ r) (nodes_snoc l n) ∙ sym (append_assoc (node_field x) (node_fields l) (node_field n))

pub rows_append : (p : ℕ) (F G : Layout) → former_fields p (F ++ G) ≡ former_fields p F ++ former_fields (p + length F) G
unfolding former_fields
rows_append p [] G = ap (λ (k : ℕ). former_fields k G) (sym (add-zero p))
rows_append p (r ∷ F) G =
    let e : suc p + length F ≡ p + suc (length F) = omega arith in
    ap (λ (x : List ℕ). former_field p r ++ x) (rows_append (suc p) F G ∙ ap (λ (k : ℕ). former_fields (suc p) F ++ former_fields k G) e)
    ∙ sym (append_assoc (former_field p r) (former_fields (suc p) F) (former_fields (p + suc (length F)) G))

-- Empty rows have no fields.
pub rows_empty : (p n : ℕ) → former_fields p (replicate n []) ≡ []
unfolding former_fields former_field
rows_empty p zero = refl
rows_empty p (suc n) = rows_empty (suc p) n

pub rows-up_to : (p : ℕ) (F : Layout) → former_fields 0 (up_to p F) ≡ former_fields 0 F
unfolding up_to
rows-up_to p F =
    rows_append 0 F (replicate (p - length F) [])
    ∙ (ap (λ (x : List ℕ). former_fields 0 F ++ x) (rows_empty (0 + length F) (p - length F)) ∙ append-nil (former_fields 0 F))

pub rows_next : (p : ℕ) (F : Layout) (r : List ℕ) → length F ≤ p → former_fields 0 (up_to p F ++ (r ∷ [])) ≡ former_fields 0 F ++ former_field p r
unfolding former_fields
rows_next p F r h =
    let e : 0 + length (up_to p F) ≡ p = omega (arith, length-up_to p F h) in
    rows_append 0 (up_to p F) (r ∷ [])
    ∙ ap₂ (λ (x y : List ℕ). x ++ y) (rows-up_to p F) (append-nil (former_field (0 + length (up_to p F)) r) ∙ ap (λ (k : ℕ). former_field k r) e)

-- ---- what was read, as bytes

module _ (s : List ℕ) (b : Bytes s) where
  -- The bytes up to the end of a field are those before it, and the field.
  pub bytes_next : (at : ℕ) (allowed : List ℕ) (exact tag start len : ℕ) → field_at s at allowed exact ≡ Body tag start len
      → take (start + len) s ≡ take at s ++ field tag (part s start len)
  bytes_next at allowed exact tag start len e =
      let w = whole s at allowed exact tag start len e in
      let body = part s start len in
      let m : start + len ≡ at + (3 + len) = omega arith in
      let long : length (field tag body) ≡ 3 + len = length-field tag body ∙ ap (λ (k : ℕ). 3 + k) (length_part s start len w.ends) in
      ap (λ (k : ℕ). take k s) m
      ∙ (take-add at (3 + len) s
      ∙ ap (λ (l : List ℕ). take at s ++ l)
      (ap (take (3 + len)) (field_back s at allowed exact tag start len e b) ∙ take_at (field tag body) (drop (start + len) s) (3 + len) long))

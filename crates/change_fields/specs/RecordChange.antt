-- What a change of the boxes is, and what a change record is, as bytes: document 02, requests 2026-04 and 2026-05. "Box" in the papers is a node here.
-- Assumes nothing.
use Rattle.std.specs.Prelude.{ℕ, ◌+◌, ◌-◌, ◌^◌, ◌<◌, cond, List, [], ◌∷◌, ◌++◌, eqb, length, replicate}
use Rattle.fields.specs.RecordField.{bytes_of, number_at, node_width, node_bytes, FitsNode, node_at_byte, head_width, field}
use Rattle.change_fields.specs.declared.Change.{Change}
use Rattle.change_fields.specs.declared.Change.TheVariants.{Add, Remove, Resize}
use Rattle.change_fields.specs.declared.Reverse.{Reverse}

-- The id that a change is about.
unfoldable pub id_of : Change → ℕ
id_of (Add n) = n.id
id_of (Remove i) = i
id_of (Resize i k) = i

-- "20 add a box (.. as in field 4), 21 remove (id, 4), 22 resize (id and capacity, 8)": the bytes of a change's field.
unfoldable pub change_field : Change → List ℕ
change_field (Add n) = field 20 (node_bytes n)
change_field (Remove i) = field 21 (bytes_of 4 i)
change_field (Resize i k) = field 22 (bytes_of 4 i ++ bytes_of 4 k)

-- "A record holds one or more": the bytes of changes, one field after the other.
unfoldable pub change_record : List Change → List ℕ
change_record [] = []
change_record (x ∷ xs) = change_field x ++ change_record xs

-- The tags of a change.
abbrev pub change_tags : List ℕ
change_tags = 20 ∷ 21 ∷ 22 ∷ []

-- The change in a body of s that begins at byte `start`, by the field's tag.
unfoldable pub change_in : List ℕ → ℕ → ℕ → Change
change_in s tag start =
    cond (eqb tag 20) (Add (node_at_byte s start))
    (cond (eqb tag 21) (Remove (number_at s start 4)) (Resize (number_at s start 4) (number_at s (start + 4) 4)))

-- The numbers of a change fit the bytes that its field has for them.
abbrev pub FitsChange : Change → Type 0
FitsChange (Add n) = FitsNode n
FitsChange (Remove i) = i < 2 ^ 32
FitsChange (Resize i k) = (i < 2 ^ 32) × (k < 2 ^ 32)

-- ---- the reverse of a change

-- The bytes of the longest change: a box to be added.
abbrev pub longest_change : ℕ
longest_change = head_width + node_width

-- "gives back, as the bytes of its field, the change that reverses it": these bytes and their length; those past it are zero.
unfoldable pub reverse_bytes : List ℕ → Reverse
reverse_bytes v = record { len = length v; bytes = v ++ replicate (longest_change - length v) 0 }

-- "A refused change .. gives no reverse"
abbrev pub no_reverse : Reverse
no_reverse = reverse_bytes []

-- Nodes and fields in the bytes of a record: the bytes of a node, and the field that stands at a byte. The legal lengths by tag are those of
-- crates/lengths/specs/RecordLengths.antt; numbers and ids in their bytes are those of RecordNumber.antt and RecordIds.antt.
-- Assumes nothing.
use Rattle.std.specs.Prelude.{ℕ, ◌+◌, ◌-◌, ◌%◌, ◌^◌, ◌≤◌, ◌<◌, ◌≡◌, true, not, cond, List, ◌∷◌, ◌++◌, length}
use Rattle.cluster.specs.Terms.{most_copies, no_node, mem}
use Rattle.cluster.specs.declared.Node.{Node}
pub use Rattle.lengths.specs.RecordLengths.{node_width, remove_width, resize_width, row_width}
unfoldable pub use Rattle.lengths.specs.RecordLengths.{rule_of, legal, legal_as}
pub use Rattle.numbers.specs.RecordNumber.{Bytes, part}
unfoldable pub use Rattle.numbers.specs.RecordNumber.{number_of, bytes_of, has, number_at, written, over}
unfoldable pub use Rattle.id_bytes.specs.RecordIds.{ids_at, id_bytes}
use Rattle.cluster.specs.declared.refusal.Refusal.TheVariants.{Cut, Tag, Length}
use Rattle.cluster.specs.TermsRefusal.{number_of as number_of_refusal}
use Rattle.fields.specs.declared.Field.{Field}
use Rattle.fields.specs.declared.Field.TheVariants.{Body, Refused}

-- ---- nodes

-- The bytes of a node, in this order.
unfoldable pub node_bytes : Node → List ℕ
node_bytes n = bytes_of 4 n.id ++ (bytes_of 2 n.zone ++ (bytes_of 4 n.capacity ++ bytes_of 2 n.ceiling))

-- The numbers of a node fit these bytes.
pub record FitsNode (n : Node) : Type 0 where
  pub id : n.id < 2 ^ 32
  pub zone : n.zone < 2 ^ 16
  pub capacity : n.capacity < 2 ^ 32
  pub ceiling : n.ceiling < 2 ^ 16

-- The node in the bytes of s from byte `at` on; all its numbers are 0 where s does not have them all.
unfoldable pub node_at_byte : List ℕ → ℕ → Node
node_at_byte s at =
    cond (has (length s) at node_width)
    (record { id = number_at s at 4; zone = number_at s (at + 4) 2; capacity = number_at s (at + 6) 4; ceiling = number_at s (at + 10) 2 }) no_node

-- ---- fields

-- "a one-byte tag, a two-byte length": the bytes of a field before its body.
abbrev pub head_width : ℕ
head_width = 3

-- "A record is fields of a one-byte tag, a two-byte length and a body": the bytes of one field.
unfoldable pub field : ℕ → List ℕ → List ℕ
field tag body = tag ∷ (bytes_of 2 (length body) ++ body)

-- The bytes of the longest field: a row with the most ids.
abbrev pub longest_field : ℕ
longest_field = head_width + row_width most_copies

-- What is said of a field with its three bytes of tag and length there: "2, a tag not allowed next; 3, a length not legal for the tag;
-- 1, body cut short"; else it is whole, and its body begins after the three bytes.
unfoldable pub judged : ℕ → ℕ → List ℕ → ℕ → ℕ → ℕ → Field
judged end at allowed exact tag len =
    cond (not (mem tag allowed)) (Refused Tag at)
    (cond (not (legal_as exact tag len)) (Refused Length at)
    (cond (not (has end (at + head_width) len)) (Refused Cut at) (Body tag (at + head_width) len)))

-- The field of s at byte `at`, where the tags `allowed` are allowed next: "1, one or two bytes left", then as above.
-- "A field that cannot be taken whole ends the reading there, with the refusal and the byte at which the field begins."
unfoldable pub field_at : List ℕ → ℕ → List ℕ → ℕ → Field
field_at s at allowed exact =
    cond (not (has (length s) at head_width)) (Refused Cut at) (judged (length s) at allowed exact (number_at s at 1) (number_at s (at + 1) 2))

-- What is known of a whole field in a record of n bytes.
pub record Whole (n at : ℕ) (allowed : List ℕ) (exact tag start len : ℕ) : Type 0 where
  pub begins : start ≡ at + head_width
  pub ends : start + len ≤ n
  pub member : mem tag allowed ≡ true
  pub least : (rule_of tag).least ≤ len
  pub greatest : len ≤ (rule_of tag).greatest
  pub step : (len - (rule_of tag).least) % (rule_of tag).step ≡ 0
  pub only : (exact ≡ 0 → ⊥) → len ≡ exact

-- The same of a field's answer: nothing is known of a refused one.
abbrev pub Within : ℕ → ℕ → List ℕ → ℕ → Field → Type 0
Within n at allowed exact (Body tag start len) = Whole n at allowed exact tag start len
Within n at allowed exact (Refused refusal byte) = Unit

-- The refusal of a field that cannot be taken whole; 0 for a whole field.
abbrev pub refusal_of : Field → ℕ
refusal_of (Body tag start len) = 0
refusal_of (Refused refusal byte) = number_of_refusal refusal

-- The byte given with a refusal; 0 for a whole field.
abbrev pub place_of : Field → ℕ
place_of (Body tag start len) = 0
place_of (Refused refusal byte) = byte

-- The field cannot be taken whole.
abbrev pub IsRefused : Field → Type 0
IsRefused (Body tag start len) = ⊥
IsRefused (Refused refusal byte) = Unit

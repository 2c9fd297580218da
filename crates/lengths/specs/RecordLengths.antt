-- The legal lengths of the bodies of a record's fields, by tag.
-- Assumes nothing.
use Rattle.std.specs.Prelude.{ℕ, ◌+◌, ◌-◌, ◌*◌, ◌%◌, Bool, ◌&&◌, ◌||◌, List, [], ◌∷◌, leb, eqb, get_or}
use Rattle.cluster.specs.Terms.{most_copies}
use Rattle.lengths.specs.declared.Rule.{Rule}

-- "id 4, zone 2, capacity 4", and 2026-05: "The box field becomes 12 bytes with a last number": the bytes of a node.
abbrev pub node_width : ℕ
node_width = 12

-- 2026-04: "21 remove (id, 4)"
abbrev pub remove_width : ℕ
remove_width = 4

-- 2026-04: "22 resize (id and capacity, 8)"
abbrev pub resize_width : ℕ
resize_width = 8

-- "2 + 4m: partition 2, then m .. ids": the bytes of a row with m ids.
abbrev pub row_width : ℕ → ℕ
row_width m = 2 + 4 * m

-- A rule for the length of a body: from the least to the greatest, in steps.
abbrev pub rule : ℕ → ℕ → ℕ → Rule
rule least greatest step = record { least = least; greatest = greatest; step = step }

-- The rule by which no length is legal.
abbrev pub no_length : Rule
no_length = rule 1 0 1

-- "The legal lengths by tag are one table": the rules of the tags 0, 1, 2 and on. There is no tag 0.
abbrev pub rules : List Rule
rules =
    no_length
    -- "1 bits (1 byte), 2 replication (1), 3 redundancy (1)"
    ∷ rule 1 1 1
    ∷ rule 1 1 1
    ∷ rule 1 1 1
    -- "4 box", 2026-05: "12 bytes"
    ∷ rule node_width node_width 1
    -- "5 former row (2 + 4m: partition 2, then m rising ids, m from 1 to 8)"
    ∷ rule (row_width 1) (row_width most_copies) 4
    -- "6 size (4 bytes, at least 1), 7 sent (2; 2026-01), 8 verdict (1: 1 finished, 0 stopped), 9 improvements (2, at most 2,048)"
    ∷ rule 4 4 1
    ∷ rule 2 2 1
    ∷ rule 1 1 1
    ∷ rule 2 2 1
    -- "10 (2 + 4R: partition, R rising ids)", R from 1 to 8
    ∷ rule (row_width 1) (row_width most_copies) 4
    -- There are no tags 11 to 19.
    ∷ no_length
    ∷ no_length
    ∷ no_length
    ∷ no_length
    ∷ no_length
    ∷ no_length
    ∷ no_length
    ∷ no_length
    ∷ no_length
    -- 2026-04: "20 add a box (.. as in field 4), 21 remove (id, 4), 22 resize (id and capacity, 8)"; 2026-05: "change 20 grows likewise"
    ∷ rule node_width node_width 1
    ∷ rule remove_width remove_width 1
    ∷ rule resize_width resize_width 1
    ∷ []

-- The rule of a tag; a tag that the table does not have has no legal length.
unfoldable pub rule_of : ℕ → Rule
rule_of tag = get_or rules tag no_length

-- Whether a body of this length is legal for this tag.
unfoldable pub legal : ℕ → ℕ → Bool
legal tag len =
    leb (rule_of tag).least len && (leb len (rule_of tag).greatest && eqb ((len - (rule_of tag).least) % (rule_of tag).step) 0)

-- "for field 10 only 2 + 4R with this record's R is legal": legal for the tag and, where `exact` is not 0, of that length alone.
unfoldable pub legal_as : ℕ → ℕ → ℕ → Bool
legal_as exact tag len = legal tag len && (eqb exact 0 || eqb len exact)

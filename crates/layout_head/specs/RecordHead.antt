-- What stands before the rows of a layout record, from the format: the table of its numbers, and the bytes of their fields.
-- Assumes nothing.
use Rattle.std.specs.Prelude.{ℕ, Bool, true, false, ◌&&◌, List, [], ◌∷◌, ◌++◌, leb, get_or}
use Rattle.cluster.specs.Terms.{most_bits, most_copies}
use Rattle.cluster.specs.TermsReading.{most_size, most_sent, most_verdict, most_improvements}
use Rattle.fields.specs.RecordField.{bytes_of, field}
use Rattle.layout_head.specs.declared.Numbers.{Numbers}
use Rattle.layout_head.specs.declared.table.Entry.{Entry}

-- What the record has of one number: the tag of its field, the bytes of its body, and its range.
abbrev pub entry : ℕ → ℕ → ℕ → ℕ → Entry
entry tag width least most = record { tag = tag; width = width; least = least; most = most }

-- "Layout record: 1, 2, then 6, 7, 8, 9": the fields before the rows, in their order.
abbrev pub head_table : List Entry
head_table =
    -- "1 bits (1 byte)", k from 0 to 8
    entry 1 1 0 most_bits
    -- "2 replication (1)", R from 1 to 8
    ∷ entry 2 1 1 most_copies
    -- "6 size (4 bytes, at least 1)"; 7, of 2 bytes, is since 2026-01 "now `sent` .. Its ceiling becomes 2,048"; "8 verdict (1: 1 finished, 0 stopped),
    -- 9 improvements (2, at most 2,048)"
    ∷ entry 6 4 1 most_size
    ∷ entry 7 2 0 most_sent
    ∷ entry 8 1 0 most_verdict
    ∷ entry 9 2 0 most_improvements
    ∷ []

-- The entry of number i; i is below the number of entries wherever this is asked.
abbrev pub entry_at : ℕ → Entry
entry_at i = get_or head_table i (entry 0 0 0 0)

-- The numbers by name.
abbrev pub numbers_of : ℕ → ℕ → ℕ → ℕ → ℕ → ℕ → Numbers
numbers_of bits replication size sent verdict improvements =
    record { bits = bits; replication = replication; size = size; sent = sent; verdict = verdict; improvements = improvements }

-- The numbers in the order of the table,
abbrev pub numbers_in : Numbers → List ℕ
numbers_in n = n.bits ∷ n.replication ∷ n.size ∷ n.sent ∷ n.verdict ∷ n.improvements ∷ []

-- and back.
abbrev pub numbers_from : List ℕ → Numbers
numbers_from l = numbers_of (get_or l 0 0) (get_or l 1 0) (get_or l 2 0) (get_or l 3 0) (get_or l 4 0) (get_or l 5 0)

-- Whether a number is in the range of its entry.
abbrev pub holds : Entry → ℕ → Bool
holds e v = leb e.least v && leb v e.most

-- Whether there is one number for each entry, each in its range.
unfoldable pub all_hold : List Entry → List ℕ → Bool
all_hold [] [] = true
all_hold [] (v ∷ vs) = false
all_hold (e ∷ es) [] = false
all_hold (e ∷ es) (v ∷ vs) = holds e v && all_hold es vs

-- Whether the numbers are in their ranges.
abbrev pub in_range : Numbers → Bool
in_range n = all_hold head_table (numbers_in n)

-- A field for each entry, with its number in as many bytes as the entry says.
unfoldable pub number_fields : List Entry → List ℕ → List ℕ
number_fields [] vs = []
number_fields (e ∷ es) [] = []
number_fields (e ∷ es) (v ∷ vs) = field e.tag (bytes_of e.width v) ++ number_fields es vs

-- The fields before the rows.
abbrev pub head_fields : Numbers → List ℕ
head_fields n = number_fields head_table (numbers_in n)

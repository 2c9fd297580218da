-- Ids in the bytes of a record, four bytes each.
-- Assumes nothing.
use Rattle.std.specs.Prelude.{ℕ, zero, suc, ◌+◌, List, [], ◌∷◌, ◌++◌}
use Rattle.numbers.specs.RecordNumber.{bytes_of, number_at}

-- The m ids from a byte on, "id 4" bytes each.
unfoldable pub ids_at : List ℕ → ℕ → ℕ → List ℕ
ids_at s at zero = []
ids_at s at (suc m) = number_at s at 4 ∷ ids_at s (at + 4) m

-- Ids as a record has them, four bytes each.
unfoldable pub id_bytes : List ℕ → List ℕ
id_bytes [] = []
id_bytes (i ∷ l) = bytes_of 4 i ++ id_bytes l

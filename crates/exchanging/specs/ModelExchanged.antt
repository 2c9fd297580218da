-- The rows of masks after the exchanges of a walk.
-- Assumes nothing.
use Rattle.std.specs.Prelude.{ℕ, zero, suc, List, get_or, set, ltb, cond}
use Rattle.sets.specs.ModelBits.{with_of, without_of}
use Rattle.exchange.specs.ModelUncross.{Walk}

-- The rows after the first n arcs of a walk, one after the other: each that is an exchange takes its source from its row and adds its target.
unfoldable pub exchanged : ℕ → (ℕ → ℕ) → (ℕ → ℕ) → ℕ → List ℕ → List ℕ
exchanged P y q zero rows = rows
exchanged P y q (suc i) rows =
    let r = exchanged P y q i rows in
    cond (ltb (q i) P) (set r (q i) (with_of (without_of (get_or r (q i) 0) (y (suc i))) (y i))) r

-- The rows after the exchanges of a walk.
abbrev pub walked_of : ℕ → Walk → List ℕ → List ℕ
walked_of P w rows = exchanged P w.node w.partition w.len rows

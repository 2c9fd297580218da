-- The cells of tight rows: one cell more, and a row that changes with its cell.
-- Assumes nothing.
use Prim.Native.Nat.{ℕ, ◌+◌, ◌<◌}
use mathlib.Core.Path.{◌≡◌, sym, ap, ◌∙◌}
use mathlib.Core.List.{List}
use mathlib.Core.Logic.{⊎_elim}
use native.Mathlib.Omega.{arith}
use lib.ListN.{length, get_or, set, length-set}
use lib.Seq.{get_or-set_same, get_or-set_other}
use Rattle.sums.proofs.Sum.{eq_or_ne}
use Rattle.swaps.specs.ModelSwaps.{tight_of, Tight}

-- No rows have no cells.
pub tight-none : (mates : List ℕ) (z : ℕ) (rows tight : List ℕ) → Tight mates z rows 0 tight
tight-none mates z rows tight = record { long = omega arith; here = λ p h. absurd (omega (arith, h)) }

-- The cell of one row more.
pub tight-more : (mates : List ℕ) (z : ℕ) (rows : List ℕ) (p : ℕ) (tight : List ℕ) (x : ℕ) → Tight mates z rows p tight → p < length tight → x ≡ tight_of mates z (get_or rows p 0)
    → Tight mates z rows (p + 1) (set tight p x)
tight-more mates z rows p tight x t l e = record {
  long = omega (arith, length-set tight p x);
  here = λ q h. ⊎_elim (λ s. ap (λ (i : ℕ). get_or (set tight p x) i 0) s ∙ (get_or-set_same tight p x 0 l ∙ (e ∙ ap (λ (i : ℕ). tight_of mates z (get_or rows i 0)) (sym s))))
      (λ d. get_or-set_other tight p q x 0 d ∙ t.here q (omega (arith, d))) (eq_or_ne q p);
}

-- Another row at p, with its cell.
pub tight-set : (mates : List ℕ) (z : ℕ) (rows : List ℕ) (P : ℕ) (tight : List ℕ) (p row x : ℕ) → Tight mates z rows P tight → p < P → p < length rows → x ≡ tight_of mates z row
    → Tight mates z (set rows p row) P (set tight p x)
tight-set mates z rows P tight p row x t l k e = record {
  long = omega (arith, length-set tight p x, t.long);
  here = λ q h. ⊎_elim
      (λ s. ap (λ (i : ℕ). get_or (set tight p x) i 0) s
      ∙ (get_or-set_same tight p x 0 (omega (arith, t.long)) ∙ (e ∙ ap (tight_of mates z) (sym (ap (λ (i : ℕ). get_or (set rows p row) i 0) s ∙ get_or-set_same rows p row 0 k)))))
      (λ d. get_or-set_other tight p q x 0 d ∙ (t.here q h ∙ ap (tight_of mates z) (sym (get_or-set_other rows p q row 0 d)))) (eq_or_ne q p);
}

-- How many of the moves are sends: the ids that the new rows have and the rows held have not.
-- Assumes nothing.
use Prim.Native.Nat.{ℕ, zero, suc, ◌+◌}
use mathlib.Core.Path.{◌≡◌, refl, sym, ap, ap₂, ◌∙◌}
use mathlib.Core.List.{List, [], ◌∷◌, ◌++◌, map}
use mathlib.Core.Bool.{Bool, true, false, cond}
use native.Mathlib.Omega.{arith}
use lib.Dec.{eqb}
use lib.ListN.{length}
use Rattle.sums.specs.TermsSums.{sum_to}
use Rattle.sums.proofs.Sum.{sum_cong, sum_first}
use Rattle.moves.specs.TermsMoves.{Move, send, discard, missing, row_moves, moves_from, sends}

-- The sends of two lists of moves are added.
sends-append : (k l : List Move) → sends (k ++ l) ≡ sends k + sends l
unfolding sends
sends-append [] l = omega arith
sends-append (m ∷ k) l = go (sends-append k l) (eqb m.kind 0)
  where
    go : sends (k ++ l) ≡ sends k + sends l → (b : Bool)
        → cond b (suc (sends (k ++ l))) (sends (k ++ l)) ≡ cond b (suc (sends k)) (sends k) + sends l
    go h true = omega (arith, h)
    go h false = h

-- Each send counts,
all-sends : (p : ℕ) (l : List ℕ) → sends (map (send p) l) ≡ length l
unfolding sends
all-sends p [] = refl
all-sends p (x ∷ xs) = ap suc (all-sends p xs)

-- and no drop does.
no_sends : (p : ℕ) (l : List ℕ) → sends (map (discard p) l) ≡ 0
unfolding sends
no_sends p [] = refl
no_sends p (x ∷ xs) = no_sends p xs

-- A row has as many sends as ids are missing.
row-sends : (p : ℕ) (o r : List ℕ) → sends (row_moves p o r) ≡ length (missing r o)
unfolding row_moves
row-sends p o r =
    sends-append (map (send p) (missing r o)) (map (discard p) (missing o r))
    ∙ omega (arith, all-sends p (missing r o), no_sends p (missing o r))

-- All rows have as many as are missing in all.
pub sends-from : (H L : ℕ → List ℕ) (p n : ℕ) → sends (moves_from H L p n) ≡ sum_to n (λ i. length (missing (L (p + i)) (H (p + i))))
unfolding moves_from sum_to sends
sends-from H L p zero = refl
sends-from H L p (suc n) =
    let lacks : ℕ → ℕ = λ q. length (missing (L q) (H q)) in
    let one : p ≡ p + 0 = omega arith in
    sends-append (row_moves p (H p) (L p)) (moves_from H L (suc p) n)
    ∙ (ap₂ ◌+◌ (row-sends p (H p) (L p) ∙ ap lacks one)
    (sends-from H L (suc p) n
    ∙ sum_cong n (λ i. lacks (suc p + i)) (λ i. lacks (p + suc i)) (λ i l. let e : suc p + i ≡ p + suc i = omega arith in ap lacks e))
    ∙ sym (sum_first n (λ i. lacks (p + i))))

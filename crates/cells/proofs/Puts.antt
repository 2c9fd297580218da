-- Numbers put into lent cells: two more in front of them, and a part right behind another one.
-- Assumes nothing.
use Prim.Native.Nat.{ℕ, ◌+◌, ◌≤◌}
use mathlib.Core.Path.{◌≡◌, sym, ap, ap₂, ◌∙◌}
use mathlib.Core.List.{List, ◌∷◌, ◌++◌, append_assoc}
use native.Mathlib.Omega.{arith}
use lib.ListN.{length, take, drop, length-append}
use lib.Seq.{length-take-le, take_at, drop_at, drop-append-add, drop-drop}

-- Two numbers in front of what was put after two cells.
pub copy-front : (x y : ℕ) (numbers rest lent : List ℕ) → 2 ≤ length lent → x ∷ y ∷ drop 2 (take 2 lent ++ numbers ++ rest) ≡ x ∷ y ∷ numbers ++ rest
copy-front x y numbers rest lent h =
    ap (λ (l : List ℕ). x ∷ y ∷ l) (ap (drop 2) (append_assoc (take 2 lent) numbers rest) ∙ drop_at (take 2 lent) (numbers ++ rest) 2 (length-take-le 2 lent h))

-- A part put right behind another one, of k cells, is one part with it.
pub parts_join : (lent first second cells : List ℕ) (at k m : ℕ) → length first ≡ k → at ≤ length lent → cells ≡ take at lent ++ first ++ drop (at + k) lent
    → take (at + k) cells ++ second ++ drop (at + k + m) cells ≡ take at lent ++ (first ++ second) ++ drop (at + k + m) lent
parts_join lent first second cells at k m long room e =
    let front = take at lent ++ first in
    let whole : length front ≡ at + k = omega (arith, length-append (take at lent) first, length-take-le at lent room, long) in
    let behind : drop (at + k + m) (front ++ drop (at + k) lent) ≡ drop (at + k + m) lent =
    ap (λ (n : ℕ). drop (n + m) (front ++ drop (at + k) lent)) (sym whole) ∙ (drop-append-add front (drop (at + k) lent) m ∙ drop-drop m (at + k) lent) in
    ap (λ (l : List ℕ). take (at + k) l ++ second ++ drop (at + k + m) l) e
    ∙ (ap₂ (λ (f r : List ℕ). f ++ second ++ r) (take_at front (drop (at + k) lent) (at + k) whole) behind
    ∙ ap (λ (f : List ℕ). f ++ drop (at + k + m) lent) (append_assoc (take at lent) first second))

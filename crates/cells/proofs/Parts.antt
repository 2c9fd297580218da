-- A part of a list that was lent and comes back: the cells before it, in it and after it.
-- Assumes nothing.
use Prim.Native.Nat.{ℕ, ◌+◌, ◌-◌, ◌≤◌, ◌<◌}
use mathlib.Core.Path.{◌≡◌, sym, ap, ◌∙◌}
use mathlib.Core.List.{List, ◌++◌}
use native.Mathlib.Omega.{arith}
use lib.ListN.{length, get_or, take, drop, length-append, length-drop, get_or-append}
use lib.Seq.{length-take-le, get_or-take, get_or-drop, get_or-append-add}

module _ (a : ℕ) (xs ys : List ℕ) (h : a ≤ length xs) where
  pub part-before : (rest : List ℕ) (i : ℕ) → i < a → get_or (take a xs ++ (ys ++ rest)) i 0 ≡ get_or xs i 0
  part-before rest i l = get_or-append (take a xs) (ys ++ rest) 0 i (omega (arith, length-take-le a xs h)) ∙ get_or-take a xs i 0 l

  -- The cell from the part's first on.
  from-part : (rest : List ℕ) (v : ℕ) → get_or (take a xs ++ (ys ++ rest)) (a + v) 0 ≡ get_or (ys ++ rest) v 0
  from-part rest v = ap (λ (i : ℕ). get_or (take a xs ++ (ys ++ rest)) (i + v) 0) (sym (length-take-le a xs h)) ∙ get_or-append-add (take a xs) (ys ++ rest) v 0

  pub part_in : (rest : List ℕ) (v : ℕ) → v < length ys → get_or (take a xs ++ (ys ++ rest)) (a + v) 0 ≡ get_or ys v 0
  part_in rest v l = from-part rest v ∙ get_or-append ys rest 0 v l

  module _ (k : ℕ) (e : length ys ≡ k) where
    pub part-after : (i : ℕ) → a + k ≤ i → get_or (take a xs ++ (ys ++ drop k (drop a xs))) i 0 ≡ get_or xs i 0
    part-after i l =
        let t : i ≡ a + (length ys + (i - a - k)) = omega arith in
        let u : a + (k + (i - a - k)) ≡ i = omega arith in
        ap (λ (j : ℕ). get_or (take a xs ++ (ys ++ drop k (drop a xs))) j 0) t
        ∙ (from-part (drop k (drop a xs)) (length ys + (i - a - k))
        ∙ (get_or-append-add ys (drop k (drop a xs)) (i - a - k) 0
        ∙ (get_or-drop k (drop a xs) (i - a - k) 0 ∙ (get_or-drop a xs (k + (i - a - k)) 0 ∙ ap (λ (j : ℕ). get_or xs j 0) u))))

    pub part_length : a + k ≤ length xs → length (take a xs ++ (ys ++ drop k (drop a xs))) ≡ length xs
    part_length l =
        omega (
          arith,
          length-append (take a xs) (ys ++ drop k (drop a xs)),
          length-append ys (drop k (drop a xs)),
          length-take-le a xs h,
          length-drop k (drop a xs),
          length-drop a xs,
        )

-- The ids met in the cells, each once: one cell more.
-- Assumes nothing.
use Prim.Native.Nat.{ℕ, ◌+◌, ◌<◌}
use mathlib.Core.Path.{◌≡◌, refl, sym, ap, ap₂, ◌∙◌}
use mathlib.Core.Bool.{Bool, true, false, ◌||◌}
use mathlib.Core.List.{List, [], ◌∷◌, ◌++◌}
use mathlib.Core.Logic.{◌⊎◌, inl, inr, ⊎_elim}
use native.Mathlib.Numerals.{add-one}
use native.Mathlib.Omega.{arith}
use lib.Dec.{eqb}
use lib.ListN.{length, take, get_or, set, replicate, length-set, length-replicate, get_or-replicate}
use lib.Seq.{take-suc, take-set-le, get_or-set_same, get_or-set_other}
use borrow.Author.Tests.{eqb-true, eq-eqb}
use Rattle.std.specs.List.{list_any}
use Rattle.sums.proofs.Sum.{eq_or_ne}
use Rattle.cluster.specs.Terms.{mem}
use Rattle.cluster.proofs.Lists.{same_test}
use Rattle.totals.specs.ModelTotals.{SameIds}

-- ---- whether an id is among the first

-- What `contains` answers.
pub any_mem : (i : ℕ) (l : List ℕ) → list_any (λ y. eqb y i) l ≡ mem i l
unfolding mem
any_mem i [] = refl
any_mem i (x ∷ xs) =
    ap₂ ◌||◌ (same_test (eqb x i) (eqb i x) (λ q. eq-eqb i x (sym (eqb-true x i q))) (λ q. eq-eqb x i (sym (eqb-true i x q)))) (any_mem i xs)

-- ---- one id more

mem-last : (l : List ℕ) (x j : ℕ) → mem j (l ++ (x ∷ [])) ≡ (mem j l || eqb j x)
unfolding mem
mem-last [] x j = or_false (eqb j x)
  where
    or_false : (b : Bool) → (b || false) ≡ b
    or_false true = refl
    or_false false = refl
mem-last (y ∷ ys) x j = ap (λ (b : Bool). eqb j y || b) (mem-last ys x j) ∙ or_assoc (eqb j y) (mem j ys) (eqb j x)
  where
    or_assoc : (a b d : Bool) → (a || (b || d)) ≡ ((a || b) || d)
    or_assoc true b d = refl
    or_assoc false b d = refl

take_last : (l : List ℕ) (i : ℕ) → i < length l → take (i + 1) l ≡ take i l ++ (get_or l i 0 ∷ [])
take_last l i h = ap (λ (k : ℕ). take k l) (add-one i) ∙ take-suc l i 0 h

or_same : (a b : Bool) → (b ≡ true → a ≡ true) → (a || b) ≡ a
or_same true b f = refl
or_same false true f = sym (f refl)
or_same false false f = refl

-- It is among them,
pub with_there : (ids : List ℕ) (count id : ℕ) → mem id (take count ids) ≡ true → (j : ℕ) → mem j (take count ids) ≡ (mem j (take count ids) || eqb j id)
with_there ids count id m j = sym (or_same (mem j (take count ids)) (eqb j id) (λ e. ap (λ (x : ℕ). mem x (take count ids)) (eqb-true j id e) ∙ m))

-- or it is put behind them.
pub with-put : (ids : List ℕ) (count id : ℕ) → count < length ids → (j : ℕ) → mem j (take (count + 1) (set ids count id)) ≡ (mem j (take count ids) || eqb j id)
with-put ids count id h j =
    ap (mem j)
    (take_last (set ids count id) count (omega (arith, length-set ids count id))
    ∙ ap₂ (λ (l : List ℕ) (x : ℕ). l ++ (x ∷ [])) (take-set-le count ids count id (omega arith)) (get_or-set_same ids count id 0 h))
    ∙ mem-last (take count ids) id j

-- ---- the ids met

-- The first ids are those of the first i cells, and what stands in a slot is 0 or one of them.
pub record Met (cells : List ℕ) (i : ℕ) (ids : List ℕ) (count : ℕ) (met : List ℕ) : Type 0 where
  pub same : SameIds (take count ids) (take i cells)
  pub marks : (k : ℕ) → k < length met → (get_or met k 0 ≡ 0) ⊎ (mem (get_or met k 0) (take i cells) ≡ true)

pub met_none : (cells ids : List ℕ) (n : ℕ) → Met cells 0 ids 0 (replicate n 0)
met_none cells ids n = record {
  same = λ j h. refl;
  marks = λ k h. inl (get_or-replicate {A = ℕ} n k 0 0 (omega (arith, length-replicate {A = ℕ} n 0)));
}

module _ (cells : List ℕ) (i : ℕ) (inside : i < length cells) where
  more : (j : ℕ) → mem j (take (i + 1) cells) ≡ (mem j (take i cells) || eqb j (get_or cells i 0))
  more j = ap (mem j) (take_last cells i inside) ∙ mem-last (take i cells) (get_or cells i 0) j

  kept : (j : ℕ) → mem j (take i cells) ≡ true → mem j (take (i + 1) cells) ≡ true
  kept j m = more j ∙ ap (λ (b : Bool). b || eqb j (get_or cells i 0)) m

  module _ {ids : List ℕ} {count : ℕ} {met : List ℕ} (w : Met cells i ids count met) (slot : ℕ) (ours : slot < length met) where
    -- An id that stands in its slot, or 0;
    pub met_before : get_or met slot 0 ≡ get_or cells i 0 → Met cells (i + 1) ids count met
    met_before e = record {
      same = λ j h. w.same j h
          ∙ sym (more j ∙ or_same (mem j (take i cells)) (eqb j (get_or cells i 0))
          (λ t. let q : j ≡ get_or met slot 0 = eqb-true j (get_or cells i 0) t ∙ sym e in
          ⊎_elim (λ z. absurd (omega (arith, q, z, h))) (λ m. ap (λ (x : ℕ). mem x (take i cells)) q ∙ m) (w.marks slot ours)));
      marks = λ k l. ⊎_elim (λ z. inl z) (λ m. inr (kept (get_or met k 0) m)) (w.marks k l);
    }

    -- or another, which is taken in.
    pub met_now : (r : ℕ) (now : List ℕ) → ((j : ℕ) → mem j (take r now) ≡ (mem j (take count ids) || eqb j (get_or cells i 0)))
        → Met cells (i + 1) now r (set met slot (get_or cells i 0))
    met_now r now f = record {
      same = λ j h. f j ∙ (ap (λ (b : Bool). b || eqb j (get_or cells i 0)) (w.same j h) ∙ sym (more j));
      marks = λ k l.
          ⊎_elim
          (λ e. inr (ap (λ (x : ℕ). mem x (take (i + 1) cells)) (ap (λ (x : ℕ). get_or (set met slot (get_or cells i 0)) x 0) e ∙ get_or-set_same met slot (get_or cells i 0) 0 ours)
          ∙ (more (get_or cells i 0) ∙ (ap (λ (b : Bool). mem (get_or cells i 0) (take i cells) || b) (eq-eqb (get_or cells i 0) (get_or cells i 0) refl) ∙ or-true (mem (get_or cells i 0) (take i cells))))))
          (λ d. let o : get_or (set met slot (get_or cells i 0)) k 0 ≡ get_or met k 0 = get_or-set_other met slot k (get_or cells i 0) 0 d in
          ⊎_elim (λ z. inl (o ∙ z)) (λ m. inr (ap (λ (x : ℕ). mem x (take (i + 1) cells)) o ∙ kept (get_or met k 0) m)) (w.marks k (omega (arith, l, length-set met slot (get_or cells i 0)))))
          (eq_or_ne k slot);
    }
      where
        or-true : (b : Bool) → (b || true) ≡ true
        or-true true = refl
        or-true false = refl

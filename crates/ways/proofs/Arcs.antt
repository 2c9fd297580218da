-- Where an arc of a way is, as the code finds it, over plain lists and numbers.
-- Assumes nothing.
use Prim.Native.Nat.{ℕ, suc, ◌+◌, ◌-◌, ◌≤◌, ◌<◌}
use mathlib.Core.Path.{◌≡◌, refl, sym, ap₂, ◌∙◌}
use mathlib.Core.Bool.{Bool, true, false, ◌&&◌}
use mathlib.Core.List.{List}
use native.Mathlib.Numerals.{add-one}
use native.Mathlib.Omega.{arith}
use lib.Dec.{eqb}
use borrow.Author.Tests.{lt-ltb, le-ltb, eq-eqb, ne_eqb}
use Rattle.std.specs.Prelude.{Option, None, Some, unwrap_or, IfSome}
use Rattle.sums.specs.ModelSums.{first_from}
use Rattle.walks.specs.ModelWalks.{suits_at, room_at}
use Rattle.ways.specs.ModelWays.{weight_in, free_from, row_for, arc_for}

-- ---- where the rows begin in which both nodes are free

module _ (p b u v s : ℕ) where
  -- Both nodes come after b.
  pub free-both : b < u → b < v → s ≡ p → s ≡ free_from p b u v
  unfolding free_from
  free-both l m e = rw (lt-ltb b u l, lt-ltb b v m) e

  -- The second does not.
  pub free-second : b < u → v ≤ b → s ≡ p + 1 → s ≡ free_from p b u v
  unfolding free_from
  free-second l m e = rw (lt-ltb b u l, le-ltb b v m) (e ∙ add-one p)

  -- The first does not.
  pub free-first : u ≤ b → s ≡ p + 1 → s ≡ free_from p b u v
  unfolding free_from
  free-first l e = rw (le-ltb b u l) (e ∙ add-one p)

-- ---- the arc from u to v, where w is its weight

-- Whether it is a step over the store.
abbrev pub over_store : List ℕ → ℕ → List ℕ → List ℕ → ℕ → ℕ → Bool
over_store rows P caps even u v = eqb (weight_in even u v) 1 && room_at rows P caps u

module _ (rows former : List ℕ) (P : ℕ) (mates caps : List ℕ) (all z : ℕ) (even : List ℕ) (p b u v w : ℕ) (ew : w ≡ weight_in even u v) where
  -- Where the arc is.
  abbrev place : ℕ
  place = arc_for rows former P mates caps all z even p b u v

  -- The test for a weight.
  weighs : (n : ℕ) → w ≡ n → eqb (weight_in even u v) n ≡ true
  weighs n e = eq-eqb (weight_in even u v) n (sym ew ∙ e)

  -- The same where it fails.
  weighs_not : (n : ℕ) → (w ≡ n → ⊥) → eqb (weight_in even u v) n ≡ false
  weighs_not n h = ne_eqb (weight_in even u v) n (λ e. h (ew ∙ e))

  -- An exchange that is even at no weight is nowhere.
  pub arc-none : w ≡ 3 → suc P ≡ place
  unfolding arc_for
  arc-none e = rw (weighs 3 e) refl

  -- A step over the store, where u has room.
  pub arc-store : (r : Bool) → r ≡ room_at rows P caps u → w ≡ 1 → r ≡ true → P ≡ place
  unfolding arc_for
  arc-store r er e t = rw (weighs_not 3 (λ f. omega arith), weighs 1 e, sym er ∙ t)

  -- It is none where u has no room.
  pub store-full : (r : Bool) → r ≡ room_at rows P caps u → w ≡ 1 → r ≡ false → over_store rows P caps even u v ≡ false
  store-full r er e t = rw (weighs 1 e, sym er ∙ t)

  -- It is none at another weight.
  pub store_not : (w ≡ 1 → ⊥) → over_store rows P caps even u v ≡ false
  store_not h = rw (weighs_not 1 h)

  -- The first row from the first with free nodes on.
  pub row_is : (s q : ℕ) → s ≡ free_from p b u v → q ≡ first_from (suits_at rows former mates all z w u v) (P - s) s
      → q ≡ row_for rows former P mates caps all z even p b u v
  unfolding row_for
  row_is s q es e = e ∙ ap₂ (λ (x t : ℕ). first_from (suits_at rows former mates all z x u v) (P - t) t) ew es

  module _ (n : w ≡ 3 → ⊥) (t : over_store rows P caps even u v ≡ false) where
    -- The arc is in the row that was found; where none was, it is nowhere.
    pub arc-found : (o : Option ℕ) → unwrap_or o P ≡ row_for rows former P mates caps all z even p b u v → IfSome o (λ q. q < P)
        → (unwrap_or o (suc P) ≡ place) × IfSome o (λ q. q ≤ P)
    unfolding arc_for
    arc-found None e h = (rw (weighs_not 3 n, t, sym e, le-ltb P P (omega arith)) refl, tt)
    arc-found (Some q) e h = (rw (weighs_not 3 n, t, sym e, lt-ltb q P h) refl, omega arith)

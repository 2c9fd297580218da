-- The arcs of a walk again in other rows: where they are looked for, and that only the entries of a walk up to its length are read.
-- Assumes nothing.
use Prim.Native.Nat.{ℕ, suc, ◌-◌, ◌≤◌, ◌<◌}
use mathlib.Core.Path.{◌≡◌, sym, ap, ap₂, ◌∙◌}
use mathlib.Core.Bool.{Bool, true, ◌&&◌, cond}
use mathlib.Core.List.{List}
use native.Mathlib.Omega.{arith}
use lib.Dec.{ltb}
use borrow.Author.Tests.{lt-ltb, le-ltb, ltb-true}
use Rattle.std.specs.Prelude.{Option, None, Some, is_some, unwrap_or, IfSome}
use Rattle.sums.specs.TermsSums.{every_to}
use Rattle.sums.specs.ModelSums.{first_from}
use Rattle.sums.proofs.Tests.{both, every_cong}
use Rattle.sets.specs.ModelBits.{bits_at}
use Rattle.exchange.specs.ModelCircuit.{cost}
use Rattle.exchange.specs.ModelUncross.{Walk, Same}
use Rattle.walks.specs.ModelWalks.{suits_at, room_at, renewed_at, renewed, stands_at, stands}

-- Where a partition is looked for, of P: the number that an answer stands for is at most P, ..
pub found_le : (o : Option ℕ) (P : ℕ) → IfSome o (λ p. p < P) → unwrap_or o P ≤ P
found_le None P h = omega arith
found_le (Some p) P h = omega arith

-- .. and less where there is one.
pub found_some : (o : Option ℕ) (P : ℕ) → IfSome o (λ p. p < P) → (is_some o ≡ ltb (unwrap_or o P) P) × IfSome o (λ p. p ≤ P)
found_some None P h = (sym (le-ltb P P (omega arith)), tt)
found_some (Some p) P h = (sym (lt-ltb p P h), omega arith)

module _ (rows former : List ℕ) (P : ℕ) (mates : List ℕ) (all z : ℕ) where
  -- The first partition from q on with the exchange of u for v at the cost that it had at q.
  abbrev pub next_from : ℕ → ℕ → ℕ → ℕ
  next_from q u v = first_from (suits_at rows former mates all z (cost P 1 (bits_at former) q u v) u v) (P - q) q

  -- An exchange is looked for from its partition on.
  pub renewed-row : (q u v : ℕ) → q < P → renewed_at rows former P mates all z q u v ≡ next_from q u v
  unfolding renewed_at
  renewed-row q u v l = ap (λ (b : Bool). cond b (next_from q u v) P) (lt-ltb q P l)

  -- A step over the store stays one.
  pub renewed-store : (q u v : ℕ) → P ≤ q → renewed_at rows former P mates all z q u v ≡ P
  unfolding renewed_at
  renewed-store q u v l = ap (λ (b : Bool). cond b (next_from q u v) P) (le-ltb q P l)

  -- Walks that are the same are so with new partitions.
  pub renewed_same : {w u : Walk} → Same w u → Same (renewed rows former P mates all z w) (renewed rows former P mates all z u)
  renewed_same s =
      record {
        lens = s.lens;
        nodes = s.nodes;
        partitions = λ t l. cc (s.partitions t l, s.nodes (suc t) l, s.nodes t (omega arith));
      }

  module _ (caps : List ℕ) where
    -- An exchange stands where a partition is found for it.
    pub stands-row : (q u v : ℕ) → q < P → stands_at rows former P mates all z caps q u v ≡ ltb (next_from q u v) P
    unfolding stands_at
    stands-row q u v l =
        ap (λ (b : Bool). cond b (ltb (renewed_at rows former P mates all z q u v) P) (room_at rows P caps u)) (lt-ltb q P l)
        ∙ ap (λ (r : ℕ). ltb r P) (renewed-row q u v l)

    -- A step over the store stands where its source has room.
    pub stands-store : (q u v : ℕ) → P ≤ q → stands_at rows former P mates all z caps q u v ≡ room_at rows P caps u
    unfolding stands_at
    stands-store q u v l =
        ap (λ (b : Bool). cond b (ltb (renewed_at rows former P mates all z q u v) P) (room_at rows P caps u)) (le-ltb q P l)

    -- A walk that stands has arcs.
    pub stands-some : (w : Walk) → stands rows former P mates all z caps w ≡ true → 0 < w.len
    unfolding stands
    stands-some w e =
        ltb-true 0 w.len
        (both (ltb 0 w.len) (every_to w.len (λ t. stands_at rows former P mates all z caps (w.partition t) (w.node (suc t)) (w.node t))) e).0

    -- Walks that are the same stand in the same rows.
    pub stands_same : {w u : Walk} → Same w u → stands rows former P mates all z caps w ≡ stands rows former P mates all z caps u
    unfolding stands
    stands_same {w} {u} s =
        ap₂ (λ (b : Bool) (n : ℕ). b && every_to n (arc w)) (ap (ltb 0) s.lens) s.lens
        ∙ ap (λ (b : Bool). ltb 0 u.len && b)
        (every_cong u.len (arc w) (arc u)
        (λ t l. cc (s.partitions t (omega (arith, s.lens)), s.nodes (suc t) (omega (arith, s.lens)), s.nodes t (omega (arith, s.lens)))))
      where
        arc : Walk → ℕ → Bool
        arc x t = stands_at rows former P mates all z caps (x.partition t) (x.node (suc t)) (x.node t)

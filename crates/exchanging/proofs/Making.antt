-- The steps of the loop, over plain lists and numbers: the exchanges of a walk, and the leaves of the rows that they change.
-- Assumes nothing.
use Prim.Native.Nat.{ℕ, zero, suc, ◌+◌, ◌*◌, ◌/◌, ◌%◌, ◌^◌, ◌≤◌, ◌<◌, max}
use mathlib.Core.Path.{◌≡◌, refl, sym, ap, ◌∙◌}
use mathlib.Core.Bool.{Bool, true, false, cond}
use mathlib.Core.List.{List}
use native.Mathlib.Nat.{one-mul}
use native.Mathlib.Numerals.{add-one}
use native.Mathlib.Omega.{arith}
use lib.Bits.{bit_or}
use lib.Dec.{ltb}
use lib.Pow.{shl_exact}
use lib.ListN.{length, get_or, set, length-set}
use lib.Seq.{get_or-set_other}
use borrow.Author.Tests.{lt-ltb, le-ltb}
use Rattle.sums.specs.ModelSums.{is}
use Rattle.sums.proofs.Sum.{is_eq}
use Rattle.cluster.specs.Terms.{buffer_rows}
use Rattle.sets.specs.ModelBits.{bit, with_of, without_of}
use Rattle.sets.proofs.Bits.{bit_or_lem, bit_pow}
use Rattle.swaps.specs.ModelLeaves.{leaf_rows, ChangedIn}
use Rattle.exchange.specs.ModelUncross.{Walk, Same}
use Rattle.exchanging.specs.ModelExchanged.{exchanged, walked_of}

module _ (P : ℕ) (y q : ℕ → ℕ) (rows : List ℕ) where
  -- An exchange.
  pub exchanged-row : (i : ℕ) (r : List ℕ) → r ≡ exchanged P y q i rows → q i < P
      → set r (q i) (with_of (without_of (get_or r (q i) 0) (y (i + 1))) (y i)) ≡ exchanged P y q (i + 1) rows
  unfolding exchanged
  exchanged-row i r e l = rw (add-one i, lt-ltb (q i) P l, e)

  -- A step over the store.
  pub exchanged-store : (i : ℕ) (r : List ℕ) → r ≡ exchanged P y q i rows → P ≤ q i → r ≡ exchanged P y q (i + 1) rows
  unfolding exchanged
  exchanged-store i r e l = rw (add-one i, le-ltb (q i) P l) e

  -- The rows stay as many.
  pub length_exchanged : (n : ℕ) → length (exchanged P y q n rows) ≡ length rows
  unfolding exchanged
  length_exchanged zero = refl
  length_exchanged (suc i) = go (length_exchanged i) (ltb (q i) P)
    where
      go : length (exchanged P y q i rows) ≡ length rows → (b : Bool)
          → length (cond b (set (exchanged P y q i rows) (q i) (with_of (without_of (get_or (exchanged P y q i rows) (q i) 0) (y (suc i))) (y i))) (exchanged P y q i rows))
          ≡ length rows
      go e true = length-set (exchanged P y q i rows) (q i) (with_of (without_of (get_or (exchanged P y q i rows) (q i) 0) (y (suc i))) (y i)) ∙ e
      go e false = e

-- Nothing changed in any leaf.
pub changed-none : (m : ℕ) (rows : List ℕ) → ChangedIn m rows rows
changed-none m rows = record { others = λ p e. refl }

-- The leaf of p in the set of leaves.
pub marked : (m p l : ℕ) → p < buffer_rows → bit (bit_or m (1 * 2 ^ (p / leaf_rows) % 2 ^ 64)) l ≡ max (bit m l) (is (p / leaf_rows) l)
marked m p l h =
    bit_or_lem m (1 * 2 ^ (p / leaf_rows) % 2 ^ 64) l
    ∙ ap (max (bit m l)) (ap (λ (x : ℕ). bit x l) (shl_exact 1 (p / leaf_rows) 64 (omega arith) (omega arith) ∙ one-mul (2 ^ (p / leaf_rows))) ∙ bit_pow (p / leaf_rows) l)

-- A row changed, and its leaf is told.
pub changed_row : (m n p v : ℕ) (rows r : List ℕ) → ((l : ℕ) → bit n l ≡ max (bit m l) (is (p / leaf_rows) l)) → ChangedIn m rows r → ChangedIn n rows (set r p v)
changed_row m n p v rows r told C =
    record {
      others = λ q e.
          get_or-set_other r p q v 0 (λ d. omega (arith, e, told (q / leaf_rows), is_eq {a = p / leaf_rows} {b = q / leaf_rows} (ap (λ (k : ℕ). k / leaf_rows) (sym d))))
          ∙ C.others q (omega (arith, e, told (q / leaf_rows)));
    }

-- Walks that are the same make the same exchanges.
pub exchanged_same : (P : ℕ) {w u : Walk} → Same w u → (rows : List ℕ) (n : ℕ) → n ≤ w.len
    → exchanged P w.node w.partition n rows ≡ exchanged P u.node u.partition n rows
unfolding exchanged
exchanged_same P s rows zero l = refl
exchanged_same P s rows (suc i) l =
    rw (s.partitions i l, s.nodes i (omega arith), s.nodes (suc i) l, exchanged_same P s rows i (omega arith))

pub walked_same : (P : ℕ) {w u : Walk} → Same w u → (rows : List ℕ) → walked_of P w rows ≡ walked_of P u rows
walked_same P {w} {u} s rows =
    exchanged_same P s rows w.len (omega arith) ∙ ap (λ (k : ℕ). exchanged P u.node u.partition k rows) s.lens

-- The exchanges of a circuit, made one after the other in the rows, lead to the layout after its turn: each source is in its row until it leaves,
-- and each target outside until it comes in.
-- Assumes nothing.
use Prim.Native.Nat.{ℕ, zero, suc, ◌+◌, ◌-◌, ◌*◌, ◌^◌, ◌≤◌, ◌<◌}
use mathlib.Core.Path.{◌≡◌, sym, ap, ◌∙◌, subst}
use mathlib.Core.List.{List}
use mathlib.Core.Logic.{◌⊎◌, inl, inr, ⊎_elim}
use native.Mathlib.Nat.{one-mul, zero-mul}
use native.Mathlib.Omega.{arith}
use lib.ListN.{length, get_or}
use lib.Pow.{pow_mono}
use lib.Seq.{get_or-set_same, get_or-set_other}
use borrow.Author.Tests.{lt-ltb, le-ltb}
use Rattle.sums.specs.TermsSums.{sum_to}
use Rattle.sums.specs.ModelSums.{is}
use Rattle.sums.proofs.Sum.{lt_or_ge, eq_or_ne, is_eq, is_ne, is_le, is_one}
use Rattle.sets.specs.ModelBits.{mask_bits, bit, with_of, without_of, bits_at}
use Rattle.sets.proofs.Laws.{bit_le, bit_high, bit_lt, bit-with, bit-without, with_lt}
use Rattle.exchange.specs.ModelCircuit.{turn}
use Rattle.exchange.specs.ModelUncross.{Walk, Round}
use Rattle.exchange.proofs.Picked.{picked, picked-at, out_le, in_le}
use Rattle.exchange.proofs.Circuit.{ends, exchange, sources_differ}
use Rattle.exchanging.specs.ModelExchanged.{exchanged, walked_of}
use Rattle.exchanging.proofs.Making.{length_exchanged}

-- ---- any walk

module _ (P : ℕ) (y q : ℕ → ℕ) (rows : List ℕ) where
  -- The row of partition q i after an exchange.
  abbrev made : ℕ → ℕ
  made i = with_of (without_of (get_or (exchanged P y q i rows) (q i) 0) (y (suc i))) (y i)

  -- The row of an exchange.
  cell-made : (i : ℕ) → q i < P → q i < length rows → get_or (exchanged P y q (suc i) rows) (q i) 0 ≡ made i
  unfolding exchanged
  cell-made i l h =
      rw (lt-ltb (q i) P l) (get_or-set_same (exchanged P y q i rows) (q i) (made i) 0 (omega (arith, length_exchanged P y q rows i)))

  -- Any other row stays.
  cell-kept : (i p : ℕ) → (q i < P → q i ≡ p → ⊥) → get_or (exchanged P y q (suc i) rows) p 0 ≡ get_or (exchanged P y q i rows) p 0
  unfolding exchanged
  cell-kept i p n =
      ⊎_elim (λ l. rw (lt-ltb (q i) P l) (get_or-set_other (exchanged P y q i rows) (q i) p (made i) 0 (λ e. n l (sym e))))
      (λ g. rw (le-ltb (q i) P g)) (lt_or_ge (q i) P)

  -- Words stay words.
  pub exchanged-word : (n p : ℕ) → P ≤ length rows → get_or rows p 0 < 2 ^ mask_bits → get_or (exchanged P y q n rows) p 0 < 2 ^ mask_bits
  unfolding exchanged
  exchanged-word zero p f h = h
  exchanged-word (suc i) p f h = go (exchanged-word i p f h) (lt_or_ge (q i) P) (eq_or_ne (q i) p)
    where
      go : get_or (exchanged P y q i rows) p 0 < 2 ^ mask_bits → (q i < P) ⊎ (P ≤ q i) → (q i ≡ p) ⊎ (q i ≡ p → ⊥)
          → get_or (exchanged P y q (suc i) rows) p 0 < 2 ^ mask_bits
      go w (inl l) (inl e) =
          subst (λ (t : ℕ). t < 2 ^ mask_bits) (sym (ap (λ (k : ℕ). get_or (exchanged P y q (suc i) rows) k 0) (sym e) ∙ cell-made i l (omega arith)))
          (with_lt (without_of (get_or (exchanged P y q i rows) (q i) 0) (y (suc i))) (y i))
      go w (inl l) (inr n) = subst (λ (t : ℕ). t < 2 ^ mask_bits) (sym (cell-kept i p (λ k e. n e))) w
      go w (inr g) s = subst (λ (t : ℕ). t < 2 ^ mask_bits) (sym (cell-kept i p (λ k e. omega arith))) w

-- ---- a circuit

module _ (P N R Z C : ℕ) (zone cap : ℕ → ℕ) (g free : ℕ → ℕ → ℕ) (rows : List ℕ) (w : Walk) (fits : P ≤ length rows)
    (c : Round P N R Z C zone cap g free (bits_at rows) w) (p : ℕ) (r : p < P)
  where
    abbrev y : ℕ → ℕ
    y = w.node

    abbrev q : ℕ → ℕ
    q = w.partition

    -- How often node b came into row p, and left it, with the first n arcs.
    abbrev came : ℕ → ℕ → ℕ
    came n b = picked n (λ i. is (q i) p) y b

    abbrev left : ℕ → ℕ → ℕ
    left n b = picked n (λ i. is (q i) p) (λ i. y (suc i)) b

    left_le : (n : ℕ) → n ≤ w.len → (b : ℕ) → left n b ≤ bits_at rows p b
    left_le n l =
        out_le n (λ i. is (q i) p) (λ i. y (suc i)) (λ i k. is_le (q i) p) (bits_at rows p)
        (λ i k e. (exchange P N R Z C zone cap g free (bits_at rows) w.len y q c i p (omega arith) r (is_one (q i) p e)).a_in)
        (λ i j a b d e. sources_differ P N R Z C zone cap g free (bits_at rows) w.len y q c i j a (omega arith))

    came_le : (n : ℕ) → n ≤ w.len → (b : ℕ) → bits_at rows p b + came n b ≤ 1
    came_le n l b =
        in_le n (λ i. is (q i) p) y (λ i k. is_le (q i) p) (bits_at rows p)
        (λ i k e. (exchange P N R Z C zone cap g free (bits_at rows) w.len y q c i p (omega arith) r (is_one (q i) p e)).b_out)
        (λ i j a d e f. c.distinct i j a (omega arith)) b (bit_le (get_or rows p 0) b)

    -- The bits of row p after the first n arcs.
    exchanged-bit : (n : ℕ) → n ≤ w.len → (b : ℕ) → b < mask_bits → bits_at (exchanged P y q n rows) p b ≡ bits_at rows p b + came n b - left n b
    unfolding exchanged sum_to
    exchanged-bit zero l b h = omega arith
    exchanged-bit (suc i) l b h = go (exchanged-bit i (omega arith) b h) (eq_or_ne (q i) p)
      where
        go : bits_at (exchanged P y q i rows) p b ≡ bits_at rows p b + came i b - left i b → (q i ≡ p) ⊎ (q i ≡ p → ⊥)
            → bits_at (exchanged P y q (suc i) rows) p b ≡ bits_at rows p b + came (suc i) b - left (suc i) b
        go e (inr n) =
            ap (λ (t : ℕ). bit t b) (cell-kept P y q rows i p (λ k d. n d))
            ∙ omega (
              arith,
              ap (λ (t : ℕ). t * is (y i) b) (is_ne n),
              ap (λ (t : ℕ). t * is (y (suc i)) b) (is_ne n),
              zero-mul (is (y i) b),
              zero-mul (is (y (suc i)) b),
            )
        go e (inl d) =
            ap (λ (k : ℕ). bit (get_or (exchanged P y q (suc i) rows) k 0) b) (sym d)
            ∙ (ap (λ (t : ℕ). bit t b) (cell-made P y q rows i (omega arith) (omega arith))
            ∙ omega (
              arith,
              bit-with (without_of (get_or (exchanged P y q i rows) (q i) 0) (y (suc i))) (y i) b h,
              bit-without (get_or (exchanged P y q i rows) (q i) 0) (y (suc i)) b h,
              ap (λ (k : ℕ). bit (get_or (exchanged P y q i rows) k 0) b) d,
              ap (λ (t : ℕ). t * is (y i) b) (is_eq d),
              ap (λ (t : ℕ). t * is (y (suc i)) b) (is_eq d),
              one-mul (is (y i) b),
              one-mul (is (y (suc i)) b),
              is_le (y i) b,
              left_le (suc i) l b,
              came_le (suc i) l b,
            ))

    -- The bits of row p after the exchanges of a circuit are those after its turn.
    pub walked_bit : (b : ℕ) → b < mask_bits → bits_at (walked_of P w rows) p b ≡ turn w.len w.node w.partition (bits_at rows) p b
    unfolding turn
    walked_bit b h = exchanged-bit w.len (omega arith) b h

    -- A row of nodes below N stays one.
    pub walked_small : N ≤ mask_bits → get_or rows p 0 < 2 ^ N → get_or (walked_of P w rows) p 0 < 2 ^ N
    walked_small few h =
        bit_lt mask_bits N (get_or (walked_of P w rows) p 0)
        (exchanged-word P y q rows w.len p fits (omega (arith, pow_mono {i = N} {j = mask_bits} few)))
        (λ b a k. omega (arith, exchanged-bit w.len (omega arith) b k, bit_high N (get_or rows p 0) b h a, none b a))
      where
        none : (b : ℕ) → N ≤ b → came w.len b ≡ 0
        none b a =
            ⊎_elim (λ l. omega arith)
            (λ l. let s = picked-at w.len (λ i. is (q i) p) y (λ i k. is_le (q i) p) b l in
            absurd (omega (arith, s.3, (ends P N R Z C zone cap g free (bits_at rows) w.len y q c s.0 s.1).1)))
            (lt_or_ge (came w.len b) 1)

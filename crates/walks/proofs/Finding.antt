-- Where an exchange is found: the candidates of a word, the first of them that is one of its row, and the words one after the other.
-- Assumes nothing.
use Prim.Native.Nat.{ℕ, ◌+◌, ◌-◌, ◌*◌, ◌/◌, ◌%◌, ◌^◌, ◌≤◌, ◌<◌, min, max}
use mathlib.Core.Path.{◌≡◌, refl, sym, ap, ap₂, ◌∙◌}
use mathlib.Core.Bool.{Bool, true, false, ◌&&◌, not, cond, and-false, false≢true}
use mathlib.Core.Logic.{⊎_elim}
use mathlib.Core.List.{List}
use native.Mathlib.Omega.{arith}
use lib.Dec.{eqb, ltb}
use lib.ListN.{get_or}
use borrow.Author.Tests.{eq-eqb, ne_eqb}
use Rattle.sums.specs.ModelSums.{first_from}
use Rattle.sums.proofs.Sum.{lt_or_ge, eq_or_ne}
use Rattle.sums.proofs.Tests.{both, true_or_false}
use Rattle.sums.proofs.First.{first_cases, first-is, first_not, first_cong, first-is-none}
use Rattle.cluster.specs.Terms.{most_nodes, buffer_rows}
use Rattle.sets.specs.ModelBits.{mask_bits, bit, member_of, without_of, union_of, meet_of, difference_of, below_of, count_of, least_of}
use Rattle.sets.proofs.Laws.{bit_le, bit_zero, bit_high, member-true, member-false, bit-true, bit-false, bit-without_same, bit-without_other, bit-union, bit-meet, bit-difference, bit_below, bit-below_not, meet_lt, difference_lt, least-before, least_at, least-some}
use Rattle.swaps.specs.ModelSwaps.{tight_of, targets_in, targets_of}
use Rattle.holders.specs.ModelHolders.{set_words, Held}
use Rattle.walks.specs.ModelWalks.{picked, Picks, ok_of, sifted_of, suits_of, suits_at, room_at}
use Rattle.holders.proofs.Holding.{holds_at, count_none}

-- ---- candidates

-- A set is that of the candidates if its bits are.
picks : (own other owned othered w r j : ℕ) → (bit r j ≡ 1 → (bit own j ≡ 1) × (bit other j ≡ 0) × (1 + bit owned j ≡ w + bit othered j))
    → (bit r j ≡ 0 → bit own j ≡ 1 → bit other j ≡ 0 → 1 + bit owned j ≡ w + bit othered j → ⊥) → member_of r j ≡ picked own other owned othered w j
unfolding picked
picks own other owned othered w r j only all =
    ⊎_elim
    (λ e. let h = only (member-true r j e) in
    e ∙ sym (rw (bit-true own j h.0, bit-false other j h.1, eq-eqb (1 + bit owned j) (w + bit othered j) h.2) refl))
    (λ e. e ∙ sym (go (member_of own j) (member_of other j) (λ a b. all (member-false r j e) (member-true own j a) (member-false other j b)) refl refl))
    (true_or_false (member_of r j))
  where
    weight : Bool
    weight = eqb (1 + bit owned j) (w + bit othered j)

    go : (x y : Bool) → (member_of own j ≡ true → member_of other j ≡ false → 1 + bit owned j ≡ w + bit othered j → ⊥) → member_of own j ≡ x → member_of other j ≡ y
        → x && not y && weight ≡ false
    go false y n a b = refl
    go true true n a b = refl
    go true false n a b = ne_eqb (1 + bit owned j) (w + bit othered j) (n a b)

module _ (own other owned othered w r : ℕ) where
  -- Of the two nodes, that which comes had the partition and that which goes had it not.
  pub picks_won : w ≡ 0 → r ≡ meet_of (difference_of own other) (difference_of othered owned) → Picks own other owned othered w r
  picks_won k x j l =
      let e : bit r j ≡ min (bit own j - bit other j) (bit othered j - bit owned j) =
      ap (λ (y : ℕ). bit y j) x
      ∙ (bit-meet (difference_of own other) (difference_of othered owned) j l ∙ ap₂ min (bit-difference own other j l) (bit-difference othered owned j l)) in
      let f : (bit own j ≤ 1) × (bit other j ≤ 1) × (bit owned j ≤ 1) × (bit othered j ≤ 1) = (bit_le own j, bit_le other j, bit_le owned j, bit_le othered j) in
      picks own other owned othered w r j (λ h. (omega (arith, f), omega (arith, f), omega (arith, f))) (λ h a b d. omega (arith, f))

  -- Both had it, or neither.
  pub picks_same : w ≡ 1 → r ≡ difference_of (difference_of own other) (union_of (difference_of owned othered) (difference_of othered owned))
      → Picks own other owned othered w r
  picks_same k x j l =
      let e : bit r j ≡ bit own j - bit other j - max (bit owned j - bit othered j) (bit othered j - bit owned j) =
      ap (λ (y : ℕ). bit y j) x
      ∙ (bit-difference (difference_of own other) (union_of (difference_of owned othered) (difference_of othered owned)) j l
      ∙ ap₂ ◌-◌ (bit-difference own other j l)
      (bit-union (difference_of owned othered) (difference_of othered owned) j l
      ∙ ap₂ max (bit-difference owned othered j l) (bit-difference othered owned j l))) in
      let f : (bit own j ≤ 1) × (bit other j ≤ 1) × (bit owned j ≤ 1) × (bit othered j ≤ 1) = (bit_le own j, bit_le other j, bit_le owned j, bit_le othered j) in
      picks own other owned othered w r j (λ h. (omega (arith, f), omega (arith, f), omega (arith, f))) (λ h a b d. omega (arith, f))

  -- The one that goes had it, and the other not.
  pub picks_lost : w ≡ 2 → r ≡ meet_of (difference_of own other) (difference_of owned othered) → Picks own other owned othered w r
  picks_lost k x j l =
      let e : bit r j ≡ min (bit own j - bit other j) (bit owned j - bit othered j) =
      ap (λ (y : ℕ). bit y j) x
      ∙ (bit-meet (difference_of own other) (difference_of owned othered) j l ∙ ap₂ min (bit-difference own other j l) (bit-difference owned othered j l)) in
      let f : (bit own j ≤ 1) × (bit other j ≤ 1) × (bit owned j ≤ 1) × (bit othered j ≤ 1) = (bit_le own j, bit_le other j, bit_le owned j, bit_le othered j) in
      picks own other owned othered w r j (λ h. (omega (arith, f), omega (arith, f), omega (arith, f))) (λ h a b d. omega (arith, f))

-- ---- sifting

module _ (rows mates : List ℕ) (all z u v base : ℕ) where
  abbrev test : ℕ → ℕ → Bool
  test word j = member_of word j && ok_of rows mates all z (base + j) u v

  -- The least number r of the word is taken where its row allows the exchange ..
  module _ (left : ℕ) (word : left < 2 ^ mask_bits) (some : left ≡ 0 → ⊥) (r : ℕ) (least : r ≡ least_of left) (ok : Bool) (tried : ok ≡ ok_of rows mates all z (base + r) u v) where
    low : r < mask_bits
    low = omega (arith, least, least-some left word some)

    pub sift_hit : ok ≡ true → sifted_of rows mates all z u v base left ≡ r
    unfolding sifted_of
    sift_hit o =
        first-is (test left) mask_bits 0 r (omega arith) low
        (ap₂ ◌&&◌ (bit-true left r (ap (bit left) least ∙ least_at left (least-some left word some))) (sym tried ∙ o))
        (λ j a b. ap (λ (c : Bool). c && ok_of rows mates all z (base + j) u v) (bit-false left j (least-before left j (omega (arith, least)))))

    -- .. and else left.
    pub sift_miss : ok ≡ false → (rest : ℕ) → rest ≡ without_of left r → sifted_of rows mates all z u v base left ≡ sifted_of rows mates all z u v base rest
    unfolding sifted_of member_of
    sift_miss o rest h =
        first_cong (test left) (test (without_of left r)) mask_bits 0
        (λ j a b. ⊎_elim
        (λ e. ap (λ (c : Bool). member_of left j && c) (ap (λ (i : ℕ). ok_of rows mates all z (base + i) u v) (sym e) ∙ (sym tried ∙ o))
        ∙ (and-false (member_of left j)
        ∙ sym
        (ap (λ (c : Bool). c && ok_of rows mates all z (base + j) u v)
        (bit-false (without_of left r) j (ap (λ (i : ℕ). bit (without_of left r) i) (sym e) ∙ bit-without_same left r low)))))
        (λ n. ap (λ (x : ℕ). eqb x 1 && ok_of rows mates all z (base + j) u v) (sym (bit-without_other left r j b n))) (eq_or_ne r j))
        ∙ ap (λ (x : ℕ). sifted_of rows mates all z u v base x) (sym h)

  -- An empty word has none.
  pub sift-none : (left : ℕ) → left ≡ 0 → sifted_of rows mates all z u v base left ≡ mask_bits
  unfolding sifted_of
  sift-none left e =
      first-is-none (test left) mask_bits
      (λ j l. ap (λ (c : Bool). c && ok_of rows mates all z (base + j) u v) (bit-false left j (ap (λ (x : ℕ). bit x j) e ∙ bit_zero j)))

-- ---- the words

-- The nodes that may take a place are a word.
targets_lt : (mates : List ℕ) (all z row a : ℕ) → targets_of mates all z row a < 2 ^ mask_bits
unfolding targets_of targets_in
targets_lt mates all z row a =
    go (ltb 1 (count_of (meet_of row (get_or mates a 0)))) (difference_lt all row)
    (meet_lt (difference_of all row) (union_of (get_or mates a 0) (difference_of all (tight_of mates z row))))
  where
    go : (b : Bool) {x y n : ℕ} → x < n → y < n → cond b x y < n
    go true l m = l
    go false l m = m

module _ (rows former mates : List ℕ) (all z w u v : ℕ) where
  abbrev suits : ℕ → Bool
  suits = suits_at rows former mates all z w u v

  -- None of the partitions before p, from `start` on, suits.
  abbrev pub NoneTo : ℕ → ℕ → ℕ → Type 0
  NoneTo P start p = (q : ℕ) → start ≤ q → q < p → q < P → suits q ≡ false

  -- No row has a node past the last ..
  pub no_source : ((q : ℕ) → get_or rows q 0 < 2 ^ mask_bits) → most_nodes ≤ u → (q : ℕ) → suits q ≡ false
  unfolding suits_of
  no_source h l q = rw (bit-false (get_or rows q 0) u (bit_high mask_bits (get_or rows q 0) u (h q) l)) refl

  -- .. and none may take one on.
  pub no_target : most_nodes ≤ v → (q : ℕ) → suits q ≡ false
  unfolding suits_of
  no_target l q =
      let t = targets_of mates all z (get_or rows q 0) u in
      let e : member_of t v ≡ false = bit-false t v (bit_high mask_bits t v (targets_lt mates all z (get_or rows q 0) u) l) in
      ap (λ (b : Bool). member_of (get_or rows q 0) u && not (member_of (get_or rows q 0) v) && eqb (1 + bit (get_or former q 0) u) (w + bit (get_or former q 0) v) && b) e
      ∙ and-false (member_of (get_or rows q 0) u && not (member_of (get_or rows q 0) v) && eqb (1 + bit (get_or former q 0) u) (w + bit (get_or former q 0) v))

  module _ (P : ℕ) where
    -- Where no partition suits, the end is found.
    pub first-none : (start p : ℕ) → start ≤ P → P ≤ p → NoneTo P start p → P ≡ first_from suits (P - start) start
    first-none start p l g h = sym (first_not suits (P - start) start (λ j a b. h j a (omega arith) (omega arith)) ∙ omega arith)

    module _ (held had : List ℕ) (few : P ≤ buffer_rows) (H : Held rows P held) (G : Held former P had) (lu : u < most_nodes) (lv : v < most_nodes)
        (p : ℕ) (lp : p < P) (word : ℕ)
        (W : Picks (get_or held (set_words * u + p / mask_bits) 0) (get_or held (set_words * v + p / mask_bits) 0) (get_or had (set_words * u + p / mask_bits) 0) (get_or had (set_words * v + p / mask_bits) 0) w word) where
      abbrev base : ℕ
      base = mask_bits * (p / mask_bits)

      -- The candidates from p on.
      abbrev left : ℕ
      left = difference_of word (below_of (p % mask_bits))

      -- A number of the word that stands for a row is tested as the row is.
      suited : (j : ℕ) → j < mask_bits → base + j < P → member_of word j && ok_of rows mates all z (base + j) u v ≡ suits (base + j)
      unfolding suits_of ok_of picked member_of
      suited j l m =
          let k = p / mask_bits in
          let a : bit (get_or held (set_words * u + k) 0) j ≡ bit (get_or rows (base + j) 0) u = sym (holds_at held u k j l) ∙ H.here u (base + j) lu m in
          let b : bit (get_or held (set_words * v + k) 0) j ≡ bit (get_or rows (base + j) 0) v = sym (holds_at held v k j l) ∙ H.here v (base + j) lv m in
          let c : bit (get_or had (set_words * u + k) 0) j ≡ bit (get_or former (base + j) 0) u = sym (holds_at had u k j l) ∙ G.here u (base + j) lu m in
          let d : bit (get_or had (set_words * v + k) 0) j ≡ bit (get_or former (base + j) 0) v = sym (holds_at had v k j l) ∙ G.here v (base + j) lv m in
          ap (λ (t : Bool). t && ok_of rows mates all z (base + j) u v) (W j l) ∙ rw (a, b, c, d) refl

      -- The numbers of the word before p are none of them ..
      before : (j : ℕ) → j < p % mask_bits → member_of left j ≡ false
      before j l = bit-false left j (omega (arith, bit-difference word (below_of (p % mask_bits)) j (omega arith), bit_below (p % mask_bits) j (omega arith) l, bit_le word j))

      -- .. those from p on are the candidates ..
      after : (j : ℕ) → j < mask_bits → p % mask_bits ≤ j → member_of left j ≡ member_of word j
      unfolding member_of
      after j l g =
          let e : bit left j ≡ bit word j = omega (arith, bit-difference word (below_of (p % mask_bits)) j l, bit-below_not (p % mask_bits) j g) in
          ap (λ (x : ℕ). eqb x 1) e

      -- .. and those past the last row are none.
      beyond : (j : ℕ) → j < mask_bits → P ≤ base + j → member_of word j ≡ false
      unfolding picked
      beyond j l g =
          W j l
          ∙ rw (bit-false (get_or held (set_words * u + p / mask_bits) 0) j
          (sym (holds_at held u (p / mask_bits) j l) ∙ H.beyond u (base + j) lu g (omega arith))) refl

      -- So the candidates are rows.
      pub inside : (j : ℕ) → j < mask_bits → bit left j ≡ 1 → base + j < P
      inside j l e =
          ⊎_elim (λ a. a)
          (λ a. absurd (omega (arith, member-false word j (beyond j l a), bit-difference word (below_of (p % mask_bits)) j l, e)))
          (lt_or_ge (base + j) P)

      at : (q : ℕ) → p ≤ q → q < base + mask_bits → q < P → member_of left (q - base) && ok_of rows mates all z (base + (q - base)) u v ≡ suits q
      at q a b c =
          let e : base + (q - base) ≡ q = omega arith in
          ap (λ (t : Bool). t && ok_of rows mates all z (base + (q - base)) u v) (after (q - base) (omega arith) (omega arith))
          ∙ (suited (q - base) (omega arith) (omega arith) ∙ ap suits e)

      module _ (r : ℕ) (found : r ≡ sifted_of rows mates all z u v base left) where
        -- None of the word suits.
        pub word_none : (start : ℕ) → mask_bits ≤ r → NoneTo P start p → NoneTo P start (base + mask_bits)
        unfolding sifted_of
        word_none start g h q a b c =
            ⊎_elim (λ m. h q a m c)
            (λ m. sym (at q m b c)
            ∙ ⊎_elim (λ s. absurd (omega (arith, s.1))) (λ s. s.1 (q - base) (omega arith) (omega arith))
            (first_cases (λ j. member_of left j && ok_of rows mates all z (base + j) u v) mask_bits 0))
            (lt_or_ge q p)

        -- What is found in it is the first that suits.
        pub word-found : (start : ℕ) → start ≤ p → r < mask_bits → NoneTo P start p → (base + r ≡ first_from suits (P - start) start) × (base + r < P)
        unfolding sifted_of
        word-found start low l h =
            ⊎_elim (λ s. go (ap test found ∙ s.2) (λ j m. s.3 j (omega arith) (omega arith))) (λ s. absurd (omega (arith, s.0))) (first_cases test mask_bits 0)
          where
            test : ℕ → Bool
            test j = member_of left j && ok_of rows mates all z (base + j) u v

            go : test r ≡ true → ((j : ℕ) → j < r → test j ≡ false) → (base + r ≡ first_from suits (P - start) start) × (base + r < P)
            go e n =
                let m : member_of left r ≡ true = (both (member_of left r) (ok_of rows mates all z (base + r) u v) e).0 in
                let g : p % mask_bits ≤ r = ⊎_elim (λ a. absurd (false≢true (sym (before r a) ∙ m))) (λ a. a) (lt_or_ge r (p % mask_bits)) in
                let k : base + r < P = ⊎_elim (λ a. a) (λ a. absurd (false≢true (sym (after r l g ∙ beyond r l a) ∙ m))) (lt_or_ge (base + r) P) in
                let t : suits (base + r) ≡ true =
                sym (suited r l k) ∙ (ap (λ (b : Bool). b && ok_of rows mates all z (base + r) u v) (sym (after r l g)) ∙ e) in (
                  sym
                      (first-is suits (P - start) start (base + r) (omega arith) (omega arith) t
                      (λ q a b. ⊎_elim (λ c. h q a c (omega arith)) (λ c. sym (at q c (omega arith) (omega arith)) ∙ n (q - base) (omega arith)) (lt_or_ge q p))),
                  k,
                )

-- ---- room

-- A node past the last has no copy.
pub room-none : (rows : List ℕ) (P : ℕ) (caps : List ℕ) (u cap : ℕ) → ((q : ℕ) → get_or rows q 0 < 2 ^ mask_bits) → most_nodes ≤ u → cap ≡ get_or caps u 0
    → ltb 0 cap ≡ room_at rows P caps u
unfolding room_at
room-none rows P caps u cap h l e = ap₂ ltb (sym (count_none rows P u h l)) e

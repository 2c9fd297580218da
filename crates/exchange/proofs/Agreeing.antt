-- Rows and layouts are read at the nodes below N and the partitions below P only: two that have the same values there have the same counts, covers,
-- copies and weights, and are valid, within the caps or better alike.
-- Assumes nothing.
use Prim.Native.Nat.{ℕ, ◌+◌, ◌-◌, ◌*◌, ◌<◌, min}
use mathlib.Core.Path.{◌≡◌, refl, sym, ap, ap₂, ◌∙◌}
use native.Mathlib.Omega.{arith}
use Rattle.sums.specs.TermsSums.{sum_to}
use Rattle.sums.specs.ModelSums.{is}
use Rattle.sums.proofs.Sum.{sum_cong}
use Rattle.exchange.specs.ModelRow.{zone_count, cover, Valid, swap, copies, weigh, Within, Agree}
use Rattle.exchange.specs.ModelCircuit.{Better}

-- Rows with the same bits.
abbrev pub SameRow : ℕ → (ℕ → ℕ) → (ℕ → ℕ) → Type 0
SameRow N S T = (b : ℕ) → b < N → S b ≡ T b

-- Layouts with the same bits.
abbrev pub SameLayout : ℕ → ℕ → (ℕ → ℕ → ℕ) → (ℕ → ℕ → ℕ) → Type 0
SameLayout P N S T = (p : ℕ) → p < P → (b : ℕ) → b < N → S p b ≡ T p b

-- Sameness goes both ways.
pub same_layout_sym : {P N : ℕ} {S T : ℕ → ℕ → ℕ} → SameLayout P N S T → SameLayout P N T S
same_layout_sym h p l b k = sym (h p l b k)

-- ---- rows

module _ (N : ℕ) (zone S T : ℕ → ℕ) (h : SameRow N S T) where
  -- Rows with the same bits have as many nodes of each zone.
  pub zone_count_cong : (z : ℕ) → zone_count N zone S z ≡ zone_count N zone T z
  unfolding zone_count
  zone_count_cong z =
      sum_cong N (λ b. S b * is (zone b) z) (λ b. T b * is (zone b) z) (λ b k. ap (λ (n : ℕ). n * is (zone b) z) (h b k))

  -- They cover as many zones.
  pub cover_cong : cover N zone S ≡ cover N zone T
  unfolding cover
  cover_cong =
      sum_cong N (λ z. min 1 (zone_count N zone S z)) (λ z. min 1 (zone_count N zone T z)) (λ z k. ap (min 1) (zone_count_cong z))

  -- One is valid where the other is.
  pub valid_cong : (R Z : ℕ) → Valid N R Z zone S → Valid N R Z zone T
  valid_cong R Z v =
      record {
        bits = λ b k. omega (arith, h b k, v.bits b k);
        size = sym (sum_cong N S T h) ∙ v.size;
        wide = omega (arith, v.wide, cover_cong);
      }

  -- The same exchange leads to rows with the same bits.
  pub swap_cong : (a b : ℕ) → SameRow N (swap S a b) (swap T a b)
  unfolding swap
  swap_cong a b x k = ap (λ (n : ℕ). n + is b x - is a x) (h x k)

-- ---- layouts

-- Weights and layouts with the same values weigh the same.
pub weigh_cong : (P N : ℕ) (g f S T : ℕ → ℕ → ℕ) → SameLayout P N g f → SameLayout P N S T → weigh P N g S ≡ weigh P N f T
unfolding weigh
weigh_cong P N g f S T e h =
    sum_cong P (λ p. sum_to N (λ b. S p b * g p b)) (λ p. sum_to N (λ b. T p b * f p b))
    (λ p l. sum_cong N (λ b. S p b * g p b) (λ b. T p b * f p b) (λ b k. ap₂ ◌*◌ (h p l b k) (e p l b k)))

-- Layouts agree on the pairs that are not free where those with the same bits do.
pub agree_cong : (P N : ℕ) (free S T S' T' : ℕ → ℕ → ℕ) → SameLayout P N S S' → SameLayout P N T T' → Agree P N free S T → Agree P N free S' T'
agree_cong P N free S T S' T' h k e p l b m f = sym (k p l b m) ∙ (e p l b m f ∙ h p l b m)

module _ (P N : ℕ) (S T : ℕ → ℕ → ℕ) (h : SameLayout P N S T) where
  -- Layouts with the same bits have as many copies at each node.
  pub copies_cong : (b : ℕ) → b < N → copies P S b ≡ copies P T b
  unfolding copies
  copies_cong b k = sum_cong P (λ p. S p b) (λ p. T p b) (λ p l. h p l b k)

  -- One is within the caps where the other is.
  pub within_cong : (R Z : ℕ) (zone cap : ℕ → ℕ) → Within P N R Z zone cap S → Within P N R Z zone cap T
  within_cong R Z zone cap w =
      record {
        rows = λ p l. valid_cong N zone (S p) (T p) (h p l) R Z (w.rows p l);
        caps = λ b k. omega (arith, copies_cong b k, w.caps b k);
      }

-- ---- best and better

-- A layout is better than another where those with the same bits are.
pub better_cong : (P N R Z C : ℕ) (zone cap : ℕ → ℕ) (g free S T S' T' : ℕ → ℕ → ℕ) → SameLayout P N S S' → SameLayout P N T T'
    → Better P N R Z C zone cap g free S T → Better P N R Z C zone cap g free S' T'
better_cong P N R Z C zone cap g free S T S' T' h k b =
    record {
      within = within_cong P N T T' k R Z zone cap b.within;
      agrees = agree_cong P N free S T S' T' h k b.agrees;
      more = omega (arith, b.more, from, to);
      most = omega (arith, b.most, from, to);
    }
  where
    from : weigh P N g S ≡ weigh P N g S'
    from = weigh_cong P N g g S S' (λ p l x m. refl) h

    to : weigh P N g T ≡ weigh P N g T'
    to = weigh_cong P N g g T T' (λ p l x m. refl) k

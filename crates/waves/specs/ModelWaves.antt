-- Waves over a graph of at most `most_nodes` nodes: cell u of `leads` is the set of the nodes that u leads to.
-- Assumes nothing.
use Rattle.std.specs.Prelude.{ℕ, zero, suc, ◌≤◌, ◌<◌, min, ◌≡◌, ◌&&◌, List, get_or}
use Rattle.sums.specs.ModelSums.{max_to, first_from}
use Rattle.cluster.specs.Terms.{most_nodes}
use Rattle.sets.specs.ModelBits.{mask_bits, bit, mask_of, member_of, with_of, union_of, meet_of, difference_of}

-- The cells of the waves from a node: the code's are `WAVES`.
abbrev pub wave_cells : ℕ
wave_cells = suc most_nodes

-- The nodes that the members of a set lead to.
unfoldable pub spread_of : List ℕ → ℕ → ℕ
spread_of leads set = mask_of (λ v. max_to most_nodes (λ u. min (bit set u) (bit (get_or leads u 0) v))) mask_bits

-- A wave, and the nodes of the waves up to it.
pub record Front : Type 0 where
  pub wave : ℕ
  pub seen : ℕ

-- The next wave: the nodes that the last one leads to and that none had before.
abbrev pub next_front : List ℕ → Front → Front
next_front leads f =
    record { wave = difference_of (spread_of leads f.wave) f.seen; seen = union_of f.seen (difference_of (spread_of leads f.wave) f.seen) }

-- Wave k from node b.
unfoldable pub front : List ℕ → ℕ → ℕ → Front
front leads b zero = record { wave = with_of 0 b; seen = with_of 0 b }
front leads b (suc k) = next_front leads (front leads b k)

abbrev pub wave_of : List ℕ → ℕ → ℕ → ℕ
wave_of leads b k = (front leads b k).wave

abbrev pub seen_of : List ℕ → ℕ → ℕ → ℕ
seen_of leads b k = (front leads b k).seen

-- What the waves come to: r is the first that meets the goal, and the cells hold the waves up to it; or, with r = `wave_cells`, none does, and the nodes
-- of the first k + 1 lead to no others.
pub record Waved (leads : List ℕ) (b goal r : ℕ) (waves : List ℕ) : Type 0 where
  pub met : r < wave_cells → (meet_of (wave_of leads b r) goal ≡ 0 → ⊥) × ((j : ℕ) → j < r → meet_of (wave_of leads b j) goal ≡ 0) × ((j : ℕ) → j ≤ r → get_or waves j 0 ≡ wave_of leads b j)
  pub shut : wave_cells ≤ r → (k : ℕ) × (wave_of leads b (suc k) ≡ 0) × ((j : ℕ) → j ≤ k → meet_of (wave_of leads b j) goal ≡ 0)
  pub low : r ≤ wave_cells

-- The first member of a set that leads to v; the width where none does.
unfoldable pub source_of : List ℕ → ℕ → ℕ → ℕ
source_of leads set v = first_from (λ u. member_of set u && member_of (get_or leads u 0) v) mask_bits 0

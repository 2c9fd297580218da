-- How the pairs of a nearest layout are decided one after another: what the sets of nodes that lead to each other have to hold, and how far the layout is.
-- Assumes nothing.
use Rattle.std.specs.Prelude.{ℕ, ◌+◌, ◌^◌, ◌≤◌, ◌<◌, ◌≡◌, List, length, get_or}
use Rattle.sums.specs.TermsSums.{sum_to}
use Rattle.cluster.specs.Terms.{most_nodes}
use Rattle.sets.specs.ModelBits.{bit, bits_at, below_of, count_of}
use Rattle.exchange.specs.ModelRow.{copies}
use Rattle.exchange.specs.ModelPrices.{Potential}
use Rattle.ties.specs.ModelOrder.{any, from, Nearest}
use Rattle.ties.specs.ModelEven.{Even}
use Rattle.ties.proofs.Deciding.{Decided}
use Rattle.swaps.specs.ModelMates.{Mates}
use Rattle.evens.specs.ModelEvens.{Levelled, even_to}

-- Each even exchange of free pairs, and each step over the store between nodes of one level, leads; and no cell leads to a node past the last.
pub record Covers (P N R Z : ℕ) (zone cap : ℕ → ℕ) (g free S : ℕ → ℕ → ℕ) (d : ℕ → ℕ) (leads : List ℕ) : Type 0 where
  pub rows : (q u v : ℕ) → q < P → Even N R Z zone g free S d q u v → bit (get_or leads u 0) v ≡ 1
  pub store : (u v : ℕ) → u < N → v < N → copies P S u < cap u → d v ≡ d u → bit (get_or leads u 0) v ≡ 1
  pub nodes : (u v : ℕ) → u < most_nodes → N ≤ v → v < most_nodes → bit (get_or leads u 0) v ≡ 0

-- The members of a set are the nodes that could give way to b at p.
pub record Givers (N R Z : ℕ) (zone : ℕ → ℕ) (g free S : ℕ → ℕ → ℕ) (d : ℕ → ℕ) (p b goal : ℕ) : Type 0 where
  pub all : (a : ℕ) → Even N R Z zone g free S d p a b → bit goal a ≡ 1
  pub only : (a : ℕ) → a < most_nodes → bit goal a ≡ 1 → Even N R Z zone g free S d p a b

-- Rows of a layout of weight A, with a potential d, whose levels the sets of `even` hold.
pub record Standing (P N R Z : ℕ) (zone cap : ℕ → ℕ) (A : ℕ) (former mates caps even : List ℕ) (d : ℕ → ℕ) (rows : List ℕ) : Type 0 where
  pub zones : Mates N zone mates
  pub capped : (b : ℕ) → b < N → get_or caps b 0 ≡ cap b
  pub levelled : Levelled N d even
  pub long : P ≤ length rows
  pub small : (p : ℕ) → p < P → get_or rows p 0 < 2 ^ N
  pub nearest : Nearest P N R Z zone cap (bits_at former) A (bits_at rows)
  pub potential : Potential P N R Z zone cap (bits_at former) any (bits_at rows) d

-- The pairs before (p, b) are decided, and every even exchange of the others leads.
pub record Ordered (P N R Z : ℕ) (zone cap : ℕ → ℕ) (A : ℕ) (former mates caps even : List ℕ) (d : ℕ → ℕ) (p b : ℕ) (rows leads : List ℕ) : Type 0 where
  pub standing : Standing P N R Z zone cap A former mates caps even d rows
  pub covers : Covers P N R Z zone cap (bits_at former) (from p b) (bits_at rows) d leads
  pub decided : Decided P N R Z zone cap (bits_at former) A p b (bits_at rows)

-- ---- what a step of the ordering does, whatever the caps, zones and weights

module _ (P : ℕ) (former mates caps : List ℕ) (all z : ℕ) (even : List ℕ) (p b : ℕ) where
  -- The order up to (p, b) becomes that up to (p, next), with other rows and cells.
  abbrev pub Keeps : List ℕ → List ℕ → ℕ → List ℕ → List ℕ → Type 0
  Keeps rows leads next rows' leads' =
      (N R : ℕ) (zone cap : ℕ → ℕ) (A : ℕ) (d : ℕ → ℕ) → all ≡ below_of N → b < N
      → Ordered P N R z zone cap A former mates caps even d p b rows leads → Ordered P N R z zone cap A former mates caps even d p next rows' leads'

  -- It does where the row had no b.
  abbrev pub Goes : List ℕ → List ℕ → ℕ → List ℕ → List ℕ → Type 0
  Goes rows leads next rows' leads' =
      (N R : ℕ) (zone cap : ℕ → ℕ) (A : ℕ) (d : ℕ → ℕ) → all ≡ below_of N → b < N → bits_at rows p b ≡ 0
      → Ordered P N R z zone cap A former mates caps even d p b rows leads → Ordered P N R z zone cap A former mates caps even d p next rows' leads'

module _ (P : ℕ) (former mates caps : List ℕ) (N z : ℕ) (even : List ℕ) (p₀ b₀ : ℕ) (rows₀ leads₀ : List ℕ) where
  -- The order up to (p₀, b₀) becomes that up to (p, b), with other rows and cells.
  abbrev pub Reaches : ℕ → ℕ → List ℕ → List ℕ → Type 0
  Reaches p b rows leads =
      (R : ℕ) (zone cap : ℕ → ℕ) (A : ℕ) (d : ℕ → ℕ) → Ordered P N R z zone cap A former mates caps even d p₀ b₀ rows₀ leads₀
      → Ordered P N R z zone cap A former mates caps even d p b rows leads

-- ---- what leads

-- How many members the cells have together.
unfoldable pub members : List ℕ → ℕ
members leads = sum_to most_nodes (λ u. count_of (get_or leads u 0))

-- After the turn of a walk of m arcs the cells have what they had, what the changed rows allow evenly, and for each step over the store the nodes
-- beside the one that it takes a copy from; no others.
pub record Refreshed (rows former : List ℕ) (P : ℕ) (mates : List ℕ) (all z : ℕ) (even y q : List ℕ) (m : ℕ) (old new : List ℕ) : Type 0 where
  pub long : length new ≡ length old
  pub more : (u v : ℕ) → u < most_nodes → v < most_nodes → bit (get_or old u 0) v ≤ bit (get_or new u 0) v
  pub changed : (i u v : ℕ) → i < m → get_or q i 0 < P → u < most_nodes → v < most_nodes → bit (get_or rows (get_or q i 0) 0) u ≡ 1
      → bit (even_to mates all z even (get_or rows (get_or q i 0) 0) (get_or former (get_or q i 0) 0) u) v ≡ 1 → bit (get_or new u 0) v ≡ 1
  pub store : (i v : ℕ) → i < m → P ≤ get_or q i 0 → get_or y i 0 < most_nodes → v < most_nodes → bit (get_or even (most_nodes + get_or y i 0) 0) v ≡ 1
      → bit (get_or new (get_or y i 0) 0) v ≡ 1
  pub only : (v : ℕ) → v < most_nodes → ((u : ℕ) → u < most_nodes → bit (get_or old u 0) v ≡ 0)
      → ((i u : ℕ) → i < m → u < most_nodes → bit (even_to mates all z even (get_or rows (get_or q i 0) 0) (get_or former (get_or q i 0) 0) u) v ≡ 0)
      → ((i : ℕ) → i < m → bit (get_or even (most_nodes + get_or y i 0) 0) v ≡ 0) → (u : ℕ) → u < most_nodes → bit (get_or new u 0) v ≡ 0

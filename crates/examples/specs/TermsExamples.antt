-- The starred examples of document 01's table, as one table with one proposition: "Those with a star are proved of the terms above, collected
-- in one table with one proposition". They are stated of layouts, size and copies to be sent as crates/cluster/specs/Terms.antt defines them,
-- for all layouts, and of no program. Request 2026-01 replaced the distances: "Examples E, F, H, I and K now read 2, 1, 1, 0 and 1; A and L keep their
-- numbers." Since 2026-03 each has one layout, the first of the nearest, so that all lines name their rows; the paper's table does for C, E and L, where
-- no other layout is nearest. "Box" in the paper is a node here.
-- Assumes nothing.
use Rattle.std.specs.Prelude.{ℕ, ◌≡◌, List, [], ◌∷◌, replicate}
use Rattle.cluster.specs.Terms.{Topology, Layout, ValidAt, IsSize, IsFormer, sent}
use Rattle.cluster.specs.TermsReading.{Accepted}
use Rattle.cluster.specs.TermsFirst.{First}
use Rattle.cluster.specs.declared.Node.{Node}

-- ---- what an example says

-- The column "outcome": 9, that no layout is valid at size 1; or the size, the copies to be sent, and the layout.
pub data Expected : Type 0 where
  no-layout : Expected
  planned : ℕ → ℕ → Layout → Expected

-- A line of the table: "k, R, Z" and "boxes" are the topology, then "former" and "outcome".
pub record Example : Type 0 where
  pub topology : Topology
  pub former : Layout
  pub outcome : Expected

-- ---- what it means

-- Size s is the cluster's; and L, which sends d copies, is the first of the layouts valid at it that send the fewest.
pub record Planned (t : Topology) (F : Layout) (s d : ℕ) (L : Layout) : Type 0 where
  pub size : IsSize t s
  pub sends : sent t L F ≡ d
  pub first : First t F s L

-- The outcome comes about. "9: no layout is valid at size 1."
abbrev pub Comes : Topology → Layout → Expected → Type 0
Comes t F no-layout = (L : Layout) → ValidAt t L 1 → ⊥
Comes t F (planned s d L) = Planned t F s d L

-- An example holds: cluster and former layout are such as planning accepts, so that 6, 4 and 5 are no outcome, and the outcome is the one
-- named.
pub record Holds (e : Example) : Type 0 where
  pub accepted : Accepted e.topology
  pub is_former : IsFormer e.topology e.former
  pub comes : Comes e.topology e.former e.outcome

-- ---- the columns

-- "Boxes as id/zone/capacity."; 2026-05: "The examples carry 256".
abbrev pub node : ℕ → ℕ → ℕ → Node
node i z c = record { id = i; zone = z; capacity = c; ceiling = 256 }

-- "k, R, Z", and the boxes.
abbrev pub cluster : ℕ → ℕ → ℕ → List Node → Topology
cluster k r z nodes = record { bits = k; replication = r; redundancy = z; nodes = nodes }

-- Former "none", of so many partitions: "A partition without a row had no former copies."
abbrev pub no_copies : ℕ → Layout
no_copies partitions = replicate partitions []

abbrev pub line : Topology → Layout → Expected → Example
line t F o = record { topology = t; former = F; outcome = o }

-- Rows of one id.
abbrev pub one : ℕ → List ℕ
one i = i ∷ []

-- ---- the lines. C and G name no number: with no former copies it is "R times P".

abbrev pub nodes_a : List Node
nodes_a = node 1 1 100 ∷ node 2 1 70 ∷ node 3 2 50 ∷ []

-- The row 1 2 3.
abbrev pub row123 : List ℕ
row123 = 1 ∷ 2 ∷ 3 ∷ []

-- A: 1, 3, 2; 1/1/100 2/1/70 3/2/50; none; size 25, by 2026-02 "size 23", sent 6.
abbrev pub A : Example
A = line (cluster 1 3 2 nodes_a) (no_copies 2) (planned 23 6 (row123 ∷ row123 ∷ []))

-- B: 1, 3, 3; as A; none; 9.
abbrev pub B : Example
B = line (cluster 1 3 3 nodes_a) (no_copies 2) no-layout

-- C: 0, 1, 1; 1/1/5 2/1/9; none; size 9, row 2.
abbrev pub C : Example
C = line (cluster 0 1 1 (node 1 1 5 ∷ node 2 1 9 ∷ [])) (no_copies 1) (planned 9 1 (one 2 ∷ []))

-- E: 1, 1, 1; 1/1/10 2/1/4; 0: 2, 1: 2; size 5, rows 1, 1, sent 2.
abbrev pub E : Example
E = line (cluster 1 1 1 (node 1 1 10 ∷ node 2 1 4 ∷ [])) (one 2 ∷ one 2 ∷ []) (planned 5 2 (one 1 ∷ one 1 ∷ []))

-- F: 1, 1, 1; 1/1/10 2/1/10; 0: 1, 1: 1; size 10, sent 1. Rows 2, 1 send as few and come after rows 1, 2.
abbrev pub F : Example
F = line (cluster 1 1 1 (node 1 1 10 ∷ node 2 1 10 ∷ [])) (one 1 ∷ one 1 ∷ []) (planned 10 1 (one 1 ∷ one 2 ∷ []))

-- G: 2, 1, 1; 1/1/c; none; an outcome for each c.
abbrev pub G : ℕ → Expected → Example
G c o = line (cluster 2 1 1 (node 1 1 c ∷ [])) (no_copies 4) o

-- Its four rows 1.
abbrev pub four : Layout
four = replicate 4 (one 1)

-- H: 0, 1, 1; 1/1/10; 0: 9; size 10, sent 1.
abbrev pub H : Example
H = line (cluster 0 1 1 (node 1 1 10 ∷ [])) (one 9 ∷ []) (planned 10 1 (one 1 ∷ []))

-- I: 0, 1, 1; 1/1/5 2/1/5; 0: 1 2; size 5, sent 0. Row 2 sends as few and comes after row 1.
abbrev pub I : Example
I = line (cluster 0 1 1 (node 1 1 5 ∷ node 2 1 5 ∷ [])) ((1 ∷ 2 ∷ []) ∷ []) (planned 5 0 (one 1 ∷ []))

abbrev pub nodes_k : List Node
nodes_k = node 1 1 9 ∷ node 2 1 9 ∷ node 3 1 9 ∷ node 4 2 1 ∷ []

-- K: 0, 3, 2; 1/1/9 2/1/9 3/1/9 4/2/1; 0: 1 2 3; size 1, sent 1. Rows 1 3 4 and 2 3 4 send as few and come after row 1 2 4.
abbrev pub K : Example
K = line (cluster 0 3 2 nodes_k) (row123 ∷ []) (planned 1 1 ((1 ∷ 2 ∷ 4 ∷ []) ∷ []))

-- L: 0, 3, 1; as K; as K; size 9, row 1 2 3, sent 0.
abbrev pub L : Example
L = line (cluster 0 3 1 nodes_k) (row123 ∷ []) (planned 9 0 (row123 ∷ []))

-- ---- the table and its proposition

-- The starred lines. G: "c = 3: 9; 4 and 7: size 1; 8: size 2".
abbrev pub table : List Example
table =
    A ∷ B ∷ C ∷ E ∷ F ∷ G 3 no-layout ∷ G 4 (planned 1 4 four) ∷ G 7 (planned 1 4 four) ∷ G 8 (planned 2 4 four) ∷ H ∷ I ∷ K ∷ L ∷ []

-- Every example of a list holds.
abbrev pub EveryHolds : List Example → Type 0
EveryHolds [] = Unit {0}
EveryHolds (e ∷ es) = Holds e × EveryHolds es

-- The one proposition: every starred example holds.
abbrev pub Table : Type 0
Table = EveryHolds table

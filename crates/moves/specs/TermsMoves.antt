-- The list of moves (2026-07): which steps lead from a former layout to a new one, and what is held after any number of them.
-- Assumes nothing.
use Rattle.std.specs.Prelude.{ℕ, zero, suc, ◌+◌, ◌/◌, ◌%◌, ◌≤◌, ◌<◌, ◌≡◌, ◌⊎◌, true, cond, List, [], ◌∷◌, ◌++◌, map, ltb, eqb, length, take, drop, get_or}
use Rattle.sums.specs.TermsSums.{tab}
use Rattle.cluster.specs.Terms.{wide_row_cells, wide_cells, Topology, partitions, ids_of, mem, Layout, row, row_of, ids_in}

-- ---- rows of sixteen cells

-- "former rows here have sixteen cells, 4,096 in all": the first n rows of lent cells, as a layout.
unfoldable pub wide_rows_in : ℕ → List ℕ → Layout
wide_rows_in n cells = tab (λ p. ids_in (row_of wide_row_cells cells p)) n

-- The cells of rows: cell 16 p + j holds id j of row p, and 0 where there is none.
unfoldable pub wide_cells_of : (ℕ → List ℕ) → List ℕ
wide_cells_of H = tab (λ c. get_or (H (c / wide_row_cells)) (c % wide_row_cells) 0) wide_cells

-- ---- the moves

-- "A step holds kind (0 send, 1 drop), partition, box and source": a step without its source.
pub record Move : Type 0 where
  pub kind : ℕ
  pub partition : ℕ
  pub node : ℕ

abbrev pub send : ℕ → ℕ → Move
send p i = record { kind = 0; partition = p; node = i }

abbrev pub discard : ℕ → ℕ → Move
discard p i = record { kind = 1; partition = p; node = i }

-- "still in the cluster": the ids of a row that nodes of the cluster have, in their order. "Drops at gone boxes aren't listed": only these count.
unfoldable pub surviving : Topology → List ℕ → List ℕ
surviving t [] = []
surviving t (x ∷ xs) = cond (mem x (ids_of t.nodes)) (x ∷ surviving t xs) (surviving t xs)

-- What is held of partition p before the first step: "its surviving former copies".
unfoldable pub survivors : Topology → Layout → ℕ → List ℕ
survivors t F p = surviving t (row F p)

-- The ids of the first row that do not stand in the second, in their order.
unfoldable pub missing : List ℕ → List ℕ → List ℕ
missing [] r = []
missing (x ∷ xs) r = cond (mem x r) (missing xs r) (x ∷ missing xs r)

-- "first the sends, by rising receiving id, then the drops, by rising id"
unfoldable pub row_moves : ℕ → List ℕ → List ℕ → List Move
row_moves p old new = map (send p) (missing new old) ++ map (discard p) (missing old new)

-- "partition by partition": the moves of the partitions p, p + 1, .., n of them.
unfoldable pub moves_from : (ℕ → List ℕ) → (ℕ → List ℕ) → ℕ → ℕ → List Move
moves_from H L p zero = []
moves_from H L p (suc n) = row_moves p (H p) (L p) ++ moves_from H L (suc p) n

-- "From former layout, cluster and new layout": the moves from F to L.
unfoldable pub moves_of : Topology → Layout → Layout → List Move
moves_of t F L = moves_from (survivors t F) (row L) 0 (partitions t)

-- "the source is 0 for a drop, for a send the lowest former id still in the cluster, or 0 where no former box is left"
unfoldable pub source_of : Topology → Layout → Move → ℕ
source_of t F m = cond (eqb m.kind 0) (get_or (survivors t F m.partition) 0 0) 0

-- "kind (0 send, 1 drop), partition, box and source, a cell each"
abbrev pub step_width : ℕ
step_width = 4

unfoldable pub step_cells : Topology → Layout → List Move → List ℕ
step_cells t F [] = []
step_cells t F (m ∷ ms) = m.kind ∷ m.partition ∷ m.node ∷ source_of t F m ∷ step_cells t F ms

-- ---- what is held after some moves

-- A rising row with an id put in,
unfoldable pub put_in : ℕ → List ℕ → List ℕ
put_in i [] = i ∷ []
put_in i (x ∷ xs) = cond (ltb i x) (i ∷ x ∷ xs) (x ∷ put_in i xs)

-- and with an id taken out.
unfoldable pub take_out : ℕ → List ℕ → List ℕ
take_out i [] = []
take_out i (x ∷ xs) = cond (eqb i x) xs (x ∷ take_out i xs)

-- A copy is held once its send is made, and no more once its drop is made.
unfoldable pub changed : Move → List ℕ → List ℕ
changed m r = cond (eqb m.kind 0) (put_in m.node r) (take_out m.node r)

-- What is held of each partition after a move,
unfoldable pub made : Move → (ℕ → List ℕ) → ℕ → List ℕ
made m H p = cond (eqb p m.partition) (changed m (H p)) (H p)

-- and after several.
unfoldable pub after : List Move → (ℕ → List ℕ) → ℕ → List ℕ
after [] H = H
after (m ∷ ms) H = after ms (made m H)

-- "Power may go after any number of steps": what is then held of each partition "in the boxes of the cluster".
unfoldable pub held : Topology → Layout → Layout → ℕ → ℕ → List ℕ
held t F L k = after (take k (moves_of t F L)) (survivors t F)

-- ---- what is promised

-- All of the first stand in the second.
abbrev pub AllIn : List ℕ → List ℕ → Type 0
AllIn l r = (i : ℕ) → mem i l ≡ true → mem i r ≡ true

-- "Each partition then has all its surviving former copies or all its new ones"
abbrev pub KeptWhole : Topology → Layout → Layout → Type 0
KeptWhole t F L = (k p : ℕ) → p < partitions t → AllIn (survivors t F p) (held t F L k p) ⊎ AllIn (row L p) (held t F L k p)

-- "where no partition's surviving and new ids together pass sixteen"
abbrev pub FitsSixteen : Topology → Layout → Layout → Type 0
FitsSixteen t F L = (p : ℕ) → p < partitions t → length (survivors t F p) + length (missing (row L p) (survivors t F p)) ≤ wide_row_cells

-- The former layout of a list made afresh after k steps: what is held, "in the boxes of the cluster", in rows of sixteen cells.
unfoldable pub held_again : Topology → Layout → Layout → ℕ → Layout
held_again t F L k = wide_rows_in (partitions t) (wide_cells_of (held t F L k))

-- "a list made afresh from what is held .. has the same steps that were left, their sources excepted, and ends in the new layout": after every
-- number k of steps. After j of its steps what is held is what the first list would have come to, and the sixteen suffice again: so power may go
-- again and again.
pub record Resumes (t : Topology) (F L : Layout) (k : ℕ) : Type 0 where
  pub same : moves_of t (held_again t F L k) L ≡ drop k (moves_of t F L)
  pub ends : (p : ℕ) → p < partitions t → held t (held_again t F L k) L (length (moves_of t (held_again t F L k) L)) p ≡ row L p
  pub onward : (j p : ℕ) → p < partitions t → held t (held_again t F L k) L j p ≡ held t F L (k + j) p
  pub again : FitsSixteen t (held_again t F L k) L

-- A send's source has the copy when the step is made: where m is the step after the first k, its source, unless it is 0, stands among what is held
-- of the partition then.
abbrev pub SourcesHold : Topology → Layout → Layout → Type 0
SourcesHold t F L = (k : ℕ) (m : Move) (ms : List Move) → drop k (moves_of t F L) ≡ m ∷ ms → (source_of t F m ≡ 0 → ⊥)
    → mem (source_of t F m) (held t F L k m.partition) ≡ true

-- How many of some moves are sends.
unfoldable pub sends : List Move → ℕ
sends [] = 0
sends (m ∷ ms) = cond (eqb m.kind 0) (suc (sends ms)) (sends ms)

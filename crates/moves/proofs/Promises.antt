-- What is promised of the list of moves (2026-07): whole partitions after any number of steps, sources that hold what they send, the same steps made
-- afresh from what is held, and the new layout at the end.
-- Assumes nothing.
use Prim.Native.Nat.{ℕ, ◌+◌, ◌≤◌, ◌<◌}
use mathlib.Core.Path.{◌≡◌, refl, sym, ap, ◌∙◌}
use mathlib.Core.Logic.{◌⊎◌, inl, inr, ⊎_elim}
use mathlib.Core.List.{List, [], ◌∷◌, ◌++◌}
use mathlib.Core.Bool.{Bool, true, false, false≢true, cond}
use native.Mathlib.Omega.{arith}
use lib.Dec.{eqb}
use lib.ListN.{length, take, drop, get_or, get_or-eq_default}
use lib.Seq.{take-add, drop-length}
use borrow.Author.Tests.{eqb-true}
use Rattle.sums.specs.TermsSums.{tab}
use Rattle.sums.proofs.Sum.{lt_or_ge, sum_cong}
use Rattle.cells.proofs.Cells.{get_or_tab}
use Rattle.cluster.specs.Terms.{most_copies, buffer_rows, wide_row_cells, Topology, partitions, ids_of, mem, rising, Layout, row, ValidRow, only_in, sent, row_of, formed}
use Rattle.cluster.proofs.Lists.{mem_head, rising_none}
use Rattle.moves.specs.TermsMoves.{wide_rows_in, wide_cells_of, Move, surviving, survivors, missing, moves_of, source_of, after, held, AllIn, KeptWhole, FitsSixteen, held_again, Resumes, SourcesHold, sends}
use Rattle.moves.proofs.Missing.{missing_cong, missing_few, surviving_known, all_survive, mem-surviving, rising-surviving, surviving_few}
use Rattle.moves.proofs.Interrupted.{after_cong, after-append, Cut, moves_cong, one-step, cut, none_left}
use Rattle.moves.proofs.Sends.{sends-from}
use Rattle.moves.proofs.WideRows.{length_wide_rows, cells-formed, wide_read, wide_again}
pub use Rattle.moves.proofs.Missing.{length-missing}
pub use Rattle.moves.proofs.WideRows.{length-wide_cells}

-- ---- a source

-- The first of some numbers is one of them, or there is none, and 0 is read.
first-mem : (l : List ℕ) → (get_or l 0 0 ≡ 0) ⊎ (mem (get_or l 0 0) l ≡ true)
first-mem [] = inl refl
first-mem (x ∷ xs) = inr (mem_head x x xs refl)

-- A source is 0, or that of a send, and then a surviving former copy.
source_survives : (t : Topology) (F : Layout) (m : Move)
    → (source_of t F m ≡ 0) ⊎ ((m.kind ≡ 0) × (mem (source_of t F m) (survivors t F m.partition) ≡ true))
unfolding source_of
source_survives t F m = go (eqb m.kind 0) refl
  where
    go : (b : Bool) → eqb m.kind 0 ≡ b
        → (cond b (get_or (survivors t F m.partition) 0 0) 0 ≡ 0)
        ⊎ ((m.kind ≡ 0) × (mem (cond b (get_or (survivors t F m.partition) 0 0) 0) (survivors t F m.partition) ≡ true))
    go true e = ⊎_elim (λ z. inl z) (λ h. inr (eqb-true m.kind 0 e, h)) (first-mem (survivors t F m.partition))
    go false e = inl refl

-- ---- rows that rise

-- A layout of P rows has no ids past them; so rows that rise below P rise everywhere,
rows_rise : (t : Topology) (F : Layout) → length F ≡ partitions t → ((p : ℕ) → p < partitions t → rising (row F p) ≡ true)
    → (p : ℕ) → rising (row F p) ≡ true
rows_rise t F e h p =
    ⊎_elim (λ l. h p l) (λ l. ap (λ (r : List ℕ). rising r) (get_or-eq_default F [] (omega (arith, e))) ∙ rising_none 0) (lt_or_ge p (partitions t))

-- and so do their survivors.
survivors_rise : (t : Topology) (F : Layout) → length F ≡ partitions t → ((p : ℕ) → p < partitions t → rising (row F p) ≡ true)
    → (p : ℕ) → rising (survivors t F p) ≡ true
unfolding survivors
survivors_rise t F e h p = rising-surviving t 0 (row F p) (rows_rise t F e h p)

-- ---- any number of moves

module _ (t : Topology) (F L : Layout) (former : (p : ℕ) → rising (survivors t F p) ≡ true) (new : (p : ℕ) → rising (row L p) ≡ true) where
  -- The first k moves made: the moves left are those from what is held then.
  some-made : (k : ℕ) → Cut (survivors t F) (row L) (partitions t) (held t F L k) (drop k (moves_of t F L))
  unfolding held moves_of
  some-made k = cut (row L) (partitions t) new k (moves_of t F L) (survivors t F) former refl

  -- All of them made: the new rows are held.
  all_made : (p : ℕ) → p < partitions t → held t F L (length (moves_of t F L)) p ≡ row L p
  all_made p h =
      let n = length (moves_of t F L) in
      let c = some-made n in
      none_left (row L) (partitions t) new (held t F L n) c.between.rises 0 (partitions t) (c.same ∙ drop-length (moves_of t F L)) p (omega arith)
      (omega arith)

-- ---- the promises

module _ (t : Topology) (F L : Layout) (few : partitions t ≤ buffer_rows)
    (former-rows : length F ≡ partitions t) (former : (p : ℕ) → p < partitions t → rising (row F p) ≡ true)
    (new-rows : length L ≡ partitions t) (new : (p : ℕ) → p < partitions t → ValidRow t (row L p)) where
  -- The survivors rise,
  old_rise : (p : ℕ) → rising (survivors t F p) ≡ true
  old_rise = survivors_rise t F former-rows former

  -- and so do the new rows.
  new_rise : (p : ℕ) → rising (row L p) ≡ true
  new_rise = rows_rise t L new-rows (λ p h. (new p h).ids)

  -- The first k moves made.
  made_until : (k : ℕ) → Cut (survivors t F) (row L) (partitions t) (held t F L k) (drop k (moves_of t F L))
  made_until = some-made t F L old_rise new_rise

  -- After any number of steps each partition has all its surviving former copies or all its new ones.
  pub kept_whole : KeptWhole t F L
  kept_whole k p h = (made_until k).between.whole p (survivors t F p) (inl (λ i m. m))

  -- After all of them the new layout is held.
  pub ends_new : (p : ℕ) → p < partitions t → held t F L (length (moves_of t F L)) p ≡ row L p
  ends_new = all_made t F L old_rise new_rise

  -- What is held rises at any time.
  pub held_rises : (k p : ℕ) → p < partitions t → rising (held t F L k p) ≡ true
  held_rises k p h = (made_until k).between.rises p

  -- A send's source has the copy when the step is made: the send's id is missing then, so not all new copies are there, and all survivors are.
  pub sources_hold : SourcesHold t F L
  sources_hold k m ms e some =
      let c = made_until k in
      let s = one-step (held t F L k) (row L) c.between.rises new_rise 0 (partitions t) m ms (c.same ∙ e) in
      ⊎_elim (λ z. absurd (some z))
      (λ w. let x = s.wanted w.0 in
      ⊎_elim (λ all. all (source_of t F m) w.1) (λ all. absurd (false≢true (sym x.1 ∙ all m.node x.0)))
      (c.between.whole m.partition (survivors t F m.partition) (inl (λ i h. h))))
      (source_survives t F m)

  -- The sends are the copies to be sent: no new id is one of a gone node.
  pub sends-sent : sends (moves_of t F L) ≡ sent t L F
  unfolding moves_of sent survivors
  sends-sent =
      sends-from (survivors t F) (row L) 0 (partitions t)
      ∙ sum_cong (partitions t) (λ p. length (missing (row L (0 + p)) (survivors t F (0 + p)))) (λ p. only_in (row L p) (row F p))
      (λ p h. let e : 0 + p ≡ p = omega arith in
      ap (λ (q : ℕ). length (missing (row L q) (survivors t F q))) e
      ∙ (ap length (missing_cong (row L p) (survivors t F p) (row F p) (λ i m. mem-surviving t i (row F p) ((new p h).known i m)))
      ∙ length-missing (row L p) (row F p)))

  -- Former rows of at most eight ids and new rows of at most eight fit sixteen.
  pub eight_fit : ((p : ℕ) → p < partitions t → length (row F p) ≤ most_copies) → t.replication ≤ most_copies → FitsSixteen t F L
  unfolding survivors
  eight_fit h r p l =
      omega (arith, surviving_few t (row F p), h p l, missing_few (row L p) (survivors t F p), (new p l).many)

  -- What is held names nodes of the cluster alone.
  held_known : (k p : ℕ) → p < partitions t → AllIn (held t F L k p) (ids_of t.nodes)
  unfolding survivors
  held_known k p h i m = ⊎_elim (λ y. surviving_known t (row F p) i y) (λ y. (new p h).known i y) ((made_until k).between.within p i m)

  -- Where the sixteen suffice.
  module _ (room : FitsSixteen t F L) where
    -- No row that is held has more ids than sixteen.
    pub held_few : (k p : ℕ) → p < partitions t → length (held t F L k p) ≤ wide_row_cells
    held_few k p h = omega (arith, room p h, (made_until k).between.room p)

    -- The cells of what is held, whatever follows them, are rows of rising ids and zeros,
    pub held-formed : (k p : ℕ) (rest : List ℕ) → p < partitions t → formed (row_of wide_row_cells (wide_cells_of (held t F L k) ++ rest) p) ≡ true
    held-formed k p rest h = cells-formed (held t F L k) rest p (omega arith) (held_few k p h) (held_rises k p h)

    -- it is itself the former layout of a list made afresh,
    again_held : (k : ℕ) → held_again t F L k ≡ tab (held t F L k) (partitions t)
    unfolding held_again
    again_held k = wide_again (held t F L k) (partitions t) few (held_few k) (held_rises k)

    -- it is read from its cells, whatever follows them,
    pub held-read : (k : ℕ) (rest : List ℕ) → wide_rows_in (partitions t) (wide_cells_of (held t F L k) ++ rest) ≡ held_again t F L k
    held-read k rest = wide_read (held t F L k) rest (partitions t) few (held_few k) (held_rises k) ∙ sym (again_held k)

    -- and so it is row by row.
    pub held_again_lem : (k p : ℕ) → p < partitions t → row (held_again t F L k) p ≡ held t F L k p
    held_again_lem k p h = ap (λ (K : Layout). row K p) (again_held k) ∙ get_or_tab (held t F L k) (partitions t) p [] h

    -- All of it survives.
    survives_again : (k p : ℕ) → p < partitions t → survivors t (held_again t F L k) p ≡ held t F L k p
    unfolding survivors
    survives_again k p h =
        ap (λ (r : List ℕ). surviving t r) (held_again_lem k p h) ∙ all_survive t (held t F L k p) (held_known k p h)

    -- There is a row for each partition.
    rows_again : (k : ℕ) → length (held_again t F L k) ≡ partitions t
    unfolding held_again
    rows_again k = length_wide_rows (partitions t) (wide_cells_of (held t F L k))

    -- Its first j steps come to what the first k + j of the first list do.
    goes_on : (k j p : ℕ) → moves_of t (held_again t F L k) L ≡ drop k (moves_of t F L) → p < partitions t
        → held t (held_again t F L k) L j p ≡ held t F L (k + j) p
    unfolding held
    goes_on k j p e h =
        let ms = moves_of t F L in
        ap (λ (l : List Move). after (take j l) (survivors t (held_again t F L k)) p) e
        ∙ (after_cong (take j (drop k ms)) (survivors t (held_again t F L k)) (held t F L k) p (survives_again k p h)
        ∙ (ap (λ (K : ℕ → List ℕ). K p) (sym (after-append (take k ms) (take j (drop k ms)) (survivors t F)))
        ∙ ap (λ (l : List Move). after l (survivors t F) p) (sym (take-add k j ms))))

    -- And they are the steps that were left.
    same_again : (k : ℕ) → moves_of t (held_again t F L k) L ≡ drop k (moves_of t F L)
    unfolding moves_of
    same_again k =
        moves_cong (survivors t (held_again t F L k)) (held t F L k) (row L) 0 (partitions t) (λ q l u. survives_again k q (omega arith)) ∙ (made_until k).same

    -- A list made afresh after any number of steps has the steps that were left, ends in the new layout, and the sixteen suffice again.
    pub resumes : (k : ℕ) → Resumes t F L k
    resumes k = record {
      same = same_again k;
      ends = all_made t (held_again t F L k) L
          (survivors_rise t (held_again t F L k) (rows_again k) (λ p h. ap (λ (r : List ℕ). rising r) (held_again_lem k p h) ∙ held_rises k p h)) new_rise;
      onward = λ j p h. goes_on k j p (same_again k) h;
      again = λ p h.
          let e = survives_again k p h in
          omega (arith, room p h, (made_until k).between.room p, ap (λ (r : List ℕ). length r + length (missing (row L p) r)) e);
    }

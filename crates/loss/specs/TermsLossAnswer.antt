-- What is answered of losses (2026-08): the refusals in their order, the number of partitions, and for the worst loss the nodes.
-- Assumes nothing.
use Rattle.std.specs.Prelude.{ℕ, ◌-◌, ◌≤◌, ◌<◌, ◌≡◌, Bool, true, ◌||◌, cond, List, [], Result, Ok, Err, ◌++◌, ltb, eqb, length, replicate}
use Rattle.cluster.specs.Terms.{most_nodes, layout_cells, topology, partitions, Layout, ids_in, rows_in}
use Rattle.cluster.specs.declared.Cluster.{Cluster}
use Rattle.layouts.specs.TermsCheck.{Checked, fault, check_of}
use Rattle.loss.specs.TermsLoss.{most_lost, loss_of, IsWorst, worst_set}
use Rattle.cluster.specs.TermsRefusal.{number_of}
use Rattle.layouts.specs.declared.check.Fault.{Fault}
use Rattle.loss.specs.declared.worst.Worst.{Worst}

-- The layout in lent cells.
abbrev pub layout_in : Cluster → List ℕ → Layout
layout_in c assignment = rows_in (partitions (topology c)) assignment

-- ---- of so many nodes

-- "a number above 4 or above the number of boxes"
unfoldable pub too_many : Cluster → ℕ → Bool
too_many c number = ltb most_lost number || ltb c.count number

-- "It refuses what check refuses at size 1, in check's order, with 4 also for a number above 4 or above the number of boxes": 8, 6, 4, and then what
-- check refuses of the rest. A 4 has no place, whichever number it is for.
unfoldable pub loss_fault : Cluster → List ℕ → ℕ → Checked
loss_fault c assignment number =
    cond (ltb (length assignment) layout_cells) (fault 8 0)
    (cond (ltb most_nodes c.count) (fault 6 0) (cond (too_many c number) (fault 4 0) (check_of c assignment 1)))

-- The worst set of so many nodes.
unfoldable pub worst_in : Cluster → List ℕ → ℕ → List ℕ
worst_in c assignment number = worst_set (topology c) (layout_in c assignment) number

-- What is answered: a refusal, 0 for none, its place, as check answers it; the number of partitions that are lost; and the ids of the nodes, rising,
-- then zeros. The numbers are 0 where it is refused.
pub record Loss : Type 0 where
  pub refusal : ℕ
  pub place : ℕ
  pub lost : ℕ
  pub nodes : List ℕ

-- An answer: the ids rise, and zeros follow.
abbrev pub loss : ℕ → ℕ → ℕ → List ℕ → Loss
loss refusal place lost nodes = record { refusal = refusal; place = place; lost = lost; nodes = nodes ++ replicate (most_lost - length nodes) 0 }

-- A worst loss as these numbers.
abbrev pub worst_as : Result Worst Fault → Loss
worst_as (Ok w) = record { refusal = 0; place = 0; lost = w.lost; nodes = w.nodes }
worst_as (Err f) = loss (number_of f.refusal) f.place 0 []

-- "answer the most partitions that can lose every copy, and the first set of boxes by rising ids that costs so many"; refused, all numbers are 0.
unfoldable pub worst_loss : Cluster → List ℕ → ℕ → Loss
worst_loss c assignment number =
    let f = loss_fault c assignment number in
    let X = worst_in c assignment number in
    cond (eqb f.refusal 0) (loss 0 0 (loss_of (layout_in c assignment) X) X) (loss f.refusal f.place 0 [])

-- What a caller can build on.
pub record LossOwed (c : Cluster) (assignment : List ℕ) (number : ℕ) (r : Loss) : Type 0 where
  -- "It refuses what check refuses at size 1": of a number in its range refusal and place are those of check;
  pub refuses : number ≤ most_lost → number ≤ c.count → fault r.refusal r.place ≡ check_of c assignment 1
  -- any other number is refused.
  pub over : too_many c number ≡ true → r.refusal ≡ 0 → ⊥
  -- The answer is the most, and its nodes are the first that cost so many.
  pub worst : r.refusal ≡ 0 → IsWorst (topology c) (layout_in c assignment) number r.lost (ids_in r.nodes)
  -- Fewer nodes than there are copies of a partition cost nothing.
  pub safe : number < c.replication → r.lost ≡ 0

-- ---- of given nodes

-- What is answered: a refusal, 0 for none, its place, as check answers it, and the number of partitions that are lost; 0 where it is refused.
pub record Lost : Type 0 where
  pub refusal : ℕ
  pub place : ℕ
  pub lost : ℕ

abbrev pub lost_with : ℕ → ℕ → ℕ → Lost
lost_with refusal place lost = record { refusal = refusal; place = place; lost = lost }

-- An answer as these numbers.
abbrev pub lost_as : Result ℕ Fault → Lost
lost_as (Ok lost) = lost_with 0 0 lost
lost_as (Err f) = lost_with (number_of f.refusal) f.place 0

-- How many partitions are lost with the nodes whose ids are given, whichever ids these are; it refuses what check refuses at size 1, and then the number is 0.
unfoldable pub given_loss : Cluster → List ℕ → List ℕ → Lost
given_loss c assignment given =
    let f = check_of c assignment 1 in
    cond (eqb f.refusal 0) (lost_with 0 0 (loss_of (layout_in c assignment) given)) (lost_with f.refusal f.place 0)

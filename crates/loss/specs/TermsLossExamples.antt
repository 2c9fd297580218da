-- The worst loss on lines of the paper's table, stated of the terms as the table's own lines are, and as one table with one proposition.
-- Assumes nothing.
use Rattle.std.specs.Prelude.{ℕ, List, [], ◌∷◌}
use Rattle.cluster.specs.Terms.{Layout}
use Rattle.examples.specs.TermsExamples.{Expected, no-layout, planned, Example, A, C, E, one, row123}
use Rattle.loss.specs.TermsLoss.{IsWorst}

-- A line: of this example, with so many nodes lost, so many partitions are lost at worst, and first with these nodes.
pub record Lossy : Type 0 where
  pub example : Example
  pub number : ℕ
  pub lost : ℕ
  pub nodes : List ℕ

-- The layout that the example names.
abbrev layout_of : Expected → Layout
layout_of no-layout = []
layout_of (planned s d L) = L

abbrev pub WorstHolds : Lossy → Type 0
WorstHolds l = IsWorst l.example.topology (layout_of l.example.outcome) l.number l.lost l.nodes

abbrev pub line : Example → ℕ → ℕ → List ℕ → Lossy
line e number lost nodes = record { example = e; number = number; lost = lost; nodes = nodes }

-- "On example A two boxes cost 0 and three cost 2." None cost nothing. Where only box 2 has copies (C), it is box 2; with all boxes lost all is.
abbrev pub loss_table : List Lossy
loss_table = line A 0 0 [] ∷ line A 2 0 (1 ∷ 2 ∷ []) ∷ line A 3 2 row123 ∷ line C 1 1 (one 2) ∷ line E 2 2 (1 ∷ 2 ∷ []) ∷ []

-- The one proposition: every line holds.
abbrev pub EveryWorst : List Lossy → Type 0
EveryWorst [] = Unit
EveryWorst (l ∷ ls) = WorstHolds l × EveryWorst ls

abbrev pub LossTable : Type 0
LossTable = EveryWorst loss_table

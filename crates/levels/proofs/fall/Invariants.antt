-- `levels::fall` meets its contract: the members of near that are not left have offered the distance.
-- Assumes nothing.
use Prim.Native.Nat.{ℕ}
use mathlib.Core.List.{List}
use Rattle.levels.specs.ModelTurns.{Taken, leads_to}
use Rattle.levels.proofs.Visits.{Passed}
use Rattle.levels.proofs.fall.Given as goal

-- Between two offers.
pub record Offering (arcs : List ℕ) (near even up free c : ℕ) (next₀ row₀ next row : List ℕ) (still left : ℕ) : Type 0 where
  pub upto : ℕ
  pub passed : Passed near left upto
  pub taken : Taken near (leads_to arcs even up) upto free still c next₀ row₀ next row

abbrev pub invariant-loop-u : goal.invariant-loop-u
invariant-loop-u l = Offering l.arcs l.near l.even l.up l.free l.c l.initial.next l.initial.row l.next l.row l.still l.u-iterator.left

-- The two tests that come before an operation: whether the cells of the answer are enough, and whether the record is refused.
-- Assumes nothing.
use Prim.Native.Nat.{ℕ, ◌≤◌, ◌<◌}
use mathlib.Core.Path.{◌≡◌}
use mathlib.Core.List.{List}
use lib.ListN.{length}
use borrow.Author.Tests.{lt-ltb, le-ltb, eq-eqb, ne_eqb}
use Rattle.std.proofs.Common.{Result, Ok, Err}
use Rattle.std.specs.Result.{OnOk}
use Rattle.fields.specs.declared.Refused.{Refused}
use Rattle.layouts.proofs.FaultScan.{number-some}
use Rattle.cluster_record.specs.RecordClusterAnswer.{ReadCluster, read_as}
use Rattle.answers.specs.declared.stopped.Stopped.{Stopped}
use Rattle.answers.specs.TermsAnswers.{unless_short, after_reading}
use Rattle.answers.specs.TermsStopped.{told_of}

module _ {A : Type 0} where
  pub short : {x : A} (y : A) (n : ℕ) (answer : List ℕ) → length answer < n → x ≡ unless_short n answer x y
  short y n answer h = simp (lt-ltb (length answer) n h)

  pub long : {w y : A} (x : A) (n : ℕ) (answer : List ℕ) → n ≤ length answer → w ≡ y → w ≡ unless_short n answer x y
  long x n answer h e = simp (le-ltb (length answer) n h) e

  pub refused : {x : A} (y : A) (r : ReadCluster) → (r.refusal ≡ 0 → ⊥) → x ≡ after_reading r x y
  refused y r h = simp (ne_eqb r.refusal 0 h)

  pub accepted : {w y : A} (x : A) (r : ReadCluster) → r.refusal ≡ 0 → w ≡ y → w ≡ after_reading r x y
  accepted x r h e = simp (eq-eqb r.refusal 0 h) e

  -- A refusal of reading is not 0, so it comes before the operation's.
  pub unread : {x : A} (y : A) (r : Refused) → x ≡ after_reading (read_as (Err r)) x y
  unread y r = refused y (read_as (Err r)) (number-some r.refusal)

  -- What is owed of an operation's answer is owed where no refusal is told.
  pub owed : {P : Type 0} (x : Result A Stopped) → OnOk x P → (told_of x).refusal ≡ 0 → P
  owed (Ok _) p _ = p
  owed (Err s) _ z = absurd (number-some s.refusal z)

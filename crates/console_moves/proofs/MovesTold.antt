-- What is told of the list of moves and of its count: the refusal, the place and the steps of the answer.
-- Assumes nothing.
use mathlib.Core.Path.{◌≡◌, refl}
use Prim.Native.Nat.{ℕ}
use Rattle.std.proofs.Common.{Result, Ok, Err}
use Rattle.std.specs.Result.{result_unwrap_or}
use Rattle.move_list.specs.TermsMoveList.{listed, listed_as}
use Rattle.answers.specs.declared.stopped.Stopped.{Stopped}
use Rattle.answers.specs.TermsStopped.{told_of, fault_in}

pub told : (x : Result ℕ Stopped) → listed (told_of x).refusal (told_of x).place (result_unwrap_or x 0) ≡ listed_as (fault_in x)
told (Ok _) = refl
told (Err _) = refl

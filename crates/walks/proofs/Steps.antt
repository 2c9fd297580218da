-- Tests as the code runs them on cells that it read.
-- Assumes nothing.
use Prim.Native.Nat.{ℕ, ◌<◌}
use mathlib.Core.Path.{◌≡◌, sym, ap, ◌∙◌}
use mathlib.Core.Bool.{Bool}
use mathlib.Core.List.{List}
use lib.ListN.{get_or}
use Rattle.sets.specs.ModelBits.{member_of}
use Rattle.swaps.specs.ModelSwaps.{tight_of, targets_in, targets_of, Tight}
use Rattle.swaps.proofs.Steps.{targets_are}
use Rattle.walks.specs.ModelWalks.{ok_of}

-- A test for a member of a cell.
pub member-at : (cells : List ℕ) (i v x : ℕ) (r b : Bool) → r ≡ member_of x v → x ≡ get_or cells i 0 → r ≡ b → member_of (get_or cells i 0) v ≡ b
member-at cells i v x r b e f g = ap (λ (y : ℕ). member_of y v) (sym f) ∙ (sym e ∙ g)

-- A test for a target, where the cell of the row tells the zones that it may not lose.
pub ok_at : (rows mates tight : List ℕ) (all z P p a b row mate to : ℕ) (r : Bool) → p < P → Tight mates z rows P tight → row ≡ get_or rows p 0 → mate ≡ get_or mates a 0
    → to ≡ targets_in all row mate (get_or tight p 0) → r ≡ member_of to b → r ≡ ok_of rows mates all z p a b
unfolding ok_of
ok_at rows mates tight all z P p a b row mate to r l T er em et e =
    e
    ∙ (ap (λ (t : ℕ). member_of t b) (targets_are mates all z row a (get_or tight p 0) mate to (T.here p l ∙ ap (tight_of mates z) (sym er)) em et)
    ∙ ap (λ (m : ℕ). member_of (targets_of mates all z m a) b) er)

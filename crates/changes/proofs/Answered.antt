-- What the call answers is a refused change or a made one, whatever the bytes: so a law of both is a law of the answer.
-- Assumes nothing.
use Prim.Native.Nat.{ℕ, ◌+◌}
use mathlib.Core.Bool.{Bool, true, false, cond}
use mathlib.Core.List.{List}
use lib.Dec.{leb, eqb}
use lib.ListN.{length}
use Rattle.cluster.specs.Terms.{topology, fault_of}
use Rattle.cluster.specs.declared.Cluster.{Cluster}
use Rattle.cluster.specs.TermsRefusal.{number_of}
use Rattle.fields.specs.RecordField.{field_at}
use Rattle.fields.specs.declared.Field.{Field}
use Rattle.fields.specs.declared.Field.TheVariants.{Body, Refused}
use Rattle.change_fields.specs.RecordChange.{change_tags, change_in}
use Rattle.change_fields.specs.declared.Change.{Change}
use Rattle.making.specs.TermsMaking.{change_fault}
use Rattle.changes.specs.TermsChanges.{Made, change_refused, change_made, change_read, change_at, change_of}

-- A property of both arms is one of the test.
either : {A : Type 0} (P : A → Type 0) (b : Bool) {x y : A} → P x → P y → P (cond b x y)
either P true p q = p
either P false p q = q

module _ (c : Cluster) (s : List ℕ) (at : ℕ) (P : Made → Type 0) (refused : (refusal : ℕ) → P (change_refused c refusal at)) (made : (x : Change) (next : ℕ) → P (change_made c x next)) where
  read-answered : (x : Change) (next : ℕ) → P (change_read c x at next)
  unfolding change_read
  read-answered x next =
      let fault = change_fault (topology c).nodes x in
      either P (eqb fault 0) (made x next) (refused fault)

  at-answered : (f : Field) → P (change_at c s at f)
  unfolding change_at
  at-answered (Refused refusal byte) = refused (number_of refusal)
  at-answered (Body tag start len) = read-answered (change_in s tag start) (start + len)

  pub answered : P (change_of c s at)
  unfolding change_of
  answered =
      either P (eqb (fault_of c) 0) (either P (leb (length s) at) (refused 7) (at-answered (field_at s at change_tags 0))) (refused (fault_of c))

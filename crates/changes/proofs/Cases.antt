-- The answers of a call case by case: what the code tests is what the definitions say.
-- Assumes nothing.
use Prim.Native.Nat.{ℕ, ◌+◌, ◌≤◌, ◌<◌}
use mathlib.Core.Path.{◌≡◌, refl, sym, ap}
use mathlib.Core.Bool.{Bool, cond}
use mathlib.Core.List.{List, [], ◌∷◌}
use mathlib.Core.Logic.{⊎_elim}
use native.Mathlib.Omega.{arith}
use lib.ListN.{length}
use borrow.Author.Tests.{eq-eqb, ne_eqb, le-leb, lt-leb}
use Rattle.cluster.specs.Terms.{topology, fault_of}
use Rattle.cluster.specs.declared.Cluster.{Cluster}
use Rattle.cluster.proofs.Lists.{mem_cases}
use Rattle.cluster.specs.declared.refusal.Refusal.{Refusal}
use Rattle.cluster.specs.TermsRefusal.{number_of}
use Rattle.fields.specs.RecordField.{field_at, rule_of, Whole}
use Rattle.fields.proofs.RecordField.{one_tag}
use Rattle.fields.specs.declared.Field.{Field}
use Rattle.fields.specs.declared.Field.TheVariants.{Body, Refused}
use Rattle.change_fields.specs.RecordChange.{change_tags, change_in}
use Rattle.change_fields.specs.declared.Change.{Change}
use Rattle.making.specs.TermsMaking.{change_fault}
use Rattle.changes.specs.TermsChanges.{change_refused, change_made, change_read, change_at, change_of}

-- No refusal has number 0.
some : (r : Refusal) → 1 ≤ number_of r
some r = grind arith

pub number-some : (r : Refusal) → number_of r ≡ 0 → ⊥
number-some r e = omega (arith, some r)

module _ (c : Cluster) (x : Change) (at next : ℕ) where
  pub read-refused : (change_fault (topology c).nodes x ≡ 0 → ⊥) → change_refused c (change_fault (topology c).nodes x) at ≡ change_read c x at next
  unfolding change_read
  read-refused h = sym (ap (λ (t : Bool). cond t (change_made c x next) (change_refused c (change_fault (topology c).nodes x) at)) (ne_eqb _ 0 h))

  pub read_made : change_fault (topology c).nodes x ≡ 0 → change_made c x next ≡ change_read c x at next
  unfolding change_read
  read_made h = sym (ap (λ (t : Bool). cond t (change_made c x next) (change_refused c (change_fault (topology c).nodes x) at)) (eq-eqb _ 0 h))

module _ (c : Cluster) (s : List ℕ) (at : ℕ) where
  pub of_the_cluster : (fault_of c ≡ 0 → ⊥) → change_refused c (fault_of c) at ≡ change_of c s at
  unfolding change_of
  of_the_cluster h = simp (ne_eqb (fault_of c) 0 h)

  pub past_the_end : fault_of c ≡ 0 → length s ≤ at → change_refused c 7 at ≡ change_of c s at
  unfolding change_of
  past_the_end h k = simp (eq-eqb (fault_of c) 0 h, le-leb (length s) at k)

  -- What the field at the byte comes to.
  pub of_the_field : fault_of c ≡ 0 → at < length s → (f : Field) → f ≡ field_at s at change_tags 0 → change_at c s at f ≡ change_of c s at
  unfolding change_of
  of_the_field h k f e = simp (eq-eqb (fault_of c) 0 h, lt-leb (length s) at k, e)

  pub at-refused : (r : Refusal) (b : ℕ) → change_refused c (number_of r) at ≡ change_at c s at (Refused r b)
  unfolding change_at
  at-refused r b = refl

  pub at_body : (tag start len : ℕ) → change_read c (change_in s tag start) at (start + len) ≡ change_at c s at (Body tag start len)
  unfolding change_at
  at_body tag start len = refl

-- The body of a change has four bytes at least.
pub body_four : (n at tag start len : ℕ) → Whole n at change_tags 0 tag start len → 4 ≤ len
unfolding rule_of
body_four n at tag start len w =
    ⊎_elim (λ e. omega (arith, ap (λ (t : ℕ). (rule_of t).least) e, w.least))
    (λ m. ⊎_elim (λ e. omega (arith, ap (λ (t : ℕ). (rule_of t).least) e, w.least))
    (λ k. omega (arith, ap (λ (t : ℕ). (rule_of t).least) (one_tag 22 tag k), w.least))
    (mem_cases tag 21 (22 ∷ []) m))
    (mem_cases tag 20 (21 ∷ 22 ∷ []) w.member)

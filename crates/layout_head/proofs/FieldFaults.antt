-- Refusals are never 0, and where a field of a given tag stands.
-- Assumes nothing.
use Prim.Native.Nat.{ℕ, ◌<◌}
use mathlib.Core.Path.{◌≡◌, refl, sym, ap, ◌∙◌}
use mathlib.Core.Bool.{true}
use mathlib.Core.List.{List, [], ◌∷◌, ◌++◌}
use mathlib.Core.Logic.{⊎_elim}
use native.Mathlib.Omega.{arith}
use lib.ListN.{length, drop, length-append, length-drop}
use Rattle.sums.proofs.Sum.{lt_or_ge}
use Rattle.cluster.specs.Terms.{mem}
use Rattle.cluster.proofs.Lists.{mem_head, mem-none}
use Rattle.cluster.specs.declared.refusal.Refusal.TheVariants.{Missing}
use Rattle.fields.specs.RecordField.{field, field_at, refusal_of}
use Rattle.fields.specs.declared.Field.{Field}
use Rattle.fields.specs.declared.Field.TheVariants.{Body, Refused}
use Rattle.fields.proofs.RecordField.{refusal-some, whole, length-field}
use Rattle.layout_head.specs.RecordHeadFaults.{next_field}
use Rattle.layout_head.proofs.NumberFields.{next-missing, next_there}

-- ---- refusals

-- Where no tag is allowed, a field is refused.
pub none-refused : (s : List ℕ) (at exact : ℕ) → 0 < refusal_of (field_at s at [] exact)
none-refused s at exact = go (field_at s at [] exact) refl
  where
    go : (f : Field) → field_at s at [] exact ≡ f → 0 < refusal_of f
    go (Body tag start len) e = absurd (mem-none tag (whole s at [] exact tag start len e).member)
    go (Refused refusal byte) e = refusal-some refusal

-- A whole field stands before the end of the record.
pub next_body : (s : List ℕ) (at tag exact t start len : ℕ) → next_field s at tag exact ≡ Body t start len
    → field_at s at (tag ∷ []) exact ≡ Body t start len
next_body s at tag exact t start len e =
    ⊎_elim (λ l. sym (next_there s at tag exact l) ∙ e)
    (λ g. let w : Refused Missing (length s) ≡ Body t start len = sym (next-missing s at tag exact g) ∙ e in
    let z : ◌≡◌ {A = ℕ} 0 1 = cc in absurd (omega arith))
    (lt_or_ge at (length s))

-- ---- a field that stands at a byte

-- A tag is the one that is allowed alone.
pub tag_alone : (tag : ℕ) → mem tag (tag ∷ []) ≡ true
tag_alone tag = mem_head tag tag [] refl

-- Where a field stands, the record has not ended.
pub before_end : (s rest body : List ℕ) (at tag : ℕ) → drop at s ≡ field tag body ++ rest → at < length s
before_end s rest body at tag e =
    omega (arith, ap length e, length-drop at s, length-append (field tag body) rest, length-field tag body)

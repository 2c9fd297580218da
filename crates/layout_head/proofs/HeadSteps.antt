-- The steps of reading the fields before the rows: what is known before a number, one number more, the fault that stops it, and its end.
-- Assumes nothing.
use Prim.Native.Nat.{ℕ, ◌+◌, ◌≤◌, ◌<◌}
use mathlib.Core.Path.{◌≡◌, refl, sym, ap, ◌∙◌, subst}
use mathlib.Core.Bool.{true, false}
use mathlib.Core.List.{List, [], ◌∷◌, ◌++◌}
use mathlib.Core.Logic.{◌⊎◌}
use native.Mathlib.Numerals.{add-one}
use native.Mathlib.Omega.{arith}
use lib.ListN.{length, take, drop, set, length-set}
use lib.Seq.{take_all, take-suc-set}
use Rattle.cluster.specs.declared.refusal.Refusal.{Refusal}
use Rattle.cluster.specs.TermsRefusal.{number_of}
use Rattle.fields.specs.RecordField.{number_at, Whole}
use Rattle.fields.specs.declared.Field.TheVariants.{Body, Refused}
use Rattle.layout_head.specs.declared.Numbers.{Numbers}
use Rattle.layout_head.specs.declared.table.Entry.{Entry}
use Rattle.layout_head.specs.RecordHead.{head_table, entry_at, holds, numbers_in, numbers_from}
use Rattle.layout_head.specs.RecordHeadFaults.{next_field, head_ends, head_refused, head_from}
use Rattle.layout_head.proofs.NumberFields.{six_values, lawful_at, entry-width, head_stop, head_out, head_on, head_end}

-- The numbers before entry i are read, up to byte `at`: from here the reading answers as from the start.
pub record HeadTo (s : List ℕ) (nu : Numbers) (i at : ℕ) : Type 0 where
  pub few : i ≤ length head_table
  pub same : head_from head_table s 0 [] ≡ head_from (drop i head_table) s at (take i (numbers_in nu))

-- At the start none is read.
pub head_start : (s : List ℕ) (nu : Numbers) → HeadTo s nu 0 0
head_start s nu = record { few = omega arith; same = refl }

-- At the end all are.
pub head_ended : {s : List ℕ} {nu : Numbers} {i at : ℕ} → HeadTo s nu i at → length head_table ≤ i → head_ends nu at ≡ head_from head_table s 0 []
head_ended {s} {nu} {i} {at} k h =
    let e : i ≡ length head_table = omega (arith, k.few) in
    sym (k.same ∙ (head_end i e s at (take i (numbers_in nu)) ∙ ap (λ (l : List ℕ). head_ends (numbers_from l) at) (take_all i (numbers_in nu) (omega arith))))

-- The numbers up to entry i, when that is set.
numbers-to : (nu z : Numbers) (i v : ℕ) → i < length head_table → z ≡ numbers_from (set (numbers_in nu) i v) → take (i + 1) (numbers_in z) ≡ take i (numbers_in nu) ++ (v ∷ [])
numbers-to nu z i v inside e =
    let l = set (numbers_in nu) i v in
    ap (λ (k : Numbers). take (i + 1) (numbers_in k)) e
    ∙ (ap (take (i + 1)) (six_values l (length-set (numbers_in nu) i v))
    ∙ (ap (λ (k : ℕ). take k l) (add-one i) ∙ take-suc-set (numbers_in nu) i v inside))

module _ {i : ℕ} (inside : i < length head_table) {e : Entry} (here : e ≡ entry_at i) where
  -- The tag of an entry is one of a set of tags.
  pub head_tag : e.tag < 32
  head_tag = (lawful_at i inside e here).small

  -- Its body has one, two or four bytes.
  pub head_body : {n at tag start len : ℕ} → Whole n at (e.tag ∷ []) 0 tag start len → (len ≡ 1) ⊎ ((len ≡ 2) ⊎ (len ≡ 4))
  head_body {n} {at} {tag} {start} {len} w =
      let law = lawful_at i inside e here in
      subst (λ (x : ℕ). (x ≡ 1) ⊎ ((x ≡ 2) ⊎ (x ≡ 4))) (sym (entry-width e n at tag start len law w).1) law.narrow

  module _ {s : List ℕ} {nu : Numbers} {at : ℕ} (k : HeadTo s nu i at) where
    -- A field that is not whole stops the reading.
    pub head_stops : {refusal : Refusal} {byte : ℕ} → Refused refusal byte ≡ next_field s at e.tag 0 → head_from head_table s 0 [] ≡ head_refused (number_of refusal) byte
    head_stops {refusal} {byte} f = k.same ∙ head_stop i inside e here s at (take i (numbers_in nu)) (Refused refusal byte) f refusal byte refl

    module _ {tag start len v : ℕ} (f : Body tag start len ≡ next_field s at e.tag 0) (value : v ≡ number_at s start len) where
      -- So does a number outside its range.
      pub head_outside : holds e v ≡ false → head_from head_table s 0 [] ≡ head_refused 4 at
      head_outside h = k.same ∙ head_out i inside e here s at (take i (numbers_in nu)) (Body tag start len) f tag start len v refl value h

      -- Else one number more is read.
      pub head_further : holds e v ≡ true → {z : Numbers} → z ≡ numbers_from (set (numbers_in nu) i v) → HeadTo s z (i + 1) (start + len)
      head_further h {z} w = record {
        few = omega arith;
        same = k.same
            ∙ (head_on i inside e here s at (take i (numbers_in nu)) (Body tag start len) f tag start len v refl value h
            ∙ ap (head_from (drop (i + 1) head_table) s (start + len)) (sym (numbers-to nu z i v inside w)));
      }

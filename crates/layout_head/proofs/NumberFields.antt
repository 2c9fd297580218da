-- The fields before the rows: the next field, what the table says of each entry, and the loops that walk the table.
-- Assumes nothing.
use Prim.Native.Nat.{ℕ, zero, suc, ◌+◌, ◌^◌, ◌≤◌, ◌<◌}
use mathlib.Core.Path.{◌≡◌, refl, sym, ap, ap₂, ◌∙◌, subst}
use mathlib.Core.Bool.{Bool, true, false, ◌&&◌, cond}
use mathlib.Core.List.{List, [], ◌∷◌, ◌++◌}
use mathlib.Core.Logic.{◌⊎◌, inl, inr, ⊎_elim}
use native.Mathlib.Numerals.{add-one}
use native.Mathlib.Omega.{arith}
use lib.Dec.{ltb, leb, eqb}
use lib.ListN.{length, drop, get_or, length-append}
use lib.Seq.{drop-cons, drop-length}
use borrow.Author.Tests.{le-leb, lt-leb, leb-true, ltb-true, eqb-true}
use Rattle.sums.specs.TermsSums.{tab}
use Rattle.sums.proofs.Tests.{both}
use Rattle.cells.proofs.Cells.{tab_get_or}
use Rattle.cluster.specs.Terms.{most_bits, most_copies, mem}
use Rattle.cluster.proofs.Lists.{mem_cases}
use Rattle.cluster.specs.declared.refusal.Refusal.{Refusal}
use Rattle.cluster.specs.declared.refusal.Refusal.TheVariants.{Missing}
use Rattle.cluster.specs.TermsRefusal.{number_of as number_of_refusal}
use Rattle.fields.specs.RecordField.{bytes_of, field, number_at, written, rule_of, legal, field_at, Whole}
use Rattle.fields.specs.declared.Field.{Field}
use Rattle.fields.specs.declared.Field.TheVariants.{Body, Refused}
use Rattle.fields.proofs.RecordField.{one_tag, length-number}
use Rattle.layout_head.specs.declared.Numbers.{Numbers}
use Rattle.layout_head.specs.declared.table.Entry.{Entry}
use Rattle.layout_head.specs.RecordHead.{entry, head_table, entry_at, numbers_in, numbers_from, holds, all_hold, in_range, number_fields, head_fields}
use Rattle.layout_head.specs.RecordHeadFaults.{next_field, HeadRead, head_ends, head_refused, head_number, head_from}
use Rattle.fields.proofs.Puts.{put_next}

-- ---- the next field

module _ (s : List ℕ) (at tag exact : ℕ) where
  -- At the end of the record the field is missing.
  pub next-missing : length s ≤ at → next_field s at tag exact ≡ Refused Missing (length s)
  unfolding next_field
  next-missing h = simp (le-leb (length s) at h)

  -- Before it, it is the field at that byte.
  pub next_there : at < length s → next_field s at tag exact ≡ field_at s at (tag ∷ []) exact
  unfolding next_field
  next_there h = simp (lt-leb (length s) at h)

-- ---- the table

-- Six values are those of the numbers that they make.
pub six_values : (l : List ℕ) → length l ≡ length head_table → numbers_in (numbers_from l) ≡ l
unfolding tab
six_values l h = ap (tab (λ i. get_or l i 0)) (sym h) ∙ tab_get_or l 0

-- An entry agrees with the table of lengths: bodies with its tag have its width alone, one, two or four bytes, in which its numbers have room.
pub record Lawful (e : Entry) : Type 0 where
  pub small : e.tag < 32
  pub least-is : (rule_of e.tag).least ≡ e.width
  pub greatest-is : (rule_of e.tag).greatest ≡ e.width
  pub legal-is : legal e.tag e.width ≡ true
  pub narrow : (e.width ≡ 1) ⊎ ((e.width ≡ 2) ⊎ (e.width ≡ 4))
  pub room : e.most < 256 ^ e.width

-- The same as a test,
abbrev agrees : Entry → Bool
agrees e =
    ltb e.tag 32 && (eqb (rule_of e.tag).least e.width && (eqb (rule_of e.tag).greatest e.width
    && (legal e.tag e.width && (mem e.width (1 ∷ 2 ∷ 4 ∷ []) && ltb e.most (256 ^ e.width)))))

-- and what the test tells.
lawful : (e : Entry) → agrees e ≡ true → Lawful e
lawful e h =
    let a = both (ltb e.tag 32) _ h in
    let b = both (eqb (rule_of e.tag).least e.width) _ a.1 in
    let c = both (eqb (rule_of e.tag).greatest e.width) _ b.1 in
    let d = both (legal e.tag e.width) _ c.1 in
    let f = both (mem e.width (1 ∷ 2 ∷ 4 ∷ [])) _ d.1 in
    record {
      small = ltb-true e.tag 32 a.0;
      least-is = eqb-true (rule_of e.tag).least e.width b.0;
      greatest-is = eqb-true (rule_of e.tag).greatest e.width c.0;
      legal-is = d.0;
      narrow = ⊎_elim (λ p. inl p) (λ m. inr (⊎_elim (λ p. inl p) (λ k. inr (one_tag 4 e.width k)) (mem_cases e.width 2 (4 ∷ []) m)))
          (mem_cases e.width 1 (2 ∷ 4 ∷ []) f.0);
      room = ltb-true e.most (256 ^ e.width) f.1;
    }

-- Every entry of a table does.
abbrev pub Each : List Entry → Type 0
Each [] = Unit
Each (e ∷ es) = Lawful e × Each es

all_agree : List Entry → Bool
all_agree [] = true
all_agree (e ∷ es) = agrees e && all_agree es

each : (es : List Entry) → all_agree es ≡ true → Each es
unfolding all_agree
each [] h = tt
each (e ∷ es) h = let b = both (agrees e) (all_agree es) h in (lawful e b.0, each es b.1)

pub each_at : (es : List Entry) (i : ℕ) → Each es → i < length es → Lawful (get_or es i (entry 0 0 0 0))
each_at [] i h l = absurd (omega arith)
each_at (e ∷ es) zero h l = h.0
each_at (e ∷ es) (suc i) h l = each_at es i h.1 (omega arith)

pub table_lawful : Each head_table
unfolding all_agree legal rule_of mem
table_lawful = each head_table refl

-- A body with the number of an entry has the entry's width.
pub entry-width : (e : Entry) (n at t start len : ℕ) → Lawful e → Whole n at (e.tag ∷ []) 0 t start len → (t ≡ e.tag) × (len ≡ e.width)
entry-width e n at t start len h w =
    let same : t ≡ e.tag = one_tag e.tag t w.member in
    let l : (rule_of e.tag).least ≤ len = subst (λ (k : ℕ). (rule_of k).least ≤ len) same w.least in
    let g : len ≤ (rule_of e.tag).greatest = subst (λ (k : ℕ). len ≤ (rule_of k).greatest) same w.greatest in
    (same, omega (arith, h.least-is, h.greatest-is))

-- ---- ranges

-- What it means that a number is in the range of its entry.
pub entry-range : (e : Entry) (v : ℕ) → holds e v ≡ true → (e.least ≤ v) × (v ≤ e.most)
entry-range e v h =
    let b = both (leb e.least v) (leb v e.most) h in (leb-true e.least v b.0, leb-true v e.most b.1)

-- The first number and the others.
pub first_holds : (e : Entry) (es : List Entry) (v : ℕ) (vs : List ℕ) → all_hold (e ∷ es) (v ∷ vs) ≡ true → (holds e v ≡ true) × (all_hold es vs ≡ true)
unfolding all_hold
first_holds e es v vs h = both (holds e v) (all_hold es vs) h

-- The numbers on which the rows depend.
pub few_bits : (n : Numbers) → in_range n ≡ true → n.bits ≤ most_bits
few_bits n h = (entry-range (entry_at 0) n.bits (first_holds _ _ _ _ h).0).1

pub few_copies : (n : Numbers) → in_range n ≡ true → (1 ≤ n.replication) × (n.replication ≤ most_copies)
few_copies n h = entry-range (entry_at 1) n.replication (first_holds _ _ _ _ (first_holds _ _ _ _ h).1).0

-- ---- a walk over the table, at entry i

module _ (i : ℕ) (inside : i < length head_table) (e : Entry) (here : e ≡ entry_at i) where
  pub lawful_at : Lawful e
  lawful_at = subst Lawful (sym here) (each_at head_table i table_lawful inside)

  entries : drop i head_table ≡ e ∷ drop (i + 1) head_table
  entries =
      drop-cons head_table i (entry 0 0 0 0) inside ∙ ap₂ (λ (x : Entry) (k : ℕ). x ∷ drop k head_table) (sym here) (sym (add-one i))

  -- The numbers from i on.
  module _ (vs : List ℕ) (long : length vs ≡ length head_table) where
    values : drop i vs ≡ get_or vs i 0 ∷ drop (i + 1) vs
    values = drop-cons vs i 0 (omega arith) ∙ ap (λ (k : ℕ). get_or vs i 0 ∷ drop k vs) (sym (add-one i))

    -- Their ranges.
    pub range-step : all_hold (drop i head_table) (drop i vs) ≡ holds e (get_or vs i 0) && all_hold (drop (i + 1) head_table) (drop (i + 1) vs)
    unfolding all_hold
    range-step = ap₂ all_hold entries values

    -- Their fields: one more is put, and those after it are still to be put.
    abbrev rest : ℕ → List ℕ
    rest k = number_fields (drop k head_table) (drop k vs)

    fields-step : rest i ≡ field e.tag (bytes_of e.width (get_or vs i 0)) ++ rest (i + 1)
    unfolding number_fields
    fields-step = ap₂ number_fields entries values

    pub length-step : length (rest i) ≡ 3 + e.width + length (rest (i + 1))
    length-step =
        ap length fields-step
        ∙ (length-append (field e.tag (bytes_of e.width (get_or vs i 0))) (rest (i + 1))
        ∙ ap (λ (k : ℕ). k + length (rest (i + 1))) (length-number e.tag e.width (get_or vs i 0)))

    pub put_step : (at : ℕ) (r x : List ℕ) → at + length (rest i) ≤ length r → x ≡ written r at (field e.tag (bytes_of e.width (get_or vs i 0)))
        → written x (at + (3 + e.width)) (rest (i + 1)) ≡ written r at (rest i)
    put_step at r x room w =
        put_next r x (field e.tag (bytes_of e.width (get_or vs i 0))) (rest (i + 1)) at (3 + e.width) (at + (3 + e.width)) w
        (length-number e.tag e.width (get_or vs i 0)) refl (omega (arith, length-step))
        ∙ ap (written r at) (sym fields-step)

  -- The reading from entry i on.
  module _ (s : List ℕ) (at : ℕ) (vs : List ℕ) (f : Field) (read : f ≡ next_field s at e.tag 0) where
    abbrev on : ℕ → ℕ → HeadRead
    on next v = head_from (drop (i + 1) head_table) s next (vs ++ (v ∷ []))

    first : head_from (drop i head_table) s at vs ≡ head_number on s at e f
    unfolding head_from
    first = ap (λ (es : List Entry). head_from es s at vs) entries ∙ ap (head_number on s at e) (sym read)

    -- A field that is not whole stops it.
    pub head_stop : (r : Refusal) (b : ℕ) → f ≡ Refused r b → head_from (drop i head_table) s at vs ≡ head_refused (number_of_refusal r) b
    head_stop r b q = first ∙ ap (head_number on s at e) q

    module _ (t start len v : ℕ) (whole : f ≡ Body t start len) (value : v ≡ number_at s start len) where
      judged : (b : Bool) → holds e v ≡ b → head_from (drop i head_table) s at vs ≡ cond b (on (start + len) v) (head_refused 4 at)
      judged b h =
          first
          ∙ (ap (head_number on s at e) whole
          ∙ (ap (λ (k : ℕ). cond (holds e k) (on (start + len) k) (head_refused 4 at)) (sym value)
          ∙ ap (λ (q : Bool). cond q (on (start + len) v) (head_refused 4 at)) h))

      -- So does a number outside its range.
      pub head_out : holds e v ≡ false → head_from (drop i head_table) s at vs ≡ head_refused 4 at
      head_out h = judged false h

      -- Else the reading goes on after the field.
      pub head_on : holds e v ≡ true → head_from (drop i head_table) s at vs ≡ head_from (drop (i + 1) head_table) s (start + len) (vs ++ (v ∷ []))
      head_on h = judged true h

-- The end of the walk.
module _ (i : ℕ) (done : i ≡ length head_table) where
  pub range_end : (vs : List ℕ) → length vs ≡ length head_table → all_hold (drop i head_table) (drop i vs) ≡ true
  unfolding all_hold
  range_end vs long =
      ap₂ (λ (k : ℕ) (l : List ℕ). all_hold (drop k head_table) l) done (ap (λ (k : ℕ). drop k vs) (done ∙ sym long) ∙ drop-length vs)

  pub fields_end : (vs : List ℕ) → number_fields (drop i head_table) (drop i vs) ≡ []
  unfolding number_fields
  fields_end vs = ap (λ (k : ℕ). number_fields (drop k head_table) (drop i vs)) done

  pub head_end : (s : List ℕ) (at : ℕ) (vs : List ℕ) → head_from (drop i head_table) s at vs ≡ head_ends (numbers_from vs) at
  unfolding head_from
  head_end s at vs = ap (λ (k : ℕ). head_from (drop k head_table) s at vs) done

-- ---- the bytes

-- The bytes of the fields of a table.
unfoldable pub size_of : List Entry → ℕ
size_of [] = 0
size_of (e ∷ es) = 3 + e.width + size_of es

pub length_fields : (es : List Entry) (vs : List ℕ) → length es ≡ length vs → length (number_fields es vs) ≡ size_of es
unfolding number_fields size_of
length_fields [] vs h = refl
length_fields (e ∷ es) [] h = absurd (omega arith)
length_fields (e ∷ es) (v ∷ vs) h =
    length-append (field e.tag (bytes_of e.width v)) (number_fields es vs)
    ∙ ap₂ ◌+◌ (length-number e.tag e.width v) (length_fields es vs (omega arith))

-- The fields before the rows take 29 bytes.
pub length_head : (n : Numbers) → length (head_fields n) ≡ 29
unfolding size_of
length_head n = length_fields head_table (numbers_in n) refl

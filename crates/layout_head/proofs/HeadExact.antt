-- The fields before the rows are read exactly where they stand with numbers in range; the inductions hold of any lawful table.
-- Assumes nothing.
use Prim.Native.Nat.{ℕ, suc, ◌+◌, ◌<◌}
use mathlib.Core.Path.{◌≡◌, refl, sym, ap, ap₂, ◌∙◌}
use mathlib.Core.Bool.{Bool, true, false, ◌&&◌, cond, false≢true}
use mathlib.Core.List.{List, [], ◌∷◌, ◌++◌, append_assoc, append-nil}
use mathlib.Core.Logic.{⊎_elim}
use native.Mathlib.Nat.{add-zero}
use native.Mathlib.Omega.{arith}
use lib.ListN.{length, drop}
use Rattle.sums.proofs.Tests.{both, true_or_false}
use Rattle.cluster.specs.TermsRefusal.{number_of}
use Rattle.fields.specs.RecordField.{bytes_of, Bytes, number_at, field, legal}
use Rattle.fields.specs.declared.Field.{Field}
use Rattle.fields.specs.declared.Field.TheVariants.{Body, Refused}
use Rattle.numbers.proofs.Numbers.{length-bytes, bytes_there, number_here}
use Rattle.fields.proofs.RecordField.{refusal-some, legal-any, whole, field_back, field_here, body_here, rest_here}
use Rattle.layout_head.specs.declared.Numbers.{Numbers}
use Rattle.layout_head.specs.declared.table.Entry.{Entry}
use Rattle.layout_head.specs.RecordHead.{head_table, numbers_in, numbers_from, holds, all_hold, in_range, number_fields, head_fields}
use Rattle.layout_head.specs.RecordHeadFaults.{next_field, HeadRead, head_ends, head_refused, head_number, head_from}
use Rattle.layout_head.proofs.NumberFields.{next_there, six_values, Lawful, Each, table_lawful, entry-width, entry-range, size_of}
use Rattle.layout_head.proofs.FieldFaults.{next_body, tag_alone, before_end}

-- ---- what is read, is in the bytes

-- A refused head is no head that ends.
refused_ends : (r b : ℕ) (n : Numbers) (e : ℕ) → head_refused r b ≡ head_ends n e → ⊥
refused_ends r b n e h = let z : ◌≡◌ {A = ℕ} 0 1 = cc in omega arith

-- A head is refused by its first field, by the range of its number, or later; never with 0.
head_not_zero : (es : List Entry) (s : List ℕ) (at : ℕ) (vs : List ℕ) (r b : ℕ) → head_from es s at vs ≡ head_refused r b → 0 < r
unfolding head_from
head_not_zero [] s at vs r b h = absurd (refused_ends r b (numbers_from vs) at (sym h))
head_not_zero (e ∷ es) s at vs r b h = go (next_field s at e.tag 0) refl (λ next v q. head_not_zero es s next (vs ++ (v ∷ [])) r b q) h
  where
    go : (f : Field) → next_field s at e.tag 0 ≡ f → ((next v : ℕ) → head_from es s next (vs ++ (v ∷ [])) ≡ head_refused r b → 0 < r)
        → head_number (λ next v. head_from es s next (vs ++ (v ∷ []))) s at e f ≡ head_refused r b → 0 < r
    go (Refused x y) d later q = let z : number_of x ≡ r = cc in omega (arith, refusal-some x)
    go (Body t start len) d later q =
        let v = number_at s start len in
        let pick : ((k : Bool) → holds e v ≡ k → cond k (head_from es s (start + len) (vs ++ (v ∷ []))) (head_refused 4 at) ≡ head_refused r b) =
        λ k w. sym (ap (λ (k : Bool). cond k (head_from es s (start + len) (vs ++ (v ∷ []))) (head_refused 4 at)) w) ∙ q in
        ⊎_elim (λ w. later (start + len) v (pick true w)) (λ w. let p = pick false w in let z : r ≡ 4 = cc in omega arith) (true_or_false (holds e v))

pub head_refused_lem : (s : List ℕ) (r b : ℕ) → head_from head_table s 0 [] ≡ head_refused r b → 0 < r
head_refused_lem s r b h = head_not_zero head_table s 0 [] r b h

-- Reading and writing again: from where a number was read the record is its field, and then what stands after it.
number-back : (s : List ℕ) (at : ℕ) (e : Entry) (t start len : ℕ) → Bytes s → Lawful e → next_field s at e.tag 0 ≡ Body t start len
    → drop at s ≡ field e.tag (bytes_of e.width (number_at s start len)) ++ drop (start + len) s
number-back s at e t start len b l h =
    let body = next_body s at e.tag 0 t start len h in
    let k = whole s at (e.tag ∷ []) 0 t start len body in
    let w = entry-width e (length s) at t start len l k in
    field_back s at (e.tag ∷ []) 0 t start len body b
    ∙ ap₂ (λ (x : ℕ) (y : List ℕ). field x y ++ drop (start + len) s) w.0 (sym (bytes_there s start len b k.ends) ∙ ap (λ (q : ℕ). bytes_of q (number_at s start len)) w.1)

-- The numbers that were read from byte `at` on, after the numbers vs.
record NumbersRead (es : List Entry) (s : List ℕ) (at : ℕ) (vs : List ℕ) (n : Numbers) (end : ℕ) : Type 0 where
  values : List ℕ
  numbers : numbers_from (vs ++ values) ≡ n
  bytes : drop at s ≡ number_fields es values ++ drop end s
  ranges : all_hold es values ≡ true
  many : length values ≡ length es

numbers-back : (es : List Entry) (s : List ℕ) (at : ℕ) (vs : List ℕ) (n : Numbers) (end : ℕ) → Bytes s → Each es → head_from es s at vs ≡ head_ends n end
    → NumbersRead es s at vs n end
unfolding head_from number_fields all_hold
numbers-back [] s at vs n end b l h =
    let p : numbers_from vs ≡ n = cc in
    let x : at ≡ end = cc in
    record { values = []; numbers = ap numbers_from (append-nil vs) ∙ p; bytes = ap (λ (k : ℕ). drop k s) x; ranges = refl; many = refl }
numbers-back (e ∷ es) s at vs n end b l h =
    go (next_field s at e.tag 0) refl (λ next v q. numbers-back es s next (vs ++ (v ∷ [])) n end b l.1 q) h
  where
    go : (f : Field) → next_field s at e.tag 0 ≡ f
        → ((next v : ℕ) → head_from es s next (vs ++ (v ∷ [])) ≡ head_ends n end → NumbersRead es s next (vs ++ (v ∷ [])) n end)
        → head_number (λ next v. head_from es s next (vs ++ (v ∷ []))) s at e f ≡ head_ends n end → NumbersRead (e ∷ es) s at vs n end
    go (Refused x y) d later q = absurd (refused_ends (number_of x) y n end q)
    go (Body t start len) d later q =
        let v = number_at s start len in
        let pick : ((k : Bool) → holds e v ≡ k → cond k (head_from es s (start + len) (vs ++ (v ∷ []))) (head_refused 4 at) ≡ head_ends n end) =
        λ k w. sym (ap (λ (k : Bool). cond k (head_from es s (start + len) (vs ++ (v ∷ []))) (head_refused 4 at)) w) ∙ q in
        ⊎_elim
        (λ w. let r = later (start + len) v (pick true w) in
        record {
          values = v ∷ r.values;
          numbers = ap numbers_from (sym (append_assoc vs (v ∷ []) r.values)) ∙ r.numbers;
          bytes =
              number-back s at e t start len b l.0 d
              ∙ (ap (λ (x : List ℕ). field e.tag (bytes_of e.width v) ++ x) r.bytes
              ∙ sym (append_assoc (field e.tag (bytes_of e.width v)) (number_fields es r.values) (drop end s)));
          ranges = ap₂ ◌&&◌ w r.ranges;
          many = ap suc r.many;
        })
        (λ w. absurd (refused_ends 4 at n end (pick false w))) (true_or_false (holds e v))

-- A head that is read stands at the front of the record, with its numbers in range.
pub head_back : (s : List ℕ) (n : Numbers) (e : ℕ) → Bytes s → head_from head_table s 0 [] ≡ head_ends n e → (s ≡ head_fields n ++ drop e s) × (in_range n ≡ true)
head_back s n e b h =
    let r = numbers-back head_table s 0 [] n e b table_lawful h in
    let same : r.values ≡ numbers_in n = sym (six_values r.values r.many) ∙ ap numbers_in r.numbers in
    (r.bytes ∙ ap (λ (l : List ℕ). number_fields head_table l ++ drop e s) same, ap (all_hold head_table) (sym same) ∙ r.ranges)

-- ---- what is in the bytes, is read

-- Writing and reading again: where the field of a number in its range stands, the number is read.
number-found : (s rest : List ℕ) (at : ℕ) (e : Entry) (v : ℕ) → Lawful e → holds e v ≡ true → drop at s ≡ field e.tag (bytes_of e.width v) ++ rest
    → (next_field s at e.tag 0 ≡ Body e.tag (at + 3) e.width) × (number_at s (at + 3) e.width ≡ v) × (drop (at + 3 + e.width) s ≡ rest)
number-found s rest at e v l h d =
    let body = bytes_of e.width v in
    let long : length body ≡ e.width = length-bytes e.width v in
    let fits = entry-range e v h in (
      next_there s at e.tag 0 (before_end s rest body at e.tag d)
          ∙ (field_here s rest body at e.tag d (e.tag ∷ []) 0 (tag_alone e.tag)
          (legal-any e.tag (length body) ∙ (ap (legal e.tag) long ∙ l.legal-is))
          ∙ ap (λ (k : ℕ). Body e.tag (at + 3) k) long),
      number_here s rest (at + 3) e.width v (body_here s rest body at e.tag d) (omega (arith, fits.1, l.room)),
      ap (λ (k : ℕ). drop (at + 3 + k) s) (sym long) ∙ rest_here s rest body at e.tag d,
    )

numbers-found : (es : List Entry) (s rest : List ℕ) (at : ℕ) (vs us : List ℕ) → Each es → drop at s ≡ number_fields es us ++ rest → all_hold es us ≡ true
    → (head_from es s at vs ≡ head_ends (numbers_from (vs ++ us)) (at + size_of es)) × (drop (at + size_of es) s ≡ rest)
unfolding head_from number_fields all_hold size_of
numbers-found [] s rest at vs [] l d h =
    (ap₂ head_ends (ap numbers_from (sym (append-nil vs))) (sym (add-zero at)), ap (λ (k : ℕ). drop k s) (add-zero at) ∙ d)
numbers-found [] s rest at vs (v ∷ us) l d h = absurd (false≢true h)
numbers-found (e ∷ es) s rest at vs [] l d h = absurd (false≢true h)
numbers-found (e ∷ es) s rest at vs (v ∷ us) l d h =
    let f = field e.tag (bytes_of e.width v) in
    let b = both (holds e v) (all_hold es us) h in
    let n = number-found s (number_fields es us ++ rest) at e v l.0 b.0 (d ∙ append_assoc f (number_fields es us) rest) in
    let on : (ℕ → ℕ → HeadRead) = λ next v. head_from es s next (vs ++ (v ∷ [])) in
    let r = numbers-found es s rest (at + 3 + e.width) (vs ++ (v ∷ [])) us l.1 n.2 b.1 in
    let end : at + 3 + e.width + size_of es ≡ at + (3 + e.width + size_of es) = omega arith in (
      ap (head_number on s at e) n.0
          ∙ (ap (λ (x : ℕ). cond (holds e x) (on (at + 3 + e.width) x) (head_refused 4 at)) n.1
          ∙ (ap (λ (k : Bool). cond k (on (at + 3 + e.width) v) (head_refused 4 at)) b.0
          ∙ (r.0 ∙ ap₂ head_ends (ap numbers_from (append_assoc vs (v ∷ []) us)) end))),
      ap (λ (k : ℕ). drop k s) (sym end) ∙ r.1,
    )

-- Fields at the front of a record, with numbers in range, are read.
pub head_found : (s rest : List ℕ) (n : Numbers) → s ≡ head_fields n ++ rest → in_range n ≡ true
    → (head_from head_table s 0 [] ≡ head_ends n 29) × (drop 29 s ≡ rest)
unfolding size_of
head_found s rest n e h = numbers-found head_table s rest 0 [] (numbers_in n) table_lawful e h

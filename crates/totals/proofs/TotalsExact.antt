-- The totals are read exactly where their fields stand, one after the other.
-- Assumes nothing.
use Prim.Native.Nat.{ℕ, zero, suc, ◌+◌, ◌*◌, ◌^◌, ◌≤◌, ◌<◌}
use mathlib.Core.Path.{◌≡◌, refl, sym, ap, ap₂, ◌∙◌, subst}
use mathlib.Core.Bool.{Bool, true, false, ◌&&◌, ◌||◌, cond}
use mathlib.Core.List.{List, [], ◌∷◌, ◌++◌, append_assoc, append-nil}
use mathlib.Core.Logic.{⊎_elim}
use native.Mathlib.Omega.{arith}
use lib.Dec.{leb, eqb}
use lib.ListN.{length, drop, length-append, length-drop}
use lib.Seq.{drop-drop, drop_at}
use borrow.Author.Tests.{lt-leb, eq-eqb, ne_eqb}
use Rattle.sums.proofs.Sum.{eq_or_ne}
use Rattle.sums.proofs.Tests.{true_or_false}
use Rattle.cluster.proofs.Lists.{mem_head}
use Rattle.cluster.specs.TermsRefusal.{number_of}
use Rattle.fields.specs.RecordField.{Bytes, part, bytes_of, has, number_at, rule_of, legal, head_width, field, field_at}
use Rattle.fields.specs.declared.Field.{Field}
use Rattle.fields.specs.declared.Field.TheVariants.{Body, Refused}
use Rattle.numbers.proofs.Numbers.{length-bytes, bytes_there, number_here, part-append}
use Rattle.fields.proofs.RecordField.{legal-any, one_tag, refusal-some, whole, field_back, length-field, field_here, body_here, rest_here}
use Rattle.totals.specs.RecordTotals.{Total, total, total_field, total_fields}
use Rattle.totals.specs.RecordTotalsFaults.{total_at, total_bytes, total_fault, TotalsRead, totals_end, totals_refused, row_begins, total_in, totals_from}
use Rattle.totals.proofs.Walk.{total-width}

refused_ends : (r b : ℕ) (ts : List Total) (e : ℕ) → totals_refused r b ≡ totals_end ts e → ⊥
refused_ends r b ts e h = let z : ◌≡◌ {A = ℕ} 0 1 = cc in omega arith

-- ---- what is read, is in the bytes

-- Totals one after another: in their ranges, and by rising id, the first above `last`.
unfoldable pub Right : ℕ → List Total → Type 0
Right last [] = Unit
Right last (t ∷ ts) = (total_fault last t ≡ 0) × Right t.id ts

-- The totals that were read from byte `at` on, after those of ts.
pub record TotalsBack (s : List ℕ) (at last : ℕ) (ts us : List Total) (end : ℕ) : Type 0 where
  pub more : List Total
  pub all : ts ++ more ≡ us
  pub bytes : drop at s ≡ total_fields more ++ drop end s
  pub right : Right last more

module _ (s : List ℕ) (b : Bytes s) where
  total_body : (start : ℕ) → start + 6 ≤ length s → part s start 6 ≡ bytes_of 4 (number_at s start 4) ++ bytes_of 2 (number_at s (start + 4) 2)
  total_body start h =
      part-append s start 4 2
      ∙ ap₂ (λ (x y : List ℕ). x ++ y) (sym (bytes_there s start 4 b (omega arith))) (sym (bytes_there s (start + 4) 2 b (omega arith)))

  pub totals-back : (k at last : ℕ) (ts us : List Total) (end : ℕ) → totals_from k s at last ts ≡ totals_end us end → TotalsBack s at last ts us end
  unfolding totals_from total_fields total_field Right
  totals-back zero at last ts us end h =
      let u : ts ≡ us = cc in
      let e : at ≡ end = cc in
      record { more = []; all = append-nil ts ∙ u; bytes = ap (λ (x : ℕ). drop x s) e; right = tt }
  totals-back (suc k) at last ts us end h =
      ⊎_elim
      (λ stop. let g : totals_end ts at ≡ totals_end us end = sym (ap (λ (q : Bool). cond q (totals_end ts at) (next (field_at s at (11 ∷ []) 0))) stop) ∙ h in
      let u : ts ≡ us = cc in
      let e : at ≡ end = cc in
      record { more = []; all = append-nil ts ∙ u; bytes = ap (λ (x : ℕ). drop x s) e; right = tt })
      (λ on. go (field_at s at (11 ∷ []) 0) refl (λ at' t z. totals-back k at' t.id (ts ++ (t ∷ [])) us end z)
      (sym (ap (λ (q : Bool). cond q (totals_end ts at) (next (field_at s at (11 ∷ []) 0))) on) ∙ h))
      (true_or_false (leb (length s) at || row_begins s at))
    where
      next : Field → TotalsRead
      next f = total_in (λ x t. totals_from k s x t.id (ts ++ (t ∷ []))) s at last f

      go : (f : Field) → field_at s at (11 ∷ []) 0 ≡ f
          → ((x : ℕ) (t : Total) → totals_from k s x t.id (ts ++ (t ∷ [])) ≡ totals_end us end → TotalsBack s x t.id (ts ++ (t ∷ [])) us end)
          → next f ≡ totals_end us end → TotalsBack s at last ts us end
      go (Refused x y) d later q = absurd (refused_ends (number_of x) y us end q)
      go (Body tag start len) d later q =
          let t = total_at s start in
          let w = whole s at (11 ∷ []) 0 tag start len d in
          let n = total-width w in
          let pick : ((c : Bool) → eqb (total_fault last t) 0 ≡ c
          → cond c (totals_from k s (start + len) t.id (ts ++ (t ∷ []))) (totals_refused (total_fault last t) at) ≡ totals_end us end) =
          λ c e. sym (ap (λ (c : Bool). cond c (totals_from k s (start + len) t.id (ts ++ (t ∷ []))) (totals_refused (total_fault last t) at)) e) ∙ q in
          ⊎_elim
          (λ z. let r = later (start + len) t (pick true (eq-eqb (total_fault last t) 0 z)) in
          record {
            more = t ∷ r.more;
            all = sym (append_assoc ts (t ∷ []) r.more) ∙ r.all;
            bytes =
                field_back s at (11 ∷ []) 0 tag start len d b
                ∙ (ap₂ (λ (x : ℕ) (y : List ℕ). field x y ++ drop (start + len) s) (one_tag 11 tag w.member)
                (ap (part s start) n.1 ∙ total_body start n.2)
                ∙ (ap (λ (x : List ℕ). total_field t ++ x) r.bytes ∙ sym (append_assoc (total_field t) (total_fields r.more) (drop end s))));
            right = (z, r.right);
          })
          (λ z. absurd (refused_ends (total_fault last t) at us end (pick false (ne_eqb (total_fault last t) 0 z)))) (eq_or_ne (total_fault last t) 0)

-- ---- what is in the bytes, is read

-- Ids and copies fit their bytes.
unfoldable pub Fit : List Total → Type 0
Fit [] = Unit
Fit (t ∷ ts) = (t.id < 256 ^ 4) × (t.copies < 256 ^ 2) × Fit ts

-- A total's field is no row.
no_row : (s rest body : List ℕ) (at : ℕ) → drop at s ≡ field 11 body ++ rest → row_begins s at ≡ false
unfolding row_begins field bytes_of
no_row s rest body at e =
    let tag : number_at s at 1 ≡ 11 = number_here s (bytes_of 2 (length body) ++ body ++ rest) at 1 11 (e ∙ ap (λ (x : List ℕ). 11 ∷ x) (append_assoc (bytes_of 2 (length body)) body rest)) (omega arith) in
    ap (λ (x : ℕ). has (length s) at head_width && eqb x 10) tag ∙ never (has (length s) at head_width)
  where
    never : (c : Bool) → c && eqb 11 10 ≡ false
    never true = refl
    never false = refl

-- "stops at a tag 10 allowed there with its three head bytes whole, or at the record's end"
abbrev pub Stops : List ℕ → ℕ → Type 0
Stops s at = leb (length s) at || row_begins s at ≡ true

-- Where the table of lengths has six bytes for tag 11. Until it has, no field 11 is whole.
module _ (s rest : List ℕ) (listed : legal 11 6 ≡ true) where
  pub totals-found : (k at last : ℕ) (ts vs : List Total) → length vs ≤ k → drop at s ≡ total_fields vs ++ rest → Right last vs → Fit vs
      → Stops s (at + total_bytes * length vs) → totals_from k s at last ts ≡ totals_end (ts ++ vs) (at + total_bytes * length vs)
  unfolding totals_from total_fields total_field Right Fit rule_of legal
  totals-found zero at last ts [] h e r f w =
      let z : at ≡ at + total_bytes * 0 = omega arith in ap₂ totals_end (sym (append-nil ts)) z
  totals-found zero at last ts (v ∷ vs) h e r f w = absurd (omega arith)
  totals-found (suc k) at last ts [] h e r f w =
      let z : at ≡ at + total_bytes * 0 = omega arith in
      ap (λ (c : Bool). cond c (totals_end ts at) (total_in (λ x t. totals_from k s x t.id (ts ++ (t ∷ []))) s at last (field_at s at (11 ∷ []) 0))) (subst (Stops s) (sym z) w)
      ∙ ap₂ totals_end (sym (append-nil ts)) z
  totals-found (suc k) at last ts (v ∷ vs) h e r f w =
      let body = bytes_of 4 v.id ++ bytes_of 2 v.copies in
      let after = total_fields vs ++ rest in
      let d : drop at s ≡ field 11 body ++ after = e ∙ append_assoc (field 11 body) (total_fields vs) rest in
      let six : length body ≡ 6 = length-append (bytes_of 4 v.id) (bytes_of 2 v.copies) ∙ ap₂ ◌+◌ (length-bytes 4 v.id) (length-bytes 2 v.copies) in
      let inside : at < length s = omega (arith, ap length d, length-drop at s, length-append (field 11 body) after, length-field 11 body) in
      let here : field_at s at (11 ∷ []) 0 ≡ Body 11 (at + 3) (length body) =
      field_here s after body at 11 d (11 ∷ []) 0 (mem_head 11 11 [] refl) (legal-any 11 (length body) ∙ (ap (legal 11) six ∙ listed)) in
      let start = body_here s after body at 11 d in
      let id : number_at s (at + 3) 4 ≡ v.id =
      number_here s (bytes_of 2 v.copies ++ after) (at + 3) 4 v.id (start ∙ append_assoc (bytes_of 4 v.id) (bytes_of 2 v.copies) after) f.0 in
      let behind : drop (at + 3 + 4) s ≡ bytes_of 2 v.copies ++ after =
      sym (drop-drop 4 (at + 3) s) ∙ (ap (drop 4) (start ∙ append_assoc (bytes_of 4 v.id) (bytes_of 2 v.copies) after) ∙ drop_at (bytes_of 4 v.id) (bytes_of 2 v.copies ++ after) 4 (length-bytes 4 v.id)) in
      let copies : number_at s (at + 3 + 4) 2 ≡ v.copies = number_here s after (at + 3 + 4) 2 v.copies behind f.1 in
      let same : total_at s (at + 3) ≡ v = ap₂ total id copies in
      let go : (ℕ → Total → TotalsRead) = λ x t. totals_from k s x t.id (ts ++ (t ∷ [])) in
      let place : at + 3 + length body ≡ at + 9 = omega (arith, six) in
      let far : at + 9 + total_bytes * length vs ≡ at + total_bytes * suc (length vs) = omega arith in
      let on : leb (length s) at || row_begins s at ≡ false = simp (lt-leb (length s) at inside, no_row s after body at d) in
      let left : drop (at + 9) s ≡ after = ap (λ (x : ℕ). drop x s) (sym place) ∙ rest_here s after body at 11 d in
      ap (λ (c : Bool). cond c (totals_end ts at) (total_in go s at last (field_at s at (11 ∷ []) 0))) on
      ∙ (ap (total_in go s at last) here
      ∙ (ap (λ (t : Total). cond (eqb (total_fault last t) 0) (go (at + 3 + length body) t) (totals_refused (total_fault last t) at)) same
      ∙ (ap (λ (c : Bool). cond c (go (at + 3 + length body) v) (totals_refused (total_fault last v) at)) (eq-eqb (total_fault last v) 0 r.0)
      ∙ (ap (λ (x : ℕ). go x v) place
      ∙ (totals-found k (at + 9) v.id (ts ++ (v ∷ [])) vs (omega arith) left r.1 f.2 (subst (Stops s) (sym far) w)
      ∙ ap₂ totals_end (append_assoc ts (v ∷ []) vs) far)))))

-- ---- refusals

-- A fault is one of two numbers.
pub totals-some : (s : List ℕ) (k at last : ℕ) (ts : List Total) (r b : ℕ) → totals_from k s at last ts ≡ totals_refused r b → 0 < r
unfolding totals_from
totals-some s zero at last ts r b h = absurd (refused_ends r b ts at (sym h))
totals-some s (suc k) at last ts r b h =
    ⊎_elim
    (λ stop. absurd (refused_ends r b ts at (sym (sym (ap (λ (q : Bool). cond q (totals_end ts at) (next (field_at s at (11 ∷ []) 0))) stop) ∙ h))))
    (λ on. go (field_at s at (11 ∷ []) 0) refl (λ x t z. totals-some s k x t.id (ts ++ (t ∷ [])) r b z)
    (sym (ap (λ (q : Bool). cond q (totals_end ts at) (next (field_at s at (11 ∷ []) 0))) on) ∙ h))
    (true_or_false (leb (length s) at || row_begins s at))
  where
    next : Field → TotalsRead
    next f = total_in (λ x t. totals_from k s x t.id (ts ++ (t ∷ []))) s at last f

    go : (f : Field) → field_at s at (11 ∷ []) 0 ≡ f → ((x : ℕ) (t : Total) → totals_from k s x t.id (ts ++ (t ∷ [])) ≡ totals_refused r b → 0 < r)
        → next f ≡ totals_refused r b → 0 < r
    go (Refused x y) d later q = let z : number_of x ≡ r = cc in omega (arith, refusal-some x)
    go (Body tag start len) d later q =
        let t = total_at s start in
        let pick : ((c : Bool) → eqb (total_fault last t) 0 ≡ c
        → cond c (totals_from k s (start + len) t.id (ts ++ (t ∷ []))) (totals_refused (total_fault last t) at) ≡ totals_refused r b) =
        λ c e. sym (ap (λ (c : Bool). cond c (totals_from k s (start + len) t.id (ts ++ (t ∷ []))) (totals_refused (total_fault last t) at)) e) ∙ q in
        ⊎_elim (λ z. later (start + len) t (pick true (eq-eqb (total_fault last t) 0 z)))
        (λ z. let p = pick false (ne_eqb (total_fault last t) 0 z) in let e : total_fault last t ≡ r = cc in above (total_fault last t) r z e)
        (eq_or_ne (total_fault last t) 0)
      where
        above : (x y : ℕ) → (x ≡ 0 → ⊥) → x ≡ y → 0 < y
        above zero y z e = absurd (z refl)
        above (suc x) y z e = omega arith

-- The steps of reading the totals: one total more, the fault that stops it, and its ends.
-- Assumes nothing.
use Prim.Native.Nat.{ℕ, zero, suc, ◌+◌, ◌-◌, ◌*◌, ◌/◌, ◌%◌, ◌≤◌, ◌<◌}
use mathlib.Core.Path.{◌≡◌, refl, sym, ap, ◌∙◌, subst}
use mathlib.Core.Bool.{Bool, true, false, ◌||◌, cond}
use mathlib.Core.List.{List, [], ◌∷◌, ◌++◌}
use native.Mathlib.Omega.{arith}
use lib.Dec.{leb}
use lib.ListN.{length}
use borrow.Author.Tests.{le-leb, lt-leb, lt-ltb, le-ltb, eq-eqb, ne_eqb}
use Rattle.sums.specs.TermsSums.{tab}
use Rattle.cluster.specs.declared.refusal.Refusal.{Refusal}
use Rattle.cluster.specs.TermsRefusal.{number_of}
use Rattle.fields.specs.RecordField.{head_width, rule_of, Whole, field_at}
use Rattle.fields.specs.declared.Field.TheVariants.{Body, Refused}
use Rattle.fields.proofs.RecordField.{one_tag}
use Rattle.totals.specs.RecordTotals.{Total}
use Rattle.totals.specs.RecordTotalsFaults.{total_at, total_bytes, totals_at, total_fault, most_total, TotalsRead, totals_end, totals_refused, row_begins, total_in, totals_from}

-- ---- the fault of a total

module _ (last : ℕ) (t : Total) where
  pub fault-id : t.id ≡ 0 → total_fault last t ≡ 4
  unfolding total_fault
  fault-id e = simp (eq-eqb t.id 0 e)

  module _ (i : t.id ≡ 0 → ⊥) where
    pub fault-none : t.copies ≡ 0 → total_fault last t ≡ 4
    unfolding total_fault
    fault-none e = simp (ne_eqb t.id 0 i, eq-eqb t.copies 0 e)

    module _ (n : t.copies ≡ 0 → ⊥) where
      pub fault-many : most_total < t.copies → total_fault last t ≡ 4
      unfolding total_fault
      fault-many h = simp (ne_eqb t.id 0 i, ne_eqb t.copies 0 n, lt-ltb most_total t.copies h)

      module _ (m : t.copies ≤ most_total) where
        pub fault_rises : last < t.id → total_fault last t ≡ 0
        unfolding total_fault
        fault_rises h = simp (ne_eqb t.id 0 i, ne_eqb t.copies 0 n, le-ltb most_total t.copies m, lt-ltb last t.id h)

        pub fault_falls : t.id ≤ last → total_fault last t ≡ 5
        unfolding total_fault
        fault_falls h = simp (ne_eqb t.id 0 i, ne_eqb t.copies 0 n, le-ltb most_total t.copies m, le-ltb last t.id h)

-- ---- the walk

-- A whole field 11 has six bytes.
pub total-width : {n at tag start len : ℕ} → Whole n at (11 ∷ []) 0 tag start len → (start ≡ at + head_width) × (len ≡ 6) × (start + 6 ≤ n)
unfolding rule_of
total-width {n} {at} {tag} {start} {len} w =
    let t : tag ≡ 11 = one_tag 11 tag w.member in
    let l : (rule_of 11).least ≤ len = subst (λ (x : ℕ). (rule_of x).least ≤ len) t w.least in
    let g : len ≤ (rule_of 11).greatest = subst (λ (x : ℕ). len ≤ (rule_of x).greatest) t w.greatest in
    (w.begins, omega arith, omega (arith, w.ends))

stopped : (k : ℕ) (s : List ℕ) (at last : ℕ) (ts : List Total) → leb (length s) at || row_begins s at ≡ true → totals_from k s at last ts ≡ totals_end ts at
unfolding totals_from
stopped zero s at last ts h = refl
stopped (suc k) s at last ts h = rw h

going : (k : ℕ) (s : List ℕ) (at last : ℕ) (ts : List Total) → leb (length s) at || row_begins s at ≡ false
    → totals_from (suc k) s at last ts ≡ total_in (λ next t. totals_from k s next t.id (ts ++ (t ∷ []))) s at last (field_at s at (11 ∷ []) 0)
unfolding totals_from
going k s at last ts h = rw h

-- The totals from byte `from` on are read up to byte `at`, the last of them with the id `last`: from here the reading answers as from the start.
pub record To (s : List ℕ) (from last at : ℕ) : Type 0 where
  pub after : from ≤ at
  pub even : (at - from) % total_bytes ≡ 0
  pub inside : from ≤ length s → at ≤ length s
  pub same : totals_from (length s) s from 0 [] ≡ totals_from (length s - (at - from) / total_bytes) s at last (totals_at s from ((at - from) / total_bytes))

pub to_start : (s : List ℕ) (from : ℕ) → To s from 0 from
unfolding totals_at tab
to_start s from =
    let z : (from - from) / total_bytes ≡ 0 = omega arith in
    let f : length s - 0 ≡ length s = omega arith in
    record {
      after = omega arith;
      even = omega arith;
      inside = λ h. h;
      same = sym (ap (λ (k : ℕ). totals_from (length s - k) s from 0 (totals_at s from k)) z ∙ ap (λ (k : ℕ). totals_from k s from 0 []) f);
    }

module _ {s : List ℕ} {from last at : ℕ} (k : To s from last at) where
  abbrev many : ℕ
  many = (at - from) / total_bytes

  -- At the record's end, and at a row, they end.
  pub to_end : length s ≤ at → totals_end (totals_at s from many) at ≡ totals_from (length s) s from 0 []
  to_end h = sym (k.same ∙ stopped (length s - many) s at last (totals_at s from many) (simp (le-leb (length s) at h)))

  pub to_row : at < length s → row_begins s at ≡ true → totals_end (totals_at s from many) at ≡ totals_from (length s) s from 0 []
  to_row h e = sym (k.same ∙ stopped (length s - many) s at last (totals_at s from many) (simp (lt-leb (length s) at h, e)))

  module _ (h : at < length s) (e : row_begins s at ≡ false) where
    abbrev left : ℕ
    left = length s - suc many

    abbrev on : ℕ → Total → TotalsRead
    on next t = totals_from left s next t.id (totals_at s from many ++ (t ∷ []))

    turn : totals_from (length s) s from 0 [] ≡ total_in on s at last (field_at s at (11 ∷ []) 0)
    turn =
        let f : length s - many ≡ suc left = omega arith in
        k.same
        ∙ (ap (λ (n : ℕ). totals_from n s at last (totals_at s from many)) f ∙ going left s at last (totals_at s from many) (simp (lt-leb (length s) at h, e)))

    -- A field that is not whole stops the reading;
    pub to_halt : {refusal : Refusal} {byte : ℕ} → Refused refusal byte ≡ field_at s at (11 ∷ []) 0 → totals_refused (number_of refusal) byte ≡ totals_from (length s) s from 0 []
    to_halt d = sym (turn ∙ ap (total_in on s at last) (sym d))

    module _ {tag start len : ℕ} (d : Body tag start len ≡ field_at s at (11 ∷ []) 0) where
      abbrev here : Total
      here = total_at s start

      -- so does a total with a fault;
      pub to-fault : (total_fault last here ≡ 0 → ⊥) → totals_refused (total_fault last here) at ≡ totals_from (length s) s from 0 []
      to-fault z =
          sym (turn
          ∙ (ap (total_in on s at last) (sym d)
          ∙ ap (λ (b : Bool). cond b (on (start + len) here) (totals_refused (total_fault last here) at)) (ne_eqb (total_fault last here) 0 z)))

      -- else there is one more.
      pub to-next : total_fault last here ≡ 0 → start ≡ at + head_width → len ≡ 6 → start + 6 ≤ length s → To s from here.id (start + len)
      unfolding totals_at tab
      to-next z b w i =
          let next : (start + len - from) / total_bytes ≡ suc many = omega (arith, k.after, k.even) in
          let place : start ≡ from + total_bytes * many + head_width = omega (arith, k.after, k.even) in
          record {
            after = omega (arith, k.after);
            even = omega (arith, k.after, k.even);
            inside = λ x. omega arith;
            same = turn
                ∙ (ap (total_in on s at last) (sym d)
                ∙ (ap (λ (b : Bool). cond b (on (start + len) here) (totals_refused (total_fault last here) at)) (eq-eqb (total_fault last here) 0 z)
                ∙ (ap (λ (t : ℕ). totals_from left s (start + len) here.id (totals_at s from many ++ (total_at s t ∷ []))) place
                ∙ sym (ap (λ (n : ℕ). totals_from (length s - n) s (start + len) here.id (totals_at s from n)) next))));
          }

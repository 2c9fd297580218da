-- The laws of fields: what is known of a whole field, and that a field is read where it was written and written as it was read. Laws of legal lengths
-- that readers of records cite are passed on.
-- Assumes nothing.
use Prim.Native.Nat.{ℕ, ◌+◌, ◌-◌, ◌%◌, ◌≤◌, ◌<◌}
use mathlib.Core.Path.{◌≡◌, refl, sym, ap, ap₂, ◌∙◌, subst}
use mathlib.Core.Bool.{true, false}
use mathlib.Core.List.{List, [], ◌∷◌, ◌++◌, append_assoc}
use mathlib.Core.Logic.{⊎_elim}
use native.Mathlib.Nat.{add-zero, div-one, mod-eq_of_lt}
use native.Mathlib.Numerals.{add-one}
use native.Mathlib.Omega.{arith}
use lib.ListN.{length, take, drop, get_or, length-append, length-drop, take-append-drop}
use lib.Seq.{drop-cons, drop-drop, get_or-drop, drop-append_seam, drop_at}
use Rattle.sums.proofs.Sum.{lt_or_ge}
use Rattle.cluster.specs.Terms.{mem}
use Rattle.cluster.proofs.Lists.{mem-none, mem_cases}
use Rattle.sums.proofs.Tests.{true_or_false}
pub use Rattle.lengths.proofs.Lengths.{legal-true, legal-any, legal_only}
use Rattle.lengths.proofs.Lengths.{greatest_lt, legal-least, legal-greatest, legal-step, lawful, only}
use Rattle.fields.specs.RecordField.{bytes_of, Bytes, part, number_at, head_width, field, legal_as, judged, field_at, Whole, Within}
use Rattle.cluster.specs.declared.refusal.Refusal.{Refusal}
use Rattle.cluster.specs.declared.refusal.Refusal.TheVariants.{Cut, Tag, Length}
use Rattle.cluster.specs.TermsRefusal.{number_of as number_of_refusal}
use Rattle.fields.specs.declared.Field.{Field}
use Rattle.fields.specs.declared.Field.TheVariants.{Body, Refused}
use Rattle.numbers.proofs.Numbers.{length-bytes, has-true, has-false, number_byte, number_here, bytes_there, length_part}

-- ---- tags allowed next

-- The tag of a list of one.
pub one_tag : (a t : ℕ) → mem t (a ∷ []) ≡ true → t ≡ a
one_tag a t h = ⊎_elim (λ e. e) (λ z. absurd (mem-none t z)) (mem_cases t a [] h)

-- ---- refusals

-- The number of a refusal is not 0.
pub refusal-some : (r : Refusal) → 1 ≤ number_of_refusal r
refusal-some r = grind arith

-- ---- the field at a byte

-- What is known of a field's answer: its tag and length are read from the first bytes; a refusal is not 0, and its byte is where the field begins.
abbrev Read : List ℕ → ℕ → Field → Type 0
Read s at (Body tag start len) = (tag ≡ number_at s at 1) × (len ≡ number_at s (at + 1) 2)
Read s at (Refused refusal byte) = (1 ≤ number_of_refusal refusal) × (byte ≡ at)

module _ (s : List ℕ) (at : ℕ) (allowed : List ℕ) (exact : ℕ) where
  -- The first fault decides, in the order of the paper; with none the field is whole.
  pub field_cut : length s < at + 3 → field_at s at allowed exact ≡ Refused Cut at
  unfolding field_at
  field_cut h = simp (has-false (length s) at 3 h)

  module _ (head : at + 3 ≤ length s) where
    pub field_tag : mem (number_at s at 1) allowed ≡ false → field_at s at allowed exact ≡ Refused Tag at
    unfolding field_at judged
    field_tag h = simp (has-true (length s) at 3 head, h)

    module _ (tagged : mem (number_at s at 1) allowed ≡ true) where
      pub field-length : legal_as exact (number_at s at 1) (number_at s (at + 1) 2) ≡ false → field_at s at allowed exact ≡ Refused Length at
      unfolding field_at judged
      field-length h = simp (has-true (length s) at 3 head, tagged, h)

      module _ (long : legal_as exact (number_at s at 1) (number_at s (at + 1) 2) ≡ true) where
        pub field_body : length s < at + 3 + number_at s (at + 1) 2 → field_at s at allowed exact ≡ Refused Cut at
        unfolding field_at judged
        field_body h = simp (has-true (length s) at 3 head, tagged, long, has-false (length s) (at + 3) (number_at s (at + 1) 2) h)

        pub field_whole : at + 3 + number_at s (at + 1) 2 ≤ length s → field_at s at allowed exact ≡ Body (number_at s at 1) (at + 3) (number_at s (at + 1) 2)
        unfolding field_at judged
        field_whole h = simp (has-true (length s) at 3 head, tagged, long, has-true (length s) (at + 3) (number_at s (at + 1) 2) h)

abbrev Known : List ℕ → ℕ → List ℕ → ℕ → Field → Type 0
Known s at allowed exact f = Within (length s) at allowed exact f × Read s at f

-- The answer of a field has what is known of it.
known : (s : List ℕ) (at : ℕ) (allowed : List ℕ) (exact : ℕ) → Known s at allowed exact (field_at s at allowed exact)
known s at allowed exact =
    let tag = number_at s at 1 in
    let len = number_at s (at + 1) 2 in
    ⊎_elim (λ cut. subst (Known s at allowed exact) (sym (field_cut s at allowed exact cut)) (tt, (omega arith, refl)))
    (λ head. ⊎_elim
    (λ t. ⊎_elim
    (λ l. ⊎_elim (λ short. subst (Known s at allowed exact) (sym (field_body s at allowed exact head t l short)) (tt, (omega arith, refl)))
    (λ long. subst (Known s at allowed exact) (sym (field_whole s at allowed exact head t l long)) (whole_is tag len t l long, (refl, refl)))
    (lt_or_ge (length s) (at + 3 + len)))
    (λ l. subst (Known s at allowed exact) (sym (field-length s at allowed exact head t l)) (tt, (omega arith, refl))) (true_or_false (legal_as exact tag len)))
    (λ t. subst (Known s at allowed exact) (sym (field_tag s at allowed exact head t)) (tt, (omega arith, refl))) (true_or_false (mem tag allowed)))
    (lt_or_ge (length s) (at + 3))
  where
    whole_is : (tag len : ℕ) → mem tag allowed ≡ true → legal_as exact tag len ≡ true → at + 3 + len ≤ length s → Whole (length s) at allowed exact tag (at + 3) len
    whole_is tag len t l long =
        let k = lawful exact tag len l in
        record { begins = refl; ends = long; member = t; least = legal-least tag len k; greatest = legal-greatest tag len k; step = legal-step tag len k; only = only exact tag len l }

-- What is known of a whole field.
pub within : (s : List ℕ) (at : ℕ) (allowed : List ℕ) (exact : ℕ) → Within (length s) at allowed exact (field_at s at allowed exact)
within s at allowed exact = (known s at allowed exact).0

-- What is known of a refused one.
pub refused-some : (s : List ℕ) (at : ℕ) (allowed : List ℕ) (exact : ℕ) (refusal : Refusal) (byte : ℕ) → field_at s at allowed exact ≡ Refused refusal byte
    → (1 ≤ number_of_refusal refusal) × (byte ≡ at)
refused-some s at allowed exact refusal byte e = subst (Read s at) e (known s at allowed exact).1

module _ (s : List ℕ) (at : ℕ) (allowed : List ℕ) (exact tag start len : ℕ) (e : field_at s at allowed exact ≡ Body tag start len) where
  pub whole : Whole (length s) at allowed exact tag start len
  whole = subst (Within (length s) at allowed exact) e (within s at allowed exact)

  -- Its tag is the first byte.
  pub tag_read : tag ≡ number_at s at 1
  tag_read = (subst (Read s at) e (known s at allowed exact).1).0

  -- Its length is the number in the two bytes after that.
  pub length-read : len ≡ number_at s (at + 1) 2
  length-read = (subst (Read s at) e (known s at allowed exact).1).1

  -- Reading and writing again: from where it begins the record is the field, and then what stands after it.
  pub field_back : Bytes s → drop at s ≡ field tag (part s start len) ++ drop (start + len) s
  unfolding field
  field_back b =
      let w = whole in
      let inside : at + 3 + len ≤ length s = omega arith in
      let after = drop (at + 1) s in
      let next : at + 1 + 2 ≡ start = omega arith in
      let behind : drop 2 after ≡ part s start len ++ drop (start + len) s =
      drop-drop 2 (at + 1) s
      ∙ (ap (λ (k : ℕ). drop k s) next
      ∙ (sym (take-append-drop len (drop start s)) ∙ ap (λ (l : List ℕ). part s start len ++ l) (drop-drop len start s)))
      in
      let head : take 2 after ≡ bytes_of 2 (length (part s start len)) =
      sym (bytes_there s (at + 1) 2 b (omega arith)) ∙ ap (bytes_of 2) (sym length-read ∙ sym (length_part s start len (omega arith))) in
      drop-cons s at 0 (omega arith)
      ∙ ap₂ (λ (t : ℕ) (l : List ℕ). t ∷ l) (sym (number_byte s at) ∙ sym tag_read)
      (ap (λ (k : ℕ). drop k s) (sym (add-one at))
      ∙ (sym (take-append-drop 2 after)
      ∙ (ap₂ (λ (x y : List ℕ). x ++ y) head behind
      ∙ sym (append_assoc (bytes_of 2 (length (part s start len))) (part s start len) (drop (start + len) s)))))

-- A field is three bytes longer than its body.
pub length-field : (tag : ℕ) (body : List ℕ) → length (field tag body) ≡ 3 + length body
unfolding field
length-field tag body = omega (arith, length-append (bytes_of 2 (length body)) body, length-bytes 2 (length body))

-- A field of one number has the bytes of a head and of the number.
pub length-number : (tag w v : ℕ) → length (field tag (bytes_of w v)) ≡ head_width + w
length-number tag w v = length-field tag (bytes_of w v) ∙ ap (λ (k : ℕ). head_width + k) (length-bytes w v)

-- A field in its three parts, as it is written.
pub field-bytes : (tag : ℕ) (body : List ℕ) → tag < 256 → field tag body ≡ bytes_of 1 tag ++ (bytes_of 2 (length body) ++ body)
unfolding field bytes_of
field-bytes tag body h = ap (λ (k : ℕ). k ∷ (bytes_of 2 (length body) ++ body)) (sym (ap (λ (k : ℕ). k % 256) (div-one tag) ∙ mod-eq_of_lt h))

module _ (s rest body : List ℕ) (at tag : ℕ) (e : drop at s ≡ field tag body ++ rest) where
  -- After its tag a field has its length and its body.
  head_here : drop (at + 1) s ≡ bytes_of 2 (length body) ++ (body ++ rest)
  unfolding field
  head_here = sym (drop-drop 1 at s) ∙ (ap (drop 1) e ∙ append_assoc (bytes_of 2 (length body)) body rest)

  -- After its three bytes of tag and length it has its body.
  pub body_here : drop (at + 3) s ≡ body ++ rest
  body_here =
      let next : at + 3 ≡ at + 1 + 2 = omega arith in
      ap (λ (k : ℕ). drop k s) next
      ∙ (sym (drop-drop 2 (at + 1) s) ∙ (ap (drop 2) head_here ∙ drop_at (bytes_of 2 (length body)) (body ++ rest) 2 (length-bytes 2 (length body))))

  -- After its body stands the rest.
  pub rest_here : drop (at + 3 + length body) s ≡ rest
  rest_here = sym (drop-drop (length body) (at + 3) s) ∙ (ap (drop (length body)) body_here ∙ drop-append_seam body rest)

  -- Writing and reading again: where a field stands that is allowed and has a legal length, it is read whole.
  pub field_here : (allowed : List ℕ) (exact : ℕ) → mem tag allowed ≡ true → legal_as exact tag (length body) ≡ true
      → field_at s at allowed exact ≡ Body tag (at + 3) (length body)
  unfolding field
  field_here allowed exact t l =
      let long : length s - at ≡ 3 + length body + length rest = sym (length-drop at s) ∙ (ap length e ∙ (length-append (field tag body) rest ∙ ap (λ (k : ℕ). k + length rest) (length-field tag body))) in
      let short : length body < 65536 = omega (arith, legal-greatest tag (length body) (lawful exact tag (length body) l), greatest_lt tag) in
      let a : number_at s at 1 ≡ tag =
      number_byte s at ∙ (ap (λ (k : ℕ). get_or s k 0) (sym (add-zero at)) ∙ (sym (get_or-drop at s 0 0) ∙ ap (λ (r : List ℕ). get_or r 0 0) e)) in
      let n : number_at s (at + 1) 2 ≡ length body = number_here s (body ++ rest) (at + 1) 2 (length body) head_here short in
      field_whole s at allowed exact (omega arith) (ap (λ (k : ℕ). mem k allowed) a ∙ t) (ap₂ (legal_as exact) a n ∙ l) (omega arith)
      ∙ ap₂ (λ (x y : ℕ). Body x (at + 3) y) a n

-- The rows of a record are read exactly where their fields stand, one after the other and to the end.
-- Assumes nothing.
use Prim.Native.Nat.{ℕ, zero, suc, ◌+◌, ◌-◌, ◌*◌, ◌%◌, ◌^◌, ◌≤◌, ◌<◌}
use mathlib.Core.Path.{◌≡◌, refl, sym, ap, ap₂, ◌∙◌, subst}
use mathlib.Core.Bool.{Bool, true, cond}
use mathlib.Core.List.{List, [], ◌∷◌, ◌++◌, append_assoc, append-nil}
use mathlib.Core.Logic.{⊎_elim}
use native.Mathlib.Omega.{arith}
use lib.ListN.{length, drop, get_or, length-append, length-drop}
use lib.Seq.{drop-drop, drop_at}
use borrow.Author.Tests.{eq-eqb, ne_eqb, le-leb}
use Rattle.sums.proofs.Sum.{lt_or_ge, eq_or_ne}
use Rattle.cluster.specs.Terms.{most_copies, buffer_rows, Layout, row, mem, rising}
use Rattle.sums.proofs.Tests.{true_or_false}
use Rattle.cluster.proofs.Lists.{rising_fresh}
use Rattle.fields.specs.RecordField.{bytes_of, Bytes, part, number_at, field, rule_of, legal, legal_as, id_bytes, ids_at}
use Rattle.fields.specs.declared.Field.{Field}
use Rattle.fields.specs.declared.Field.TheVariants.{Body, Refused}
use Rattle.numbers.proofs.Numbers.{length-bytes, bytes_there, number_here, part-append}
use Rattle.fields.proofs.RecordField.{refusal-some, one_tag, legal_only, whole, field_back, field_here, body_here, rest_here}
use Rattle.layout_head.specs.declared.Numbers.{Numbers}
use Rattle.layout_rows.specs.RecordLayout.{layout_row_field, layout_row_fields}
use Rattle.layout_head.specs.RecordHeadFaults.{next_field}
use Rattle.layout_rows.specs.RecordLayoutFaults.{LayoutRead, layout_accepted, layout_refused, layout_row_fault, end_in, row_in, rows_from}
use Rattle.id_bytes.proofs.IdBytes.{length_ids, length-id-bytes, ids_here, ids-back, ids_words}
use Rattle.layout_record.proofs.CellsMore.{length_more}
use Rattle.layout_head.proofs.NumberFields.{next_there}
use Rattle.layout_rows.proofs.RowFaults.{fault-partition, fault_zero, fault-next, fault_falls, fault-none, end_whole, end_more}
use Rattle.layout_head.proofs.FieldFaults.{none-refused, next_body, tag_alone, before_end}

-- Rows as a record has them: R rising ids of 32 bits each.
pub record Rows (R : ℕ) (M : Layout) : Type 0 where
  pub many : (q : ℕ) → q < length M → length (row M q) ≡ R
  pub ids : (q : ℕ) → q < length M → rising (row M q) ≡ true
  pub words : (q j : ℕ) → get_or (row M q) j 0 < 2 ^ 32

-- No rows, and one row before others.
pub no_rows : (R : ℕ) → Rows R []
no_rows R = record { many = λ q l. absurd (omega arith); ids = λ q l. absurd (omega arith); words = λ q j. omega arith }

pub more_rows : (R : ℕ) (r : List ℕ) (M : Layout) → length r ≡ R → rising r ≡ true → ((j : ℕ) → get_or r j 0 < 2 ^ 32) → Rows R M → Rows R (r ∷ M)
more_rows R r M a b w h = record { many = many; ids = ids; words = words }
  where
    many : (q : ℕ) → q < length (r ∷ M) → length (row (r ∷ M) q) ≡ R
    many zero l = a
    many (suc q) l = h.many q (omega arith)

    ids : (q : ℕ) → q < length (r ∷ M) → rising (row (r ∷ M) q) ≡ true
    ids zero l = b
    ids (suc q) l = h.ids q (omega arith)

    words : (q j : ℕ) → get_or (row (r ∷ M) q) j 0 < 2 ^ 32
    words zero j = w j
    words (suc q) j = h.words q j

-- All but the first of some rows.
pub rest-rows : (R : ℕ) (r : List ℕ) (M : Layout) → Rows R (r ∷ M) → Rows R M
rest-rows R r M h =
    record { many = λ q l. h.many (suc q) (omega arith); ids = λ q l. h.ids (suc q) (omega arith); words = λ q j. h.words (suc q) j }

-- ---- what is read, is in the bytes

-- A row without fault is the next, and its ids rise.
pub no_row-fault : (partitions next p : ℕ) (ids : List ℕ) → layout_row_fault partitions next p ids ≡ 0 → (p ≡ next) × (rising ids ≡ true)
no_row-fault partitions next p ids z =
    ⊎_elim (λ inside. ⊎_elim (λ m. absurd (omega (arith, fault_zero partitions next p ids m)))
    (λ m. ⊎_elim (λ e. ⊎_elim (λ t. (e, t)) (λ t. absurd (omega (arith, fault_falls partitions next p ids inside m e t))) (true_or_false (rising ids)))
    (λ e. absurd (omega (arith, fault-next partitions next p ids inside m e))) (eq_or_ne p next))
    (true_or_false (mem 0 ids)))
    (λ out. absurd (omega (arith, fault-partition partitions next p ids out))) (lt_or_ge p partitions)

-- Past the end of a list there is nothing.
drop_none : (l : List ℕ) (n : ℕ) → length l ≤ n → drop n l ≡ []
drop_none [] zero h = refl
drop_none [] (suc n) h = refl
drop_none (x ∷ l) zero h = absurd (omega arith)
drop_none (x ∷ l) (suc n) h = drop_none l n (omega arith)

-- The rows that were read from byte `at` on, after those of L.
pub record RowsRead (o : LayoutRead) (k : ℕ) (s : List ℕ) (at : ℕ) (n : Numbers) (L : Layout) : Type 0 where
  pub rows : Layout
  pub outcome : o ≡ layout_accepted n (L ++ rows)
  pub count : length rows ≡ k
  pub bytes : drop at s ≡ layout_row_fields (length L) rows
  pub right : Rows n.replication rows

module _ (s : List ℕ) (b : Bytes s) (n : Numbers) where
  ended-back : (at : ℕ) (L : Layout) → (end_in s at n L).refusal ≡ 0 → RowsRead (end_in s at n L) 0 s at n L
  unfolding layout_row_fields
  ended-back at L h =
      ⊎_elim (λ l. absurd (omega (arith, none-refused s at 0, ap (λ (o : LayoutRead). o.refusal) (end_more s at n L l))))
      (λ g. record {
        rows = [];
        outcome = end_whole s at n L g ∙ ap (layout_accepted n) (sym (append-nil L));
        count = refl;
        bytes = drop_none s at g;
        right = no_rows n.replication;
      })
      (lt_or_ge at (length s))

  -- The body of a row: its partition, then its ids.
  row_body : (start p R : ℕ) → start + (2 + 4 * R) ≤ length s → number_at s start 2 ≡ p → part s start (2 + 4 * R) ≡ bytes_of 2 p ++ id_bytes (ids_at s (start + 2) R)
  row_body start p R h e =
      part-append s start 2 (4 * R)
      ∙ ap₂ (λ (x y : List ℕ). x ++ y) (sym (bytes_there s start 2 b (omega arith)) ∙ ap (bytes_of 2) e) (sym (ids-back s (start + 2) R b (omega arith)))

  -- One row, and then those that the rest of the reading has.
  row_back : (k at : ℕ) (L : Layout) (go : ℕ → Layout → LayoutRead) (t start len : ℕ)
      → next_field s at 10 (2 + 4 * n.replication) ≡ Body t start len
      → layout_row_fault (2 ^ n.bits) (length L) (number_at s start 2) (ids_at s (start + 2) n.replication) ≡ 0
      → RowsRead (go (start + len) (L ++ (ids_at s (start + 2) n.replication ∷ []))) k s (start + len) n (L ++ (ids_at s (start + 2) n.replication ∷ []))
      → RowsRead (go (start + len) (L ++ (ids_at s (start + 2) n.replication ∷ []))) (suc k) s at n L
  unfolding layout_row_fields layout_row_field
  row_back k at L go t start len e z h =
      let R = n.replication in
      let ids = ids_at s (start + 2) R in
      let f = next_body s at 10 (2 + 4 * R) t start len e in
      let w = whole s at (10 ∷ []) (2 + 4 * R) t start len f in
      let tag : t ≡ 10 = one_tag 10 t w.member in
      let long : len ≡ 2 + 4 * R = w.only (λ q. omega arith) in
      let ok = no_row-fault (2 ^ n.bits) (length L) (number_at s start 2) ids z in
      let body : part s start len ≡ bytes_of 2 (length L) ++ id_bytes ids = ap (part s start) long ∙ row_body start (length L) R (omega arith) ok.0 in
      let next : length (L ++ (ids ∷ [])) ≡ suc (length L) = length_more L ids ∙ omega arith in
      record {
        rows = ids ∷ h.rows;
        outcome = h.outcome ∙ ap (layout_accepted n) (append_assoc L (ids ∷ []) h.rows);
        count = ap suc h.count;
        bytes =
            field_back s at (10 ∷ []) (2 + 4 * R) t start len f b
            ∙ ap₂ (λ (x y : List ℕ). x ++ y) (ap₂ field tag body) (h.bytes ∙ ap (λ (q : ℕ). layout_row_fields q h.rows) next);
        right = more_rows R ids h.rows (length_ids s (start + 2) R) ok.1 (λ j. ids_words s (start + 2) R j b) h.right;
      }

  -- Rows that are read without refusal.
  pub rows_back : (k at : ℕ) (L : Layout) → (rows_from k s at n L).refusal ≡ 0 → RowsRead (rows_from k s at n L) k s at n L
  unfolding rows_from
  rows_back zero at L h = ended-back at L h
  rows_back (suc k) at L h =
      go (next_field s at 10 (2 + 4 * n.replication)) refl (λ at' L'. rows_back k at' L') h
    where
      go : (f : Field) → next_field s at 10 (2 + 4 * n.replication) ≡ f
          → ((at' : ℕ) (L' : Layout) → (rows_from k s at' n L').refusal ≡ 0 → RowsRead (rows_from k s at' n L') k s at' n L')
          → (row_in (λ next M. rows_from k s next n M) s at n L f).refusal ≡ 0
          → RowsRead (row_in (λ next M. rows_from k s next n M) s at n L f) (suc k) s at n L
      go (Refused r y) e i q = absurd (omega (arith, refusal-some r))
      go (Body t start len) e i q =
          let fault = layout_row_fault (2 ^ n.bits) (length L) (number_at s start 2) (ids_at s (start + 2) n.replication) in
          let M = L ++ (ids_at s (start + 2) n.replication ∷ []) in
          ⊎_elim
          (λ z. let p : row_in (λ next M. rows_from k s next n M) s at n L (Body t start len) ≡ rows_from k s (start + len) n M =
          ap (λ (x : Bool). cond x (rows_from k s (start + len) n M) (layout_refused fault at)) (eq-eqb fault 0 z) in
          subst (λ (o : LayoutRead). RowsRead o (suc k) s at n L) (sym p)
          (row_back k at L (λ next M. rows_from k s next n M) t start len e z
          (i (start + len) M (sym (ap (λ (o : LayoutRead). o.refusal) p) ∙ q))))
          (λ z. absurd
          (z (sym (ap (λ (x : Bool). (cond x (rows_from k s (start + len) n M) (layout_refused fault at)).refusal) (ne_eqb fault 0 z)) ∙ q)))
          (eq_or_ne fault 0)

-- ---- what is in the bytes, is read

-- The length of a row's body is legal.
legal_ten : (R : ℕ) → 1 ≤ R → R ≤ most_copies → legal 10 (2 + 4 * R) ≡ true
unfolding legal rule_of
legal_ten R some few =
    let low : 6 ≤ 2 + 4 * R = omega arith in
    let high : 2 + 4 * R ≤ 34 = omega arith in
    let step : (2 + 4 * R - 6) % 4 ≡ 0 = omega arith in
    simp (le-leb 6 (2 + 4 * R) low, le-leb (2 + 4 * R) 34 high, eq-eqb ((2 + 4 * R - 6) % 4) 0 step)

module _ (s : List ℕ) (n : Numbers) (few : n.replication ≤ most_copies) (some : 1 ≤ n.replication) (within : 2 ^ n.bits ≤ buffer_rows) where
  -- Rows that stand at a byte, up to the end and to the last partition, are read.
  pub rows-found : (M L : Layout) (at : ℕ) → drop at s ≡ layout_row_fields (length L) M → length L + length M ≡ 2 ^ n.bits → Rows n.replication M
      → rows_from (length M) s at n L ≡ layout_accepted n (L ++ M)
  unfolding rows_from layout_row_fields layout_row_field
  rows-found [] L at e c h =
      end_whole s at n L (omega (arith, ap length e, length-drop at s)) ∙ ap (layout_accepted n) (sym (append-nil L))
  rows-found (r ∷ M) L at e c h = go (rows-found M (L ++ (r ∷ [])) (at + 3 + (2 + 4 * n.replication)))
    where
      go : (drop (at + 3 + (2 + 4 * n.replication)) s ≡ layout_row_fields (length (L ++ (r ∷ []))) M → length (L ++ (r ∷ [])) + length M ≡ 2 ^ n.bits
          → Rows n.replication M → rows_from (length M) s (at + 3 + (2 + 4 * n.replication)) n (L ++ (r ∷ [])) ≡ layout_accepted n (L ++ (r ∷ []) ++ M))
          → row_in (λ next K. rows_from (length M) s next n K) s at n L (next_field s at 10 (2 + 4 * n.replication)) ≡ layout_accepted n (L ++ (r ∷ M))
      go i =
          let p = length L in
          let R = n.replication in
          let body = bytes_of 2 p ++ id_bytes r in
          let rest = layout_row_fields (suc p) M in
          let many : length r ≡ R = h.many 0 (omega arith) in
          let up : rising r ≡ true = h.ids 0 (omega arith) in
          let long : length body ≡ 2 + 4 * R =
          length-append (bytes_of 2 p) (id_bytes r) ∙ ap₂ ◌+◌ (length-bytes 2 p) (length-id-bytes r ∙ ap (λ (q : ℕ). 4 * q) many) in
          let right : legal 10 (2 + 4 * R) ≡ true = legal_ten R some few in
          let field' : next_field s at 10 (2 + 4 * R) ≡ Body 10 (at + 3) (2 + 4 * R) =
          next_there s at 10 (2 + 4 * R) (before_end s rest body at 10 e)
          ∙ (field_here s rest body at 10 e (10 ∷ []) (2 + 4 * R) (tag_alone 10)
          (ap (legal_as (2 + 4 * R) 10) long ∙ legal_only 10 (2 + 4 * R) right)
          ∙ ap (λ (q : ℕ). Body 10 (at + 3) q) long) in
          let here : drop (at + 3) s ≡ bytes_of 2 p ++ (id_bytes r ++ rest) = body_here s rest body at 10 e ∙ append_assoc (bytes_of 2 p) (id_bytes r) rest in
          let number : number_at s (at + 3) 2 ≡ p = number_here s (id_bytes r ++ rest) (at + 3) 2 p here (omega arith) in
          let after : drop (at + 3 + 2) s ≡ id_bytes r ++ rest =
          sym (drop-drop 2 (at + 3) s) ∙ (ap (drop 2) here ∙ drop_at (bytes_of 2 p) (id_bytes r ++ rest) 2 (length-bytes 2 p)) in
          let ids : ids_at s (at + 3 + 2) R ≡ r = ap (ids_at s (at + 3 + 2)) (sym many) ∙ ids_here s rest (at + 3 + 2) r after (λ j. h.words 0 j) in
          let fault : layout_row_fault (2 ^ n.bits) p (number_at s (at + 3) 2) (ids_at s (at + 3 + 2) R) ≡ 0 =
          ap₂ (layout_row_fault (2 ^ n.bits) p) number ids
          ∙ fault-none (2 ^ n.bits) p p r (omega arith) (rising_fresh 0 0 r up (omega arith)) refl up in
          let next : length (L ++ (r ∷ [])) ≡ suc p = length_more L r ∙ omega arith in
          ap (row_in (λ q K. rows_from (length M) s q n K) s at n L) field'
          ∙ (ap (λ (x : Bool). cond x (rows_from (length M) s (at + 3 + (2 + 4 * R)) n (L ++ (ids_at s (at + 3 + 2) R ∷ [])))
          (layout_refused (layout_row_fault (2 ^ n.bits) p (number_at s (at + 3) 2) (ids_at s (at + 3 + 2) R)) at))
          (eq-eqb (layout_row_fault (2 ^ n.bits) p (number_at s (at + 3) 2) (ids_at s (at + 3 + 2) R)) 0 fault)
          ∙ (ap (λ (l : List ℕ). rows_from (length M) s (at + 3 + (2 + 4 * R)) n (L ++ (l ∷ []))) ids
          ∙ (i (ap (λ (q : ℕ). drop (at + 3 + q) s) (sym long) ∙ (rest_here s rest body at 10 e ∙ ap (λ (q : ℕ). layout_row_fields q M) (sym next)))
          (omega (arith, length_more L r)) (rest-rows R r M h)
          ∙ ap (layout_accepted n) (append_assoc L (r ∷ []) M))))

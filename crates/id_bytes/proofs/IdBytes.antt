-- Ids in the bytes of a record: what a scan of them finds, how many bytes they take, and that they are read as they were written and written
-- as they were read.
-- Assumes nothing.
use Prim.Native.Nat.{ℕ, zero, suc, ◌+◌, ◌-◌, ◌*◌, ◌/◌, ◌^◌, ◌≤◌, ◌<◌}
use mathlib.Core.Path.{◌≡◌, refl, sym, ap, ap₂, ◌∙◌}
use mathlib.Core.Bool.{Bool, true, false, ◌&&◌}
use mathlib.Core.Logic.{⊎_elim}
use mathlib.Core.List.{List, [], ◌∷◌, ◌++◌, append_assoc, append-nil}
use native.Mathlib.Nat.{add-zero}
use native.Mathlib.Omega.{arith}
use lib.ListN.{length, drop, get_or, length-append}
use borrow.Author.Tests.{lt-ltb, le-ltb}
use Rattle.sums.proofs.Tests.{true_or_false}
use Rattle.cluster.specs.Terms.{mem, rising, rising_from}
use Rattle.cluster.proofs.Lists.{mem_head, mem-skip, index_mem, rising_fresh}
use Rattle.numbers.specs.RecordNumber.{bytes_of, Bytes, part, number_at}
use Rattle.id_bytes.specs.RecordIds.{ids_at, id_bytes}
use Rattle.numbers.proofs.Numbers.{length-bytes, number_here, number-none, after-number, bytes_there, part-append, number-at_lt, bytes_byte, bytes-join}

-- The first of some ids, then the others.
pub ids_more : (s : List ℕ) (at m : ℕ) → 0 < m → ids_at s at m ≡ number_at s at 4 ∷ ids_at s (at + 4) (m - 1)
unfolding ids_at
ids_more s at m h = let e : m ≡ suc (m - 1) = omega arith in ap (λ (k : ℕ). ids_at s at k) e

pub ids-none : (s : List ℕ) (at m : ℕ) → m ≤ 0 → ids_at s at m ≡ []
unfolding ids_at
ids-none s at m h = let e : m ≡ 0 = omega arith in ap (λ (k : ℕ). ids_at s at k) e

pub length_ids : (s : List ℕ) (at m : ℕ) → length (ids_at s at m) ≡ m
unfolding ids_at
length_ids s at zero = refl
length_ids s at (suc m) = ap suc (length_ids s (at + 4) m)

-- Id j stands four bytes further on for each id before it.
pub get_or_ids : (s : List ℕ) (at m j : ℕ) → j < m → get_or (ids_at s at m) j 0 ≡ number_at s (at + 4 * j) 4
unfolding ids_at
get_or_ids s at zero j h = absurd (omega arith)
get_or_ids s at (suc m) zero h = ap (λ (k : ℕ). number_at s k 4) (sym (add-zero at))
get_or_ids s at (suc m) (suc j) h =
    let e : at + 4 + 4 * j ≡ at + 4 * suc j = omega arith in
    get_or_ids s (at + 4) m j (omega arith) ∙ ap (λ (k : ℕ). number_at s k 4) e

-- The ids from id j on: that one and the others.
module _ (s : List ℕ) (from m j : ℕ) (some : j < m) where
  ids_from : ids_at s (from + 4 * j) (m - j) ≡ number_at s (from + 4 * j) 4 ∷ ids_at s (from + 4 * (j + 1)) (m - (j + 1))
  ids_from =
      let e : from + 4 * j + 4 ≡ from + 4 * (j + 1) = omega arith in
      let f : m - j - 1 ≡ m - (j + 1) = omega arith in
      ids_more s (from + 4 * j) (m - j) (omega arith) ∙ ap₂ (λ (a n : ℕ). number_at s (from + 4 * j) 4 ∷ ids_at s a n) e f

  -- A scan for a 0 that meets one has found it,
  pub zero_found : number_at s (from + 4 * j) 4 ≡ 0 → mem 0 (ids_at s (from + 4 * j) (m - j)) ≡ true
  zero_found e = ap (mem 0) ids_from ∙ mem_head 0 (number_at s (from + 4 * j) 4) (ids_at s (from + 4 * (j + 1)) (m - (j + 1))) (sym e)

  -- and else goes on.
  pub zero_passed : (number_at s (from + 4 * j) 4 ≡ 0 → ⊥) → mem 0 (ids_at s (from + 4 * j) (m - j)) ≡ mem 0 (ids_at s (from + 4 * (j + 1)) (m - (j + 1)))
  zero_passed h = ap (mem 0) ids_from ∙ mem-skip 0 (number_at s (from + 4 * j) 4) (ids_at s (from + 4 * (j + 1)) (m - (j + 1))) (λ e. h (sym e))

  -- A scan that meets an id not above the last has found the fault,
  pub fall-found : (last : ℕ) → number_at s (from + 4 * j) 4 ≤ last → rising_from last (ids_at s (from + 4 * j) (m - j)) ≡ false
  unfolding rising_from
  fall-found last h = ap (rising_from last) ids_from ∙ ap (λ (t : Bool). t && rising_from (number_at s (from + 4 * j) 4) (ids_at s (from + 4 * (j + 1)) (m - (j + 1)))) (le-ltb last _ h)

  -- and else goes on from it.
  pub rise_passed : (last : ℕ) → last < number_at s (from + 4 * j) 4
      → rising_from last (ids_at s (from + 4 * j) (m - j)) ≡ rising_from (number_at s (from + 4 * j) 4) (ids_at s (from + 4 * (j + 1)) (m - (j + 1)))
  unfolding rising_from
  rise_passed last h = ap (rising_from last) ids_from ∙ ap (λ (t : Bool). t && rising_from (number_at s (from + 4 * j) 4) (ids_at s (from + 4 * (j + 1)) (m - (j + 1)))) (lt-ltb last _ h)

-- Where not all ids are there the last one counts as 0: one of them is 0,
pub zero_missing : (s : List ℕ) (at m : ℕ) → (length s - at) / 4 < m → mem 0 (ids_at s at m) ≡ true
zero_missing s at m h =
    let e : get_or (ids_at s at m) (m - 1) 0 ≡ 0 = get_or_ids s at m (m - 1) (omega arith) ∙ number-none s (at + 4 * (m - 1)) 4 (omega arith) in
    ap (λ (k : ℕ). mem k (ids_at s at m)) (sym e) ∙ index_mem (ids_at s at m) (m - 1) (omega (arith, length_ids s at m))

-- and they do not rise.
pub fall-missing : (s : List ℕ) (at m : ℕ) → (length s - at) / 4 < m → rising (ids_at s at m) ≡ false
fall-missing s at m h =
    ⊎_elim
    (λ t. let a = zero_missing s at m h in
    let b = rising_fresh 0 0 (ids_at s at m) t (omega arith) in
    let z : ◌≡◌ {A = ℕ} 0 1 = cc in absurd (omega arith))
    (λ f. f)
    (true_or_false (rising (ids_at s at m)))

-- Ids take four bytes each.
pub length-id-bytes : (l : List ℕ) → length (id_bytes l) ≡ 4 * length l
unfolding id_bytes
length-id-bytes [] = refl
length-id-bytes (x ∷ l) = omega (arith, length-append (bytes_of 4 x) (id_bytes l), length-bytes 4 x, length-id-bytes l)

-- The bytes of some ids, and of one more.
pub id-bytes_snoc : (l : List ℕ) (x : ℕ) → id_bytes (l ++ (x ∷ [])) ≡ id_bytes l ++ bytes_of 4 x
unfolding id_bytes
id-bytes_snoc [] x = append-nil (bytes_of 4 x)
id-bytes_snoc (y ∷ l) x = ap (λ (r : List ℕ). bytes_of 4 y ++ r) (id-bytes_snoc l x) ∙ sym (append_assoc (bytes_of 4 y) (id_bytes l) (bytes_of 4 x))

-- The bytes of ids are bytes.
pub bytes-ids : (l : List ℕ) → Bytes (id_bytes l)
unfolding id_bytes
bytes-ids [] i = omega arith
bytes-ids (x ∷ l) i = bytes-join (bytes_of 4 x) (id_bytes l) (bytes_byte 4 x) (bytes-ids l) i

-- Writing and reading again: where the bytes of ids of 32 bits stand, the ids stand.
pub ids_here : (s rest : List ℕ) (at : ℕ) (l : List ℕ) → drop at s ≡ id_bytes l ++ rest → ((j : ℕ) → get_or l j 0 < 2 ^ 32) → ids_at s at (length l) ≡ l
unfolding ids_at id_bytes
ids_here s rest at [] e h = refl
ids_here s rest at (x ∷ l) e h =
    let here : drop at s ≡ bytes_of 4 x ++ (id_bytes l ++ rest) = e ∙ append_assoc (bytes_of 4 x) (id_bytes l) rest in
    ap₂ (λ (i : ℕ) (r : List ℕ). i ∷ r) (number_here s (id_bytes l ++ rest) at 4 x here (h 0))
    (ids_here s rest (at + 4) l
    (after-number s (id_bytes l ++ rest) at 4 x here) (λ j. h (suc j)))

-- Reading and writing again: the bytes of ids that are read are those that stand there.
pub ids-back : (s : List ℕ) (at m : ℕ) → Bytes s → at + 4 * m ≤ length s → id_bytes (ids_at s at m) ≡ part s at (4 * m)
unfolding ids_at id_bytes
ids-back s at zero b h = refl
ids-back s at (suc m) b h =
    let e : 4 + 4 * m ≡ 4 * suc m = omega arith in
    ap₂ ◌++◌ (bytes_there s at 4 b (omega arith)) (ids-back s (at + 4) m b (omega arith))
    ∙ (sym (part-append s at 4 (4 * m)) ∙ ap (part s at) e)

-- Ids that are read have 32 bits.
pub ids_words : (s : List ℕ) (at m j : ℕ) → Bytes s → get_or (ids_at s at m) j 0 < 2 ^ 32
unfolding ids_at
ids_words s at zero j b = omega arith
ids_words s at (suc m) zero b = number-at_lt s at 4 b
ids_words s at (suc m) (suc j) b = ids_words s (at + 4) m j b

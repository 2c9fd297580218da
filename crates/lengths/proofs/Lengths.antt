-- The laws of the table of legal lengths.
-- Assumes nothing.
use Prim.Native.Nat.{ℕ, zero, suc, ◌-◌, ◌%◌, ◌≤◌, ◌<◌}
use mathlib.Core.Path.{◌≡◌, refl, sym, ap, ◌∙◌}
use mathlib.Core.Bool.{Bool, true, ◌&&◌, ◌||◌, and-true, or-true}
use mathlib.Core.List.{List, [], ◌∷◌}
use native.Mathlib.Omega.{arith}
use lib.Dec.{leb, ltb, eqb}
use lib.ListN.{length, get_or, get_or-eq_default}
use borrow.Author.Tests.{leb-true, le-leb, ltb-true, eqb-true, ne_eqb, eq-eqb}
use Rattle.sums.proofs.Tests.{both}
use Rattle.cluster.specs.Terms.{most_copies}
use Rattle.lengths.specs.RecordLengths.{row_width, no_length, rules, rule_of, legal, legal_as}
use Rattle.lengths.specs.declared.Rule.{Rule}

-- Of two tests that both hold each holds.
and_left : (a b : Bool) → a && b ≡ true → a ≡ true
and_left a b e = (both a b e).0

and_right : (a b : Bool) → a && b ≡ true → b ≡ true
and_right a b e = (both a b e).1

-- A test that each rule passes.
abbrev every : (Rule → Bool) → List Rule → Bool
every f [] = true
every f (r ∷ l) = f r && every f l

passes : (f : Rule → Bool) (l : List Rule) (d : Rule) → every f l ≡ true → f d ≡ true → (i : ℕ) → f (get_or l i d) ≡ true
passes f [] d h k i = k
passes f (r ∷ l) d h k zero = and_left (f r) (every f l) h
passes f (r ∷ l) d h k (suc i) = passes f l d (and_right (f r) (every f l) h) k i

-- No rule has steps of 0.
pub step_pos : (tag : ℕ) → 0 < (rule_of tag).step
unfolding rule_of
step_pos tag = ltb-true 0 (rule_of tag).step (passes (λ r. ltb 0 r.step) rules no_length refl refl tag)

-- A legal length has two bytes.
pub greatest_lt : (tag : ℕ) → (rule_of tag).greatest < 65536
unfolding rule_of
greatest_lt tag = ltb-true (rule_of tag).greatest 65536 (passes (λ r. ltb r.greatest 65536) rules no_length refl refl tag)

-- No body is longer than that of a row with the most ids.
pub greatest_le : (tag : ℕ) → (rule_of tag).greatest ≤ row_width most_copies
unfolding rule_of
greatest_le tag =
    leb-true (rule_of tag).greatest (row_width most_copies) (passes (λ r. leb r.greatest (row_width most_copies)) rules no_length refl refl tag)

-- The rule of a tag that the table has, whatever is said of other tags.
pub rule_there : (tag : ℕ) (d : Rule) → tag < length rules → get_or rules tag d ≡ rule_of tag
unfolding rule_of
rule_there tag d h = any rules tag h
  where
    any : (l : List Rule) (i : ℕ) → i < length l → get_or l i d ≡ get_or l i no_length
    any [] i h = absurd (omega arith)
    any (r ∷ l) zero h = refl
    any (r ∷ l) (suc i) h = any l i (omega arith)

-- A tag that the table does not have.
pub rule-none : (tag : ℕ) → length rules ≤ tag → rule_of tag ≡ no_length
unfolding rule_of
rule-none tag h = get_or-eq_default rules no_length h

-- A legal length is at least the least, at most the greatest, and some steps above the least.
pub legal-least : (tag len : ℕ) → legal tag len ≡ true → (rule_of tag).least ≤ len
unfolding legal
legal-least tag len h = leb-true (rule_of tag).least len (and_left (leb (rule_of tag).least len) (leb len (rule_of tag).greatest && eqb ((len - (rule_of tag).least) % (rule_of tag).step) 0) h)

legal-rest : (tag len : ℕ) → legal tag len ≡ true → leb len (rule_of tag).greatest && eqb ((len - (rule_of tag).least) % (rule_of tag).step) 0 ≡ true
unfolding legal
legal-rest tag len h = and_right (leb (rule_of tag).least len) (leb len (rule_of tag).greatest && eqb ((len - (rule_of tag).least) % (rule_of tag).step) 0) h

pub legal-greatest : (tag len : ℕ) → legal tag len ≡ true → len ≤ (rule_of tag).greatest
legal-greatest tag len h = leb-true len (rule_of tag).greatest (and_left (leb len (rule_of tag).greatest) (eqb ((len - (rule_of tag).least) % (rule_of tag).step) 0) (legal-rest tag len h))

pub legal-step : (tag len : ℕ) → legal tag len ≡ true → (len - (rule_of tag).least) % (rule_of tag).step ≡ 0
legal-step tag len h =
    eqb-true ((len - (rule_of tag).least) % (rule_of tag).step) 0 (and_right (leb len (rule_of tag).greatest) (eqb ((len - (rule_of tag).least) % (rule_of tag).step) 0) (legal-rest tag len h))

-- What has these three is legal.
pub legal-true : (tag len : ℕ) → (rule_of tag).least ≤ len → len ≤ (rule_of tag).greatest → (len - (rule_of tag).least) % (rule_of tag).step ≡ 0 → legal tag len ≡ true
unfolding legal
legal-true tag len a b e = simp (le-leb _ _ a, le-leb _ _ b, eq-eqb _ _ e)

-- Legal where no one length is asked for.
pub legal-any : (tag len : ℕ) → legal_as 0 tag len ≡ legal tag len
unfolding legal_as
legal-any tag len = and-true (legal tag len)

-- Legal where one length is asked for.
pub legal_only : (tag len : ℕ) → legal tag len ≡ true → legal_as len tag len ≡ true
unfolding legal_as
legal_only tag len h = simp (h, eq-eqb len len refl, or-true)

-- What is legal where one length is asked for is legal for the tag, and of that length.
pub lawful : (exact tag len : ℕ) → legal_as exact tag len ≡ true → legal tag len ≡ true
unfolding legal_as
lawful exact tag len h = and_left (legal tag len) (eqb exact 0 || eqb len exact) h

pub only : (exact tag len : ℕ) → legal_as exact tag len ≡ true → (exact ≡ 0 → ⊥) → len ≡ exact
unfolding legal_as
only exact tag len h k =
    eqb-true len exact
    (sym (ap (λ (t : Bool). t || eqb len exact) (ne_eqb exact 0 k)) ∙ and_right (legal tag len) (eqb exact 0 || eqb len exact) h)

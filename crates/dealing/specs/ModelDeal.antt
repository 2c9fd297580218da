-- When a layout exists within given caps, as a test of two sums, and the layout that is dealt when it does. Each function is a sum or a least of
-- two numbers over the node index, for a program with local arrays to follow. Caps and zones are any functions; zones are numbers below N.
-- Assumes nothing.
use Rattle.std.specs.Prelude.{ℕ, ◌+◌, ◌-◌, ◌*◌, ◌%◌, ◌≤◌, min, Bool, cond, ◌&&◌, leb, ltb}
use Rattle.sums.specs.TermsSums.{sum_to, one_if}
use Rattle.sums.specs.ModelSums.{is}

-- The sum of f over the nodes of zone z among the first n nodes.
unfoldable pub in_zone : (ℕ → ℕ) → (ℕ → ℕ) → ℕ → ℕ → ℕ
in_zone zone f z n = sum_to n (λ x. is (zone x) z * f x)

-- ---- the test

-- The caps have room for R copies of each partition, and, counting at most P in a zone, for Z copies of each.
abbrev pub Fits : (P N R Z : ℕ) (zone cap : ℕ → ℕ) → Type 0
Fits P N R Z zone cap = (R * P ≤ sum_to N cap) × (Z * P ≤ sum_to N (λ z. min P (in_zone zone cap z N)))

-- The same as a test that is computed.
unfoldable pub has_room : (P N R Z : ℕ) (zone cap : ℕ → ℕ) → Bool
has_room P N R Z zone cap = leb (R * P) (sum_to N cap) && leb (Z * P) (sum_to N (λ z. min P (in_zone zone cap z N)))

-- ---- how many copies each node is given

-- What of f b still goes into a room, filled by f 0, f 1, .. in turn.
unfoldable pub pour : ℕ → (ℕ → ℕ) → ℕ → ℕ
pour room f b = min (f b) (room - sum_to b f)

-- What of a node's cap still goes into its zone, when a zone takes P copies.
unfoldable pub zoned : ℕ → (ℕ → ℕ) → (ℕ → ℕ) → ℕ → ℕ
zoned P zone cap b = min (cap b) (P - in_zone zone cap (zone b) b)

-- The first pass: at most P copies to a zone, R * P copies in all.
unfoldable pub first_pass : (P R : ℕ) (zone cap : ℕ → ℕ) → ℕ → ℕ
first_pass P R zone cap b = pour (R * P) (zoned P zone cap) b

-- The second pass: what is left of R * P, up to the caps.
unfoldable pub more : (P N R : ℕ) (zone cap : ℕ → ℕ) → ℕ → ℕ
more P N R zone cap b = pour (R * P - sum_to N (first_pass P R zone cap)) (λ c. cap c - first_pass P R zone cap c) b

-- The copies of a node: both passes.
unfoldable pub given : (P N R : ℕ) (zone cap : ℕ → ℕ) → ℕ → ℕ
given P N R zone cap b = first_pass P R zone cap b + more P N R zone cap b

-- ---- the line of all copies, from the copies t of the zones

-- The copies of a zone that has fewer than P, else 0.
unfoldable pub light : ℕ → (ℕ → ℕ) → ℕ → ℕ
light P t z = cond (ltb (t z) P) (t z) 0

-- The copies of a zone that has P or more, else 0.
unfoldable pub heavy : ℕ → (ℕ → ℕ) → ℕ → ℕ
heavy P t z = cond (ltb (t z) P) 0 (t z)

-- Where a zone begins in the line of N zones: the light zones in their order, then the heavy ones.
unfoldable pub zone_start : (P N : ℕ) → (ℕ → ℕ) → ℕ → ℕ
zone_start P N t z = cond (ltb (t z) P) (sum_to z (light P t)) (sum_to N (light P t) + sum_to z (heavy P t))

-- The copies of each zone, for any numbers n of copies of the N nodes.
abbrev pub totals : (zone n : ℕ → ℕ) → ℕ → ℕ → ℕ
totals zone n N z = in_zone zone n z N

-- Where a node's copies begin: after those of the nodes of its zone that stand before it.
unfoldable pub start : (P N : ℕ) (zone n : ℕ → ℕ) → ℕ → ℕ
start P N zone n b = zone_start P N (totals zone n N) (zone b) + in_zone zone n (zone b) b

-- ---- dealing

-- 1 where one of the places x, .., x + k - 1 of the line goes to partition p, that is, is p modulo P.
unfoldable pub among : (P x k p : ℕ) → ℕ
among P x k p = one_if (ltb ((p + P - x % P) % P) k)

-- The dealt layout: copy number i of the line goes to partition i modulo P.
unfoldable pub dealt : (P N R : ℕ) (zone cap : ℕ → ℕ) → ℕ → ℕ → ℕ
dealt P N R zone cap p b = among P (start P N zone (given P N R zone cap) b) (given P N R zone cap b) p

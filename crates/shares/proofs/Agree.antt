-- The test of caps and the dealt layout look at zones, caps and copies of the N nodes alone: what agrees below N gives the same.
-- Assumes nothing.
use Prim.Native.Nat.{suc, ℕ, ◌+◌, ◌-◌, ◌*◌, ◌≤◌, ◌<◌, min}
use mathlib.Core.Path.{◌≡◌, ap, ap₂, ◌∙◌}
use mathlib.Core.Bool.{cond, ◌&&◌}
use native.Mathlib.Omega.{arith}
use lib.Dec.{leb, ltb}
use Rattle.cluster.specs.Terms.{most_nodes}
use Rattle.incidence.specs.ModelIncidence.{cell, column}
use Rattle.incidence.proofs.Columns.{cell-column}
use mathlib.Core.List.{List}
use Rattle.sums.specs.TermsSums.{sum_to}
use Rattle.sums.specs.ModelSums.{is}
use Rattle.sums.proofs.Sum.{sum_cong}
use Rattle.dealing.specs.ModelDeal.{totals, in_zone, has_room, pour, zoned, first_pass, more, given, light, heavy, zone_start, start, among, dealt}

-- Two functions agree below N.
abbrev pub SameBelow : ℕ → (ℕ → ℕ) → (ℕ → ℕ) → Type 0
SameBelow N f g = (b : ℕ) → b < N → f b ≡ g b

-- What is poured.
pub pour_agree : (N room : ℕ) (f g : ℕ → ℕ) → SameBelow N f g → SameBelow N (pour room f) (pour room g)
unfolding pour
pour_agree N room f g h b l = ap₂ (λ (x s : ℕ). min x (room - s)) (h b l) (sum_cong b f g (λ i m. h i (omega arith)))

-- Where a zone begins.
pub zone_start_agree : (P N m : ℕ) (t t' : ℕ → ℕ) → SameBelow m t t' → N ≤ m → (z : ℕ) → z < m → zone_start P N t z ≡ zone_start P N t' z
unfolding zone_start light heavy
zone_start_agree P N m t t' h few z low =
    ap (λ (k : ℕ). cond (ltb k P) (sum_to z (light P t)) (sum_to N (light P t) + sum_to z (heavy P t))) (h z low)
    ∙ ap₂ (λ (x y : ℕ). cond (ltb (t' z) P) x y) (lights z (omega arith)) (ap₂ ◌+◌ (lights N few) heavies)
  where
    lights : (n : ℕ) → n ≤ m → sum_to n (light P t) ≡ sum_to n (light P t')
    lights n l = sum_cong n (light P t) (light P t') (λ x k. ap (λ (a : ℕ). cond (ltb a P) a 0) (h x (omega arith)))

    heavies : sum_to z (heavy P t) ≡ sum_to z (heavy P t')
    heavies = sum_cong z (heavy P t) (heavy P t') (λ x k. ap (λ (a : ℕ). cond (ltb a P) 0 a) (h x (omega arith)))

module _ (N : ℕ) (zone zone' : ℕ → ℕ) (same : SameBelow N zone zone') where
  -- The sum of a zone.
  pub in_zone_agree : (f g : ℕ → ℕ) → SameBelow N f g → (z n : ℕ) → n ≤ N → in_zone zone f z n ≡ in_zone zone' g z n
  unfolding in_zone
  in_zone_agree f g h z n l =
      sum_cong n (λ x. is (zone x) z * f x) (λ x. is (zone' x) z * g x)
      (λ x m. ap₂ (λ (a b : ℕ). is a z * b) (same x (omega arith)) (h x (omega arith)))

  -- The sum of a node's zone.
  own_agree : (f g : ℕ → ℕ) → SameBelow N f g → (b n : ℕ) → b < N → n ≤ N → in_zone zone f (zone b) n ≡ in_zone zone' g (zone' b) n
  own_agree f g h b n l m = in_zone_agree f g h (zone b) n m ∙ ap (λ (z : ℕ). in_zone zone' g z n) (same b l)

  -- The test.
  pub fits_agree : (P R Z : ℕ) (f g : ℕ → ℕ) → SameBelow N f g → has_room P N R Z zone f ≡ has_room P N R Z zone' g
  unfolding has_room
  fits_agree P R Z f g h =
      ap₂ (λ (a b : ℕ). leb (R * P) a && leb (Z * P) b) (sum_cong N f g h)
      (sum_cong N (λ z. min P (in_zone zone f z N)) (λ z. min P (in_zone zone' g z N))
      (λ z l. ap (λ (x : ℕ). min P x) (in_zone_agree f g h z N (omega arith))))

  -- The first pass.
  pub first_agree : (P R : ℕ) (f g : ℕ → ℕ) → SameBelow N f g → SameBelow N (first_pass P R zone f) (first_pass P R zone' g)
  unfolding first_pass
  first_agree P R f g h = pour_agree N (R * P) (zoned P zone f) (zoned P zone' g) (λ b l. unfold zoned in
      ap₂ (λ (x s : ℕ). min x (P - s)) (h b l) (own_agree f g h b b l (omega arith)))

  -- The copies that are given.
  pub given_agree : (P R : ℕ) (f g : ℕ → ℕ) → SameBelow N f g → SameBelow N (given P N R zone f) (given P N R zone' g)
  unfolding given more
  given_agree P R f g h b l =
      let e = first_agree P R f g h in
      ap₂ ◌+◌ (e b l)
      (ap (λ (s : ℕ). pour (R * P - s) (λ c. f c - first_pass P R zone f c) b) (sum_cong N (first_pass P R zone f) (first_pass P R zone' g) e)
      ∙ pour_agree N (R * P - sum_to N (first_pass P R zone' g)) (λ c. f c - first_pass P R zone f c) (λ c. g c - first_pass P R zone' g c)
      (λ c m. ap₂ ◌-◌ (h c m) (e c m)) b l)

  -- Where a node's copies begin.
  pub start_agree : (P : ℕ) (f g : ℕ → ℕ) → SameBelow N f g → SameBelow N (start P N zone f) (start P N zone' g)
  unfolding start
  start_agree P f g h b l =
      ap₂ ◌+◌
      (ap (zone_start P N (totals zone f N)) (same b l)
      ∙ zone_start_agree P N (suc (N + zone' b)) (totals zone f N) (totals zone' g N) (λ z k. in_zone_agree f g h z N (omega arith)) (omega arith) (zone' b) (omega arith))
      (own_agree f g h b b l (omega arith))

  -- The dealt rows.
  pub dealt_agree : (P R : ℕ) (f g : ℕ → ℕ) → SameBelow N f g → (p : ℕ) → SameBelow N (dealt P N R zone f p) (dealt P N R zone' g p)
  unfolding dealt
  dealt_agree P R f g h p b l =
      let e = given_agree P R f g h in
      ap₂ (λ (x k : ℕ). among P x k p) (start_agree P (given P N R zone f) (given P N R zone' g) e b l) (e b l)

-- The cells of an array that is a column.
pub cells_agree : (f : ℕ → ℕ) (n : ℕ) (l : List ℕ) → n ≤ most_nodes → l ≡ column f n → SameBelow n (cell l) f
cells_agree f n l h e b m = ap (λ (k : List ℕ). cell k b) e ∙ cell-column f n b h m

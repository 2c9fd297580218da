-- Zones as node indices: the first node of a zone names it, and the zones of a row are those that its bits cover.
-- Assumes nothing.
use Prim.Native.Nat.{ℕ, zero, suc, ◌+◌, ◌*◌, ◌≤◌, ◌<◌, min}
use mathlib.Core.Path.{◌≡◌, refl, sym, ap, ap₂, ◌∙◌}
use mathlib.Core.List.{List, [], ◌∷◌}
use mathlib.Core.Bool.{Bool, true, false, not, cond}
use mathlib.Core.Logic.{◌⊎◌, inl, inr, ⊎_elim}
use native.Mathlib.Nat.{mul-zero}
use native.Mathlib.Omega.{arith}
use lib.Dec.{eqb}
use lib.ListN.{length, get_or}
use borrow.Author.Tests.{eqb-true, eq-eqb}
use Rattle.sums.specs.TermsSums.{sum_to, one_if}
use Rattle.sums.specs.ModelSums.{is, first_from}
use Rattle.sums.proofs.First.{first_passes}
use Rattle.sums.proofs.Sum.{eq_or_ne, is_eq, is_ne, is_cases, sum_cong, sum_zero, sum-add, sum_is, sum_first}
use Rattle.exchange.specs.ModelRow.{zone_count, cover}
use Rattle.cluster.specs.Terms.{Topology, no_node, node_at, mem, different, zones_named, zones_of}
use Rattle.incidence.specs.ModelIncidence.{zone_index, bits_of}
use Rattle.cluster.specs.declared.Node.{Node}
use Rattle.cluster.proofs.Lists.{mem_head, mem-skip, mem_tail, mem-none, mem_cases}

module _ (t : Topology) where
  -- The first node of a zone lies in it, is a node, and is no later than any node of it.
  pub zone_first : (b : ℕ) → b < length t.nodes
      → (zone_index t b < length t.nodes) × ((node_at t (zone_index t b)).zone ≡ (node_at t b).zone) × (zone_index t b ≤ b)
  unfolding zone_index
  zone_first b h =
      let w = first_passes (λ c. eqb (node_at t c).zone (node_at t b).zone) (length t.nodes) b h
      (eq-eqb (node_at t b).zone (node_at t b).zone refl) in
      (w.0, eqb-true (node_at t (zone_index t b)).zone (node_at t b).zone w.1, w.2)

  -- Zone indices are node indices.
  pub zone_below : (b : ℕ) → b < length t.nodes → zone_index t b < length t.nodes
  zone_below b h = (zone_first b h).0

  -- Nodes of one zone have one zone index.
  pub zone_same : (a b : ℕ) → (node_at t a).zone ≡ (node_at t b).zone → zone_index t a ≡ zone_index t b
  unfolding zone_index
  zone_same a b e = ap (λ (v : ℕ). first_from (λ c. eqb (node_at t c).zone v) (length t.nodes) 0) e

  -- Nodes of one zone index have one zone.
  pub same_zone : (a b : ℕ) → a < length t.nodes → b < length t.nodes → zone_index t a ≡ zone_index t b → (node_at t a).zone ≡ (node_at t b).zone
  same_zone a b h k e =
      sym (zone_first a h).1 ∙ (ap (λ (c : ℕ). (node_at t c).zone) e ∙ (zone_first b k).1)

  -- A zone index is its own zone index.
  pub zone_again : (b : ℕ) → b < length t.nodes → zone_index t (zone_index t b) ≡ zone_index t b
  zone_again b h = zone_same (zone_index t b) b (zone_first b h).1

  -- Indicators of zone indices and of zones agree.
  pub zone_is : (a b : ℕ) → a < length t.nodes → b < length t.nodes
      → is (zone_index t a) (zone_index t b) ≡ is (node_at t a).zone (node_at t b).zone
  zone_is a b h k =
      ⊎_elim (λ e. is_eq (zone_same a b e) ∙ sym (is_eq e)) (λ n. is_ne (λ e. n (same_zone a b h k e)) ∙ sym (is_ne n))
      (eq_or_ne (node_at t a).zone (node_at t b).zone)

-- ---- counting zones

-- A zone is among those of a row exactly where a node of it is in the row.
pub zone_named : (ns : List Node) (r : List ℕ) (v : ℕ)
    → min 1 (sum_to (length ns) (λ x. bits_of ns r x * is (get_or ns x no_node).zone v)) ≡ one_if (mem v (zones_named ns r))
unfolding zones_named sum_to mem one_if
zone_named [] r v = refl
zone_named (n ∷ ns) r v =
    ap (min 1) (sum_first (length ns) (λ x. bits_of (n ∷ ns) r x * is (get_or (n ∷ ns) x no_node).zone v))
    ∙ go (mem n.id r) (zone_named ns r v) (eq_or_ne v n.zone)
  where
    rest : ℕ
    rest = sum_to (length ns) (λ x. bits_of ns r x * is (get_or ns x no_node).zone v)

    go : (m : Bool) → min 1 rest ≡ one_if (mem v (zones_named ns r)) → (v ≡ n.zone) ⊎ (v ≡ n.zone → ⊥)
        → min 1 (one_if m * is n.zone v + rest) ≡ one_if (mem v (cond m (n.zone ∷ zones_named ns r) (zones_named ns r)))
    go false h d = omega arith
    go true h (inl e) = omega (arith, is_eq (sym e)) ∙ ap one_if (sym (mem_head v n.zone (zones_named ns r) e))
    go true h (inr e) = omega (arith, is_ne {a = n.zone} {b = v} (λ q. e (sym q))) ∙ ap one_if (sym (mem-skip v n.zone (zones_named ns r) e))

-- The zones of a row are zones of nodes.
pub zone_node : (ns : List Node) (r : List ℕ) (v : ℕ) → mem v (zones_named ns r) ≡ true → (k : ℕ) × (k < length ns) × ((get_or ns k no_node).zone ≡ v)
unfolding zones_named
zone_node [] r v m = absurd (mem-none v m)
zone_node (n ∷ ns) r v m = go (mem n.id r) (zone_node ns r v) m
  where
    later : (mem v (zones_named ns r) ≡ true → (k : ℕ) × (k < length ns) × ((get_or ns k no_node).zone ≡ v)) → mem v (zones_named ns r) ≡ true
        → (k : ℕ) × (k < suc (length ns)) × ((get_or (n ∷ ns) k no_node).zone ≡ v)
    later w h = let u = w h in (suc u.0, omega (arith, u.1), u.2)

    go : (b : Bool) → (mem v (zones_named ns r) ≡ true → (k : ℕ) × (k < length ns) × ((get_or ns k no_node).zone ≡ v))
        → mem v (cond b (n.zone ∷ zones_named ns r) (zones_named ns r)) ≡ true → (k : ℕ) × (k < suc (length ns)) × ((get_or (n ∷ ns) k no_node).zone ≡ v)
    go false w h = later w h
    go true w h = ⊎_elim (λ e. (zero, omega arith, sym e)) (λ k. later w k) (mem_cases v n.zone (zones_named ns r) h)

module _ (t : Topology) where
  -- One zone more in a list of zones: where it did not stand there before, its first node counts.
  zone_more : (k z x : ℕ) (l : List ℕ) → k < length t.nodes → z < length t.nodes → (node_at t k).zone ≡ x
      → is (zone_index t z) z * one_if (mem (node_at t z).zone (x ∷ l))
      ≡ is (zone_index t k) z * one_if (not (mem (node_at t z).zone l)) + is (zone_index t z) z * one_if (mem (node_at t z).zone l)
  unfolding one_if
  zone_more k z x l h g e = ⊎_elim (λ w. first w.0 w.1) (λ w. other w.0 w.1) (is_cases (zone_index t k) z)
    where
      both : (m : Bool) → 1 * 1 ≡ 1 * one_if (not m) + 1 * one_if m
      both true = refl
      both false = refl

      Goal : Type 0
      Goal =
          is (zone_index t z) z * one_if (mem (node_at t z).zone (x ∷ l))
          ≡ is (zone_index t k) z * one_if (not (mem (node_at t z).zone l)) + is (zone_index t z) z * one_if (mem (node_at t z).zone l)

      first : zone_index t k ≡ z → is (zone_index t k) z ≡ 1 → Goal
      first q o =
          let i = is_eq (ap (zone_index t) (sym q) ∙ (zone_again t k h ∙ q)) in
          let m = ap one_if (mem_head (node_at t z).zone x l (ap (λ (c : ℕ). (node_at t c).zone) (sym q) ∙ ((zone_first t k h).1 ∙ e))) in
          rw (o, i, m) (both (mem (node_at t z).zone l))

      other : (zone_index t k ≡ z → ⊥) → is (zone_index t k) z ≡ 0 → Goal
      other n o =
          ⊎_elim
          (λ q. let i = is_ne (λ (c : zone_index t z ≡ z). n (zone_same t k z (e ∙ sym q) ∙ c)) in rw (o, i) (omega arith))
          (λ q. rw (o, mem-skip (node_at t z).zone x l q) (omega arith)) (eq_or_ne (node_at t z).zone x)

  -- The different numbers of a list of zones, counted by the first nodes of zones.
  pub different-zones : (l : List ℕ) → ((v : ℕ) → mem v l ≡ true → (k : ℕ) × (k < length t.nodes) × ((node_at t k).zone ≡ v))
      → different l ≡ sum_to (length t.nodes) (λ z. is (zone_index t z) z * one_if (mem (node_at t z).zone l))
  unfolding different mem one_if
  different-zones [] h = sym (sum_zero (length t.nodes) (λ z. is (zone_index t z) z * 0) (λ z l. mul-zero (is (zone_index t z) z)))
  different-zones (x ∷ xs) h =
      let w = h x (mem_head x x xs refl) in
      let fresh = sum_is (length t.nodes) (zone_index t w.0) (λ z. one_if (not (mem (node_at t z).zone xs))) (zone_below t w.0 w.1) in
      let named = ap (λ (v : ℕ). one_if (not (mem v xs))) ((zone_first t w.0 w.1).1 ∙ w.2) in
      sym
      (sum_cong (length t.nodes) (λ z. is (zone_index t z) z * one_if (mem (node_at t z).zone (x ∷ xs)))
      (λ z. is (zone_index t w.0) z * one_if (not (mem (node_at t z).zone xs)) + is (zone_index t z) z * one_if (mem (node_at t z).zone xs))
      (λ z l. zone_more w.0 z x xs w.1 l w.2)
      ∙ (sum-add (length t.nodes) (λ z. is (zone_index t w.0) z * one_if (not (mem (node_at t z).zone xs)))
      (λ z. is (zone_index t z) z * one_if (mem (node_at t z).zone xs))
      ∙ ap₂ ◌+◌ (fresh ∙ named) (sym (different-zones xs (λ v m. h v (mem_tail v x xs m))))))

  -- Whether a row touches the zone that node z names.
  zone_touched : (r : List ℕ) (z : ℕ) → z < length t.nodes
      → min 1 (zone_count (length t.nodes) (zone_index t) (bits_of t.nodes r) z)
      ≡ is (zone_index t z) z * one_if (mem (node_at t z).zone (zones_named t.nodes r))
  unfolding zone_count
  zone_touched r z h = ⊎_elim (λ w. first w.0 w.1) (λ w. other w.0 w.1) (is_cases (zone_index t z) z)
    where
      Goal : Type 0
      Goal =
          min 1 (sum_to (length t.nodes) (λ x. bits_of t.nodes r x * is (zone_index t x) z))
          ≡ is (zone_index t z) z * one_if (mem (node_at t z).zone (zones_named t.nodes r))

      first : zone_index t z ≡ z → is (zone_index t z) z ≡ 1 → Goal
      first q o =
          ap (min 1)
          (sum_cong (length t.nodes) (λ x. bits_of t.nodes r x * is (zone_index t x) z)
          (λ x. bits_of t.nodes r x * is (node_at t x).zone (node_at t z).zone)
          (λ x l. ap (λ (k : ℕ). bits_of t.nodes r x * k) (ap (is (zone_index t x)) (sym q) ∙ zone_is t x z l h)))
          ∙ (zone_named t.nodes r (node_at t z).zone ∙ omega (arith, ap (λ (k : ℕ). k * one_if (mem (node_at t z).zone (zones_named t.nodes r))) o))

      other : (zone_index t z ≡ z → ⊥) → is (zone_index t z) z ≡ 0 → Goal
      other n o =
          ap (min 1)
          (sum_zero (length t.nodes) (λ x. bits_of t.nodes r x * is (zone_index t x) z)
          (λ x l. ap (λ (k : ℕ). bits_of t.nodes r x * k) (is_ne (λ q. n (ap (zone_index t) (sym q) ∙ (zone_again t x l ∙ q))))
          ∙ mul-zero (bits_of t.nodes r x)))
          ∙ omega (arith, ap (λ (k : ℕ). k * one_if (mem (node_at t z).zone (zones_named t.nodes r))) o)

  -- The zones of a row of ids are those that its bits cover.
  pub zones-cover : (r : List ℕ) → zones_of t.nodes r ≡ cover (length t.nodes) (zone_index t) (bits_of t.nodes r)
  unfolding cover
  zones-cover r =
      different-zones (zones_named t.nodes r) (λ v m. zone_node t.nodes r v m)
      ∙ sum_cong (length t.nodes) (λ z. is (zone_index t z) z * one_if (mem (node_at t z).zone (zones_named t.nodes r)))
      (λ z. min 1 (zone_count (length t.nodes) (zone_index t) (bits_of t.nodes r) z)) (λ z l. sym (zone_touched r z l))

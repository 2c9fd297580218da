-- How a circuit is freed of crossed pairs, as functions that a program computes: the first crossed pair is looked for, in the order of the first
-- arc and then of the second, and the circuit splits there into two shorter ones. It goes on with one that gains, until no pair is crossed.
-- What may be exchanged is a test ok: ok p a b says that node a of row p may give way to node b.
-- Assumes nothing.
use Rattle.std.specs.Prelude.{ℕ, zero, suc, ◌+◌, ◌-◌, ◌*◌, ◌≤◌, ◌<◌, ◌≡◌, Bool, true, ◌&&◌, cond, ltb, leb, eqb}
use Rattle.exchange.specs.ModelRow.{Exchange}
use Rattle.sums.specs.ModelSums.{first_from}
use Rattle.exchange.specs.ModelCircuit.{costs, turn, Circuit}

-- A closed walk: its length, its nodes and the partitions of its arcs.
pub record Walk : Type 0 where
  pub len : ℕ
  pub node : ℕ → ℕ
  pub partition : ℕ → ℕ

abbrev pub walk : ℕ → (ℕ → ℕ) → (ℕ → ℕ) → Walk
walk m y q = record { len = m; node = y; partition = q }

-- Whether the arcs i and j can be crossed.
unfoldable pub crosses : ℕ → (ℕ → ℕ → ℕ → Bool) → (ℕ → ℕ) → (ℕ → ℕ) → ℕ → ℕ → Bool
crosses P ok y q i j = ltb (q i) P && eqb (q i) (q j) && ok (q i) (y (suc j)) (y i) && ok (q i) (y (suc i)) (y j)

-- The first arc after i that can be crossed with it, or the length.
unfoldable pub partner : ℕ → (ℕ → ℕ → ℕ → Bool) → Walk → ℕ → ℕ
partner P ok w i = first_from (crosses P ok w.node w.partition i) (w.len - suc i) (suc i)

-- The first arc that can be crossed with a later one, or the length.
unfoldable pub first_crossed : ℕ → (ℕ → ℕ → ℕ → Bool) → Walk → ℕ
first_crossed P ok w = first_from (λ i. ltb (partner P ok w i) w.len) w.len 0

-- Where entry t of the outer circuit stands in the old one: the k entries after i are left out.
unfoldable pub skip : ℕ → ℕ → ℕ → ℕ
skip i k t = cond (leb t i) t (t + k)

-- Where entry t of the inner circuit stands in the old one: it has the k entries after i, and then the first of them again.
unfoldable pub wrap : ℕ → ℕ → ℕ → ℕ
wrap i k t = cond (ltb t k) (t + suc i) (suc i)

-- The walk of length n whose entry t is entry f t of w.
abbrev pub part : ℕ → (ℕ → ℕ) → Walk → Walk
part n f w = walk n (λ t. w.node (f t)) (λ t. w.partition (f t))

-- The two parts of a circuit whose arcs i and j are crossed.
abbrev pub inner : Walk → ℕ → ℕ → Walk
inner w i j = part (j - i) (wrap i (j - i)) w

abbrev pub outer : Walk → ℕ → ℕ → Walk
outer w i j = part (w.len - (j - i)) (skip i (j - i)) w

-- What the arcs of a walk cost together.
abbrev pub walk_costs : ℕ → ℕ → (ℕ → ℕ → ℕ) → Walk → ℕ
walk_costs P C g w = costs P C g w.len w.node w.partition

-- The part to go on with: the inner one if it gains, else the outer one.
unfoldable pub split : ℕ → ℕ → (ℕ → ℕ → ℕ) → Walk → ℕ → ℕ → Walk
split P C g w i j = cond (ltb (walk_costs P C g (inner w i j)) ((j - i) * C)) (inner w i j) (outer w i j)

-- The walk after at most n splits, each at the first crossed pair.
unfoldable pub uncross : ℕ → ℕ → ℕ → (ℕ → ℕ → ℕ) → (ℕ → ℕ → ℕ → Bool) → Walk → Walk
uncross zero P C g ok w = w
uncross (suc n) P C g ok w =
    let i = first_crossed P ok w in
    let r = uncross n P C g ok (split P C g w i (partner P ok w i)) in
    cond (ltb i w.len) r w

-- The layout that a circuit leads to: freed of crossed pairs, then turned.
unfoldable pub improved : ℕ → ℕ → (ℕ → ℕ → ℕ) → (ℕ → ℕ → ℕ → Bool) → Walk → (ℕ → ℕ → ℕ) → ℕ → ℕ → ℕ
improved P C g ok w S = let u = uncross w.len P C g ok w in turn u.len u.node u.partition S

-- Two walks that have one length, and the same nodes and partitions in it.
pub record Same (w u : Walk) : Type 0 where
  pub lens : w.len ≡ u.len
  pub nodes : (t : ℕ) → t ≤ w.len → w.node t ≡ u.node t
  pub partitions : (t : ℕ) → t < w.len → w.partition t ≡ u.partition t

-- A walk that is a circuit of the layout S.
abbrev pub Round : (P N R Z C : ℕ) (zone cap : ℕ → ℕ) (g free S : ℕ → ℕ → ℕ) → Walk → Type 0
Round P N R Z C zone cap g free S w = Circuit P N R Z C zone cap g free S w.len w.node w.partition

-- The test ok is right for the layout S: of a node of a row and one outside, it tells whether they may be exchanged.
pub record Right (P N R Z : ℕ) (zone : ℕ → ℕ) (free S : ℕ → ℕ → ℕ) (ok : ℕ → ℕ → ℕ → Bool) : Type 0 where
  pub sound : (p a b : ℕ) → p < P → a < N → b < N → S p a ≡ 1 → S p b ≡ 0 → ok p a b ≡ true → Exchange N R Z zone free S p a b
  pub complete : (p a b : ℕ) → p < P → Exchange N R Z zone free S p a b → ok p a b ≡ true

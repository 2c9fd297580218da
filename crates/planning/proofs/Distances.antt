-- Demand 3 in its own words: the rules by what is sent say the same of the distance, which for one cluster and one former layout is twice that and a
-- fixed difference.
-- Assumes nothing.
use Prim.Native.Nat.{ℕ, suc, ◌+◌, ◌*◌}
use mathlib.Core.Path.{◌≡◌}
use native.Mathlib.Omega.{arith}
use Rattle.cluster.specs.Terms.{Topology, partitions, Layout, ValidAt, IsSize, IsFormer, sent, former_copies, distance}
use Rattle.cluster.proofs.Sending.{distance-sent}
use Rattle.planning.specs.Demand.{Answer, Rules, InDistance}

module _ (t : Topology) (B F : Layout) (plan : ℕ → Answer) (valid : (s : ℕ) → IsSize t s → ValidAt t B s) (fo : IsFormer t F) (rules : Rules t B F plan) where
  -- The law of a valid layout,
  law : (L : Layout) (s : ℕ) → ValidAt t L s → distance t L F + t.replication * partitions t ≡ 2 * sent t L F + former_copies t F
  law L s v = distance-sent t L F v.rows fo.ids

  -- and of an answer.
  law_at : (a : ℕ) → distance t (plan a).layout F + t.replication * partitions t ≡ 2 * (plan a).sent + former_copies t F
  law_at a = omega (arith, law (plan a).layout (plan a).size (rules.valid a), rules.measured a)

  -- What the rules say of the answers by what is sent, they say by the distance.
  pub in_distance : InDistance t B F plan
  in_distance =
      record {
        begins = omega (arith, law_at 0, rules.begins, law B (plan 0).size (valid (plan 0).size (rules.size 0)));
        lower = λ a e. omega (arith, law_at a, law_at (suc a), (rules.stopped a e).lower);
        bounded = λ a e. omega (arith, law_at a, law_at (suc a), (rules.stopped a e).bounded);
        nearest = λ a e L v. omega (arith, law_at a, law L (plan a).size v, (rules.finished a e).nearest L v);
        exactly = λ a h. rules.exactly a (λ L v. omega (arith, law_at a, law L (plan a).size v, h L v));
      }

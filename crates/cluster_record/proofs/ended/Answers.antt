-- `cluster_record::ended` meets its contract: each branch is a case of the definition.
-- Assumes nothing.
use Prim.Native.Nat.{ℕ, ◌≤◌, ◌<◌}
use mathlib.Core.Path.{◌≡◌, ap, ◌∙◌}
use mathlib.Core.List.{List}
use lib.ListN.{length}
use borrow.Author.Tests.{lt-ltb, le-ltb}
use native.Mathlib.Omega.{arith}
use Rattle.cluster.specs.TermsReading.{slots_of}
use Rattle.std.specs.Prelude.{Ok, Err}
use Rattle.cluster.specs.declared.Cluster.{Cluster}
use Rattle.cluster.specs.declared.refusal.Refusal.TheVariants.{Missing}
use Rattle.cluster_reading.specs.RecordClusterReading.{Reading, ended}
use Rattle.cluster_record.specs.RecordClusterAnswer.{read_as, cluster_answer}
use Rattle.cluster_record.proofs.ended.Goals as goal

missing : (s : List ℕ) (k : Reading) → k.last < 3 → read_as (Err (record { refusal = Missing; at = length s })) ≡ cluster_answer (ended s k)
unfolding ended cluster_answer slots_of
missing s k h = simp (lt-ltb k.last 3 h)

stands : (s : List ℕ) (k : Reading) → 3 ≤ k.last → record { refusal = 0; byte = 0; cluster = slots_of k.cluster } ≡ cluster_answer (ended s k)
unfolding ended cluster_answer
stands s k h = simp (le-ltb k.last 3 h)

pub returns-then-last-lt3 : goal.returns-then-last-lt3
returns-then-last-lt3 c = λ k is_last is-cluster. missing _ k (omega (arith, is_last, c.if-last-lt3.true))

pub returns : goal.returns
returns c = λ k is_last is-cluster.
    ap (λ (x : Cluster). read_as (Ok x)) is-cluster ∙ stands _ k (omega (arith, is_last, c.if-last-lt3.false))

-- What a change answers through C: the number of nodes and the length of the reverse fit a cell, since a cluster has 32 slots and a reverse 15 bytes
-- in every program.
-- Assumes nothing.
use Prim.Native.Nat.{ℕ, ◌-◌, ◌≤◌}
use mathlib.Core.Path.{◌≡◌, refl, sym, ap, ◌∙◌, subst}
use mathlib.Core.List.{List, []}
use native.Mathlib.Omega.{arith}
use lib.ListN.{length, replicate, length-append, length-replicate}
use Rattle.cluster.specs.Terms.{most_nodes, layout_cells, topology}
use Rattle.std.specs.Prelude.{Ok, Err}
use Rattle.cluster.specs.TermsReading.{no_nodes}
use Rattle.cluster.specs.TermsRefusal.{number_of}
use Rattle.cluster.specs.declared.Cluster.{Cluster}
use Rattle.fields.specs.declared.Refused.{Refused}
use Rattle.cluster_record.specs.RecordClusterAnswer.{ReadCluster, read_as}
use Rattle.change_fields.specs.RecordChange.{change_field, longest_change, reverse_bytes}
use Rattle.making.specs.TermsMaking.{reverse_of}
use Rattle.changes.specs.TermsChanges.{Outcome, Made, change_refused, change_made, change_of}
use Rattle.changes.proofs.Answered.{answered}
use Rattle.changes.proofs.Cases.{number-some}
use Rattle.cluster_record.proofs.Exactly.{answer_yields}
use Rattle.answers.specs.TermsAnswers.{reading}
use Rattle.answers.proofs.Answered.{refused, accepted}
use Rattle.console_changes.specs.TermsConsoleChanges.{changed_as, made_read}

-- A reverse is no longer than its bytes.
reverse_short : (v : List ℕ) → length (reverse_bytes v).bytes ≡ longest_change → (reverse_bytes v).len ≤ longest_change
unfolding reverse_bytes
reverse_short v e = omega (arith, length-append v (replicate (longest_change - length v) 0), length-replicate {A = ℕ} (longest_change - length v) 0)

pub reverse-fits : (d : Cluster) (s : List ℕ) (at : ℕ) → length (change_of d s at).answer.reverse.bytes ≡ longest_change
    → (change_of d s at).answer.reverse.len ≤ longest_change
unfolding change_made
reverse-fits d s at =
    answered d s at (λ (m : Made). length m.answer.reverse.bytes ≡ longest_change → m.answer.reverse.len ≤ longest_change)
    (λ refusal. reverse_short []) (λ x next. reverse_short (change_field (reverse_of (topology d).nodes x)))

-- A cluster that is read has no more nodes than slots.
pub read-fits : (s : List ℕ) (d : Cluster) → read_as (Ok d) ≡ reading s → d.count ≤ most_nodes
unfolding reading
read-fits s d e =
    subst (λ (r : ReadCluster). r.cluster.count ≤ most_nodes) (sym e) (answer_yields s (replicate layout_cells 0)).few

-- A refused reading leaves the cluster with no nodes, and is a refused change.
pub unread : (c : Cluster) (f : Refused) (r : ReadCluster) (s : List ℕ) (at : ℕ) → c ≡ no_nodes → read_as (Err f) ≡ r → changed_as at c (Err f) ≡ made_read r s at
unfolding made_read
unread c f r s at e q =
    ap (λ (k : Cluster). change_refused k (number_of f.refusal) at) e
    ∙ (refused _ (read_as (Err f)) (number-some f.refusal) ∙ ap (λ (x : ReadCluster). made_read x s at) q)

-- What the change on the cluster read leaves and answers.
pub made : (d c : Cluster) (o : Outcome) (r : ReadCluster) (s : List ℕ) (at : ℕ) → read_as (Ok d) ≡ r → o ≡ (change_of d s at).answer → c ≡ (change_of d s at).cluster
    → record { cluster = c; answer = o } ≡ made_read r s at
unfolding made_read
made d c o r s at q e f =
    accepted (change_refused d 0 at) (read_as (Ok d)) refl (λ i. record { cluster = f i; answer = e i }) ∙ ap (λ (x : ReadCluster). made_read x s at) q

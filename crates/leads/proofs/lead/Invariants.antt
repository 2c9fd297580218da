-- `leads::lead` meets its contract. The cells before u have what their nodes lead to. Assumes nothing.
use mathlib.Core.Path.{◌≡◌}
use lib.ListN.{length}
use Rattle.cluster.specs.Terms.{most_nodes}
use Rattle.leads.proofs.Standing.{Led}
use Rattle.leads.proofs.lead.Given as goal

abbrev pub invariant-loop-u : goal.invariant-loop-u
invariant-loop-u l = (length l.leads ≡ most_nodes) × Led l.arcs l.even l.u l.leads
